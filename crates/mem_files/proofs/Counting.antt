-- The counts of descriptors for each file, against the cells of the descriptors.
use Rattle.std.proofs.Common.{◌≡◌, ℕ, suc, ◌+◌, ◌<◌, ◌≤◌, true, false, cond, not, ◌||◌, eqb, List, [], ◌∷◌, length, get_or, set, sum_by, Option, Some, None, inl, inr, refl, sym, ap, ◌∙◌, arith, eq-eqb}
use Rattle.std.specs.List.{list_any}
use Rattle.std.specs.Option.{option_map_or}
use Rattle.std.proofs.lemmas.Bool.{cases_lt, ne_eqb}
use Rattle.std.proofs.lemmas.List.{get_or_past}
use Rattle.std.proofs.lemmas.List.Sums.{sum_by-cons, sum_by-set}
use Rattle.mem_files.specs.declared.open_file.Access.{Access}
use Rattle.mem_files.specs.declared.open_file.OpenFile.{OpenFile}
use Rattle.mem_files.specs.declared.open_file.OpenFile.TheVariants.{File}
use Rattle.mem_files.specs.World.{is_of}
use Rattle.mem_files.specs.Inside.Cells.{SameCells}
use Rattle.mem_files.specs.Inside.Counts.{opens_in}

pub counted_within : (counts : List ℕ) (number file_offset : ℕ) (access : Access) → opens_in number (Some (File number file_offset access)) ≤ get_or counts number 0 → number < length counts
counted_within counts number file_offset access some =
    let one : opens_in number (Some (File number file_offset access)) ≡ 1 = ap (λ b. cond b 1 0) (eq-eqb number number refl) in
    elim (cases_lt number (length counts)) as (λ _. number < length counts) [
      | inl h ↦ h
      | inr h ↦ absurd (omega (arith, get_or_past counts number 0 h))
    ]

module _ (number : ℕ) where
  one_cell : (cell : Option OpenFile) → opens_in number cell ≤ 1
  one_cell None = omega arith
  one_cell (Some open_file) = elim (is_of number open_file) as (λ b. cond b 1 0 ≤ 1) [ true ↦ omega arith | false ↦ omega arith ]

  pub opens_few : (cells : List (Option OpenFile)) → sum_by (opens_in number) cells ≤ length cells
  opens_few [] = omega arith
  opens_few (cell ∷ cells) = omega (arith, sum_by-cons (opens_in number) cell cells, one_cell cell, opens_few cells)

  -- a descriptor stands for a file where their count is not zero
  pub any_opens : (cells : List (Option OpenFile)) → list_any (λ cell. option_map_or (is_of number) cell false) cells ≡ not (eqb (sum_by (opens_in number) cells) 0)
  any_opens [] = refl
  any_opens (None ∷ cells) = any_opens cells ∙ ap (λ n. not (eqb n 0)) (let e : sum_by (opens_in number) cells ≡ sum_by (opens_in number) (None ∷ cells) = omega (arith, sum_by-cons (opens_in number) None cells) in e)
  any_opens (Some open_file ∷ cells) =
      elim (is_of number open_file) as (λ b. (b || list_any (λ cell. option_map_or (is_of number) cell false) cells) ≡ not (eqb (cond b 1 0 + sum_by (opens_in number) cells) 0)) [
        | true ↦ sym (ap not (ne_eqb (1 + sum_by (opens_in number) cells) 0 (λ e. absurd (omega arith))))
        | false ↦ any_opens cells ∙ ap (λ n. not (eqb n 0)) (let e : sum_by (opens_in number) cells ≡ 0 + sum_by (opens_in number) cells = omega arith in e)
      ] ∙ ap (λ n. not (eqb n 0)) (sym (sum_by-cons (opens_in number) (Some open_file) cells))

  pub opens_same : (cells more : List (Option OpenFile)) → SameCells cells more → sum_by (opens_in number) more ≡ sum_by (opens_in number) cells
  opens_same [] [] same = refl
  opens_same [] (d ∷ more) same = omega (arith, sum_by-cons (opens_in number) d more, ap (opens_in number) (same 0), opens_same [] more (λ k. same (suc k)))
  opens_same (c ∷ cells) [] same = omega (arith, sum_by-cons (opens_in number) c cells, ap (opens_in number) (same 0), opens_same cells [] (λ k. same (suc k)))
  opens_same (c ∷ cells) (d ∷ more) same =
      omega (arith, sum_by-cons (opens_in number) c cells, sum_by-cons (opens_in number) d more, ap (opens_in number) (same 0), opens_same cells more (λ k. same (suc k)))

  pub opens_set : (cells : List (Option OpenFile)) (at : ℕ) (cell : Option OpenFile) → at < length cells
      → sum_by (opens_in number) (set cells at cell) + opens_in number (get_or cells at None) ≡ sum_by (opens_in number) cells + opens_in number cell
  opens_set cells at cell inside = sum_by-set (opens_in number) cells at cell None inside
