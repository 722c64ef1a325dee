-- What a text's lists say one after the other, and a hart whose registers are set in turn.
use Rattle.std.proofs.Common.{◌≡◌, ℕ, zero, suc, ◌+◌, ◌-◌, ◌<◌, ◌≤◌, Option, List, [], ◌∷◌, ◌++◌, length, map, take, get_or, All, false, eqb, refl, sym, ap, ◌∙◌, arith, add-one, append_assoc}
use Rattle.std.specs.Prelude.{replicate, slice_set}
use Rattle.std.proofs.Math.Seq.{set-append_seam, take-suc}
use Rattle.std.proofs.lemmas.Bool.{ne_eqb}
use Rattle.std.proofs.lemmas.List.{length-take-le}
use Rattle.std.proofs.lemmas.List.Elements.{All-cons, All-nil}
use Rattle.save_format.specs.ByteFields.Spelling.{InTurn}
use Rattle.paged_mem.specs.Memory.{Memory}
use Rattle.rv64_machine.specs.Hart.{HartState, with_register}

-- what stands before an item has lower numbers
pub below : {A X : Type 0} (view : X → A) (number : A → ℕ) (Fits : ℕ → A → Type 0) → ((s : ℕ) (a : A) → Fits s a → s ≤ number a)
    → (xs : List X) (least i : ℕ) (d : X) → InTurn Fits (λ a. number a + 1) least (map view xs) → i < length xs
    → All (λ a. number a < number (view (get_or xs i d))) (map view (take i xs)) × (least ≤ number (view (get_or xs i d)))
below view number Fits from [] least i d turn lt = absurd (omega arith)
below {A} view number Fits from (x ∷ xs) least zero d turn lt = (All-nil (λ (a : A). number a < number (view x)), from least (view x) turn.0)
below {A} view number Fits from (x ∷ xs) least (suc i) d turn lt =
    let later = below view number Fits from xs (number (view x) + 1) i d turn.1 (omega arith) in
    let low = later.1 in
    let first = from least (view x) turn.0 in
    (All-cons (λ (a : A). number a < number (view (get_or xs i d))) (view x) (map view (take i xs)) (omega arith) later.0, omega arith)

abbrev pub set_so_far : List ℕ → ℕ → Memory → Option (ℕ × ℕ) → ℕ → HartState
set_so_far registers pc memory held i = record { registers = 0 ∷ (take i registers ++ replicate (31 - i) 0); pc = pc; memory = memory; reservation = held }

seam : (xs ys : List ℕ) (y v i : ℕ) → length xs ≡ i → slice_set (xs ++ y ∷ ys) i v ≡ xs ++ v ∷ ys
seam xs ys y v i e = ap (λ n. slice_set (xs ++ y ∷ ys) n v) (sym e) ∙ set-append_seam xs y ys v

one_set : (registers : List ℕ) (i : ℕ) → length registers ≡ 31 → i < 31 → slice_set (take i registers ++ replicate (31 - i) 0) i (get_or registers i 0) ≡ take (i + 1) registers ++ replicate (31 - (i + 1)) 0
one_set registers i long lt =
    let v = get_or registers i 0 in
    let count : 31 - i ≡ suc (31 - (i + 1)) = omega arith in
    let more : take (i + 1) registers ≡ take i registers ++ v ∷ [] = rw add-one (take-suc registers i 0 (omega arith)) in
    ap (λ n. slice_set (take i registers ++ replicate n 0) i v) count
    ∙ seam (take i registers) (replicate (31 - (i + 1)) 0) 0 v i (length-take-le i registers (omega arith))
    ∙ sym (ap (λ prefix. prefix ++ replicate (31 - (i + 1)) 0) more ∙ append_assoc (take i registers) (v ∷ []) (replicate (31 - (i + 1)) 0))

set_at : (xs : List ℕ) (pc : ℕ) (memory : Memory) (held : Option (ℕ × ℕ)) (i v : ℕ)
    → with_register (record { registers = 0 ∷ xs; pc = pc; memory = memory; reservation = held }) (suc i) v ≡ record { registers = 0 ∷ slice_set xs i v; pc = pc; memory = memory; reservation = held }
set_at xs pc memory held i v = let other : eqb (suc i) 0 ≡ false = ne_eqb (suc i) 0 (λ e. omega arith) in rw other refl

pub set_more : (registers : List ℕ) (pc : ℕ) (memory : Memory) (held : Option (ℕ × ℕ)) (i number v : ℕ) (hart new : HartState) → length registers ≡ 31 → i < 31 → number ≡ suc i → v ≡ get_or registers i 0
    → hart ≡ set_so_far registers pc memory held i → new ≡ with_register hart number v → new ≡ set_so_far registers pc memory held (i + 1)
set_more registers pc memory held i number v hart new long lt next is so_far set =
    set ∙ (λ j. with_register (so_far j) (next j) (is j)) ∙ set_at (take i registers ++ replicate (31 - i) 0) pc memory held i (get_or registers i 0) ∙ (λ j. record { registers = 0 ∷ one_set registers i long lt j; pc = pc; memory = memory; reservation = held })
