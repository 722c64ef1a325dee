-- A box stays valid.
use Rattle.std.proofs.Common.{◌≡◌, ℕ, ◌+◌, ◌≤◌, ◌^◌, Bool, true, false, cond, not, ◌||◌, List, [], ◌∷◌, length, Some, None, Result, Ok, Err, OnOk, refl, sym, ap, ◌∙◌, subst, arith}
use Rattle.std.specs.Prelude.{All, nat_le, nat_lt}
use Rattle.std.proofs.lemmas.List.Elements.{All-nil}
use Rattle.std.specs.Cmp.Lexicographic.{nat_list_cmp_total}
use Rattle.std.specs.FinMap as fin
use Rattle.mem_files.specs.declared.open_file.PlaceRefusal.{PlaceRefusal}
use Rattle.mem_files.specs.declared.open_file.PlaceRefusal.TheVariants.{BadName, Twice, Full, OutOfMemory}
use Rattle.ddc_base.specs.Limits.{most_content, most_heap, most_names}
use Rattle.mem_files.specs.Names.{bytes_cmp, is_file_name}
use Rattle.mem_files.specs.Sound.{AreBytes}
use Rattle.mem_files.proofs.Keeping.{neither}
use borrow.Author.Tests.{leb-false}
use Rattle.guest_run.specs.Setting.{FileMap, Setting, IsBox, IsBoxFile, IsText, PlacesIn, place_refusal}

-- without texts and files
no_entries : (es : List (List ℕ × List ℕ)) → length es ≡ 0 → All IsBoxFile es
no_entries [] none = All-nil IsBoxFile
no_entries (e ∷ es) none = absurd (omega arith)

pub empty-box : (heap : ℕ) → heap ≤ most_heap → IsBox (record { args = []; env = []; files = fin.empty; heap = heap })
empty-box heap small = record {
  args = All-nil IsText;
  arg_bytes = All-nil AreBytes;
  env = All-nil IsText;
  env_bytes = All-nil AreBytes;
  files = no_entries (fin.entries fin.empty) (sym (fin.len-entries fin.empty) ∙ fin.len-empty bytes_cmp (List ℕ));
  few = omega (arith, fin.len-empty bytes_cmp (List ℕ));
  heap = small;
}

-- with other files
with_files : (box : Setting) (files : FileMap) → IsBox box → All IsBoxFile (fin.entries files) → fin.len files ≤ most_names → IsBox (record box { files = files })
with_files box files is each few = record { args = is.args; arg_bytes = is.arg_bytes; env = is.env; env_bytes = is.env_bytes; files = each; few = few; heap = is.heap }

-- a file more that no rule refuses
few_more : (files : FileMap) (name content : List ℕ) → place_refusal files name content ≡ None → fin.len (fin.insert files name content) ≤ most_names
few_more files name content fits =
    by_tests (not (is_file_name name)) (fin.contains_key files name) (nat_lt most_content (length content) || nat_le most_names (fin.len files)) refl refl fits
  where
    by_tests : (bad twice full : Bool) → fin.contains_key files name ≡ twice → (nat_lt most_content (length content) || nat_le most_names (fin.len files)) ≡ full
        → cond bad (Some BadName) (cond twice (Some Twice) (cond full (Some Full) None)) ≡ None → fin.len (fin.insert files name content) ≤ most_names
    by_tests true twice full t f e = cc
    by_tests false true full t f e = cc
    by_tests false false true t f e = cc
    by_tests false false false t f e =
        let more : fin.len (fin.insert files name content) ≡ fin.len files + 1 =
        fin.len-insert nat_list_cmp_total files name content ∙ ap (λ b. cond b (fin.len files) (fin.len files + 1)) t in
        let capacity = leb-false most_names (fin.len files) (neither (nat_lt most_content (length content)) (nat_le most_names (fin.len files)) f).1 in
        omega arith

pub placed-box : (box : Setting) (name content : List ℕ) (result : Result (Unit {0}) PlaceRefusal) (files : FileMap) → IsBox box
    → PlacesIn box.files name content result files → OnOk result (All IsBoxFile (fin.entries files)) → IsBox (record box { files = files })
placed-box box name content (Ok done) files is places each =
    with_files box files is each (subst (λ m. fin.len m ≤ most_names) (sym places.1) (few_more box.files name content places.0))
placed-box box name content (Err BadName) files is places each = subst (λ m. IsBox (record box { files = m })) (sym places.1) is
placed-box box name content (Err Twice) files is places each = subst (λ m. IsBox (record box { files = m })) (sym places.1) is
placed-box box name content (Err Full) files is places each = subst (λ m. IsBox (record box { files = m })) (sym places.1) is
placed-box box name content (Err OutOfMemory) files is places each = subst (λ m. IsBox (record box { files = m })) (sym places.1) is
