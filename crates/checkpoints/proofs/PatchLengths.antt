-- How long the patch of a guest's state against another one can be.
use Rattle.std.proofs.Common.{◌≡◌, ℕ, zero, suc, ◌+◌, ◌*◌, ◌^◌, ◌<◌, ◌==◌, ◌≤◌, true, false, cond, Option, None, Some, List, [], ◌∷◌, length, All, refl, ap, arith, length-append}
use Rattle.std.specs.Int.{w32, w64}
use Rattle.std.specs.List.{flat_map}
use Rattle.std.proofs.lemmas.List.Elements.{All-cons, All-nil}
use Rattle.guest_run.specs.State.{GuestState}
use Rattle.guest_run.specs.Valid.{IsValid}
use Rattle.mem_files.specs.Lists.{ListedFile, named}
use Rattle.save_format.specs.ByteFields.Spelling.{InTurn, blob_text, number_text}
use Rattle.save_format.specs.StateText.StateText.{PageText, StateText, after_page}
use Rattle.save_format.specs.StateText.Encoded.{IsPage, descriptor_text, name_bytes, run_text}
use Rattle.save_format.specs.declared.byte_fields.form.TextForm.TheVariants.{Second}
use Rattle.save_format.specs.PatchText.Numbered.{items_from, with_item}
use Rattle.save_format.specs.PatchText.PatchText.{PageChange, equal_contents, page_in, page_of, patch_magic}
use Rattle.save_format.specs.PatchText.Encoded.{change_text, content_relative_text, marks_of, page_change_of, page_changes, patch_body_text, patched_file_text, register_text, text_of_patch, values_text}
use Rattle.save_format.proofs.PatchTextLemmas.Pages.{known_whole}
use Rattle.checkpoints.specs.Checkpoint.{state_of}
use Rattle.checkpoints.proofs.FileTurns.{Named}
use Rattle.checkpoints.proofs.PatchCounts.{count_of, item_count, listed_again}
use Rattle.checkpoints.proofs.StateLengths.{IsSmall, descriptor_most, heap_most, is_small, name_most, reservation_most, run_most}
use Rattle.checkpoints.proofs.States.{is_text}
use Rattle.checkpoints.proofs.TextLengths.{HasAtMost, after_byte, alike, counted, items, itself, joined, number16, number32, number64, within}

-- ---- registers

register_most : (known value : ℕ) → HasAtMost 8 (register_text known value)
register_most known value =
    elim (known == value) as (λ b. HasAtMost 8 (cond b [] (number_text w64 value))) [
      | true ↦ record { long = omega arith }
      | false ↦ number64 value
    ]

values_most : (base values : List ℕ) → HasAtMost (length base * 8) (values_text base values)
unfolding values_text
values_most [] values = record { long = omega arith }
values_most (known ∷ more) [] = record { long = omega arith }
values_most (known ∷ more) (value ∷ values) = within (joined (register_most known value) (values_most more values)) (omega arith)

-- ---- changes of pages

abbrev own : Option PageChange → ℕ
own None = 0
own (Some change) = length (change_text change)

item_long : (o : Option PageChange) (xs : List PageChange) → length (flat_map change_text (with_item o xs)) ≡ own o + length (flat_map change_text xs)
item_long None xs = omega arith
item_long (Some change) xs = length-append (change_text change) (flat_map change_text xs)

-- the bytes of a page, if there is one
abbrev IsFull : Option (List ℕ) → Type 0
IsFull found = (bytes : List ℕ) → found ≡ Some bytes → length bytes ≡ 4096

gone_long : (n : ℕ) → length (change_text (record { number = n; bytes = None })) ≤ 5
gone_long n = let number = (number32 n).long in omega (arith, number, length-append (number_text w32 n) (0 ∷ []))

new_long : (n : ℕ) (bytes : List ℕ) → length bytes ≡ 4096 → length (change_text (record { number = n; bytes = Some bytes })) ≤ 4101
new_long n bytes full = let number = (number32 n).long in omega (arith, number, full, length-append (number_text w32 n) (1 ∷ bytes))

change_long : (n : ℕ) (known found : Option (List ℕ)) → IsFull found → own (page_change_of n known found) ≤ 5 * count_of (page_of n known) + 4101 * count_of (page_of n found)
change_long n None None full = omega arith
change_long n None (Some found) full = omega (arith, new_long n found (full found refl))
change_long n (Some known) None full = omega (arith, gone_long n)
change_long n (Some known) (Some found) full =
    elim (equal_contents (Some known) (Some found)) as (λ b. own (cond {A = Option PageChange} b None (Some (record { number = n; bytes = Some found }))) ≤ 5 * 1 + 4101 * 1) [
      | true ↦ omega arith
      | false ↦ omega (arith, new_long n found (full found refl))
    ]

changes_long : (base pages : List PageText) → ((k : ℕ) → IsFull (page_in pages k)) → (count n : ℕ)
    → length (flat_map change_text (items_from (λ n. page_change_of n (page_in base n) (page_in pages n)) n count))
    ≤ 5 * length (items_from (λ n. page_of n (page_in base n)) n count) + 4101 * length (items_from (λ n. page_of n (page_in pages n)) n count)
unfolding items_from
changes_long base pages full zero n = omega arith
changes_long base pages full (suc count) n =
    omega (
      arith,
      changes_long base pages full count (n + 1),
      change_long n (page_in base n) (page_in pages n) (full n),
      item_long (page_change_of n (page_in base n) (page_in pages n)) (items_from (λ n. page_change_of n (page_in base n) (page_in pages n)) (n + 1) count),
      item_count (page_of n (page_in base n)) (items_from (λ n. page_of n (page_in base n)) (n + 1) count),
      item_count (page_of n (page_in pages n)) (items_from (λ n. page_of n (page_in pages n)) (n + 1) count),
    )

changes_most : (base pages : List PageText) → InTurn IsPage after_page 0 base → InTurn IsPage after_page 0 pages
    → HasAtMost (5 * length base + 4101 * length pages) (flat_map change_text (page_changes base pages))
unfolding page_changes
changes_most base pages b p = record {
  long = omega (
    arith,
    changes_long base pages (λ k bytes is. (known_whole pages k bytes p is).0) (2 ^ 32) 0,
    ap length (listed_again base b),
    ap length (listed_again pages p),
  );
}

-- ---- contents

content_most : (known : Option (List ℕ)) (content : List ℕ) → HasAtMost (5 + length content) (content_relative_text known content)
content_most known content =
    elim (equal_contents known (Some content)) as (λ b. HasAtMost (5 + length content) (cond b (0 ∷ []) (1 ∷ blob_text w32 content))) [
      | true ↦ record { long = omega arith }
      | false ↦ within (after_byte (joined (number32 (length content)) (itself content))) (omega arith)
    ]

file_most : (base : List ListedFile) (file : ListedFile) → HasAtMost 255 (name_bytes file.name) → HasAtMost (266 + length file.content) (patched_file_text base file)
file_most base file name =
    within (joined (number32 file.number) (joined (joined (number16 (length (name_bytes file.name))) name) (content_most _ file.content))) (omega arith)

files_most : (base files : List ListedFile) → All Named (named files) → All (λ file. HasAtMost (266 + length file.content) (patched_file_text base file)) files
files_most base [] all = All-nil (λ file. HasAtMost (266 + length file.content) (patched_file_text base file))
files_most base (file ∷ files) all =
    let name = name_most file.name file.number (named files) all in
    All-cons (λ file. HasAtMost (266 + length file.content) (patched_file_text base file)) file files (file_most base file name.0) (files_most base files name.1)

-- ---- the whole

body_most : (base s : StateText) → IsSmall base → IsSmall s → InTurn IsPage after_page 0 base.pages → InTurn IsPage after_page 0 s.pages → HasAtMost 1_894_752_583 (patch_body_text base s)
unfolding patch_body_text
body_most base s known small b p =
    let base_registers = known.registers in
    let base_pages = known.pages in
    let runs = small.runs in
    let pages = small.pages in
    let files = small.files in
    let descriptors = small.descriptors in
    let contents = small.contents in
    within (joined (number64 s.steps) (joined (number64 s.pc)
    (joined (joined (number32 (2 * marks_of base.registers s.registers)) (values_most base.registers s.registers))
    (joined (reservation_most Second s.reservation)
    (joined (heap_most s.heap)
    (joined (counted run_text s.runs (alike run_text 8 s.runs (λ k d less. run_most _)))
    (joined (counted change_text (page_changes base.pages s.pages) (changes_most base.pages s.pages b p))
    (joined (counted (patched_file_text base.files) s.files (items (patched_file_text base.files) (λ file. length file.content) 266 s.files (files_most base.files s.files small.names)))
    (joined (counted descriptor_text s.descriptors (alike descriptor_text 18 s.descriptors (λ k d less. descriptor_most _)))
    (joined (content_most (Some base.stream1) s.stream1) (content_most (Some base.stream2) s.stream2))))))))))) (omega arith)

pub patches_short : (base g : GuestState) → IsValid base → base.steps < 2 ^ 64 → IsValid g → g.steps < 2 ^ 64 → length (text_of_patch (state_of base) (state_of g)) ≤ 1_894_752_591
patches_short base g known few valid steps =
    omega (
      arith,
      (body_most (state_of base) (state_of g) (is_small base known) (is_small g valid) (is_text base known few).pages.1 (is_text g valid steps).pages.1).long,
      length-append patch_magic (patch_body_text (state_of base) (state_of g)),
    )
