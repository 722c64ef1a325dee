-- The text of a guest's state is short.
use Rattle.std.proofs.Common.{◌≡◌, ℕ, ◌+◌, ◌^◌, ◌≤◌, Option, None, Some, inl, inr, List, [], ◌∷◌, length, All, arith, length-append}
use Rattle.std.specs.Prelude.{sum_by}
use Rattle.std.specs.Int.{w64}
use Rattle.std.proofs.lemmas.List.{length-drop}
use Rattle.std.proofs.lemmas.List.Elements.{All-cons, All-head, All-nil, All-tail}
use Rattle.ddc_base.specs.Limits.{file_number_end, most_pages, most_total, page_number_end}
use Rattle.save_format.specs.ByteFields.Spelling.{number_text}
use Rattle.mem_files.specs.Lists.{ListedFile, lists_of, named, with_name}
use Rattle.mem_files.specs.declared.open_file.OpenFile.{OpenFile}
use Rattle.mem_files.specs.declared.open_file.OpenFile.TheVariants.{File}
use Rattle.linux_calls.specs.declared.Heap.{Heap}
use Rattle.checkpoints.proofs.FilePartsLemmas.GoodLists.{good_join, good_order, good_range}
use Rattle.guest_run.specs.State.{GuestState}
use Rattle.guest_run.specs.Valid.{IsValid}
use Rattle.checkpoints.specs.MemoryParts.Canonical.{AreShown, runs_of}
use Rattle.save_format.specs.declared.byte_fields.form.TextForm.{TextForm}
use Rattle.save_format.specs.declared.byte_fields.form.TextForm.TheVariants.{First, Second}
use Rattle.save_format.specs.declared.state_text.parts.Run.{Run}
use Rattle.save_format.specs.StateText.StateText.{PageText, StateText, after_page, state_magic}
use Rattle.save_format.specs.StateText.Encoded.{IsTextOfState, body_text, descriptor_text, file_text, flags_of, heap_text, name_bytes, page_text, reservation_text, run_text, open_file_text, state_text_in}
use Rattle.checkpoints.specs.Checkpoint.{state_of}
use Rattle.checkpoints.proofs.FileTurns.{Named, have_text, short_name}
use Rattle.checkpoints.proofs.PageCounts.{few_pages, pages_few, runs_few}
use Rattle.checkpoints.proofs.TextLengths.{HasAtMost, after_byte, alike, counted, items, itself, joined, number16, number32, number64, within}
use Rattle.checkpoints.proofs.Turns.{pages_shown, runs_placed}

-- ---- its parts

pub heap_most : (heap : Heap) → HasAtMost 24 (heap_text heap)
heap_most heap = joined (number64 heap.first) (joined (number64 heap.now) (number64 heap.limit))

pub reservation_most : (form : TextForm) (held : Option (ℕ × ℕ)) → HasAtMost 9 (reservation_text form held)
reservation_most First held = record { long = omega arith }
reservation_most Second None = record { long = omega arith }
reservation_most Second (Some held) = after_byte (number64 held.1)

pub run_most : (run : Run) → HasAtMost 8 (run_text run)
run_most run = joined (number32 run.first) (number32 run.pages)

page_most : (page : PageText) → length page.bytes ≡ 4096 → HasAtMost 4100 (page_text page)
page_most page full = joined {n = 4096} (number32 page.number) (record { long = omega arith })

pages_most : (least : ℕ) (pages : List PageText) → AreShown least pages → All (λ page. HasAtMost 4100 (page_text page)) pages
pages_most least [] turn = All-nil (λ page. HasAtMost 4100 (page_text page))
pages_most least (page ∷ pages) turn = All-cons (λ page. HasAtMost 4100 (page_text page)) page pages (page_most page turn.0.full) (pages_most (after_page page) pages turn.1)

open_file_most : (open_file : OpenFile) → HasAtMost 13 (open_file_text open_file)
open_file_most (File number file_offset access) = joined (number32 number) (joined (number64 file_offset) (itself (flags_of access ∷ [])))
open_file_most _ = record { long = omega arith }

pub descriptor_most : (d : ℕ × OpenFile) → HasAtMost 18 (descriptor_text d)
descriptor_most d = joined (number32 d.0) (after_byte (open_file_most d.1))

pub name_most : (name : Option (List ℕ)) (number : ℕ) (others : List (List ℕ × ℕ)) → All Named (with_name name number others) → HasAtMost 255 (name_bytes name) × All Named others
name_most None number others all = (record { long = omega arith }, all)
name_most (Some name) number others all = (record { long = (short_name name (All-head Named (name, number) others all).0).1 }, All-tail Named (name, number) others all)

file_most : (file : ListedFile) → HasAtMost 255 (name_bytes file.name) → HasAtMost (265 + length file.content) (file_text file)
file_most file name =
    within (joined (number32 file.number) (joined (joined (number16 (length (name_bytes file.name))) name) (joined (number32 (length file.content)) (itself file.content)))) (omega arith)

files_most : (files : List ListedFile) → All Named (named files) → All (λ file. HasAtMost (265 + length file.content) (file_text file)) files
files_most [] all = All-nil (λ file. HasAtMost (265 + length file.content) (file_text file))
files_most (file ∷ files) all =
    let name = name_most file.name file.number (named files) all in
    All-cons (λ file. HasAtMost (265 + length file.content) (file_text file)) file files (file_most file name.0) (files_most files name.1)

-- ---- the whole

-- what a text says has few parts
pub record IsSmall (s : StateText) : Type 0 where
  pub registers : length s.registers ≡ 31
  pub runs : length s.runs ≤ most_pages
  pub pages : length s.pages ≤ most_pages
  pub shown : AreShown 0 s.pages
  pub files : length s.files ≤ file_number_end
  pub names : All Named (named s.files)
  pub descriptors : length s.descriptors ≤ 1_024
  pub contents : length s.stream1 + length s.stream2 + sum_by (λ file. length file.content) s.files ≤ most_total

body_most : (form : TextForm) (s : StateText) → IsSmall s → HasAtMost 1_892_769_089 (body_text form s)
unfolding body_text
body_most form s small =
    let runs = small.runs in
    let pages = small.pages in
    let files = small.files in
    let descriptors = small.descriptors in
    let contents = small.contents in
    within (joined (number64 s.steps) (joined (number64 s.pc)
    (joined (alike (number_text w64) 8 s.registers (λ k d less. number64 _))
    (joined (reservation_most form s.reservation)
    (joined (heap_most s.heap)
    (joined (counted run_text s.runs (alike run_text 8 s.runs (λ k d less. run_most _)))
    (joined (counted page_text s.pages (alike page_text 4100 s.pages (pages_most 0 s.pages small.shown)))
    (joined (counted file_text s.files (items file_text (λ file. length file.content) 265 s.files (files_most s.files small.names)))
    (joined (counted descriptor_text s.descriptors (alike descriptor_text 18 s.descriptors (λ k d less. descriptor_most _)))
    (joined (joined (number32 (length s.stream1)) (itself s.stream1)) (joined (number32 (length s.stream2)) (itself s.stream2)))))))))))) (omega (arith, small.registers))

pub is_small : (g : GuestState) → IsValid g → IsSmall (state_of g)
unfolding state_of
is_small g valid =
    let m = g.hart.memory in
    let l = lists_of g.world in
    let range = good_range g.world valid.files in
    let text = have_text l (good_order g.world valid.files) range (good_join g.world valid.files) in
    let mapped = few_pages m g.heap valid.fits in
    let runs = runs_few 0 (runs_of m) (runs_placed m) in
    let pages = pages_few m 0 page_number_end in
    let count = valid.hart.count in
    let contents : 0 + length g.world.stream1 + length g.world.stream2 + sum_by (λ (file : ListedFile). length file.content) l.files ≤ most_total = range.small_total in
    record {
      registers = omega (arith, length-drop 1 g.hart.registers);
      runs = omega arith;
      pages = omega arith;
      shown = pages_shown m;
      files = text.few_files;
      names = range.good_names;
      descriptors = text.few_open_files;
      contents = omega arith;
    }

pub body_short : (form : TextForm) (g : GuestState) → IsValid g → length (body_text form (state_of g)) ≤ 1_892_769_089
body_short form g valid = (body_most form (state_of g) (is_small g valid)).long

pub short : (form : TextForm) (g : GuestState) → IsValid g → length (state_text_in form (state_of g)) ≤ 1_892_769_097
short First g valid = omega (arith, body_short First g valid, length-append (state_magic First) (body_text First (state_of g)))
short Second g valid = omega (arith, body_short Second g valid, length-append (state_magic Second) (body_text Second (state_of g)))

pub texts_short : (g : GuestState) (text : List ℕ) → IsValid g → IsTextOfState (state_of g) text → length text ≤ 1_892_769_097
texts_short g text valid (inl is) = rw is (short Second g valid)
texts_short g text valid (inr old) = rw old.1 (short First g valid)
