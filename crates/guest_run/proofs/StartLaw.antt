-- A program with a valid box starts in a valid state.
use Rattle.std.proofs.Common.{◌≡◌, ℕ, ◌+◌, ◌-◌, ◌%◌, ◌^◌, ◌<◌, ◌≤◌, Bool, true, false, List, [], ◌∷◌, ◌++◌, length, drop, replicate, Result, Ok, Err, refl, sym, ap, ◌∙◌, subst, arith}
use Rattle.std.specs.Prelude.{All, Any, is_some, nat_lt}
use Rattle.std.specs.List.{flat_map, fold}
use Rattle.std.specs.FinMap.{empty, get-empty}
use Rattle.std.specs.Ordering.{nat_cmp}
use Rattle.std.proofs.lemmas.List.{length-set, length-take}
use Rattle.std.proofs.lemmas.List.Elements.{All-append, All-cons, All-drop, All-from_get_or, All-head, All-nil, All-replicate, All-set, All-tail, All-take}
use Rattle.std.proofs.lemmas.Bool.Decides.{nat_tests}
use Rattle.std.proofs.lemmas.Option.{none-some}
use Rattle.paged_mem.specs.Memory.{Memory, IsWhole, bytes_of, with_bytes, zeros}
use Rattle.paged_mem.proofs.Mapped.{length-zeros}
use Rattle.paged_mem.proofs.Numbers.{bytes_of-small}
use Rattle.ddc_base.specs.Limits.{address_end, most_texts, most_total, stack_size}
use Rattle.mem_files.specs.Sound.{AreBytes}
use Rattle.elf_load.specs.declared.Image.{Image}
use Rattle.elf_load.specs.declared.Segment.{Segment}
use Rattle.elf_load.specs.declared.refusal.ElfRefusal.{ElfRefusal}
use Rattle.elf_load.proofs.Images.{image-sound}
use Rattle.elf_load.specs.Image.{image_of, IsLoadable}
use Rattle.elf_load.specs.Segments.{first_page, holds_address, paged_size, IsPlaced}
use Rattle.paged_mem.proofs.Wholes.{whole-mapped, whole-written}
use Rattle.guest_run.specs.Stack.{zero_ended, gap, ended_texts, stack_bytes, stack_end, stack_pointer, start_size, stack_words}
use Rattle.guest_run.specs.Placed.{segment_bytes, with_segment, with_segments, with_stack}
use Rattle.guest_run.specs.Setting.{Setting, files_size, IsBox}
use Rattle.guest_run.specs.State.{GuestState}
use Rattle.guest_run.specs.Start.{start_of, start_state, started}
use Rattle.guest_run.specs.Valid.{IsValid}
use Rattle.guest_run.proofs.Beginnings.{fits_start, stack_length, stack_low}
use Rattle.guest_run.proofs.GivenLists.{start-sound}
use Rattle.guest_run.proofs.Starting.{judge, starts_are}
use borrow.Author.Tests.{ltb-false}
use Rattle.guest_run.proofs.SegmentAddresses.{first_page-is, maps-within, page_end-is}

abbrev IsByte : ℕ → Type 0
IsByte = λ byte. byte < 256

zeros-bytes : (count : ℕ) → AreBytes (zeros count)
unfolding zeros
zeros-bytes count = All-replicate IsByte count 0 (omega arith)

word-bytes : (count value : ℕ) → AreBytes (bytes_of count value)
word-bytes count value = All-from_get_or IsByte (bytes_of count value) 0 (λ i less. bytes_of-small count value i)

words-bytes : (ws : List ℕ) → AreBytes (flat_map (bytes_of 8) ws)
words-bytes [] = All-nil IsByte
words-bytes (w ∷ ws) = All-append IsByte (bytes_of 8 w) (flat_map (bytes_of 8) ws) (word-bytes 8 w) (words-bytes ws)

ended_texts-bytes : (texts : List (List ℕ)) → All AreBytes texts → AreBytes (ended_texts texts)
ended_texts-bytes [] are = All-nil IsByte
ended_texts-bytes (text ∷ texts) are =
    All-append IsByte (zero_ended text) (ended_texts texts)
    (All-append IsByte text (0 ∷ []) (All-head AreBytes text texts are) (All-cons IsByte 0 [] (omega arith) (All-nil IsByte)))
    (ended_texts-bytes texts (All-tail AreBytes text texts are))

stack-bytes : (args env : List (List ℕ)) → All AreBytes args → All AreBytes env → AreBytes (stack_bytes args env)
unfolding stack_bytes
stack-bytes args env are of_env =
    All-append IsByte (flat_map (bytes_of 8) (stack_words args env) ++ zeros (gap args env) ++ ended_texts args) (ended_texts env)
    (All-append IsByte (flat_map (bytes_of 8) (stack_words args env) ++ zeros (gap args env)) (ended_texts args)
    (All-append IsByte (flat_map (bytes_of 8) (stack_words args env)) (zeros (gap args env)) (words-bytes (stack_words args env)) (zeros-bytes (gap args env)))
    (ended_texts-bytes args are))
    (ended_texts-bytes env of_env)

empty-whole : IsWhole empty
empty-whole = record {
  small = λ q byte e. absurd (none-some byte (sym (get-empty nat_cmp q) ∙ e));
  low = λ q byte e. absurd (none-some byte (sym (get-empty nat_cmp q) ∙ e));
  pages = λ q r same. ap is_some (get-empty nat_cmp q) ∙ sym (ap is_some (get-empty nat_cmp r));
}

-- pages of zeros with bytes among them
paged-whole : (m : Memory) (first size at : ℕ) (bytes : List ℕ) → IsWhole m → first % 4096 ≡ 0 → size % 4096 ≡ 0 → first + size ≤ address_end
    → first ≤ at → at + length bytes ≤ first + size → AreBytes bytes → IsWhole (with_bytes (with_bytes m first (zeros size)) at bytes)
paged-whole m first size at bytes whole aligned pages high from to are =
    let long = length-zeros size in
    whole-written (with_bytes m first (zeros size)) at bytes
    (whole-mapped m first (zeros size) whole aligned (ap (λ n. n % 4096) long ∙ pages) (omega (arith, long)) (zeros-bytes size))
    (maps-within m first size at (length bytes) from to) are

segment-whole : (program : List ℕ) (m : Memory) (segment : Segment) → AreBytes program → IsPlaced (length program) segment → IsWhole m
    → IsWhole (with_segment program m segment)
unfolding with_segment
segment-whole program m segment are placed whole =
    let first = first_page-is segment in
    let end = page_end-is segment in
    let low = placed.low in
    let few = placed.file_size in
    let size : length (segment_bytes program segment) ≤ segment.file_size = omega (arith, length-take segment.file_size (drop segment.offset program)) in
    paged-whole m (first_page segment) (paged_size segment) segment.address (segment_bytes program segment) whole
    (omega arith) (omega arith) (omega arith) (omega arith) (omega arith)
    (All-take IsByte segment.file_size (drop segment.offset program) (All-drop IsByte segment.offset program are))

segments-whole : (program : List ℕ) (segments : List Segment) (m : Memory) → AreBytes program → All (IsPlaced (length program)) segments → IsWhole m
    → IsWhole (fold (with_segment program) m segments)
segments-whole program [] m are placed whole = whole
segments-whole program (segment ∷ segments) m are placed whole =
    segments-whole program segments (with_segment program m segment) are (All-tail (IsPlaced (length program)) segment segments placed)
    (segment-whole program m segment are (All-head (IsPlaced (length program)) segment segments placed) whole)

memory-whole : (program : List ℕ) (segments : List Segment) (args env : List (List ℕ)) → AreBytes program → All (IsPlaced (length program)) segments
    → All AreBytes args → All AreBytes env → start_size args env ≤ most_texts
    → IsWhole (with_stack (with_segments program segments) (stack_pointer args env) (stack_bytes args env))
unfolding with_stack
memory-whole program segments args env are placed of_args of_env fits =
    let low = stack_low args env fits in
    let ends = stack_length args env fits in
    paged-whole (with_segments program segments) (stack_end - stack_size) stack_size (stack_pointer args env) (stack_bytes args env)
    (segments-whole program segments empty are placed empty-whole) refl refl (omega arith) low (omega arith) (stack-bytes args env of_args of_env)

-- an address in a segment is low
held_below : (entry : ℕ) (segment : Segment) → holds_address entry segment ≡ true → entry < segment.address + segment.memory_size
held_below entry segment held = grind (arith, nat_tests)

entry_low : (size : ℕ) (segments : List Segment) (entry : ℕ) → All (IsPlaced size) segments → Any (λ segment. holds_address entry segment ≡ true) segments → entry < 2 ^ 64
entry_low size segments entry placed inside =
    let (k, segment, lt, is, held) = inside in
    let at = subst (IsPlaced size) is (placed k segment lt) in
    let low = at.low in
    let end = page_end-is segment in
    let below = held_below entry segment held in
    omega arith

-- the state of a start
pub start-valid : (program : List ℕ) (setting : Setting) (image : Image) → AreBytes program → IsBox setting → IsLoadable (length program) image
    → start_size setting.args setting.env ≤ most_texts → files_size setting.files ≤ most_total → IsValid (start_state program setting image)
unfolding start_state
start-valid program setting image are box sound fits small = record {
  hart = record {
    count = length-set (replicate 32 0) 2 (stack_pointer setting.args setting.env);
    zero = refl;
    aligned = sound.entry_aligned;
    whole = memory-whole program image.segments.items setting.args setting.env are sound.placed box.arg_bytes box.env_bytes fits;
    reserved = tt;
  };
  numbers = record {
    registers = All-set (λ value. value < 2 ^ 64) (replicate 32 0) 2 (stack_pointer setting.args setting.env) (omega arith) (All-replicate (λ value. value < 2 ^ 64) 32 0 (omega arith));
    pc = entry_low (length program) image.segments.items image.entry sound.placed sound.entry_inside;
  };
  fits = fits_start program setting.args setting.env image setting.heap sound fits box.heap;
  files = start-sound setting.files box.files box.few small;
}

pub starts-valid : (program : List ℕ) (setting : Setting) (guest : GuestState) → AreBytes program → IsBox setting
    → start_of program setting ≡ Ok guest → IsValid guest × (guest.steps ≡ 0)
unfolding start_of
starts-valid program setting guest are box e = (by_image (image_of program) refl e, starts_are program setting guest e)
  where
    by_tests : (image : Image) → image_of program ≡ Ok image → (long large : Bool)
        → nat_lt most_texts (start_size setting.args setting.env) ≡ long → nat_lt most_total (files_size setting.files) ≡ large
        → judge long large (start_state program setting image) ≡ Ok guest → IsValid guest
    by_tests image was true large l r e = cc
    by_tests image was false true l r e = cc
    by_tests image was false false l r e =
        let same : start_state program setting image ≡ guest = cc in
        subst IsValid same (start-valid program setting image are box (image-sound program image was)
        (ltb-false most_texts (start_size setting.args setting.env) l) (ltb-false most_total (files_size setting.files) r))

    by_image : (r : Result Image ElfRefusal) → image_of program ≡ r → started program setting r ≡ Ok guest → IsValid guest
    by_image (Err refusal) was e = cc
    by_image (Ok image) was e =
        by_tests image was (nat_lt most_texts (start_size setting.args setting.env)) (nat_lt most_total (files_size setting.files)) refl refl e
