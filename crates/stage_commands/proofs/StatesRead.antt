-- A state that bytes say is valid, and no other one has its text.
use Rattle.std.proofs.Common.{◌≡◌, ℕ, suc, ◌*◌, ◌<◌, ◌^◌, ◌==◌, Bool, true, false, cond, inl, inr, Option, None, Some, Result, Ok, List, [], ◌∷◌, ◌++◌, length, refl, sym, ap, ◌∙◌, subst, arith}
use Rattle.std.specs.Prelude.{All}
use Rattle.std.specs.FinMap as finite
use Rattle.std.specs.List.{flat_map}
use Rattle.std.specs.Option.{option_map}
use Rattle.std.specs.Int.{w32, w64}
use Rattle.std.proofs.lemmas.Bool.{eqb-true}
use Rattle.std.proofs.lemmas.List.{get_or_past}
use Rattle.std.proofs.lemmas.List.Elements.{All-cons, All-get_or, All-head, All-nil, All-tail}
use Rattle.std.proofs.Math.Decide.{dec_lt}
use Rattle.ddc_base.specs.ByteLists.{AreBytes}
use Rattle.ddc_base.specs.Difference.{first_difference}
use Rattle.paged_mem.specs.Memory.{IsWhole, Memory}
use Rattle.paged_mem.proofs.Wholes.{whole-mapped}
use Rattle.mem_files.proofs.ListRules.{lists-sound}
use Rattle.save_format.specs.ByteFields.Spelling.{Alike, list_text, number_text}
use Rattle.save_format.specs.declared.byte_fields.form.TextForm.{TextForm}
use Rattle.save_format.specs.declared.byte_fields.form.TextForm.TheVariants.{First, Second}
use Rattle.save_format.specs.StateText.StateText.{PageText, StateText, after_page, parsed_state, state_magic}
use Rattle.save_format.specs.StateText.Encoded.{IsStateText, IsTextOfState, body_text, heap_text, page_text, reservation_text, run_text, u64s}
use Rattle.save_format.proofs.ByteFieldsLemmas.Encodes as encodes
use Rattle.save_format.proofs.StateTextLemmas.Texts.{formed_again, encoded}
use Rattle.checkpoints.specs.Checkpoint.{IsInRange, IsJoined, guest_of, lists_in, mapped_of, state_of}
use Rattle.checkpoints.specs.MemoryParts.Canonical.{AreShown, with_pages}
use Rattle.checkpoints.proofs.Memories.{placed, shown}
use Rattle.checkpoints.proofs.SameText.{no_memory, ordered, whole_runs}
use Rattle.checkpoints.proofs.States.{is_text, same_guest}
use Rattle.guest_run.specs.State.{GuestState}
use Rattle.guest_run.specs.Valid.{IsValid}
use Rattle.segments.specs.Segments.{IsStateOf, second_text}

-- ---- the bytes of a text's parts

following : (xs ys : List ℕ) → AreBytes (xs ++ ys) → AreBytes ys
following [] ys are = are
following (x ∷ xs) ys are = following xs ys (All-tail (λ byte. byte < 256) x (xs ++ ys) are)

ahead : (xs ys : List ℕ) → AreBytes (xs ++ ys) → AreBytes xs
ahead [] ys are = All-nil (λ byte. byte < 256)
ahead (x ∷ xs) ys are =
    All-cons (λ byte. byte < 256) x xs (All-head (λ byte. byte < 256) x (xs ++ ys) are) (ahead xs ys (All-tail (λ byte. byte < 256) x (xs ++ ys) are))

abbrev HasBytes : PageText → Type 0
HasBytes page = AreBytes page.bytes

each_page : (pages : List PageText) → AreBytes (flat_map page_text pages) → All HasBytes pages
each_page [] are = All-nil HasBytes
each_page (page ∷ pages) are =
    let rest : List ℕ = flat_map page_text pages in
    All-cons HasBytes page pages (following (number_text w32 page.number) page.bytes (ahead (page_text page) rest are)) (each_page pages (following (page_text page) rest are))

in_body : (form : TextForm) (s : StateText) → AreBytes (body_text form s) → All HasBytes s.pages
unfolding body_text
in_body form s are =
    each_page s.pages
    (following (number_text w32 (length s.pages)) _
    (ahead (list_text page_text s.pages) _
    (following (list_text run_text s.runs) _
    (following (heap_text s.heap) _
    (following (reservation_text form s.reservation) _
    (following (u64s s.registers) _
    (following (number_text w64 s.pc) _
    (following (number_text w64 s.steps) _ are))))))))

in_text : (s : StateText) (text : List ℕ) → AreBytes text → IsTextOfState s text → All HasBytes s.pages
in_text s text are (inl is) = in_body Second s (following (state_magic Second) (body_text Second s) (subst AreBytes is are))
in_text s text are (inr old) = in_body First s (following (state_magic First) (body_text First s) (subst AreBytes old.1 are))

-- ---- the state that a text says is valid

whole_pages : (m : Memory) (pages : List PageText) (least : ℕ) → IsWhole m → AreShown least pages → All HasBytes pages → IsWhole (with_pages m pages)
unfolding with_pages
whole_pages m [] least whole turn are = whole
whole_pages m (page ∷ pages) least whole turn are =
    let rest = whole_pages m pages (after_page page) whole turn.1 (All-tail HasBytes page pages are) in
    let full = turn.0.full in
    let low = turn.0.low in
    whole-mapped (with_pages m pages) (4096 * page.number) page.bytes rest (omega arith) (omega (arith, full)) (omega (arith, full, low)) (All-head HasBytes page pages are)

registers_fit : (registers : List ℕ) → Alike (λ n. n < 2 ^ 64) registers → All (λ value. value < 2 ^ 64) registers
registers_fit [] are = All-nil (λ value. value < 2 ^ 64)
registers_fit (x ∷ xs) are = All-cons (λ value. value < 2 ^ 64) x xs are.0 (registers_fit xs are.1)

valid_of : (s : StateText) → IsStateText s → All HasBytes s.pages → IsInRange s → IsJoined s → IsValid (guest_of s)
unfolding guest_of
valid_of s text are range joins =
    let turn = placed s.runs 0 text.runs.1 range.memory.runs.within in
    let whole = whole_runs finite.empty s.runs 0 no_memory turn in
    let count = text.registers in
    record {
      hart = record {
        count = omega (arith, count);
        zero = refl;
        aligned = range.aligned;
        whole = whole_pages (mapped_of s) s.pages 0 whole (shown (mapped_of s) s.pages 0 whole text.pages.1 range.memory.listed) are;
        reserved = range.reserved;
      };
      numbers = record { registers = All-cons (λ value. value < 2 ^ 64) 0 s.registers (omega arith) (registers_fit s.registers text.register); pc = text.pc };
      fits = range.fits;
      files = lists-sound (lists_in s) (ordered s text) range.files joins;
    }

each_byte : (text : List ℕ) → AreBytes text → encodes.AreBytes text
each_byte text are i = elim (dec_lt i (length text)) [
  | yes less ↦ All-get_or (λ byte. byte < 256) text i 0 less are
  | no not ↦ let past = get_or_past text i 0 (omega (arith, not)) in omega (arith, past)
]

-- what is known of a state that a text of bytes says
pub record IsRead (guest : GuestState) : Type 0 where
  pub valid : IsValid guest
  pub small : guest.steps < 2 ^ 64

pub is_read_valid : (text : List ℕ) (guest : GuestState) → AreBytes text → IsStateOf text guest → IsRead guest
unfolding guest_of
is_read_valid text guest are (s, is, range, joins, same) =
    let parsed = encoded text s (each_byte text are) is in
    subst IsRead (sym same) (record { valid = valid_of s parsed.0 (in_text s text are parsed.1) range joins; small = parsed.0.steps })

-- ---- one text

pub one_text : (a b : GuestState) → IsRead a → IsRead b → second_text a ≡ second_text b → a ≡ b
one_text a b first last same =
    let one : parsed_state (second_text a) ≡ Ok (state_of a) = formed_again (state_of a) (second_text a) (is_text a first.valid first.small) (inl refl) in
    let other : parsed_state (second_text a) ≡ Ok (state_of b) = formed_again (state_of b) (second_text a) (is_text b last.valid last.small) (inl same) in
    let both : ◌≡◌ {A = Result StateText ℕ} (Ok (state_of a)) (Ok (state_of b)) = sym one ∙ other in
    let parsed : state_of a ≡ state_of b = cc in
    sym (same_guest a first.valid) ∙ ap guest_of parsed ∙ same_guest b last.valid

-- two texts without a difference are one
pub no_difference : (a b : List ℕ) → first_difference a b ≡ None → a ≡ b
no_difference [] [] none = refl
no_difference [] (y ∷ ys) none = absurd cc
no_difference (x ∷ xs) [] none = absurd cc
no_difference (x ∷ xs) (y ∷ ys) none = by (no_difference xs ys) (x == y) refl (first_difference xs ys) refl none where
  by : (first_difference xs ys ≡ None → xs ≡ ys) → (b : Bool) → (x == y) ≡ b → (rest : Option ℕ) → first_difference xs ys ≡ rest
      → cond b (option_map suc rest) (Some 0) ≡ None → x ∷ xs ≡ y ∷ ys
  by later true is None rest none = λ i. eqb-true x y is i ∷ later rest i
  by later true is (Some n) rest none = absurd cc
  by later false is rest found none = absurd cc
