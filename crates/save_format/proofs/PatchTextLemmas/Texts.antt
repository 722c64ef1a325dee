-- The fields of a patch, one by one: how each is read and how it is spelled fit each other.
use Rattle.std.proofs.Common.{◌≡◌, ℕ, zero, suc, ◌+◌, ◌*◌, ◌/◌, ◌%◌, ◌^◌, ◌<◌, ◌≤◌, Bool, true, false, cond, not, eqb, ◌==◌, ◌&&◌, nat_le, Option, None, Some, List, [], ◌∷◌, ◌++◌, length, option_map, Result, Ok, Err, refl, sym, ap, subst, ◌∙◌, arith, eq-eqb, eqb-true, false-eqb, leb-true, pow-suc}
use Rattle.std.specs.Int.{w16, w32}
use Rattle.std.proofs.lemmas.List.{append-nil}
use Rattle.std.proofs.lemmas.Option.{same_Some}
use Rattle.save_format.specs.ByteFields.Spelling.{Alike, InTurn, IsBlob, blob_text, number_text}
use Rattle.save_format.proofs.ByteFieldsLemmas.Encodes.{AreBytes, IsCut, Nothing, Encodes, all_read, encodes, encodes_begun, encodes_blob16, encodes_byte, encodes_bytes, encodes_counted, encodes_from, encodes_that, encodes_u32, encodes_u64, one_form, then, whole_again, whole_takes}
use Rattle.mem_files.specs.Lists.{ListedFile}
use Rattle.std.specs.Prelude.{IfOk}
use Rattle.save_format.specs.declared.state_text.parts.StateParts.{StateParts}
use Rattle.save_format.specs.declared.state_text.reading.TextRefusal.{TextRefusal}
use Rattle.save_format.specs.StateText.Seen.{ReadsStateText, state_view}
use Rattle.save_format.specs.StateText.StateText.{PageText, StateText, after_descriptor, after_file, after_page, after_run, is_page, optional_name}
use Rattle.save_format.specs.StateText.Encoded.{IsFile, IsNameText, IsPage, IsStateText, name_bytes}
use Rattle.save_format.proofs.StateTextLemmas.Texts.{again_named, is_named, named_bytes, short_name, encodes_descriptor, encodes_heap, encodes_reservation, encodes_run}
use Rattle.save_format.specs.declared.byte_fields.form.TextForm.TheVariants.{First, Second}
use Rattle.save_format.specs.PatchText.Numbered.{item_numbered}
use Rattle.save_format.specs.PatchText.PatchText.{after_change, patch_body_at, change_at, changed_pages, changed_bytes_at, content_relative_at, content_in, patched_file_at, parsed_patch, is_mark, is_new, patch_magic, marked_at, marked_content_at, new_content_at, page_bytes_at, page_in, changed_pages_at, patch_at, register_at, marked_registers_at, equal_contents}
use Rattle.save_format.specs.PatchText.Encoded.{ArePatchedPages, IsPatched, patch_body_text, changed_bytes_text, change_text, page_changes, content_relative_text, patched_file_text, marks_of, page_changes_text, register_text, marked_registers_text, text_of_patch, values_text}
use Rattle.save_format.proofs.PatchTextLemmas.Pages.{IsChange, IsNew, changed_changes, changed_fits, changes_changed, changes_fit, same_is, same_self}

-- ---- registers

abbrev IsBelow64 : ℕ → Type 0
IsBelow64 n = n < 2 ^ 64

not_true : (b : Bool) → not b ≡ true → b ≡ false
not_true true e = absurd cc
not_true false e = refl

-- a register that is spelled so
abbrev IsRegister : ℕ → Bool → ℕ → Type 0
IsRegister known marked value = (value < 2 ^ 64) × (marked ≡ not (known == value))

encodes_register : (known : ℕ) (marked : Bool) → known < 2 ^ 64 → Encodes (register_at known marked) (register_text known) (IsRegister known marked)
unfolding register_at
encodes_register known true low =
    encodes (encodes_that (λ value. not (known == value)) encodes_u64)
    (λ value f. rw (not_true (known == value) f.1) refl)
    (λ value f. (f.0, sym f.1))
    (λ value f. (f.0, sym f.1))
encodes_register known false low =
    encodes (all_read {K = λ value. known ≡ value} known (λ value k. k) refl)
    (λ value f. rw (eq-eqb known value f.0) refl)
    (λ value f. (subst IsBelow64 f.0 low, rw (eq-eqb known value f.0) refl))
    (λ value f. (equal (known == value) refl f.1, tt))
  where
    equal : {value : ℕ} (b : Bool) → (known == value) ≡ b → false ≡ not b → known ≡ value
    equal {value} true e f = eqb-true known value e
    equal false e f = absurd cc

abbrev head_or : List ℕ → ℕ
head_or [] = 0
head_or (x ∷ xs) = x

abbrev following : List ℕ → List ℕ
following [] = []
following (x ∷ xs) = xs

-- values that are marked so against a base
pub record AreMarked (base : List ℕ) (marks : ℕ) (values : List ℕ) : Type 0 where
  pub long : length values ≡ length base
  pub low : Alike IsBelow64 values
  pub marked : marks ≡ marks_of base values

-- the lowest bit and the bits above it
lowest : (b : Bool) (marks rest : ℕ) → (marks % 2 == 1) ≡ not b → marks / 2 ≡ rest → marks ≡ (cond b 0 1) + 2 * rest
lowest true marks rest e f =
    let odd : ¬ (marks % 2 ≡ 1) = false-eqb (marks % 2) 1 (sym e) in
    omega (arith, odd, f)
lowest false marks rest e f =
    let odd : marks % 2 ≡ 1 = eqb-true (marks % 2) 1 e in
    omega (arith, odd, f)

is_lowest : (b : Bool) (marks rest : ℕ) → marks ≡ (cond b 0 1) + 2 * rest → ((marks % 2 == 1) ≡ not b) × (marks / 2 ≡ rest)
is_lowest true marks rest e = (ap (λ (n : ℕ). n == 1) even, omega (arith, e))
  where
    even : marks % 2 ≡ 0
    even = omega (arith, e)
is_lowest false marks rest e = (ap (λ (n : ℕ). n == 1) odd, omega (arith, e))
  where
    odd : marks % 2 ≡ 1
    odd = omega (arith, e)

abbrev IsNext : ℕ → List ℕ → ℕ → List ℕ → Type 0
IsNext known more marks values =
    (suc (length more) ≡ length values) × (IsRegister known (marks % 2 == 1) (head_or values) × (AreMarked more (marks / 2) (following values) × Unit {0}))

next_text : (known : ℕ) (more : List ℕ) (marks : ℕ) (values : List ℕ) → IsNext known more marks values → register_text known (head_or values) ++ (values_text more (following values) ++ []) ≡ values_text (known ∷ more) values
unfolding values_text
next_text known more marks [] f = absurd (omega (arith, f.0))
next_text known more marks (value ∷ values) f = ap (λ (v : List ℕ). register_text known value ++ v) (append-nil (values_text more values))

next_marked : (known : ℕ) (more : List ℕ) (marks : ℕ) (values : List ℕ) → IsNext known more marks values → AreMarked (known ∷ more) marks values
unfolding marks_of
next_marked known more marks [] f = absurd (omega (arith, f.0))
next_marked known more marks (value ∷ values) f = record {
  long = sym f.0;
  low = (f.1.0.0, f.1.1.0.low);
  marked = lowest (known == value) marks (marks_of more values) f.1.0.1 f.1.1.0.marked;
}

marked_next : (known : ℕ) (more : List ℕ) (marks : ℕ) (values : List ℕ) → AreMarked (known ∷ more) marks values → IsNext known more marks values
unfolding marks_of
marked_next known more marks [] f = absurd (omega (arith, f.long))
marked_next known more marks (value ∷ values) f =
    let p = is_lowest (known == value) marks (marks_of more values) f.marked in
    (sym f.long, ((f.low.0, p.0), (record { long = omega (arith, f.long); low = f.low.1; marked = p.1 }, tt)))

cons_is : (value : ℕ) (rest : List ℕ) (known : ℕ) (more values : List ℕ) → ((suc (length more) ≡ length values) × (value ≡ head_or values)) × (rest ≡ following values) → value ∷ rest ≡ values
cons_is value rest known more [] k = absurd (omega (arith, k.0.0))
cons_is value rest known more (v ∷ values) k = λ i. k.0.1 i ∷ k.1 i

encodes_marked : (base : List ℕ) (marks : ℕ) → marks < 2 ^ length base → Alike IsBelow64 base → Encodes (marked_at marks base) (values_text base) (AreMarked base marks)
unfolding marked_at values_text marks_of
encodes_marked [] marks lt low =
    encodes (all_read {K = λ values. [] ≡ values} [] (λ values k. k) refl)
    (λ values f. refl)
    (λ values f. subst (AreMarked [] marks) f.0 (record { long = refl; low = tt; marked = omega (arith, lt) }))
    (λ values f. (none values f.long, tt))
  where
    none : (values : List ℕ) → length values ≡ 0 → [] ≡ values
    none [] e = refl
    none (v ∷ values) e = absurd (omega (arith, e))
encodes_marked (known ∷ more) marks lt low =
    let half : marks / 2 < 2 ^ length more = omega (arith, lt, pow-suc 2 (length more)) in
    encodes (
    then {K = λ values. suc (length more) ≡ length values} head_or (encodes_register known (marks % 2 == 1) low.0) (λ value f.
    then following (encodes_marked more (marks / 2) half low.1) (λ rest g.
    all_read (value ∷ rest) (cons_is value rest known more) ((ap suc (sym g.long), refl), refl))))
    (next_text known more marks) (next_marked known more marks) (marked_next known more marks)

pub marks_low : (base values : List ℕ) → marks_of base values < 2 ^ length base
unfolding marks_of
marks_low [] values = omega arith
marks_low (known ∷ more) [] = omega (arith, marks_low more [], pow-suc 2 (length more))
marks_low (known ∷ more) (value ∷ values) =
    elim (known == value) as (λ b. cond b 0 1 + 2 * marks_of more values < 2 ^ suc (length more)) [
      | true ↦ omega (arith, marks_low more values, pow-suc 2 (length more))
      | false ↦ omega (arith, marks_low more values, pow-suc 2 (length more))
    ]

abbrev AreRegisters : List ℕ → Type 0
AreRegisters values = (length values ≡ 31) × Alike IsBelow64 values

encodes_registers : (base : List ℕ) → AreRegisters base → Encodes (marked_registers_at base) (marked_registers_text base) AreRegisters
unfolding marked_registers_at
encodes_registers base known =
    encodes (
    then {K = Nothing} (λ values. 2 * marks_of base values) (encodes_that (λ marks. marks % 2 == 0) encodes_u32) (λ marks f.
    let even : marks % 2 ≡ 0 = eqb-true (marks % 2) 0 f.1 in
    encodes (encodes_marked base (marks / 2) (subst (λ (n : ℕ). marks / 2 < 2 ^ n) (sym known.0) (omega (arith, f.0))) known.1)
    (λ values g. refl)
    (λ values g. ((tt, omega (arith, even, g.marked)), (g.long ∙ known.0, g.low)))
    (λ values g. record { long = g.1.0 ∙ sym known.0; low = g.1.1; marked = omega (arith, g.0.1) })))
    (λ values f. refl)
    (λ values f. f.1.1)
    (λ values f. (tt, ((below values f, even values), f)))
  where
    below : (values : List ℕ) → AreRegisters values → 2 * marks_of base values < 2 ^ 32
    below values f =
        let low : marks_of base values < 2 ^ 31 = subst (λ (n : ℕ). marks_of base values < 2 ^ n) known.0 (marks_low base values) in
        omega (arith, low)

    even : (values : List ℕ) → (2 * marks_of base values % 2 == 0) ≡ true
    even values = eq-eqb (2 * marks_of base values % 2) 0 (omega arith)

-- ---- marks

mark_low : (known : Option (List ℕ)) (mark : ℕ) → is_mark known mark ≡ true → mark ≤ 1
mark_low None mark e = omega (arith, eqb-true mark 1 e)
mark_low (Some known) mark e = leb-true mark 1 e

-- the mark before a page's bytes
abbrev mark_in : Option (List ℕ) → ℕ
mark_in None = 0
mark_in (Some found) = 1

abbrev rest_text : Option (List ℕ) → List ℕ
rest_text None = []
rest_text (Some found) = found

abbrev IsMarkedNew : Option (List ℕ) → ℕ → Option (List ℕ) → Type 0
IsMarkedNew known mark found = IsNew known found × (mark ≡ mark_in found)

abbrev PageParts : Option (List ℕ) → Option (List ℕ) → Type 0
PageParts known found = (1 ≡ mark_in found) × ((IsCut 4096 (rest_text found) × ((is_page (rest_text found) && is_new known (rest_text found)) ≡ true)) × Unit {0})

encodes_page_bytes : (known : Option (List ℕ)) (mark : ℕ) → is_mark known mark ≡ true → Encodes (page_bytes_at known mark) rest_text (IsMarkedNew known mark)
unfolding page_bytes_at
encodes_page_bytes None zero is = absurd cc
encodes_page_bytes (Some known) zero is =
    encodes (all_read {K = λ found. None ≡ found} None (λ found k. k) refl)
    (λ found f. ap rest_text f.0)
    (λ found f. subst (IsMarkedNew (Some known) 0) f.0 (refl, refl))
    gone
  where
    gone : (found : Option (List ℕ)) → IsMarkedNew (Some known) 0 found → (None ≡ found) × Unit {0}
    gone None f = (refl, tt)
    gone (Some found) f = absurd (omega (arith, f.1))
encodes_page_bytes known (suc zero) is =
    encodes (
    then {K = λ found. 1 ≡ mark_in found} rest_text (encodes_that (λ found. is_page found && is_new known found) (encodes_bytes 4096)) (λ found f.
    all_read (Some found) come (refl, refl)))
    (λ found f. append-nil (rest_text found))
    to back
  where
    come : {bytes : List ℕ} (found : Option (List ℕ)) → (1 ≡ mark_in found) × (bytes ≡ rest_text found) → Some bytes ≡ found
    come None k = absurd (omega (arith, k.0))
    come (Some found) k = ap Some k.1

    to : (found : Option (List ℕ)) → PageParts known found → IsMarkedNew known 1 found
    to None f = absurd (omega (arith, f.0))
    to (Some found) f = ((f.1.0.0.long, f.1.0.1), refl)

    back : (found : Option (List ℕ)) → IsMarkedNew known 1 found → PageParts known found
    back None f = absurd (omega (arith, f.1))
    back (Some found) f = (refl, ((record { long = f.0.0 }, f.0.1), tt))
encodes_page_bytes known (suc (suc more)) is = absurd (omega (arith, mark_low known (suc (suc more)) is))

-- ---- pages

mark_of_new : (known found : Option (List ℕ)) → IsNew known found → (mark_in found < 256) × (is_mark known (mark_in found) ≡ true)
mark_of_new None None new = absurd cc
mark_of_new (Some known) None new = (omega arith, refl)
mark_of_new None (Some found) new = (omega arith, refl)
mark_of_new (Some known) (Some found) new = (omega arith, refl)

marked_text : (found : Option (List ℕ)) → mark_in found ∷ rest_text found ≡ changed_bytes_text found
marked_text None = refl
marked_text (Some found) = refl

encodes_changed : (known : Option (List ℕ)) → Encodes (changed_bytes_at known) changed_bytes_text (IsNew known)
unfolding changed_bytes_at
encodes_changed known =
    encodes (
    then {G = IsNew known} {K = Nothing} mark_in (encodes_that (is_mark known) encodes_byte) (λ mark f.
    encodes (encodes_page_bytes known mark f.1) (λ found g. refl) (λ found g. ((tt, g.1), g.0)) (λ found g. (g.1, g.0.1))))
    (λ found f. marked_text found)
    (λ found f. f.1.1)
    (λ found f. (tt, (mark_of_new known found f, f)))

pub encodes_change : (base : List PageText) (least : ℕ) → Encodes (change_at base least) change_text (IsChange base least)
unfolding change_at
encodes_change base least =
    encodes (
    then {G = λ change. IsNew (page_in base change.number) change.bytes} {K = Nothing} (λ change. change.number) (encodes_from least) (λ number f.
    encodes (
    then {K = λ change. Unit {0} × (number ≡ change.number)} (λ change. change.bytes) (encodes_changed (page_in base number)) (λ found g.
    all_read (record { number = number; bytes = found }) (λ change k. λ i. record { number = k.0.1 i; bytes = k.1 i }) ((tt, refl), refl)))
    (λ change g. refl)
    (λ change g. (g.0, subst (λ (v : ℕ). IsNew (page_in base v) change.bytes) g.0.1 g.1.0))
    (λ change g. (g.0, (subst (λ (v : ℕ). IsNew (page_in base v) change.bytes) (sym g.0.1) g.1, tt)))))
    (λ change f. ap (λ (v : List ℕ). number_text w32 change.number ++ v) (append-nil (changed_bytes_text change.bytes)))
    (λ change f. record { from = f.1.0.from; number = f.1.0.below; new = f.1.1 })
    (λ change f. (tt, (record { from = f.from; below = f.number }, f.new)))

pub encodes_pages : (base : List PageText) → InTurn IsPage after_page 0 base → Encodes (changed_pages_at base) (page_changes_text base) (ArePatchedPages base)
unfolding changed_pages_at
encodes_pages base turn =
    encodes (
    then {K = λ pages. InTurn IsPage after_page 0 pages} (page_changes base) (encodes_counted after_change (encodes_change base) 0) (λ cs f.
    all_read (changed_pages base cs) (λ pages k. ap (changed_pages base) k.1 ∙ changed_changes base pages k.0) (changed_fits base cs turn f.1, sym (changes_changed base cs f.1))))
    (λ pages f. append-nil (page_changes_text base pages))
    (λ pages f. record { turn = f.0; few = f.1.0.0 })
    (λ pages f. (f.turn, ((f.few, changes_fit base pages f.turn), tt)))

-- ---- contents

abbrev mark_of : Option (List ℕ) → List ℕ → ℕ
mark_of known content = cond (equal_contents known (Some content)) 0 1

abbrev content_rest : Option (List ℕ) → List ℕ → List ℕ
content_rest known content = cond (equal_contents known (Some content)) [] (blob_text w32 content)

abbrev IsKnown : Option (List ℕ) → Type 0
IsKnown None = Unit {0}
IsKnown (Some known) = IsBlob (2 ^ 32) known

abbrev IsMarkedContent : Option (List ℕ) → ℕ → List ℕ → Type 0
IsMarkedContent known mark content = IsBlob (2 ^ 32) content × (mark ≡ mark_of known content)

encodes_new : (known : Option (List ℕ)) → Encodes (new_content_at known) (blob_text w32) (λ content. IsBlob (2 ^ 32) content × (equal_contents known (Some content) ≡ false))
unfolding new_content_at
encodes_new known =
    encodes (
    then {G = λ content. is_new known content ≡ true} {K = Nothing} (λ (content : List ℕ). length content) encodes_u32 (λ count f.
    encodes (encodes_that (is_new known) (encodes_bytes count)) (λ content g. refl) (λ content g. ((tt, sym g.0.long), g.1)) (λ content g. (record { long = sym g.0.1 }, g.1))))
    (λ content f. refl)
    (λ content f. (record { short = f.1.0 }, not_true (equal_contents known (Some content)) f.1.1))
    (λ content f. (tt, (f.0.short, ap not f.1)))

encodes_marked_content : (known : Option (List ℕ)) (mark : ℕ) → IsKnown known → is_mark known mark ≡ true → Encodes (marked_content_at known mark) (content_rest known) (IsMarkedContent known mark)
unfolding marked_content_at
encodes_marked_content None zero fits is = absurd cc
encodes_marked_content (Some known) zero fits is =
    encodes (all_read {K = λ content. known ≡ content} known (λ content k. k) refl)
    (λ content f. rw (equal content f.0) refl)
    (λ content f. (subst (IsBlob (2 ^ 32)) f.0 fits, rw (equal content f.0) refl))
    (λ content f. (back content (equal_contents (Some known) (Some content)) refl f.1, tt))
  where
    equal : (content : List ℕ) → known ≡ content → equal_contents (Some known) (Some content) ≡ true
    equal content e = ap (λ (v : List ℕ). equal_contents (Some known) (Some v)) (sym e) ∙ same_self (Some known)

    back : (content : List ℕ) (b : Bool) → equal_contents (Some known) (Some content) ≡ b → ◌≡◌ {A = ℕ} 0 (cond b 0 1) → known ≡ content
    back content true e f = same_Some known content (same_is (Some known) (Some content) e)
    back content false e f = absurd (omega (arith, f))
encodes_marked_content known (suc zero) fits is =
    encodes (encodes_new known)
    (λ content f. rw f.1 refl)
    (λ content f. (f.0, rw f.1 refl))
    (λ content f. (f.0, other (equal_contents known (Some content)) f.1))
  where
    other : (b : Bool) → ◌≡◌ {A = ℕ} 1 (cond b 0 1) → b ≡ false
    other true e = absurd (omega (arith, e))
    other false e = refl
encodes_marked_content known (suc (suc more)) fits is = absurd (omega (arith, mark_low known (suc (suc more)) is))

content_again : (known : Option (List ℕ)) (content : List ℕ) → mark_of known content ∷ (content_rest known content ++ []) ≡ content_relative_text known content
content_again known content =
    elim (equal_contents known (Some content)) as (λ b. cond b 0 1 ∷ (cond b [] (blob_text w32 content) ++ []) ≡ cond b (0 ∷ []) (1 ∷ blob_text w32 content)) [
      | true ↦ refl
      | false ↦ ap (λ (v : List ℕ). 1 ∷ v) (append-nil (blob_text w32 content))
    ]

mark_fits : (known : Option (List ℕ)) (content : List ℕ) → (mark_of known content < 256) × (is_mark known (mark_of known content) ≡ true)
mark_fits None content = (omega arith, refl)
mark_fits (Some known) content =
    elim (equal_contents (Some known) (Some content)) as (λ b. (cond b 0 1 < 256) × (nat_le (cond b 0 1) 1 ≡ true)) [
      | true ↦ (omega arith, refl)
      | false ↦ (omega arith, refl)
    ]

pub encodes_content : (known : Option (List ℕ)) → IsKnown known → Encodes (content_relative_at known) (content_relative_text known) (IsBlob (2 ^ 32))
unfolding content_relative_at
encodes_content known fits =
    encodes (
    then {G = IsBlob (2 ^ 32)} {K = Nothing} (mark_of known) (encodes_that (is_mark known) encodes_byte) (λ mark f.
    encodes (encodes_marked_content known mark fits f.1) (λ content g. refl) (λ content g. ((tt, g.1), g.0)) (λ content g. (g.1, g.0.1))))
    (λ content f. ap (λ (v : List ℕ). mark_of known content ∷ v) (sym (append-nil (content_rest known content))) ∙ content_again known content)
    (λ content f. f.1.1)
    (λ content f. (tt, (mark_fits known content, f)))

-- ---- files

-- each content of a base has few enough bytes
abbrev pub AreKnown : List ListedFile → Type 0
AreKnown base = (number : ℕ) → IsKnown (content_in base number)

pub encodes_file : (base : List ListedFile) → AreKnown base → (least : ℕ) → Encodes (patched_file_at base least) (patched_file_text base) (IsFile least)
unfolding patched_file_at
encodes_file base known least =
    encodes (
    then {K = Nothing} (λ p. p.number) (encodes_from least) (λ number f.
    then {G = λ p. IsNameText p.name × (IsBlob (2 ^ 32) p.content × Unit {0})} (λ p. name_bytes p.name) encodes_blob16 (λ name g.
    encodes (then {K = λ p. ((Unit {0} × (number ≡ p.number)) × (name ≡ name_bytes p.name)) × IsNameText p.name} (λ p. p.content) (encodes_content (content_in base number) (known number)) (λ content h.
    all_read (record { number = number; name = optional_name name; content = content })
    (λ p k. λ i. record { number = k.0.0.0.1 i; name = again_named p.name name k.0.1 k.0.0.1 i; content = k.1 i })
    ((((tt, refl), sym (named_bytes name)), is_named name g), refl)))
    (λ p f. ap (λ (v : ℕ). content_relative_text (content_in base v) p.content ++ []) f.0.0.0.1)
    (λ p f. (f.0.0, (f.0.1, f.1))) (λ p f. ((f.0, f.1.0), f.1.1)))))
    (λ p f. ap (λ (v : List ℕ). number_text w32 p.number ++ (blob_text w16 (name_bytes p.name) ++ v)) (append-nil (content_relative_text (content_in base p.number) p.content)))
    (λ p f. record { from = f.1.0.from; number = f.1.0.below; name = f.1.1.1.0; content = f.1.1.1.1.0 })
    (λ p f. (tt, (record { from = f.from; below = f.number }, (short_name p.name f.name, (f.name, (f.content, tt))))))

-- ---- the whole

-- what is asked of a base: it is the text of a state
known_in : (files : List ListedFile) (least number : ℕ) → InTurn IsFile after_file least files → IsKnown (content_in files number)
known_in [] least number turn = tt
known_in (file ∷ files) least number turn =
    elim (eqb file.number number) as (λ b. IsKnown (option_map (λ f. f.content) (cond b (Some file) (item_numbered (λ f. f.number) files number)))) [
      | true ↦ turn.0.content
      | false ↦ known_in files (after_file file) number turn.1
    ]

pub encodes_body : (base : StateText) → IsStateText base → Encodes (patch_body_at base) (patch_body_text base) (IsPatched base)
unfolding patch_body_at patch_body_text
encodes_body base is =
    encodes (
    then {K = Nothing} (λ s. s.steps) encodes_u64 (λ steps f1.
    then (λ s. s.pc) encodes_u64 (λ pc f2.
    then (λ s. s.registers) (encodes_registers base.registers (is.registers, is.register)) (λ registers f3.
    then (λ s. s.reservation) (encodes_reservation Second) (λ reservation fr.
    then (λ s. s.heap) encodes_heap (λ heap f0.
    then (λ s. s.runs) (encodes_counted after_run encodes_run 0) (λ runs f4.
    then (λ s. s.pages) (encodes_pages base.pages is.pages.1) (λ pages f5.
    then (λ s. s.files) (encodes_counted after_file (encodes_file base.files (λ number. known_in base.files 0 number is.files.1)) 0) (λ files f6.
    then (λ s. s.descriptors) (encodes_counted after_descriptor encodes_descriptor 0) (λ descriptors f7.
    then (λ s. s.stream1) (encodes_content (Some base.stream1) is.stream1) (λ stream1 f8.
    then (λ s. s.stream2) (encodes_content (Some base.stream2) is.stream2) (λ stream2 f9.
    all_read (record { steps = steps; pc = pc; registers = registers; reservation = reservation; heap = heap; runs = runs; pages = pages; files = files; descriptors = descriptors; stream1 = stream1; stream2 = stream2 })
    (λ s k. λ i. record { steps = k.0.0.0.0.0.0.0.0.0.0.1 i; pc = k.0.0.0.0.0.0.0.0.0.1 i; registers = k.0.0.0.0.0.0.0.0.1 i; reservation = k.0.0.0.0.0.0.0.1 i; heap = k.0.0.0.0.0.0.1 i; runs = k.0.0.0.0.0.1 i; pages = k.0.0.0.0.1 i; files = k.0.0.0.1 i; descriptors = k.0.0.1 i; stream1 = k.0.1 i; stream2 = k.1 i })
    (((((((((((tt, refl), refl), refl), refl), refl), refl), refl), refl), refl), refl), refl)))))))))))))
    (λ s f. grind (arith, append-nil))
    (λ s f. let g = f.1 in record { steps = g.0; pc = g.1.0; registers = g.1.1.0.0; register = g.1.1.0.1; reservation = g.1.1.1.0.0; heap = g.1.1.1.1.0; runs = g.1.1.1.1.1.0; pages = g.1.1.1.1.1.1.0; files = g.1.1.1.1.1.1.1.0; descriptors = g.1.1.1.1.1.1.1.1.0; stream1 = g.1.1.1.1.1.1.1.1.1.0; stream2 = g.1.1.1.1.1.1.1.1.1.1.0 })
    (λ s f. (tt, (f.steps, (f.pc, ((f.registers, f.register), ((f.reservation, tt), (f.heap, (f.runs, (f.pages, (f.files, (f.descriptors, (f.stream1, (f.stream2, tt)))))))))))))

-- what a patch says is spelled so against its base, and what is spelled so is read, whatever follows
pub encodes_patch : (base : StateText) → IsStateText base → Encodes (patch_at base) (text_of_patch base) (IsPatched base)
unfolding patch_at
encodes_patch base is =
    encodes (
    then {K = Nothing} (λ s. tt) (encodes_begun patch_magic refl) (λ begun f.
    encodes (encodes_body base is) (λ s g. refl) (λ s g. ((tt, refl), g)) (λ s g. g.1)))
    (λ s f. refl) (λ s f. f.1.1) (λ s f. (tt, (tt, f)))

-- ---- with nothing after it

pub parsed_again : (base s : StateText) (text : List ℕ) → IsStateText base → IsPatched base s → text ≡ text_of_patch base s → parsed_patch base text ≡ Ok s
unfolding parsed_patch
parsed_again base s text is fits e = ap (parsed_patch base) e ∙ whole_again (one_form (encodes_patch base is)) First s fits

pub parsed_takes : (base : StateText) (text : List ℕ) (s : StateText) → IsStateText base → AreBytes text → parsed_patch base text ≡ Ok s → IsPatched base s × (text ≡ text_of_patch base s)
unfolding parsed_patch
parsed_takes base text s is fits e = let p = whole_takes (one_form (encodes_patch base is)) text s fits e in (p.1, p.2)

pub is_found : (base : StateText) (text : List ℕ) (r : Result StateParts TextRefusal) → IsStateText base → AreBytes text → ReadsStateText r (parsed_patch base text) → IfOk r (λ p. IsPatched base (state_view p) × (text ≡ text_of_patch base (state_view p)))
is_found base text (Ok p) is fits given = parsed_takes base text (state_view p) is fits given
is_found base text (Err e) is fits given = tt
