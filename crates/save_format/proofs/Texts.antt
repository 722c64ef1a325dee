-- The fields of a save's text, one by one: how each is read and how it is spelled fit each other.
use Rattle.std.proofs.Common.{◌≡◌, ℕ, ◌^◌, ◌<◌, true, Option, None, List, ◌++◌, length, Result, Ok, Err, refl, sym, ap, ◌∙◌, arith, inl, inr}
use Rattle.std.specs.Prelude.{IfOk}
use Rattle.std.specs.Int.{w16, w32}
use Rattle.std.proofs.lemmas.List.{append-nil}
use Rattle.save_format.specs.ByteFields.Spelling.{blob_text, list_text, number_text}
use Rattle.save_format.specs.declared.byte_fields.form.TextForm.{TextForm}
use Rattle.save_format.specs.declared.byte_fields.form.TextForm.TheVariants.{First, Second}
use Rattle.save_format.proofs.ByteFieldsLemmas.Encodes.{AreBytes, Nothing, Encodes, EncodesForms, all_read, by_form, encodes, encodes_begun_in, encodes_blob32, encodes_bytes, encodes_counted, encodes_number, encodes_that, encodes_u32, encodes_u64, then, whole_again, whole_takes, wide16}
use Rattle.save_format.proofs.StateTextLemmas.Texts.{encodes_state_in}
use Rattle.save_format.specs.StateText.Encoded.{HasFieldIn, state_text_in}
use Rattle.save_format.specs.declared.state_text.reading.TextRefusal.{TextRefusal}
use Rattle.save_format.specs.declared.parts.Parts.{Parts}
use Rattle.save_format.specs.SaveText.{SaveText, after_left, digest_at, fields_at, parsed_save, comes_after, saved_left_at, save_magic, mark_at, saved_name_at, save_at, saved_stage_at}
use Rattle.save_format.specs.Encoded.{IsSavedDigest, IsSavedLeft, IsSavedMark, IsStageText, IsSaveText, IsTextOfSave, digest_text, left_text, mark_text, save_text_in, stage_text}
use Rattle.save_format.specs.Seen.{ReadsSaveText, save_view}

pub encodes_digest : Encodes digest_at digest_text IsSavedDigest
unfolding digest_at
encodes_digest =
    encodes (
    then {K = Nothing} (λ d. d.0) (encodes_bytes 32) (λ found f.
    all_read (record { 0 = found }) (λ d k. λ i. record { 0 = k.1 i }) (tt, refl)))
    (λ d f. append-nil d.0)
    (λ d f. record { full = f.1.0.long })
    (λ d f. (tt, (record { long = f.full }, tt)))

pub encodes_mark : Encodes mark_at mark_text IsSavedMark
unfolding mark_at mark_text
encodes_mark =
    encodes (
    then {K = Nothing} (λ m. m.length) encodes_u32 (λ length f.
    then (λ m. m.digest) encodes_digest (λ digest g.
    all_read (record { length = length; digest = digest }) (λ m k. λ i. record { length = k.0.1 i; digest = k.1 i }) ((tt, refl), refl))))
    (λ m f. ap (λ (v : List ℕ). number_text w32 m.length ++ v) (append-nil m.digest.0))
    (λ m f. record { length = f.1.0; digest = f.1.1.0 })
    (λ m f. (tt, (f.length, (f.digest, tt))))

-- a name of so many bytes, after the one before it
abbrev IsAfter : Option (List ℕ) → List ℕ → Type 0
IsAfter last name = comes_after last name ≡ true

pub encodes_name : (last : Option (List ℕ)) → Encodes (saved_name_at last) (blob_text w16) (λ name. (length name < 2 ^ 16) × IsAfter last name)
unfolding saved_name_at
encodes_name last =
    encodes (
    then {G = IsAfter last} {K = Nothing} (λ (name : List ℕ). length name) (encodes_number w16 (2 ^ 16) wide16) (λ count f.
    encodes (encodes_that (comes_after last) (encodes_bytes count)) (λ name g. refl) (λ name g. ((tt, sym g.0.long), g.1)) (λ name g. (record { long = sym g.0.1 }, g.1))))
    (λ name f. refl) (λ name f. f.1) (λ name f. (tt, f))

pub encodes_left : (last : Option (List ℕ)) → Encodes (saved_left_at last) left_text (IsSavedLeft last)
unfolding saved_left_at
encodes_left last =
    encodes (
    then {K = Nothing} (λ l. l.name) (encodes_name last) (λ name f.
    then (λ l. l.mark) encodes_mark (λ mark g.
    all_read (record { name = name; mark = mark }) (λ l k. λ i. record { name = k.0.1 i; mark = k.1 i }) ((tt, refl), refl))))
    (λ l f. ap (λ (v : List ℕ). blob_text w16 l.name ++ v) (append-nil (mark_text l.mark)))
    (λ l f. record { short = f.1.0.0; following = f.1.0.1; mark = f.1.1.0 })
    (λ l f. (tt, ((f.short, f.following), (f.mark, tt))))

pub encodes_stage : (any : ℕ) → Encodes (saved_stage_at any) stage_text IsStageText
unfolding saved_stage_at stage_text
encodes_stage any =
    encodes (
    then {K = Nothing} (λ s. s.steps) encodes_u64 (λ steps f.
    then (λ s. s.stream1) encodes_mark (λ stream1 f1.
    then (λ s. s.stream2) encodes_mark (λ stream2 f2.
    then (λ s. s.left) (encodes_counted after_left encodes_left None) (λ left f3.
    then (λ s. s.made) encodes_blob32 (λ made f4.
    all_read (record { steps = steps; stream1 = stream1; stream2 = stream2; left = left; made = made })
    (λ s k. λ i. record { steps = k.0.0.0.0.1 i; stream1 = k.0.0.0.1 i; stream2 = k.0.0.1 i; left = k.0.1 i; made = k.1 i }) (((((tt, refl), refl), refl), refl), refl)))))))
    (λ s f. grind (arith, append-nil))
    (λ s f. let g = f.1 in record { steps = g.0; stream1 = g.1.0; stream2 = g.1.1.0; left = g.1.1.1.0; made = g.1.1.1.1.0 })
    (λ s f. (tt, (f.steps, (f.stream1, (f.stream2, (f.left, (f.made, tt)))))))

abbrev fields_text : TextForm → SaveText → List ℕ
fields_text form save = digest_text save.recipe ++ (list_text digest_text save.inputs ++ (list_text stage_text save.stages ++ state_text_in form save.state))

encodes_fields : (form : TextForm) → Encodes (fields_at form) (fields_text form) (λ save. IsSaveText save × HasFieldIn form save.state.reservation)
unfolding fields_at
encodes_fields form =
    encodes (
    then {K = Nothing} (λ s. s.recipe) encodes_digest (λ recipe f1.
    then (λ s. s.inputs) (encodes_counted (λ input. 0) (λ (any : ℕ). encodes_digest) 0) (λ inputs f2.
    then (λ s. s.stages) (encodes_counted (λ stage. 0) encodes_stage 0) (λ stages f3.
    then (λ s. s.state) (encodes_state_in form) (λ state f4.
    all_read (record { recipe = recipe; inputs = inputs; stages = stages; state = state })
    (λ s k. λ i. record { recipe = k.0.0.0.1 i; inputs = k.0.0.1 i; stages = k.0.1 i; state = k.1 i }) ((((tt, refl), refl), refl), refl))))))
    (λ s f. grind (arith, append-nil))
    (λ s f. let g = f.1 in (record { recipe = g.0; inputs = g.1.0; stages = g.1.1.0; state = g.1.1.1.0.0 }, g.1.1.1.0.1))
    (λ s f. let t = f.0 in (tt, (t.recipe, (t.inputs, (t.stages, ((t.state, f.1), tt))))))

magic_long : (form : TextForm) → length (save_magic form) ≡ 8
magic_long First = refl
magic_long Second = refl

pub encodes_save : EncodesForms save_at save_text_in (λ form save. IsSaveText save × HasFieldIn form save.state.reservation)
unfolding save_at save_text_in
encodes_save = by_form (encodes_begun_in save_magic magic_long refl) encodes_fields

-- ---- with nothing after it

in_form : (form : TextForm) (save : SaveText) (text : List ℕ) → HasFieldIn form save.state.reservation → text ≡ save_text_in form save → IsTextOfSave save text
in_form First save text none is = inr (none, is)
in_form Second save text any is = inl is

pub formed_again : (save : SaveText) (text : List ℕ) → IsSaveText save → IsTextOfSave save text → parsed_save text ≡ Ok save
unfolding parsed_save
formed_again save text fits (inl is) = ap parsed_save is ∙ whole_again encodes_save Second save (fits, tt)
formed_again save text fits (inr old) = ap parsed_save old.1 ∙ whole_again encodes_save First save (fits, old.0)

pub encoded : (text : List ℕ) (save : SaveText) → AreBytes text → parsed_save text ≡ Ok save → IsSaveText save × IsTextOfSave save text
unfolding parsed_save
encoded text save fits is = let p = whole_takes encodes_save text save fits is in (p.1.0, in_form p.0 save text p.1.1 p.2)

pub is_found : (text : List ℕ) (r : Result Parts TextRefusal) → AreBytes text → ReadsSaveText r (parsed_save text) → IfOk r (λ p. IsSaveText (save_view p) × IsTextOfSave (save_view p) text)
is_found text (Ok p) fits given = encoded text (save_view p) fits given
is_found text (Err e) fits given = tt
