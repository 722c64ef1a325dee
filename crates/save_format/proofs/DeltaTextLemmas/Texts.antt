-- A delta relative to its base: what is read is spelled so, and what is spelled so is read.
use Rattle.std.proofs.Common.{◌≡◌, ℕ, List, [], ◌∷◌, ◌++◌, All, Result, Ok, Err, refl, ap}
use Rattle.std.proofs.lemmas.List.{append-nil}
use Rattle.std.proofs.lemmas.List.Elements.{All-cons, All-nil}
use Rattle.save_format.specs.ByteFields.Spelling.{InTurn}
use Rattle.save_format.proofs.ByteFieldsLemmas.Encodes.{AreBytes, Nothing, Encodes, all_read, one_form, encodes, encodes_begun, then, whole_again, whole_takes}
use Rattle.save_format.specs.SaveText.{SaveText, StageText}
use Rattle.save_format.specs.Encoded.{IsStageText, digest_text}
use Rattle.save_format.specs.Encoded as save
use Rattle.save_format.proofs.Texts.{encodes_digest}
use Rattle.save_format.specs.PatchText.Encoded as patch
use Rattle.save_format.proofs.PatchTextLemmas.Texts.{encodes_patch}
use Rattle.save_format.specs.DeltaText.DeltaText.{DeltaText, IsDelta, delta_at, parsed_delta, delta_magic, text_of_delta}
use Rattle.std.specs.Prelude.{IfOk}
use Rattle.std.proofs.Common.{◌∙◌}
use Rattle.save_format.specs.DeltaText.Seen.{ReadsDeltaText, delta_view}
use Rattle.save_format.specs.DeltaText.Stages.{stages_relative_text}
use Rattle.save_format.specs.declared.byte_fields.form.TextForm.TheVariants.{First}
use Rattle.save_format.specs.declared.delta_text.parts.DeltaParts.{DeltaParts}
use Rattle.save_format.specs.declared.state_text.reading.TextRefusal.{TextRefusal}
use Rattle.save_format.proofs.DeltaTextLemmas.Stages.{encodes_stages}

all_of : (any : ℕ) (stages : List StageText) → InTurn (λ (any : ℕ). IsStageText) (λ stage. 0) any stages → All IsStageText stages
all_of any [] turn = All-nil IsStageText
all_of any (stage ∷ stages) turn = All-cons IsStageText stage stages turn.0 (all_of 0 stages turn.1)

pub encodes_delta : (base : SaveText) → save.IsSaveText base → Encodes (delta_at base) (text_of_delta base) (IsDelta base)
unfolding delta_at
encodes_delta base is =
    encodes (
    then {K = Nothing} (λ d. tt) (encodes_begun delta_magic refl) (λ begun f0.
    then (λ d. d.base) encodes_digest (λ digest f1.
    then (λ d. d.stages) (encodes_stages base.stages (all_of 0 base.stages is.stages.1)) (λ stages f2.
    then (λ d. d.state) (encodes_patch base.state is.state) (λ state f3.
    all_read (record { base = digest; stages = stages; state = state })
    (λ d k. λ i. record { base = k.0.0.1 i; stages = k.0.1 i; state = k.1 i }) ((((tt, refl), refl), refl), refl))))))
    (λ d f. ap (λ (v : List ℕ). delta_magic ++ (digest_text d.base ++ (stages_relative_text base.stages d.stages ++ v))) (append-nil (patch.text_of_patch base.state d.state)))
    (λ d f. record { digest = f.1.1.0; stages = f.1.1.1.0; state = f.1.1.1.1.0 })
    (λ d f. (tt, (tt, (f.digest, (f.stages, (f.state, tt))))))

-- ---- with nothing after it

pub parsed_again : (base : SaveText) (d : DeltaText) (text : List ℕ) → save.IsSaveText base → IsDelta base d → text ≡ text_of_delta base d → parsed_delta base text ≡ Ok d
unfolding parsed_delta
parsed_again base d text is fits e = ap (parsed_delta base) e ∙ whole_again (one_form (encodes_delta base is)) First d fits

pub parsed_takes : (base : SaveText) (text : List ℕ) (d : DeltaText) → save.IsSaveText base → AreBytes text → parsed_delta base text ≡ Ok d → IsDelta base d × (text ≡ text_of_delta base d)
unfolding parsed_delta
parsed_takes base text d is fits e = let p = whole_takes (one_form (encodes_delta base is)) text d fits e in (p.1, p.2)

pub is_found : (base : SaveText) (text : List ℕ) (r : Result DeltaParts TextRefusal) → save.IsSaveText base → AreBytes text → ReadsDeltaText r (parsed_delta base text) → IfOk r (λ p. IsDelta base (delta_view p) × (text ≡ text_of_delta base (delta_view p)))
is_found base text (Ok p) is fits given = parsed_takes base text (delta_view p) is fits given
is_found base text (Err e) is fits given = tt
