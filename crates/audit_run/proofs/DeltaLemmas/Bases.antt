-- A base at hand, by its form and its stages.
use Rattle.std.proofs.Common.{◌≡◌, ℕ, ◌==◌, ◌<◌, ◌^◌, Bool, true, false, List, [], ◌∷◌, length, map, All, IsTrue, inl, inr, refl, sym, ap, ◌∙◌, arith}
use Rattle.std.specs.List.{starts_with}
use Rattle.std.proofs.lemmas.List.{length-map}
use Rattle.std.proofs.lemmas.List.Elements.{All-cons, All-head, All-nil, All-tail}
use Rattle.save_format.specs.declared.byte_fields.form.TextForm.TheVariants.{Second}
use Rattle.save_format.specs.declared.parts.StagePart.{StagePart}
use Rattle.save_format.specs.SaveText.{SaveText, save_magic}
use Rattle.save_format.specs.Seen.{stage_view}
use Rattle.save_format.specs.Encoded.{IsShortStage, IsStageText, IsTextOfSave, old_text_of_save, save_text_in, text_of_save}
use Rattle.save_format.proofs.Written.{is_short}

-- an old text begins with another magic
old_begins : (save : SaveText) → starts_with ◌==◌ (old_text_of_save save) (save_magic Second) ≡ false
unfolding save_text_in
old_begins save = refl

pub is_second : (save : SaveText) (base : List ℕ) (result : Bool) → result ≡ starts_with ◌==◌ base (save_magic Second) → IsTrue result → IsTextOfSave save base → base ≡ text_of_save save
is_second save base result begins is (inl new) = new
is_second save base result begins is (inr old) =
    let none : true ≡ false = sym is ∙ begins ∙ ap (λ (text : List ℕ). starts_with ◌==◌ text (save_magic Second)) old.1 ∙ old_begins save in
    absurd cc

pub short_parts : (parts : List StagePart) → All IsStageText (map stage_view parts) → All (λ part. IsShortStage (stage_view part)) parts
short_parts [] all = All-nil (λ (part : StagePart). IsShortStage (stage_view part))
short_parts (part ∷ parts) all =
    All-cons (λ (part : StagePart). IsShortStage (stage_view part)) part parts (is_short (stage_view part) (All-head IsStageText (stage_view part) (map stage_view parts) all))
    (short_parts parts (All-tail IsStageText (stage_view part) (map stage_view parts) all))

pub few_parts : (parts : List StagePart) → length (map stage_view parts) < 2 ^ 32 → length parts < 2 ^ 32
few_parts parts few = omega (arith, few, length-map parts stage_view)
