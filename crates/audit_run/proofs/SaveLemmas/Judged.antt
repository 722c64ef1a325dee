-- A stage that is done, by its tests.
use Rattle.std.proofs.Common.{◌≡◌, ℕ, ◌≤◌, Option, List, [], ◌∷◌, length, All, IsTrue, refl, sym, subst}
use Rattle.ddc_base.specs.Limits.{most_names}
use Rattle.save_format.specs.ByteFields.Spelling.{InTurn}
use Rattle.mem_files.specs.Outputs.{IsContent}
use Rattle.recipe.specs.declared.parts.Stage.{Stage}
use Rattle.report.specs.declared.types.LeftLine.{LeftLine}
use Rattle.report.specs.Reports.{ascend}
use Rattle.save_format.specs.SaveText.{after_left}
use Rattle.save_format.specs.Encoded.{IsSavedLeft}
use Rattle.audit_rules.specs.declared.answer.Finished.{Finished}
use Rattle.audit_rules.specs.Valid.{HasMark, IsFinished, IsLeftLine, IsSmallMark}

-- names that follow one another in a text ascend
pub ascending : (files : List LeftLine) (last : Option (List ℕ)) → InTurn IsSavedLeft after_left last files → IsTrue (ascend files)
ascending [] last turn = refl
ascending (f ∷ []) last turn = refl
ascending (f ∷ (g ∷ files)) last turn = let rest = ascending (g ∷ files) (after_left f) turn.1 in rw turn.1.0.following rest

pub is_done : (stage : Stage) (f g : Finished) (left : List LeftLine) (made : List ℕ) → g ≡ f → left ≡ g.left → made ≡ f.made → (1 ≤ g.steps) × (g.steps ≤ stage.steps) → IsSmallMark g.stream1 → IsSmallMark g.stream2
    → All IsLeftLine left × (length left ≤ most_names) × IsTrue (ascend left) → IsContent made → HasMark stage.output f → IsFinished stage f
is_done stage f g left made same left_is made_is steps stream1 stream2 files content output =
    subst (IsFinished stage) same
    (record {
      some_steps = steps.0;
      few_steps = steps.1;
      stream1 = stream1;
      stream2 = stream2;
      each_left = subst (All IsLeftLine) left_is files.0;
      few_left = subst (λ (ls : List LeftLine). length ls ≤ most_names) left_is files.1;
      ascending = subst (λ (ls : List LeftLine). IsTrue (ascend ls)) left_is files.2;
      made = subst (λ (h : Finished). IsContent h.made) (sym same) (subst IsContent made_is content);
      output = subst (HasMark stage.output) (sym same) output;
    })
