-- What is said of a first text.
use Rattle.std.proofs.Common.{◌≡◌, ℕ, Option, None, Some, Result, Ok, Err, List, refl, sym, ap, ◌∙◌, subst, arith}
use Rattle.ddc_base.specs.ByteLists.{AreBytes}
use Rattle.ddc_base.specs.Difference.{first_difference}
use Rattle.ddc_base.proofs.Differences.{first_difference-same}
use Rattle.guest_run.specs.Setting.{Setting}
use Rattle.guest_run.specs.Start.{start_of}
use Rattle.guest_run.specs.State.{GuestState}
use Rattle.guest_run.specs.Valid.{IsValid}
use Rattle.guest_run.proofs.Starting.{starts_are}
use Rattle.recipe.specs.declared.parts.Stage.{Stage}
use Rattle.segments.specs.Segments.{BeginsWith, IsStateOf, second_text}
use Rattle.segments.specs.declared.answers.StateFault.{StateFault}
use Rattle.command_plan.specs.Plan.{Plan}
use Rattle.command_plan.specs.Words.{usage}
use Rattle.stage_commands.specs.Ends.{needs_first, unless_other_start}
use Rattle.stage_commands.specs.States.{ReadsAs, state_parsed}
use Rattle.stage_commands.proofs.Reading.{is_read, reads}
use Rattle.stage_commands.proofs.StatesRead.{is_read_valid, no_difference, one_text}

module _ (stage : Stage) (program : List ℕ) (setting : Setting) (text : List ℕ) where
  pub first_reported : (next : Plan) → BeginsWith program setting text → needs_first stage (start_of program setting) (state_parsed text) next ≡ next
  first_reported next b =
      (λ i. needs_first stage (b.starts i) (is_read text (Ok b.guest) b.is i) next)
      ∙ ap (λ difference. unless_other_start difference next) (first_difference-same (second_text b.guest))

  pub first_shown : (begun : GuestState) → start_of program setting ≡ Ok begun → IsValid begun → AreBytes text
      → ((next : Plan) → needs_first stage (start_of program setting) (state_parsed text) next ≡ next) → BeginsWith program setting text
  first_shown begun starts valid bytes goes =
      by (state_parsed text) (reads text) (ap (λ s. needs_first stage s (state_parsed text) usage) (sym starts) ∙ goes usage) where
        by_difference : (parsed : GuestState) → IsStateOf text parsed → (d : Option ℕ) → first_difference (second_text begun) (second_text parsed) ≡ d
            → unless_other_start d usage ≡ usage → BeginsWith program setting text
        by_difference parsed is None none on =
            let fresh : begun.steps ≡ 0 = starts_are program setting begun starts in
            let same : begun ≡ parsed =
            one_text begun parsed (record { valid = valid; small = omega (arith, fresh) }) (is_read_valid text parsed bytes is) (no_difference (second_text begun) (second_text parsed) none) in
            record { guest = begun; starts = starts; is = subst (IsStateOf text) (sym same) is }
        by_difference parsed is (Some offset) differs on = absurd cc

        by : (r : Result GuestState StateFault) → ReadsAs text r → needs_first stage (Ok begun) r usage ≡ usage → BeginsWith program setting text
        by (Err why) is on = absurd cc
        by (Ok parsed) is on = by_difference parsed is (first_difference (second_text begun) (second_text parsed)) refl on
