-- What the steps after a saved state do.
use Rattle.std.specs.Prelude.{◌≡◌, ℕ, ◌<◌, Option, None, Some, Result, Ok, Err, List}
use Rattle.std.specs.Borrow.{Bor}
use Rattle.guest_run.specs.State.{GuestState}
use Rattle.audit_rules.specs.declared.cause.RunCause.{RunCause}
use Rattle.command_plan.specs.declared.answer.Answer.{Answer}
use Rattle.command_plan.specs.declared.stop.Stop.{Stop}
use Rattle.command_plan.specs.declared.stop.Stop.TheVariants as stop
use Rattle.command_plan.specs.Plan.{Plan, answers}

-- the plan continues from the present state of the guest, or it ends with an answer
abbrev pub ComesOn : ((GuestState → Plan) → Plan) → GuestState → Result (Option Answer) Stop → Type 0
ComesOn plan now (Ok None) = (next : GuestState → Plan) → plan next ≡ next now
ComesOn plan now (Ok (Some answer)) = (next : GuestState → Plan) → plan next ≡ answers answer.status answer.text
ComesOn plan now (Err ending) = ending ≡ stop.OutOfMemory

-- where it continues, the guest's steps are below the limit
abbrev pub IsBelow : ℕ → GuestState → Result (Option Answer) Stop → Type 0
IsBelow limit now (Ok None) = now.steps < limit
IsBelow limit now (Ok (Some answer)) = Unit {0}
IsBelow limit now (Err ending) = Unit {0}

-- what was left at an output, as bytes that are borrowed
abbrev pub IsLeft : Result (List ℕ) RunCause → Result (Bor (List ℕ)) RunCause → Type 0
IsLeft meant (Ok made) = meant ≡ Ok made.now
IsLeft meant (Err cause) = meant ≡ Err cause
