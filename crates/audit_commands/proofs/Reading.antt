-- What a text is as a save is what was read of it, where memory was not wanting.
use Rattle.std.proofs.Common.{◌≢◌, ℕ, List, Ok, Err}
use Rattle.ddc_base.specs.Outside.{ShelfState}
use Rattle.recipe.specs.declared.contents.RecipeContents.{RecipeContents}
use Rattle.audit_run.specs.declared.save.reading.SaveRefusal.{SaveRefusal}
use Rattle.audit_run.specs.declared.save.reading.SaveRefusal.TheVariants.{Form, OtherRecipe, State, OutOfMemory}
use Rattle.audit_run.proofs.SaveLemmas.Answered.{is_answer}
use Rattle.audit_run.specs.Saved.{ResumesAudit, phase_at}
use Rattle.audit_run.specs.Seen.{AuditState}
use Rattle.command_plan.specs.declared.answer.Answer.{Answer}
use Rattle.command_plan.specs.declared.stop.Stop.{Stop}
use Rattle.command_plan.specs.declared.stop.Stop.TheVariants as stop
use Rattle.command_plan.specs.declared.status.Status.TheVariants.{SaveRefused}
use Rattle.command_plan.specs.Plan.{Plan, answers}
use Rattle.command_plan.specs.Steps.{Obtains, Says}
use Rattle.command_plan.proofs.Obtaining as step
use Rattle.audit_commands.specs.Inside.Refusing.{Refuses}
use Rattle.audit_commands.specs.Pause.{needs_position, read_as}
use Rattle.audit_commands.specs.PauseTexts.{save_refused_line}

module _ (recipe : RecipeContents) (inputs : List (List ℕ)) (text : List ℕ) (shelf : ShelfState) where
  -- the plan of a save that is read, as one over audits
  abbrev pub needs_audit : (AuditState → Plan) → Plan
  needs_audit next = needs_position recipe inputs text (λ p. next (phase_at recipe inputs p))

  abbrev refuse : SaveRefusal → Plan
  refuse refusal = answers SaveRefused (save_refused_line refusal)

  -- the audit goes on from the position that was read
  pub goes_on : (audit : AuditState) → ResumesAudit recipe inputs text (Ok audit) → Obtains needs_audit shelf shelf (Ok audit)
  unfolding read_as
  goes_on audit r = step.reads (read_as recipe inputs text) refuse (phase_at recipe inputs) shelf r.0 audit (is_answer recipe inputs text (Ok r.0) r.2 (λ same. cc)) r.1

  -- a refusal that is the file's own is said
  refused : (refusal : SaveRefusal) (answer : Answer) → refusal ≢ OutOfMemory → ResumesAudit recipe inputs text (Err refusal)
      → Says (refuse refusal) (Ok answer) → Obtains needs_audit shelf shelf (Err (stop.Answered answer))
  unfolding read_as
  refused refusal answer other r answered =
      step.refuses (read_as recipe inputs text) refuse (phase_at recipe inputs) shelf refusal answer (is_answer recipe inputs text (Err refusal) r (λ wants. other cc)) answered.by_result

  pub refuses : (refusal : SaveRefusal) (answer : Answer) → ResumesAudit recipe inputs text (Err refusal) → Refuses refusal (Ok answer)
      → Obtains needs_audit shelf shelf (Err (stop.Answered answer))
  refuses OutOfMemory answer r answered = absurd cc
  refuses (Form offset) answer r answered = refused (Form offset) answer (λ same. cc) r answered
  refuses OtherRecipe answer r answered = refused OtherRecipe answer (λ same. cc) r answered
  refuses State answer r answered = refused State answer (λ same. cc) r answered

  pub wants : (refusal : SaveRefusal) (ending : Stop) → Refuses refusal (Err ending) → Obtains needs_audit shelf shelf (Err ending)
  wants OutOfMemory ending answered = step.wants_as needs_audit shelf ending cc
  wants (Form offset) ending answered = step.wants_as needs_audit shelf ending answered.by_result
  wants OtherRecipe ending answered = step.wants_as needs_audit shelf ending answered.by_result
  wants State ending answered = step.wants_as needs_audit shelf ending answered.by_result
