-- The answer to a refused save or delta; out of memory is not answered.
use Rattle.std.specs.Prelude.{◌≡◌, Result, Err}
use Rattle.audit_run.specs.declared.save.reading.SaveRefusal.{SaveRefusal}
use Rattle.audit_run.specs.declared.save.reading.SaveRefusal.TheVariants as refusal
use Rattle.audit_run.specs.declared.delta.reading.DeltaRefusal.{DeltaRefusal}
use Rattle.audit_run.specs.declared.delta.reading.DeltaRefusal.TheVariants as delta
use Rattle.command_plan.specs.declared.answer.Answer.{Answer}
use Rattle.command_plan.specs.declared.status.Status.TheVariants.{SaveRefused}
use Rattle.command_plan.specs.declared.stop.Stop.{Stop}
use Rattle.command_plan.specs.declared.stop.Stop.TheVariants as stop
use Rattle.command_plan.specs.Plan.{answers}
use Rattle.command_plan.specs.Steps.{Says}
use Rattle.audit_commands.specs.PauseTexts.{delta_refused_line, save_refused_line}

abbrev pub Refuses : SaveRefusal → Result Answer Stop → Type 0
Refuses refusal.OutOfMemory result = result ≡ Err stop.OutOfMemory
Refuses why result = Says (answers SaveRefused (save_refused_line why)) result

abbrev pub RefusesDelta : DeltaRefusal → Result Answer Stop → Type 0
RefusesDelta delta.OutOfMemory result = result ≡ Err stop.OutOfMemory
RefusesDelta why result = Says (answers SaveRefused (delta_refused_line why)) result
