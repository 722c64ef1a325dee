use Rattle.std.proofs.Common.{ℕ, List, Ok, subst}
use Rattle.audit_run.specs.Save.Saves.{Resumes, save_of}
use Rattle.save_format.specs.Encoded.{IsTextOfSave}
use Rattle.audit_run.proofs.audit.Audit.resume.Goals as goal

pub returns-clause-found : goal.returns-clause-found
returns-clause-found c = (
  c.in_ok-position.position,
  c.phase_at.ensures,
  c.in_ok-position.ensures.position,
  subst (λ (inputs : List (List ℕ)). IsTextOfSave (save_of c.args.recipe inputs c.in_ok-position.position) c.args.text.now) c.as_slice.ensures c.in_ok-position.ensures.found,
)

pub returns-clause-exact : goal.returns-clause-exact
returns-clause-exact c = (
  c.in_ok-position.position,
  c.phase_at.ensures,
  subst (λ (inputs : List (List ℕ)). Resumes c.args.recipe inputs c.args.text.now (Ok c.in_ok-position.position)) c.as_slice.ensures c.in_ok-position.ensures.exact,
)
