use Rattle.std.proofs.Common.{sym}
use Rattle.audit_run.proofs.DeltaLemmas.Writing.{base_saved}
use Rattle.audit_run.proofs.audit.Audit.save.Goals as goal

pub returns-clause-base : goal.returns-clause-base
returns-clause-base c =
    base_saved c.args.self.now c.self.inside.recipe c.self.inside.inputs c.as_slice.result.now c.self.inside.course.done.items c.as_slice-in-Running.result.now c.self.inside.course.phase c.in-Running.guest c.write.result
    (sym c.self.view_is) c.in-Running.is c.self.invariant.phase c.as_slice.ensures c.as_slice-in-Running.ensures.value c.write.ensures
