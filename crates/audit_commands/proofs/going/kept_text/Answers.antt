use Rattle.audit_commands.proofs.Coming.{base_of, delta_is_kept, whole_is_kept}
use Rattle.audit_commands.proofs.going.kept_text.Goals as goal

pub returns-in-Whole : goal.returns-in-Whole
returns-in-Whole c =
    rw c.in-Whole.is (whole_is_kept c.args.audit.now.recipe c.args.audit.now.inputs c.args.audit.now.current c.save.result c.save.ensures.text)

pub returns-in-Relative : goal.returns-in-Relative
returns-in-Relative c =
    rw c.in-Relative.is
    (delta_is_kept c.args.audit.now.recipe c.args.audit.now.inputs c.args.audit.now.current c.in-Relative.base c.save_delta_of.result c.save_delta_of.ensures)

pub save_delta_of-requires-clause-base : goal.save_delta_of-requires-clause-base
save_delta_of-requires-clause-base c = base_of c.args.audit.now.recipe c.args.audit.now.inputs c.args.kept c.in-Relative.base c.in-Relative.is c.requires.keeps
