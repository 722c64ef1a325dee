use Rattle.std.proofs.Common.{arith}
use Rattle.audit_run.proofs.DeltaLemmas.Exactly.{is_found, is_only, is_position}
use Rattle.audit_run.proofs.delta.reading.read.Goals as goal

pub returns-clause-position : goal.returns-clause-position
returns-clause-position c =
    is_position c.args.recipe.now c.args.inputs.now c.args.base.now c.args.text.now c.judged.result c.judged.ensures.valid c.judged.ensures.resumes

pub returns-clause-found : goal.returns-clause-found
returns-clause-found c =
    is_found c.args.recipe.now c.args.inputs.now c.args.base.now c.args.text.now c.judged.result c.judged.ensures.kept c.requires (λ i. omega (arith, c.type_inv.base i)) (λ i. omega (arith, c.type_inv.text i)) c.judged.ensures.base c.judged.ensures.resumes

pub returns-clause-only : goal.returns-clause-only
returns-clause-only c = is_only c.args.recipe.now c.args.inputs.now c.args.base.now c.args.text.now c.judged.result c.judged.ensures.kept c.requires c.judged.ensures.resumes
