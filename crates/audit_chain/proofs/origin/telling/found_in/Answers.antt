use Rattle.std.proofs.Common.{filter_map, ap, ◌∙◌}
use Rattle.audit_chain.specs.declared.origin.meeting.Meeting.TheVariants.{Read, Run}
use Rattle.audit_chain.specs.Provenance.{audited_met, audited_input, audited_stage, run_input_name, programs, same_artefacts}
use Rattle.audit_chain.proofs.origin.telling.found_in.Goals as goal

pub returns-clause-programs : goal.returns-clause-programs
unfolding programs
returns-clause-programs c = c.in_ok-programs.ensures ∙ ap (λ parts. filter_map (run_input_name parts) c.args.recipe.now.inputs) c.requires

pub returns-clause-audited_read : goal.returns-clause-audited_read
unfolding audited_met
returns-clause-audited_read c =
    c.in_ok-audited_read.ensures ∙ ap (λ parts. filter_map (audited_input c.args.recipe.now c.args.report.now Read parts c.args.name.now) c.args.recipe.now.inputs) c.requires

pub returns-clause-audited_run : goal.returns-clause-audited_run
unfolding audited_met
returns-clause-audited_run c =
    c.in_ok-audited_run.ensures ∙ ap (λ parts. filter_map (audited_input c.args.recipe.now c.args.report.now Run parts c.args.name.now) c.args.recipe.now.inputs) c.requires

pub returns-clause-same_read : goal.returns-clause-same_read
unfolding same_artefacts
returns-clause-same_read c =
    c.in_ok-same_read.ensures ∙ ap (λ parts. filter_map (audited_stage c.args.recipe.now c.args.report.now Read parts c.args.name.now) c.args.recipe.now.stages) c.requires

pub returns-clause-same_run : goal.returns-clause-same_run
unfolding same_artefacts
returns-clause-same_run c =
    c.in_ok-same_run.ensures ∙ ap (λ parts. filter_map (audited_stage c.args.recipe.now c.args.report.now Run parts c.args.name.now) c.args.recipe.now.stages) c.requires
