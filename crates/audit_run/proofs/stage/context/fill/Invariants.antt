use Rattle.std.proofs.Common.{◌≡◌, [], take}
use Rattle.std.specs.FinMap as finite
use Rattle.std.specs.List.{fold}
use Rattle.audit_rules.specs.Contents.{with_stage_file}
use Rattle.audit_rules.specs.Stages.{contents}
use Rattle.audit_run.proofs.stage.context.fill.Given as goal

abbrev pub invariant-loop-text : goal.invariant-loop-text
invariant-loop-text l = l.context ≡ record { args = take l.text-index l.stage.args; env = []; files = finite.empty; heap = l.stage.heap }

abbrev pub invariant-loop-text-2 : goal.invariant-loop-text-2
invariant-loop-text-2 l = l.context ≡ record { args = l.stage.args; env = take l.text-index l.stage.env; files = finite.empty; heap = l.stage.heap }

abbrev pub invariant-loop-file : goal.invariant-loop-file
invariant-loop-file l = l.context ≡ record {
  args = l.stage.args;
  env = l.stage.env;
  files = fold (with_stage_file l.recipe (contents l.inputs l.done)) finite.empty (take l.file-index l.stage.files);
  heap = l.stage.heap;
}
