use Rattle.std.proofs.Common.{◌≡◌, map, take}
use Rattle.audit_rules.specs.SourceCheck.Checks.{joined_files}
use Rattle.audit_rules.specs.Contents.{content}
use Rattle.audit_rules.specs.Stages.{contents}
use Rattle.audit_run.proofs.stage.sources.joined.Given as goal

abbrev pub invariant-loop-index : goal.invariant-loop-index
invariant-loop-index l = l.text ≡ joined_files (map (content l.so_far.recipe.now (contents l.so_far.inputs.now l.so_far.done.now)) (take l.index l.names))
