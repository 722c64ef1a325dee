use Rattle.std.proofs.Common.{◌≡◌, ◌++◌, take}
use Rattle.std.specs.List.{flat_map}
use Rattle.verify_commands.specs.Provenance.{settled_line}
use Rattle.verify_commands.proofs.provenance_texts.put_settled.Given as goal

abbrev pub invariant-loop-line : goal.invariant-loop-line
invariant-loop-line l = l.text ≡ l.fn.text ++ flat_map (settled_line l.audit.recipe.now l.audit.inputs.now l.audit.report.now) (take l.line-index l.lines)
