use Rattle.std.proofs.Common.{◌≡◌, take}
use Rattle.std.specs.List.{flat_map}
use Rattle.recipe_plan.specs.Texts.{compared_line}
use Rattle.recipe_plan.proofs.texts.compared_lines.Given as goal

abbrev pub invariant-loop-line : goal.invariant-loop-line
invariant-loop-line l = l.text ≡ flat_map compared_line (take l.line-index l.lines)
