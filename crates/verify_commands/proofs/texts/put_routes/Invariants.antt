use Rattle.std.proofs.Common.{◌≡◌, ◌++◌, take}
use Rattle.std.specs.List.{flat_map}
use Rattle.verify_commands.specs.Texts.{route_text}
use Rattle.verify_commands.proofs.texts.put_routes.Given as goal

abbrev pub invariant-loop-stage : goal.invariant-loop-stage
invariant-loop-stage l = l.text ≡ l.fn.text ++ flat_map (route_text l.recipe) (take l.stage-index l.stages)
