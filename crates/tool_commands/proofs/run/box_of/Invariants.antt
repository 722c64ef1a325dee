use Rattle.std.proofs.Common.{◌≡◌, ◌∷◌, map, take}
use Rattle.tool_commands.specs.RunProgram.{setting_of}
use Rattle.tool_commands.proofs.run.box_of.Given as goal

abbrev pub invariant-loop-arg : goal.invariant-loop-arg
invariant-loop-arg l = l.given ≡ setting_of (l.name ∷ map (λ w. w.now) (take l.arg-index l.words))
