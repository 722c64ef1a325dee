use Rattle.std.proofs.Common.{◌≡◌, All, map, take}
use Rattle.mem_files.specs.Outputs.{IsContent}
use Rattle.audit_commands.specs.Demo.{demo_input}
use Rattle.audit_commands.proofs.demo.demo_inputs.Given as goal

-- so many inputs were given, each within its limit
abbrev pub invariant-loop-input : goal.invariant-loop-input
invariant-loop-input l =
    (l.inputs ≡ map (λ input. demo_input l.program l.source l.made input.path) (take l.input-index l.recipe.inputs)) × All IsContent l.inputs
