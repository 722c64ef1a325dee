use Rattle.std.proofs.Common.{◌≡◌, ◌++◌, ◌∷◌, take}
use Rattle.std.specs.List.{flat_map}
use Rattle.command_plan.specs.Causes.Texts.{hex_address}
use Rattle.step_debug.proofs.replies.put_values.Given as goal

-- the values so far were added
abbrev pub invariant-loop-value : goal.invariant-loop-value
invariant-loop-value l = l.text ≡ l.fn.text ++ flat_map (λ value. 32 ∷ hex_address value) (take l.value-index l.fn.values)
