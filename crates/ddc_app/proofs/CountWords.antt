-- The word of a number of steps is read as that number.
use Rattle.std.proofs.Common.{◌≡◌, ℕ, ◌≤◌, ◌^◌, Some, decimal, refl, ap, ◌∙◌, arith}
use Rattle.std.proofs.lemmas.Bool.Decides.{nat_tests}
use Rattle.ddc_base.proofs.Decimals.{as_decimal-is}
use Rattle.ddc_base.specs.Limits.{most_steps}
use Rattle.command_plan.specs.Words.{as_steps, within_steps}
use Rattle.ddc_app.specs.Pausing.{IsStepCount}

within : (n : ℕ) → 1 ≤ n → n ≤ most_steps → within_steps (Some n) ≡ Some n
within n some few = grind (arith, nat_tests)

pub count-again : (steps : ℕ) → IsStepCount steps → as_steps (decimal steps) ≡ Some steps
unfolding as_steps
count-again steps count =
    ap within_steps (as_decimal-is (decimal steps) steps (record { small = omega (arith, count.1); encoded = refl })) ∙ within steps count.0 count.1
