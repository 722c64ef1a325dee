-- What the writer's calls want of states that have a patch.
use Rattle.std.proofs.Common.{ℕ, ◌^◌, ◌<◌, ◌≤◌, ◌≡◌, List, length, append_assoc, arith, pow_mono}
use Rattle.save_format.specs.PatchText.Encoded.{marks_of}
use Rattle.save_format.proofs.PatchTextLemmas.Texts.{marks_low}

pub ruleset written = append_assoc

-- marks of at most 31 registers
pub marks_fit : (base values : List ℕ) → length base ≤ 31 → marks_of base values < 2 ^ 31
marks_fit base values le =
    let top : 2 ^ length base ≤ 2 ^ 31 = pow_mono le in
    omega (arith, marks_low base values, top)

pub higher_fit : (more values : List ℕ) → length more ≤ 30 → marks_of more values < 2 ^ 30
higher_fit more values le =
    let top : 2 ^ length more ≤ 2 ^ 30 = pow_mono le in
    omega (arith, marks_low more values, top)

pub higher_is : (r : ℕ) (more values : List ℕ) → r ≡ marks_of more values → length more ≤ 30 → r < 2 ^ 30
higher_is r more values e le = omega (arith, e, higher_fit more values le)
