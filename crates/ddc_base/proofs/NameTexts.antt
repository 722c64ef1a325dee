-- A name is short.
use Rattle.std.proofs.Common.{ℕ, ◌≤◌, List, length, arith}
use Rattle.std.proofs.lemmas.Bool.Decides.{nat_tests}
use Rattle.ddc_base.specs.Names.{is_name, IsName}

pub fits : (text : List ℕ) → IsName text → length text ≤ 32
unfolding is_name
fits text is = grind (arith, nat_tests)
