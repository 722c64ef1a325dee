use Rattle.wheeler.proofs.Directions.{concludes-law}
use Rattle.wheeler.proofs.laws.the_bench_concludes.Goals as goal

pub returns : goal.returns
returns g c =
    concludes-law g.M.Meaning.prescribes g.M.Meaning.compiles
    (record { fixed = g.M.Meaning.fixed; carry = g.M.Meaning.carry; literal = g.M.Meaning.literal })
