use Rattle.wheeler.proofs.ListedLines.{listed-law}
use Rattle.wheeler.proofs.laws.an_equal_bench_concludes.Goals as goal

pub returns : goal.returns
returns g c =
    listed-law g.M.Meaning.prescribes g.M.Meaning.compiles
    (record { fixed = g.M.Meaning.fixed; carry = g.M.Meaning.carry; literal = g.M.Meaning.literal })
