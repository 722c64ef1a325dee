use Rattle.std.proofs.Common.{◌<◌, ◌+◌, ◌-◌, ◌/◌, ◌^◌, arith}
use Rattle.std.proofs.lemmas.Nat.{and_mask, one_shl}
use Rattle.rv64_decode.proofs.field.bits.Goals as goal

pub returns-clause-value : goal.returns-clause-value
returns-clause-value c =
    let width = c.args.high - c.args.low + 1 in
    let small : width < 32 = omega (arith, c.requires.part) in
    rw (one_shl width 32 small) (and_mask (c.args.word / 2 ^ c.args.low) width)
