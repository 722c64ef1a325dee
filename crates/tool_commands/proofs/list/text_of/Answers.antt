use Rattle.std.proofs.Common.{◌≡◌, ◌+◌, ◌-◌, ◌*◌, ◌≤◌, length, arith}
use Rattle.tool_commands.proofs.Listing.{listing-turn}
use Rattle.tool_commands.proofs.list.text_of.Goals as goal

pub loop-index-preserved : goal.loop-index-preserved
loop-index-preserved c =
    let at = 4 * c.loop-index.index in
    let inside : at + 4 ≤ length c.args.bytes.now = omega arith in
    let next : 4 * (c.loop-index.index + 1) ≡ at + 4 = omega arith in
    let four : at + 4 - at ≡ 4 = omega arith in
    rw (c.in_ok-put_word.ensures, four) (listing-turn _ at _ _ _ inside next c.loop-index.invariant)
