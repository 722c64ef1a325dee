use Rattle.std.proofs.Common.{map, length, ap, ◌∙◌, arith, take_all}
use Rattle.kaem_script.proofs.Renewing.{line_at, lines-named}
use Rattle.kaem_script.proofs.marks.listed_lines.Goals as goal

pub returns : goal.returns
returns c =
    let list = c.args.list.now in
    c.loop-name.invariant
    ∙ ap (map (line_at list.world)) (take_all c.loop-name.name-index list.names (omega (arith, c.loop-name-test.false, ap length c.names-name-items.ensures.value)))
    ∙ lines-named list.world list.names
