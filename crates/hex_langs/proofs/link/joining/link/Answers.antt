use Rattle.hex_langs.specs.Link.Link.{link_of}
use Rattle.hex_langs.proofs.LinkLemmas.Joins.{links-by, links-joined, links-passed, links-refused}
use Rattle.hex_langs.proofs.link.joining.link.Goals as goal

pub returns-in_err-table : goal.returns-in_err-table
returns-in_err-table c =
    links-passed c.in_err-table.field-0.0 c.from_residual.result (link_of c.args.items.now c.args.base) c.from_residual.ensures.1
    (links-refused c.in_err-table.field-0.0 c.args.items.now c.args.base c.in_err-table.ensures.tables)

pub returns : goal.returns
returns c = links-by c.joined.result _ _ c.joined.ensures (links-joined c.in_ok-table.table c.args.items.now c.args.base c.in_ok-table.ensures.tables)
