use Rattle.std.proofs.Common.{ap, ◌∙◌}
use Rattle.rv64_decode.specs.Decode.{decoded}
use Rattle.rv64_decode.proofs.RoundTrip.{joined-word, one-word-of}
use Rattle.rv64_decode.proofs.writing.encode.Goals as goal

pub joined-requires : goal.joined-requires
joined-requires c =
    (joined-word c.args.inst.now c.row-row.result c.immediate_bits.result c.row-row.ensures.table c.row-row.ensures.op c.requires c.immediate_bits.ensures).below

pub returns-clause-decodes : goal.returns-clause-decodes
returns-clause-decodes c =
    let own = joined-word c.args.inst.now c.row-row.result c.immediate_bits.result c.row-row.ensures.table c.row-row.ensures.op c.requires c.immediate_bits.ensures in
    ap decoded c.joined.ensures ∙ own.decodes

pub returns-clause-only : goal.returns-clause-only
returns-clause-only c =
    let own = joined-word c.args.inst.now c.row-row.result c.immediate_bits.result c.row-row.ensures.table c.row-row.ensures.op c.requires c.immediate_bits.ensures in
    λ word below e. c.joined.ensures ∙ one-word-of c.args.inst.now _ word own (record { below = below; decodes = e })
