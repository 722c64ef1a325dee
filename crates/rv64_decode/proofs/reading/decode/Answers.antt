use Rattle.std.proofs.Common.{sym, ◌∙◌}
use Rattle.rv64_decode.proofs.Decoding.{decoded-none}
use Rattle.rv64_decode.proofs.reading.decode.Goals as goal

pub returns-in_err-op-clause-value : goal.returns-in_err-op-clause-value
returns-in_err-op-clause-value c =
    c.from_residual.ensures ∙ sym (decoded-none c.args.word (sym c.row_of.ensures ∙ c.in_err-op.was))

pub returns-clause-value : goal.returns-clause-value
returns-clause-value c = sym c.decode_as.ensures.value

pub decode_as-requires : goal.decode_as-requires
decode_as-requires c = sym c.row_of.ensures ∙ c.in_ok-op.was
