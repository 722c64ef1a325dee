use Rattle.std.proofs.Common.{◌≡◌, rules, w64, to_z, of_z, SFits}
use Rattle.std.proofs.lemmas.Int.{to_z-of_z}
use Rattle.rv64_decode.proofs.Decoding.{decoded-fields}
use Rattle.rv64_decode.proofs.RoundTrip.{decoded-encodable}
use Rattle.rv64_decode.proofs.reading.decode_as.Goals as goal

pub returns-clause-value : goal.returns-clause-value
returns-clause-value c =
    let fields = decoded-fields c.args.word c.args.op c.form-form.result c.requires c.form-form.ensures in
    let matches : SFits w64 c.immediate.result = search rules in
    let imm : to_z w64 (of_z w64 c.immediate.result) ≡ c.immediate.result = to_z-of_z w64 c.immediate.result matches in
    rw (fields, imm) (cc)

pub returns-clause-encodable : goal.returns-clause-encodable
returns-clause-encodable c = decoded-encodable c.args.word _ (returns-clause-value c)
