use Rattle.std.proofs.Common.{arith}
use Rattle.report.specs.Inside.Script.Reading.{script_reader}
use Rattle.report.proofs.LineByLine.Readings.{hands_line, reads_no_further}
use Rattle.report.proofs.ScriptLemmas.Readings.{script_rules}
use Rattle.report.proofs.LineByLine.Turns.{has_read_first, has_read_more, stops_at_step}
use Rattle.report.proofs.script.reading.read_lines.Goals as goal

pub loop-rest-init : goal.loop-rest-init
loop-rest-init c = record { has_read = has_read_first script_reader c.args.bytes.now; few = omega arith }

pub loop-rest-preserved : goal.loop-rest-preserved
loop-rest-preserved c = record {
  has_read = has_read_more script_reader c.args.bytes.now c.loop-rest.number c.loop-rest.state c.loop-rest.rest.now c.in_ok-line.line c.in_ok-line.after.now c.in-Some.next
      c.loop-rest.invariant.has_read c.in_ok-line.ensures.value (rw c.in-Some.is at c.in_ok-next.ensures);
  few = omega (arith, c.in_ok-line.ensures.shorter, c.loop-rest.invariant.few);
}

pub returns-in_default : goal.returns-in_default
returns-in_default c =
    reads_no_further script_rules _ _ (stops_at_step script_reader c.args.bytes.now c.loop-rest.number c.loop-rest.state c.loop-rest.rest.now c.is_empty.result c.in_ok-line.line c.in_ok-line.after.now c.in_ok-next.field-0
    c.is_empty.ensures c.loop-rest-test.true c.loop-rest.invariant.has_read c.in_ok-line.ensures.value
    c.in_ok-next.ensures c.in_default.not-Some)

pub returns-in_err-line : goal.returns-in_err-line
returns-in_err-line c =
    hands_line script_rules c.args.bytes.now c.loop-rest.number c.loop-rest.state c.loop-rest.rest.now c.is_empty.result _ c.is_empty.ensures c.loop-rest-test.true
    c.loop-rest.invariant.has_read c.in_err-line.ensures.refused _ c.from_residual.ensures.1
