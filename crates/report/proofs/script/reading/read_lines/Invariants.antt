use Rattle.std.proofs.Common.{◌≤◌, ◌+◌, length}
use Rattle.report.specs.Inside.LineByLine.{HasRead}
use Rattle.report.specs.Inside.Script.Reading.{script_reader}
use Rattle.report.proofs.script.reading.read_lines.Given as goal

abbrev pub invariant-loop-rest : goal.invariant-loop-rest
invariant-loop-rest l = record {
  has_read : HasRead script_reader l.bytes l.number l.state l.rest;
  few : l.number + length l.rest ≤ length l.bytes;
}

abbrev pub decreases-loop-rest : goal.decreases-loop-rest
decreases-loop-rest l = length l.rest
