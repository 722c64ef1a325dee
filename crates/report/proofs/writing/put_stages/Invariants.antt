use Rattle.std.specs.List.{flat_map}
use Rattle.report.specs.Reports.{stage_block}
use Rattle.report.specs.Lines.{line_words}
use Rattle.report.proofs.Written.{Writes}
use Rattle.report.proofs.writing.put_stages.Given as goal

abbrev pub invariant-loop-stage : goal.invariant-loop-stage
invariant-loop-stage l = Writes line_words (flat_map stage_block) l.fn.out l.stages l.stage-index l.out
