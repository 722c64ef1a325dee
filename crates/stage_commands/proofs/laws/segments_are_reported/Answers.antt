use Rattle.stage_commands.proofs.CheckedRun.{piece_is_reported, segment_shown}
use Rattle.stage_commands.proofs.laws.segments_are_reported.Goals as goal

pub returns-clause-shown : goal.returns-clause-shown
returns-clause-shown c = λ from to files bytes. segment_shown files from to bytes

pub returns-clause-reported : goal.returns-clause-reported
returns-clause-reported c = piece_is_reported
