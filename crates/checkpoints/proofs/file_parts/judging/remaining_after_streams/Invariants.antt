use Rattle.std.proofs.Common.{◌≡◌, ◌+◌, drop, sum_by}
use Rattle.checkpoints.specs.FileParts.Inside.Judged.{stream_size}
use Rattle.checkpoints.proofs.file_parts.judging.remaining_after_streams.Given as goal

abbrev pub invariant-loop-stream : goal.invariant-loop-stream
invariant-loop-stream l = l.most + sum_by stream_size (drop l.stream-index l.streams) ≡ l.remaining + sum_by stream_size l.streams
