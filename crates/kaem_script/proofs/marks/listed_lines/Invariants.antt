use Rattle.std.proofs.Common.{◌≡◌, map, take}
use Rattle.kaem_script.proofs.Renewing.{line_at}
use Rattle.kaem_script.proofs.marks.listed_lines.Given as goal

abbrev pub invariant-loop-name : goal.invariant-loop-name
invariant-loop-name l = l.lines ≡ map (line_at l.list.world) (take l.name-index l.list.names)
