use Rattle.std.proofs.Common.{◌≡◌, ◌≤◌, ◌+◌, length, map}
use Rattle.kaem_script.specs.Faults.{wrong_file}
use Rattle.kaem_script.specs.FilesListed.{AreNames, listed_files, named_in}
use Rattle.kaem_script.proofs.verifying.wrong_name.Given as goal

abbrev pub invariant-loop-names : goal.invariant-loop-names
invariant-loop-names l = record {
  kept : AreNames l.names;
  few : l.number + length l.names ≤ 4097;
  same : wrong_file l.number (map (named_in l.list.world) l.names) l.ahead ≡ wrong_file 1 (listed_files l.list) l.lines;
}

abbrev pub decreases-loop-names : goal.decreases-loop-names
decreases-loop-names l = length l.names
