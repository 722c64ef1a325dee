use Rattle.std.proofs.Common.{◌≡◌, ◌++◌, map, take}
use Rattle.audit_chain.specs.Rests.Walk.{file_part}
use Rattle.audit_chain.proofs.rests.walking.push_files.Given as goal

abbrev pub invariant-loop-file : goal.invariant-loop-file
invariant-loop-file l = l.parts ≡ l.fn.parts ++ map file_part (take l.file-index l.files)
