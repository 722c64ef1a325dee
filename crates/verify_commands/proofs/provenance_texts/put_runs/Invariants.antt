use Rattle.std.proofs.Common.{◌≡◌, ◌++◌, take}
use Rattle.std.specs.List.{flat_map}
use Rattle.verify_commands.specs.Provenance.{run_line}
use Rattle.verify_commands.proofs.provenance_texts.put_runs.Given as goal

abbrev pub invariant-loop-name : goal.invariant-loop-name
invariant-loop-name l = l.text ≡ l.fn.text ++ flat_map (run_line l.recipe l.report l.own) (take l.name-index l.names)
