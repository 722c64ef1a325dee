use Rattle.std.proofs.Common.{◌≡◌, ◌++◌, take}
use Rattle.verify_commands.specs.Rests.{names_text}
use Rattle.verify_commands.proofs.rests.put_names.Given as goal

abbrev pub invariant-loop-name : goal.invariant-loop-name
invariant-loop-name l = l.text ≡ l.fn.text ++ names_text l.what (take l.name-index l.names)
