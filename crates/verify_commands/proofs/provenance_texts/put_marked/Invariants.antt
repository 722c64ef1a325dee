use Rattle.std.proofs.Common.{◌≡◌, ◌++◌, take}
use Rattle.verify_commands.specs.Provenance.{marked_text}
use Rattle.verify_commands.proofs.provenance_texts.put_marked.Given as goal

abbrev pub invariant-loop-name : goal.invariant-loop-name
invariant-loop-name l = l.text ≡ l.fn.text ++ marked_text l.recipe l.report l.what (take l.name-index l.names)
