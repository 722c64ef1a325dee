use Rattle.std.proofs.Common.{◌≡◌, ◌++◌, take}
use Rattle.std.specs.List.{flat_map}
use Rattle.verify_commands.specs.Provenance.{source_text}
use Rattle.verify_commands.proofs.provenance_texts.put_sources.Given as goal

abbrev pub invariant-loop-source : goal.invariant-loop-source
invariant-loop-source l = l.text ≡ l.fn.text ++ flat_map (source_text l.recipe l.report l.lines) (take l.source-index l.sources)
