-- The words that commands print for the parts. docs/reference/verify.md says the same for people.
use Rattle.std.specs.Prelude.{ℕ, List, codes}
use Rattle.verifier.specs.declared.part.Part.{Part}
use Rattle.verifier.specs.declared.part.Part.TheVariants.{Header, Input, Run, Files, Assembled, Compare}

abbrev pub part_word : Part → List ℕ
part_word Header = codes "header"
part_word Input = codes "input"
part_word Run = codes "run"
part_word Files = codes "files"
part_word Assembled = codes "assembled"
part_word Compare = codes "compare"
