-- What a verdict on a report with these compare lines shows, under a meaning of sources. docs/reference/argument.md says the same for people.
use Rattle.std.specs.Prelude.{ℕ, List}
use Rattle.recipe.specs.declared.contents.RecipeContents.{RecipeContents}
use Rattle.report.specs.declared.types.CompareLine.{CompareLine}
use Rattle.verifier.specs.declared.part.Verdict.{Verdict}
use Rattle.verifier.specs.declared.part.Verdict.TheVariants.{Yes, TrueButDiffers, Refuted, OutOfMemory}
use Rattle.wheeler.specs.Concludes.{Concludes, ConcludesYes}
use Rattle.wheeler.specs.Meaning.{Compiles, Prescribes}

abbrev pub Shows : Prescribes → Compiles → RecipeContents → List (List ℕ) → List CompareLine → Verdict → Type 0
Shows prescribes compiles recipe inputs lines Yes = ConcludesYes prescribes compiles recipe inputs
Shows prescribes compiles recipe inputs lines TrueButDiffers = Concludes prescribes compiles recipe inputs lines
Shows prescribes compiles recipe inputs lines (Refuted part place) = Unit {0}
Shows prescribes compiles recipe inputs lines (OutOfMemory stage part) = Unit {0}
