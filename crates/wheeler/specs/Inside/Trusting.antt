-- The programs about which assumptions are listed. To read the promises, this file is not needed.
use Rattle.std.specs.Prelude.{ℕ, Bool, List}
use Rattle.recipe.specs.declared.contents.RecipeContents.{RecipeContents}
use Rattle.wheeler.specs.declared.trusted.Trusted.{Trusted}
use Rattle.wheeler.specs.declared.trusted.Trusted.TheVariants.{OfAll, These, WithCompared}
use Rattle.wheeler.specs.Assumptions.{is_trusted}
use Rattle.wheeler.specs.Listed.{counts}
use Rattle.wheeler.specs.Routes.{is_on}

abbrev pub trusts : RecipeContents → Trusted → List ℕ → Bool
trusts recipe OfAll name = is_trusted recipe name
trusts recipe (These programs) name = is_on programs.now name
trusts recipe WithCompared name = counts recipe name
