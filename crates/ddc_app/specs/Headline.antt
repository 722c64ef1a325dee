-- What a 0 of `verify RECIPE REPORT` shows. docs/reference/verify.md says the same for people. Digests are SHA-256 (FIPS 180-4).
use Rattle.std.specs.Prelude.{◌≡◌, ℕ, List}
use Rattle.ddc_base.specs.Outside.{NamedFiles}
use Rattle.sha2.specs.Sha256.{sha256}
use Rattle.recipe.specs.declared.contents.RecipeContents.{RecipeContents}
use Rattle.report.specs.declared.types.Report.{Report}
use Rattle.verifier.specs.TrueReport.{IsYes, TrueReport}
use Rattle.ddc_app.specs.Judged.{HoldsReport}

-- The report has the digest of the recipe file's bytes, and every line of it is true of the recipe and its inputs. The artefact of each
-- compared stage is the audited binary, byte for byte
pub record SaysHeadline (bytes : List ℕ) (parsed : RecipeContents) (inputs : List (List ℕ)) (made : Report) : Type 0 where
  pub named : made.recipe.0 ≡ sha256 bytes
  pub yes : IsYes parsed inputs made

-- the files hold a valid recipe, its inputs, and a valid report of which every line is true
pub record HoldsTrueReport (recipe report : List ℕ) (files : NamedFiles) : Type 0 where
  pub parsed : RecipeContents
  pub inputs : List (List ℕ)
  pub made : Report
  pub held : HoldsReport recipe report files parsed inputs made
  pub is_true : TrueReport parsed inputs made
