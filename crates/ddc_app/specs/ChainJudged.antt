-- On which files `chain LIST` returns 0, in terms of `verify` on the same files. docs/reference/chain.md says the same for people.
use Rattle.std.specs.Prelude.{◌≡◌, ◌≢◌, ℕ, IsTrue, All, Ok, List, [], ◌∷◌}
use Rattle.ddc_base.specs.declared.outside.Loaded.TheVariants.{Bytes}
use Rattle.ddc_base.specs.Outside.{NamedFiles, loaded}
use Rattle.ddc_base.specs.Limits.{most_audits, most_content, most_inputs, most_list, most_recipe}
use Rattle.recipe.specs.Reading.{recipe_of}
use Rattle.audit_chain.specs.declared.link.Link.{Link}
use Rattle.command_plan.specs.declared.status.Status.TheVariants.{Yes}
use Rattle.command_plan.specs.Lists.{list_of}
use Rattle.command_plan.specs.Words.{is_file_word}
use Rattle.recipe_plan.specs.Recipes.{paths}
use Rattle.verify_commands.specs.declared.pair.Pair.{Pair}
use Rattle.verify_commands.specs.Chain.{pair_of, budget_after}
use Rattle.ddc_app.specs.Accepting.{verify}
use Rattle.ddc_app.specs.Holding.{AreHeld}

-- `verify` returns 0 for the recipe and the report of a line
abbrev pub SaysYes : NamedFiles → Pair → Type 0
SaysYes files pair = (verify pair.recipe pair.report files).status ≡ Yes

-- the files hold the valid recipe of a line and its inputs, each of at most 268,435,456 bytes and all together of at most `budget`
pub record HoldsInputs (budget : ℕ) (files : NamedFiles) (pair : Pair) (link : Link) : Type 0 where
  pub recipe_bytes : List ℕ
  pub recipe_held : loaded files pair.recipe most_recipe ≡ Bytes recipe_bytes
  pub recipe_reads : recipe_of recipe_bytes ≡ Ok link.recipe
  pub inputs_held : AreHeld most_content budget files (paths link.recipe) link.inputs

-- the files hold the recipe and the inputs of each line, within what the lines before it leave of `budget`
abbrev pub AllHoldInputs : ℕ → NamedFiles → List Pair → List Link → Type 0
AllHoldInputs budget files [] [] = Unit {0}
AllHoldInputs budget files (pair ∷ pairs) (link ∷ links) =
    HoldsInputs budget files pair link × AllHoldInputs (budget_after budget link.inputs) files pairs links
AllHoldInputs budget files _ _ = ⊥

-- a word names a list, and the files hold that list, which is valid and has a line. They hold the inputs of all lines, of at most
-- 1,073,741,824 bytes together, and `verify` returns 0 for each line
pub record AllVerified (list : List ℕ) (files : NamedFiles) : Type 0 where
  pub named : IsTrue (is_file_word list)
  pub list_bytes : List ℕ
  pub list_held : loaded files list most_list ≡ Bytes list_bytes
  pub lines : List Pair
  pub list_reads : list_of pair_of most_audits list_bytes ≡ Ok lines
  pub some : lines ≢ []
  pub links : List Link
  pub inputs_held : AllHoldInputs most_inputs files lines links
  pub verified : All (SaysYes files) lines
