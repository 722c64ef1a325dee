-- Which assumptions the lengths and digests of a true report settle. The programs that such an assumption mentions have the length and digest of the
-- programs of their sources. docs/reference/provenance.md says the same for people.
use Rattle.std.specs.Prelude.{ℕ, ◌&&◌, Bool, false, Option, None, Some, option_and_then, List}
use Rattle.recipe.specs.declared.contents.RecipeContents.{RecipeContents}
use Rattle.recipe.specs.declared.parts.Stage.{Stage}
use Rattle.report.specs.declared.types.Mark.{Mark}
use Rattle.report.specs.declared.types.Report.{Report}
use Rattle.report.specs.Marks.{is_mark_of}
use Rattle.wheeler.specs.declared.assumption.Assumption.{Assumption}
use Rattle.wheeler.specs.declared.assumption.Assumption.TheVariants.{Implements, Compiles}
use Rattle.wheeler.specs.AllContents.{stage_named}
use Rattle.wheeler.specs.MacroAssembly.{program_of_text}
use Rattle.audit_chain.specs.declared.link.Link.{Link}
use Rattle.audit_chain.specs.Chain.{given_text_named}
use Rattle.audit_chain.specs.Provenance.{mark_named}

-- a length and a digest are those of a program, if there is a program
abbrev pub is_of_program : Mark → Option (List ℕ) → Bool
is_of_program mark None = false
is_of_program mark (Some program) = is_mark_of mark program

abbrev pub is_marked : Option Mark → Option (List ℕ) → Bool
is_marked None program = false
is_marked (Some mark) program = is_of_program mark program

-- a recipe with the contents of its inputs
abbrev pub given_audit : RecipeContents → List (List ℕ) → Link
given_audit recipe inputs = record { recipe = recipe; inputs = inputs }

-- the program of the source of a name, where all files of the source are inputs: in M1 the link of its items, and else its value
abbrev pub given_program : RecipeContents → List (List ℕ) → List ℕ → Option (List ℕ)
given_program recipe inputs source = option_and_then program_of_text (given_text_named (given_audit recipe inputs) source)

-- the report has the length and digest of that program for a name
unfoldable pub is_own_program : RecipeContents → List (List ℕ) → Report → List ℕ → List ℕ → Bool
is_own_program recipe inputs report name source = is_marked (mark_named recipe report name) (given_program recipe inputs source)

-- a stage runs the program of the former source and makes that of the latter
abbrev pub makes_own_program : RecipeContents → List (List ℕ) → Report → List ℕ → List ℕ → Option Stage → Bool
makes_own_program recipe inputs report source becomes None = false
makes_own_program recipe inputs report source becomes (Some stage) =
    is_own_program recipe inputs report stage.program source && is_own_program recipe inputs report stage.name becomes

unfoldable pub is_settled_line : RecipeContents → List (List ℕ) → Report → Assumption → Bool
is_settled_line recipe inputs report (Implements made source) = is_own_program recipe inputs report made source
is_settled_line recipe inputs report (Compiles source name becomes) =
    makes_own_program recipe inputs report source becomes (stage_named recipe.stages name)
