-- Lines that a comparison of bytes settles. docs/reference/argument.md says the same for people.
use Rattle.std.specs.Prelude.{◌≡◌, ℕ, IfSome, Some, List}
use Rattle.recipe.specs.declared.contents.RecipeContents.{RecipeContents}
use Rattle.recipe.specs.declared.parts.Stage.{Stage}
use Rattle.audit_rules.specs.Contents.{Contents, SourceText, content}
use Rattle.wheeler.specs.declared.assumption.Assumption.{Assumption}
use Rattle.wheeler.specs.declared.assumption.Assumption.TheVariants as line
use Rattle.wheeler.specs.AllContents.{stage_named, text_named}
use Rattle.wheeler.specs.MacroAssembly.{program_of_text}
use Rattle.wheeler.specs.Meaning.{Implements, Prescribes}

-- of a semantics: the program of a source of hex0, hex1, hex2 or M1 implements that source
abbrev pub KnowsMacroCode : Prescribes → Type 0
KnowsMacroCode prescribes = (source : SourceText) (program : List ℕ) → program_of_text source ≡ Some program → Implements prescribes program source

-- the bytes of this name are the program of this source, byte for byte
abbrev pub IsOwnProgram : RecipeContents → Contents → List ℕ → List ℕ → Type 0
IsOwnProgram recipe all name source = program_of_text (text_named recipe all source) ≡ Some (content recipe all name)

-- a stage runs the program of the former source and makes that of the latter
pub record MakesOwnProgram (recipe : RecipeContents) (all : Contents) (source becomes : List ℕ) (stage : Stage) : Type 0 where
  pub runs : IsOwnProgram recipe all stage.program source
  pub makes : IsOwnProgram recipe all stage.name becomes

-- a line that is settled: the program is that of its source; or the stage runs the program of its program's source, and makes that of its own
abbrev pub IsSettledLine : RecipeContents → Contents → Assumption → Type 0
IsSettledLine recipe all (line.Implements name source) = IsOwnProgram recipe all name source
IsSettledLine recipe all (line.Compiles source name becomes) = IfSome (stage_named recipe.stages name) (MakesOwnProgram recipe all source becomes)
