-- What a true report says, clause by clause. docs/reference/verify.md says the same for people. Digests are SHA-256 (FIPS 180-4).
use Rattle.std.specs.Prelude.{◌≡◌, ℕ, ◌+◌, ◌≤◌, All, Some, Ok, List, [], ◌∷◌, length, map}
use Rattle.std.specs.List.{AllZip}
use Rattle.sha2.specs.Sha256.{sha256}
use Rattle.ddc_base.specs.Difference.{IsFirstDifference}
use Rattle.ddc_base.specs.declared.languages.Language.{Language}
use Rattle.ddc_base.specs.declared.languages.Language.TheVariants.{Hex0, Hex1, Hex2, M1}
use Rattle.ddc_base.specs.Limits.{most_artefacts}
use Rattle.hex_langs.specs.declared.items.item.Item.{Item}
use Rattle.hex_langs.specs.declared.items.token.Dialect.TheVariants as dialect
use Rattle.hex_langs.specs.Items.Reading.{items_of}
use Rattle.hex_langs.specs.declared.link.values.HexLanguage.TheVariants as hex
use Rattle.hex_langs.specs.Link.Values.{value_of}
use Rattle.m1_lang.specs.Expansion.{expansion_of}
use Rattle.mem_files.specs.World.{World}
use Rattle.mem_files.specs.Outputs.{left, out}
use Rattle.guest_run.specs.Program.{ProgramRun}
use Rattle.recipe.specs.declared.contents.RecipeContents.{RecipeContents}
use Rattle.recipe.specs.declared.parts.Input.{Input}
use Rattle.recipe.specs.declared.parts.Source.{Source}
use Rattle.recipe.specs.declared.parts.SourceLanguage.TheVariants.{Defined}
use Rattle.recipe.specs.declared.parts.Stage.{Stage}
use Rattle.recipe.specs.Lookups.{source_named}
use Rattle.report.specs.declared.types.CompareLine.{CompareLine}
use Rattle.report.specs.declared.types.Compared.{Compared}
use Rattle.report.specs.declared.types.Compared.TheVariants.{Equal, Differs}
use Rattle.report.specs.declared.types.InputLine.{InputLine}
use Rattle.report.specs.declared.types.LeftLine.{LeftLine}
use Rattle.report.specs.declared.types.Mark.{Mark}
use Rattle.report.specs.declared.types.Report.{Report}
use Rattle.report.specs.declared.types.StageLine.{StageLine}
use Rattle.audit_rules.specs.Contents.{Contents, box_of, check_language, content, program_of}
use Rattle.audit_rules.specs.SourceCheck.Checks.{joined_files}
use Rattle.audit_rules.specs.Stages.{output_of}
use Rattle.verifier.specs.Faults.{size_of, with_artefact}

-- a length and a digest are those of these bytes
pub record Marks (mark : Mark) (bytes : List ℕ) : Type 0 where
  pub count : mark.length ≡ length bytes
  pub digest : mark.digest.0 ≡ sha256 bytes

-- ---- inputs

-- an input's line has the input's name, and the length and digest of the bytes that were given for it
pub record IsTrueInput (input : Input) (bytes : List ℕ) (line : InputLine) : Type 0 where
  pub name : line.name ≡ input.name
  pub mark : Marks line.mark bytes

-- the lines are one for each input, in order
abbrev pub AreTrueInputs : List Input → List (List ℕ) → List InputLine → Type 0
AreTrueInputs [] [] [] = Unit {0}
AreTrueInputs (input ∷ rest) (bytes ∷ inputs) (line ∷ lines) = IsTrueInput input bytes line × AreTrueInputs rest inputs lines
AreTrueInputs _ _ _ = ⊥

-- ---- stages

-- `made` is a text of hex2 with exactly the items to which `text`, in M1, expands; its blanks and comments are free
pub record HasItems (text made : List ℕ) : Type 0 where
  pub items : List Item
  pub expands : expansion_of text ≡ Ok items
  pub reads : items_of dialect.Hex2 made ≡ Ok items

-- what a text in a language may make at a base address: in hex0, hex1 and hex2 the text's value alone; in M1 any text of hex2 with its items
abbrev pub Denotes : Language → ℕ → List ℕ → List ℕ → Type 0
Denotes Hex0 base text made = value_of hex.Hex0 base text ≡ Ok made
Denotes Hex1 base text made = value_of hex.Hex1 base text ≡ Ok made
Denotes Hex2 base text made = value_of hex.Hex2 base text ≡ Ok made
Denotes M1 base text made = HasItems text made

-- the source that a check names exists and is in a defined language, and its files, joined by an LF, stand for the artefact
pub record IsOfSource (recipe : RecipeContents) (before : Contents) (name made : List ℕ) : Type 0 where
  pub source : Source
  pub found : source_named recipe.sources name ≡ Some source
  pub language : Language
  pub defined : source.lang ≡ Defined language
  pub value : Denotes language source.base (joined_files (map (content recipe before) source.files)) made

-- a file's line has the file's name, and the length and digest of its content
pub record IsTrueFile (line : LeftLine) (file : List ℕ × List ℕ) : Type 0 where
  pub name : line.name ≡ file.0
  pub mark : Marks line.mark file.1

-- the line of a stage, given the inputs and the artefacts of the stages before it. The stage's program, run in the stage's execution context, first
-- exits at the recorded step, with status 0 and within the stage's limit. It leaves the recorded streams and exactly the recorded files, by name,
-- length and digest. The artefact is what it leaves at the stage's output, of the recorded length and digest; the artefact of a checked stage is what
-- the check's source stands for
pub record IsTrueStage (recipe : RecipeContents) (before : Contents) (stage : Stage) (line : StageLine) (made : List ℕ) : Type 0 where
  pub name : line.name ≡ stage.name
  pub world : World
  pub run : ProgramRun (program_of recipe before stage) (box_of recipe before stage) line.steps 0 world
  pub within : line.steps ≤ stage.steps
  pub stream1 : Marks line.stream1 world.stream1
  pub stream2 : Marks line.stream2 world.stream2
  pub files : AllZip IsTrueFile line.left (left world)
  pub artefact : out world (output_of stage.output) ≡ Some made
  pub mark : Marks line.made made
  pub together : size_of before + length made ≤ most_artefacts
  pub language : line.checked ≡ check_language recipe stage
  pub checked : (name : List ℕ) → stage.check ≡ Some name → IsOfSource recipe before name made

-- the lines are one for each stage, in order; a stage sees the artefacts of the stages before it, and `all` has those of all stages
abbrev pub AreTrueStages : RecipeContents → Contents → List Stage → List StageLine → Contents → Type 0
AreTrueStages recipe before [] [] all = all ≡ before
AreTrueStages recipe before (stage ∷ stages) (line ∷ lines) all =
    (made : List ℕ) × IsTrueStage recipe before stage line made × AreTrueStages recipe (with_artefact before made) stages lines all
AreTrueStages recipe before _ _ all = ⊥

-- ---- comparisons

-- an artefact and the audited binary are the same bytes, and have this length; or they first differ at this offset, and have these lengths
abbrev pub Compares : Compared → List ℕ → List ℕ → Type 0
Compares (Equal count) made binary = (made ≡ binary) × (count ≡ length made)
Compares (Differs offset ours theirs) made binary = IsFirstDifference made binary offset × (ours ≡ length made) × (theirs ≡ length binary)

pub record IsTrueCompare (recipe : RecipeContents) (all : Contents) (stage : List ℕ) (line : CompareLine) : Type 0 where
  pub name : line.stage ≡ stage
  pub audited : line.binary ≡ recipe.compare.binary
  pub says : Compares line.result (content recipe all stage) (content recipe all recipe.compare.binary)

-- ---- the report

-- every line of a report is true: the recipe's digest; the name, length and digest of each input; the line of each stage, given the artefacts before it;
-- and each comparison, given all artefacts
pub record TrueReport (recipe : RecipeContents) (inputs : List (List ℕ)) (report : Report) : Type 0 where
  pub form : report.form ≡ recipe.format
  pub digest : report.recipe ≡ recipe.digest
  pub given : AreTrueInputs recipe.inputs inputs report.inputs
  pub all : Contents
  pub stages : AreTrueStages recipe (record { inputs = inputs; artefacts = [] }) recipe.stages report.stages all
  pub compares : AllZip (IsTrueCompare recipe all) recipe.compare.stages report.compare

-- a yes: every line is true, and the artefact of each compared stage is the audited binary, byte for byte
pub record IsYes (recipe : RecipeContents) (inputs : List (List ℕ)) (report : Report) : Type 0 where
  pub is_true : TrueReport recipe inputs report
  pub equal : All (λ name. content recipe is_true.all name ≡ content recipe is_true.all recipe.compare.binary) recipe.compare.stages
