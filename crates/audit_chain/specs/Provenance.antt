-- The dependencies of a stage's artefact, by their lengths and digests in a true report. docs/reference/provenance.md says the same for
-- people. Digests are SHA-256 (FIPS 180-4).
use Rattle.std.specs.Prelude.{◌≡◌, ◌≢◌, ℕ, ◌==◌, ◌&&◌, ◌||◌, Bool, false, bytes_eq, not, if◌then◌else◌, Option, None, Some, option_and_then, option_map, slice_get, List, length, filter_map, All}
use Rattle.sha2.specs.Sha256.{sha256}
use Rattle.recipe.specs.declared.contents.RecipeContents.{RecipeContents}
use Rattle.recipe.specs.declared.parts.Content.{Content}
use Rattle.recipe.specs.declared.parts.Content.TheVariants.{Input as Given, Stage as Artefact}
use Rattle.recipe.specs.declared.parts.Input.{Input}
use Rattle.recipe.specs.declared.parts.Stage.{Stage}
use Rattle.recipe.specs.Lookups.{content_named}
use Rattle.report.specs.declared.types.InputLine.{InputLine}
use Rattle.report.specs.declared.types.Mark.{Mark}
use Rattle.report.specs.declared.types.Report.{Report}
use Rattle.report.specs.declared.types.StageLine.{StageLine}
use Rattle.wheeler.specs.declared.assumption.Assumption.{Assumption}
use Rattle.wheeler.specs.declared.assumption.Assumption.TheVariants.{Implements, Compiles}
use Rattle.audit_chain.specs.declared.origin.meeting.Meeting.{Meeting}
use Rattle.audit_chain.specs.declared.origin.meeting.Meeting.TheVariants.{Read, Run}
use Rattle.audit_chain.specs.declared.rests.basis_part.BasisPart.{BasisPart}
use Rattle.audit_chain.specs.Rests.Basis.{layouts, texts}
use Rattle.audit_chain.specs.Rests.Walk.{files_meet, runs_meet, walk}

-- ---- marks

-- the length and digest in a report of an input, or of a stage's artefact
abbrev pub content_mark : Report → Content → Option Mark
content_mark report (Given index) = option_map (λ (line : InputLine). line.mark) (slice_get report.inputs index)
content_mark report (Artefact index) = option_map (λ (line : StageLine). line.made) (slice_get report.stages index)

-- the length and digest in a report of what a name stands for
unfoldable pub mark_named : RecipeContents → Report → List ℕ → Option Mark
mark_named recipe report name = option_and_then (content_mark report) (content_named recipe.inputs recipe.stages name)

-- both have a length and digest, and these are the same
abbrev pub same_mark : Option Mark → Option Mark → Bool
same_mark (Some a) (Some b) = a.length == b.length && bytes_eq a.digest.0 b.digest.0
same_mark _ _ = false

-- ---- names, besides the texts, layouts, runs and assumptions of `Rests.Basis`

-- an input that an unchecked stage among the dependencies runs
abbrev pub run_input_name : List BasisPart → Input → Option (List ℕ)
run_input_name parts input = if runs_meet parts input.name then Some input.name else None

unfoldable pub programs : RecipeContents → List ℕ → List (List ℕ)
programs recipe name = filter_map (run_input_name (walk recipe name)) recipe.inputs

-- whether an assumption names a source: people have to read its files
abbrev pub names_source : List ℕ → Assumption → Bool
names_source name (Implements made source) = bytes_eq source name
names_source name (Compiles source stage becomes) = bytes_eq source name || bytes_eq becomes name

-- ---- where the audited binary itself is a dependency

-- whether the report has the same length and digest for a name and for the audited binary
abbrev pub is_audited : RecipeContents → Report → List ℕ → Bool
is_audited recipe report name = same_mark (mark_named recipe report name) (mark_named recipe report recipe.compare.binary)

-- whether a name is among these parts, and is read or is run
abbrev pub is_met : Meeting → List BasisPart → List ℕ → Bool
is_met Read parts name = files_meet parts name
is_met Run parts name = runs_meet parts name

-- a name that is met in this way, is not the compared stage, and has the audited binary's length and digest
abbrev pub audited_name : RecipeContents → Report → Meeting → List BasisPart → List ℕ → List ℕ → Option (List ℕ)
audited_name recipe report how parts own name = if is_met how parts name && not (bytes_eq own name) && is_audited recipe report name then Some name else None

abbrev pub audited_input : RecipeContents → Report → Meeting → List BasisPart → List ℕ → Input → Option (List ℕ)
audited_input recipe report how parts own input = audited_name recipe report how parts own input.name

abbrev pub audited_stage : RecipeContents → Report → Meeting → List BasisPart → List ℕ → Stage → Option (List ℕ)
audited_stage recipe report how parts own stage = audited_name recipe report how parts own stage.name

-- the inputs that are met in this way and are the audited binary by length and digest: it was given to its own build
unfoldable pub audited_met : RecipeContents → Report → Meeting → List ℕ → List (List ℕ)
audited_met recipe report how own = filter_map (audited_input recipe report how (walk recipe own) own) recipe.inputs

-- the stages whose artefact is met in this way and already is the audited binary by length and digest, as when a compiler reproduces itself
unfoldable pub same_artefacts : RecipeContents → Report → Meeting → List ℕ → List (List ℕ)
same_artefacts recipe report how own = filter_map (audited_stage recipe report how (walk recipe own) own) recipe.stages

-- ---- what laws say

-- two different contents with the same length and digest
pub record Collision : Type 0 where
  pub one : List ℕ
  pub other : List ℕ
  pub lengths : length one ≡ length other
  pub digests : sha256 one ≡ sha256 other
  pub differ : one ≢ other

-- two reports of one recipe have the same length and digest of a name
abbrev pub SameMark : RecipeContents → Report → Report → List ℕ → Type 0
SameMark recipe report other name = mark_named recipe report name ≡ mark_named recipe other name

-- two reports of one recipe have the same lengths and digests of all that settles a stage's artefact. That is the texts, the programs that
-- are inputs, and the layouts that a check in M1 leaves free
pub record SameMarks (recipe : RecipeContents) (report other : Report) (name : List ℕ) : Type 0 where
  pub read : All (SameMark recipe report other) (texts recipe name)
  pub run : All (SameMark recipe report other) (programs recipe name)
  pub laid : All (SameMark recipe report other) (layouts recipe name)
