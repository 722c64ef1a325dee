-- What `provenance RECIPE REPORT` prints of a true report: the recipe's digest, and for each compared stage its comparison and the
-- dependencies of its artefact, by name, length and digest. The text is a function of the recipe, its inputs and the report.
-- docs/reference/provenance.md says the same for people.
use Rattle.std.specs.Prelude.{ℕ, Option, Some, None, List, [], ◌∷◌, ◌++◌, bytes_eq, codes, decimal, flat_map, if◌then◌else◌}
use Rattle.std.specs.List.{list_any}
use Rattle.hex.specs.Hex.{encode_lower}
use Rattle.ddc_base.specs.Lines.{line}
use Rattle.recipe.specs.declared.contents.RecipeContents.{RecipeContents}
use Rattle.recipe.specs.declared.parts.Content.{Content}
use Rattle.recipe.specs.declared.parts.Content.TheVariants.{Input as Given, Stage as Artefact}
use Rattle.recipe.specs.declared.parts.Source.{Source}
use Rattle.recipe.specs.Lookups.{content_named}
use Rattle.report.specs.declared.types.CompareLine.{CompareLine}
use Rattle.report.specs.declared.types.Compared.{Compared}
use Rattle.report.specs.declared.types.Compared.TheVariants.{Equal, Differs}
use Rattle.report.specs.declared.types.Mark.{Mark}
use Rattle.report.specs.declared.types.Report.{Report}
use Rattle.report.specs.Lines.{mark_words}
use Rattle.wheeler.specs.declared.assumption.Assumption.{Assumption}
use Rattle.audit_chain.specs.declared.origin.meeting.Meeting.TheVariants.{Read, Run}
use Rattle.audit_chain.specs.Provenance.{audited_met, mark_named, names_source, programs, same_artefacts}
use Rattle.audit_chain.specs.Rests.Basis.{layouts, lines, own_layout, ran, texts}
use Rattle.verify_commands.specs.Rests.{names_text}
use Rattle.audit_chain.specs.Settled.{is_settled_line}
use Rattle.verify_commands.specs.Texts.{assumption_line, headline, holds_line}

-- a length and a digest; a true report has both for every name
abbrev pub mark_words_of : Option Mark → List (List ℕ)
mark_words_of None = []
mark_words_of (Some mark) = mark_words mark

-- a line with the kind of a fact, a name, and the name's length and digest
abbrev pub marked_line : RecipeContents → Report → List ℕ → List ℕ → List ℕ
marked_line recipe report what name = line (what ∷ name ∷ mark_words_of (mark_named recipe report name))

abbrev pub marked_text : RecipeContents → Report → List ℕ → List (List ℕ) → List ℕ
marked_text recipe report what names = flat_map (marked_line recipe report what) names

-- how the artefact and the audited binary compare; where they are equal, also their length and digest
abbrev pub compared_by : RecipeContents → Report → List ℕ → List ℕ → Compared → List ℕ
compared_by recipe report stage binary (Equal size) = line (codes "equal" ∷ stage ∷ binary ∷ mark_words_of (mark_named recipe report binary))
compared_by recipe report stage binary (Differs offset ours theirs) =
    line (codes "differs" ∷ stage ∷ binary ∷ decimal offset ∷ decimal ours ∷ decimal theirs ∷ [])

-- a line for each name, after the kind of the fact
abbrev pub name_line : List ℕ → List ℕ → List ℕ
name_line what name = line (what ∷ name ∷ [])

-- an unchecked stage among the dependencies; the artefact of the compared stage itself is in the line of its comparison
abbrev pub run_line : RecipeContents → Report → List ℕ → List ℕ → List ℕ
run_line recipe report own name = if bytes_eq name own then name_line (codes "run") name else marked_line recipe report (codes "run") name

-- A file of a source that an assumption names. People have to read an input. For an artefact they have to ask in turn where it comes from
abbrev pub file_word : Option Content → List ℕ
file_word (Some (Artefact index)) = codes "speaks"
file_word (Some (Given index)) = codes "source"
file_word None = codes "source"

abbrev pub source_file_line : RecipeContents → Report → List ℕ → List ℕ → List ℕ
source_file_line recipe report source file =
    line (file_word (content_named recipe.inputs recipe.stages file) ∷ source ∷ file ∷ mark_words_of (mark_named recipe report file))

unfoldable pub source_text : RecipeContents → Report → List Assumption → Source → List ℕ
source_text recipe report assumed source = if list_any (names_source source.name) assumed then flat_map (source_file_line recipe report source.name) source.files else []

-- the dependencies that determine the artefact: the inputs that are read, the inputs that are run, and the artefacts whose layout a check
-- in M1 leaves free
abbrev pub settling_text : RecipeContents → Report → List ℕ → List ℕ
settling_text recipe report name =
    marked_text recipe report (codes "text") (texts recipe name)
    ++ marked_text recipe report (codes "program") (programs recipe name)
    ++ marked_text recipe report (codes "layout") (layouts recipe name)

-- an assumption that lengths and digests settle holds; any other is printed as an assumption
unfoldable pub settled_line : RecipeContents → List (List ℕ) → Report → Assumption → List ℕ
settled_line recipe inputs report assumed = if is_settled_line recipe inputs report assumed then holds_line assumed else assumption_line assumed

-- the compared stage itself, if its check leaves its layout free; the unchecked stages; the assumptions about programs; and the files of
-- the sources that these assumptions name
abbrev pub believed_text : RecipeContents → List (List ℕ) → Report → List ℕ → List ℕ
believed_text recipe inputs report name =
    names_text (codes "layout") (own_layout recipe name)
    ++ flat_map (run_line recipe report name) (ran recipe name)
    ++ flat_map (settled_line recipe inputs report) (lines recipe name)
    ++ flat_map (source_text recipe report (lines recipe name)) recipe.sources

-- where the audited binary itself is among the dependencies: as an input, or as an earlier artefact
abbrev pub met_text : RecipeContents → Report → List ℕ → List ℕ
met_text recipe report name =
    names_text (codes "audited read") (audited_met recipe report Read name)
    ++ names_text (codes "audited run") (audited_met recipe report Run name)
    ++ names_text (codes "same read") (same_artefacts recipe report Read name)
    ++ names_text (codes "same run") (same_artefacts recipe report Run name)

unfoldable pub origin_text : RecipeContents → List (List ℕ) → Report → List ℕ → List ℕ
origin_text recipe inputs report name = settling_text recipe report name ++ (believed_text recipe inputs report name ++ met_text recipe report name)

-- the lines of a compared stage
unfoldable pub block_text : RecipeContents → List (List ℕ) → Report → CompareLine → List ℕ
block_text recipe inputs report compare =
    compared_by recipe report compare.stage compare.binary compare.result ++ origin_text recipe inputs report compare.stage

-- the line of the recipe's file, by its SHA-256 digest
unfoldable pub recipe_digest_line : RecipeContents → List ℕ
recipe_digest_line recipe = line (codes "recipe" ∷ encode_lower recipe.digest.0 ∷ [])

abbrev pub provenance_text : RecipeContents → List (List ℕ) → Report → List ℕ
provenance_text recipe inputs report = headline report.compare ++ recipe_digest_line recipe ++ flat_map (block_text recipe inputs report) report.compare
