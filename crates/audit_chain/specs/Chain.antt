-- Several audits in order, of which an earlier one may discharge assumptions of a later one; and the assumptions that are left.
-- docs/reference/chain.md says the same for people.
use Rattle.std.specs.Prelude.{ℕ, ◌+◌, ◌==◌, Bool, true, false, ◌&&◌, not, bytes_eq, if◌then◌else◌, Option, None, Some, is_some, option_and_then, List, [], ◌∷◌, ◌++◌, length, map, filter}
use Rattle.std.specs.List.{list_all, list_any}
use Rattle.recipe.specs.declared.contents.RecipeContents.{RecipeContents}
use Rattle.recipe.specs.declared.parts.Source.{Source}
use Rattle.recipe.specs.Lookups.{input_at, source_named, source_of}
use Rattle.audit_rules.specs.Contents.{Contents, SourceText, content, defined, text_of}
use Rattle.verifier.specs.Faults.{same_language}
use Rattle.wheeler.specs.Listed.{lines_listed}
use Rattle.wheeler.specs.declared.assumption.Assumption.{Assumption}
use Rattle.wheeler.specs.declared.assumption.Assumption.TheVariants.{Implements, Compiles}
use Rattle.audit_chain.specs.declared.link.Link.{Link}
use Rattle.audit_chain.specs.declared.link.ChainLine.{ChainLine}

-- ---- an audit's inputs, before any stage is run

abbrev pub given_contents : Link → Contents
given_contents link = record { inputs = link.inputs; artefacts = [] }

-- the bytes of the input of a name
abbrev pub input_bytes : Link → List ℕ → List ℕ
input_bytes link name = content link.recipe (given_contents link) name

abbrev pub names_input : RecipeContents → List ℕ → Bool
names_input recipe name = is_some (input_at recipe.inputs name)

-- the text of a source; None if one of its files is not an input
unfoldable pub given_text : Link → Source → Option SourceText
given_text link source =
    if list_all (names_input link.recipe) source.files then Some (text_of link.recipe (given_contents link) source) else None

-- the text of the source of a name; None if one of its files is not an input
abbrev pub given_text_named : Link → List ℕ → Option SourceText
given_text_named link name = option_and_then (given_text link) (source_named link.recipe.sources name)

-- ---- what an audit provides to later ones: for each compared stage with a source, its audited binary with the text of that source

-- two texts are equal: in language, in base and file by file
abbrev pub same_files : List (List ℕ) → List (List ℕ) → Bool
same_files [] [] = true
same_files (first ∷ firsts) (second ∷ seconds) = bytes_eq first second && same_files firsts seconds
same_files _ _ = false

unfoldable pub same_text : SourceText → SourceText → Bool
same_text first second = same_language (defined first.lang) (defined second.lang) && first.base == second.base && same_files first.files second.files

abbrev pub is_same_text : SourceText → Option SourceText → Bool
is_same_text text None = false
is_same_text text (Some given) = same_text given text

-- the text of a compared stage's source, if it has one
unfoldable pub text_of_stage : Link → List ℕ → Option SourceText
text_of_stage link stage = option_and_then (given_text_named link) (source_of link.recipe stage)

-- whether an audit provides these bytes with this text
unfoldable pub gives : List ℕ → SourceText → Link → Bool
gives bytes text link =
    bytes_eq (input_bytes link link.recipe.compare.binary) bytes && list_any (λ stage. is_same_text text (text_of_stage link stage)) link.recipe.compare.stages

-- ---- discharged assumptions

-- one of these audits provides the bytes with the text, if there is a text
abbrev pub is_given : List Link → List ℕ → Option SourceText → Bool
is_given earlier bytes None = false
is_given earlier bytes (Some text) = list_any (gives bytes text) earlier

-- an earlier audit discharges an assumption: it says that an input implements a source, and the input's bytes are provided with that text
unfoldable pub is_struck : List Link → Link → Assumption → Bool
is_struck earlier link (Implements made source) = names_input link.recipe made && is_given earlier (input_bytes link made) (given_text_named link source)
is_struck earlier link (Compiles source stage becomes) = false

-- ---- the assumptions that are left, each with its audit's number from 1

abbrev pub chain_line : ℕ → Assumption → ChainLine
chain_line number line = record { audit = number; line = line }

-- the assumptions listed for an audit that no earlier one discharges
unfoldable pub unstruck : List Link → Link → List ChainLine
unstruck earlier link = map (chain_line (length earlier + 1)) (filter (λ line. not (is_struck earlier link line)) (lines_listed link.recipe))

abbrev pub remaining_after : List Link → List Link → List ChainLine
remaining_after earlier [] = []
remaining_after earlier (link ∷ links) = unstruck earlier link ++ remaining_after (earlier ++ link ∷ []) links

abbrev pub remaining : List Link → List ChainLine
remaining links = remaining_after [] links
