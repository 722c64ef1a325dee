-- `where LANG SOURCE NUMBER PLACE`: the line, the column and the word at which a refusal of a source stands. docs/reference/command-line.md
-- says the same for people.
use Rattle.std.specs.Prelude.{ℕ, Bool, ◌&&◌, ◌==◌, nat_le, nat_lt, if◌then◌else◌, Option, None, Some, List, [], ◌∷◌, codes, decimal, drop, length, take}
use Rattle.ddc_base.specs.Decimals.{as_decimal}
use Rattle.ddc_base.specs.Languages.Words.{language_named}
use Rattle.ddc_base.specs.Lines.{line}
use Rattle.ddc_base.specs.declared.languages.Language.{Language}
use Rattle.ddc_base.specs.declared.languages.Language.TheVariants.{Hex0, Hex1, Hex2, M1}
use Rattle.ddc_base.specs.Limits.{most_content}
use Rattle.hex_langs.specs.declared.items.token.Dialect.{Dialect}
use Rattle.hex_langs.specs.declared.items.token.Dialect.TheVariants as dialect
use Rattle.command_plan.specs.declared.status.Status.TheVariants.{Refuted, Yes}
use Rattle.command_plan.specs.Plan.{Plan, answers, needs}
use Rattle.command_plan.specs.Words.{as_file_name, or_usage}
use Rattle.tool_commands.specs.declared.offsets.Spot.{Spot}
use Rattle.tool_commands.specs.declared.refusal_offset.WhereWords.{WhereWords}
use Rattle.tool_commands.specs.ShownWords.{shown_word}
use Rattle.tool_commands.specs.Offsets.{leading_word, offset_of_item, spot_after}

-- ---- the byte offset of a refusal

-- in hex1 and hex2 the refusals of these numbers hold an item number, and all others a byte offset
abbrev pub is_of_item : ℕ → Bool
is_of_item number = nat_le 4 number && nat_le number 6

abbrev pub linked_offset : Dialect → List ℕ → ℕ → ℕ → Option ℕ
linked_offset dialect text number place = if is_of_item number then offset_of_item dialect text place else Some place

-- the byte offset of a refusal in a text, by its number, at most 6, and its place
abbrev pub offset_in : Language → List ℕ → ℕ → ℕ → Option ℕ
offset_in Hex0 text number place = Some place
offset_in Hex1 text number place = linked_offset dialect.Hex1 text number place
offset_in Hex2 text number place = linked_offset dialect.Hex2 text number place
offset_in M1 text number place = Some place

-- a text that is too long, number 7, is refused at no byte offset
abbrev pub refusal_offset : Language → List ℕ → ℕ → ℕ → Option ℕ
refusal_offset language text number place = if number == 7 then None else offset_in language text number place

-- ---- the answer

-- the line and the column, both from 1, and the word there as it is printed
unfoldable pub spot_line : Spot → List ℕ → List ℕ
spot_line spot word = line (codes "line" ∷ decimal spot.line ∷ codes "column" ∷ decimal spot.column ∷ codes "word" ∷ shown_word word ∷ [])

unfoldable pub no_place_line : List ℕ
no_place_line = line (codes "no" ∷ codes "place" ∷ [])

abbrev pub located : List ℕ → Option ℕ → Plan
located text None = answers Refuted no_place_line
located text (Some at) =
    if nat_lt at (length text) then answers Yes (spot_line (spot_after (take at text)) (leading_word (drop at text))) else answers Refuted no_place_line

-- ---- the arguments

-- the number of a refusal, from 1 to 7
abbrev pub within_numbers : Option ℕ → Option ℕ
within_numbers None = None
within_numbers (Some number) = if nat_le 1 number && nat_le number 7 then Some number else None

abbrev pub where_of : Option Language → Option (List ℕ) → Option ℕ → Option ℕ → Option WhereWords
where_of (Some language) (Some source) (Some number) (Some place) = Some (record { language = language; source = source; number = number; place = place })
where_of _ _ _ _ = None

unfoldable pub where_words : List (List ℕ) → Option WhereWords
where_words (language ∷ source ∷ number ∷ place ∷ []) =
    where_of (language_named language) (as_file_name source) (within_numbers (as_decimal number)) (as_decimal place)
where_words _ = None

-- loads the source, of at most 268,435,456 bytes, and answers with the place of the refusal
abbrev pub where_file : WhereWords → Plan
where_file words = needs words.source most_content (λ text. located text (refusal_offset words.language text words.number words.place))

-- the plan for the words after `where`
abbrev pub where_plan : List (List ℕ) → Plan
where_plan words = or_usage (where_words words) where_file
