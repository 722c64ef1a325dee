-- `asm LANG BASE SOURCE OUT`: saves the value of a source. docs/reference/command-line.md says the same for people.
use Rattle.std.specs.Prelude.{ℕ, ◌^◌, nat_le, Option, Some, None, List, [], ◌∷◌, length, codes, decimal, if◌then◌else◌}
use Rattle.ddc_base.specs.Decimals.{as_decimal}
use Rattle.ddc_base.specs.Lines.{line}
use Rattle.hex_langs.specs.Items.Refusals.{hex_refusal_number, hex_refusal_place}
use Rattle.hex_langs.specs.declared.link.values.HexLanguage.{HexLanguage}
use Rattle.hex_langs.specs.declared.link.values.HexLanguage.TheVariants as hex
use Rattle.hex_langs.specs.Link.Values.{value_of}
use Rattle.hex_langs.specs.Writer.Writing.{items_text}
use Rattle.ddc_base.specs.declared.languages.Language.{Language}
use Rattle.ddc_base.specs.declared.languages.Language.TheVariants.{Hex0, Hex1, Hex2, M1}
use Rattle.ddc_base.specs.Languages.Words.{language_named}
use Rattle.ddc_base.specs.Limits.{most_address, most_content}
use Rattle.m1_lang.specs.Expansion.{expansion_of}
use Rattle.m1_lang.specs.Refusals.{m1_refusal_number, m1_refusal_place}
use Rattle.command_plan.specs.declared.status.Status.TheVariants.{Yes, CheckFailed}
use Rattle.command_plan.specs.Words.{are_two_files, or_usage, usage}
use Rattle.command_plan.specs.Plan.{Plan, answers, needs, sets, unless_refused}

-- the line of a saved value, by its length in bytes
unfoldable pub made_line : ℕ → List ℕ
made_line size = line (codes "made" ∷ decimal size ∷ [])

-- the line of a refused source, by the refusal's number and its place
unfoldable pub refused_line : ℕ → ℕ → List ℕ
refused_line number place = line (codes "refused" ∷ decimal number ∷ decimal place ∷ [])

-- a base, from 0 to `most_address`, both included
abbrev pub within_bases : Option ℕ → Option ℕ
within_bases None = None
within_bases (Some base) = if nat_le base most_address then Some base else None

unfoldable pub as_base : List ℕ → Option ℕ
as_base word = within_bases (as_decimal word)

-- a source's value in a language of hexadecimal digits, at a base
abbrev pub needs_value : HexLanguage → ℕ → List ℕ → (List ℕ → Plan) → Plan
needs_value language base source next =
    unless_refused (value_of language base source) (λ refusal. answers CheckFailed (refused_line (hex_refusal_number refusal) (hex_refusal_place refusal))) next

-- the text of the items that an M1 source expands to, which is a source of hex2
abbrev pub needs_items : List ℕ → (List ℕ → Plan) → Plan
needs_items source next =
    unless_refused (expansion_of source) (λ refusal. answers CheckFailed (refused_line (m1_refusal_number refusal) (m1_refusal_place refusal)))
    (λ items. next (items_text items))

-- the value of a source in a language at a base, or of an M1 source the text of its items; hex0 and M1 do not use the base
abbrev pub needs_made : Language → ℕ → List ℕ → (List ℕ → Plan) → Plan
needs_made Hex0 base source = needs_value hex.Hex0 base source
needs_made Hex1 base source = needs_value hex.Hex1 base source
needs_made Hex2 base source = needs_value hex.Hex2 base source
needs_made M1 base source = needs_items source

-- loads the source, of at most 268,435,456 bytes, and saves its value
unfoldable pub asm_files : Language → ℕ → List ℕ → List ℕ → Plan
asm_files language base source out =
    needs source most_content (λ text.
    needs_made language base text (λ made.
    sets out made (answers Yes (made_line (length made)))))

-- the plan for the words after `asm`
abbrev pub asm_plan : List (List ℕ) → Plan
asm_plan (language ∷ base ∷ source ∷ out ∷ []) =
    or_usage (language_named language) (λ named.
    or_usage (as_base base) (λ address.
    if are_two_files source out then asm_files named address source out else usage))
asm_plan _ = usage
