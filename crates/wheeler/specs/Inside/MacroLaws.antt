-- Why what runs of M1 programs leave is a semantics. Rattle requires the grounds for a law of an `impl` among the definitions.
use Rattle.std.proofs.Common.{◌≡◌, ℕ, Some, Result, Ok, Err, List}
use Rattle.ddc_base.specs.declared.languages.Language.TheVariants.{Hex0, Hex1, Hex2, M1}
use Rattle.hex_langs.specs.declared.items.item.Item.{Item}
use Rattle.m1_lang.specs.declared.refusal.M1Refusal.{M1Refusal}
use Rattle.m1_lang.specs.Expansion.{expansion_of}
use Rattle.recipe.specs.declared.parts.SourceLanguage.{SourceLanguage}
use Rattle.recipe.specs.declared.parts.SourceLanguage.TheVariants.{Defined, Other}
use Rattle.audit_rules.specs.Contents.{SourceText}
use Rattle.audit_rules.specs.SourceCheck.Checks.{joined_files, m1_value}
use Rattle.wheeler.specs.Assembly.{ProgramLeaves}
use Rattle.wheeler.specs.Inside.RunLaws.{own-program}
use Rattle.wheeler.specs.MacroAssembly.{program_in, program_of_text}
use Rattle.wheeler.specs.Meaning.{Implements}
use Rattle.wheeler.specs.Values.{binary_in, binary_of, bytes_of_value}

-- items have no value
no-value : (meant : Result (List Item) M1Refusal) (program : List ℕ) → bytes_of_value (m1_value meant) ≡ Some program → ⊥
no-value (Ok items) program is = absurd cc
no-value (Err why) program is = absurd cc

keeps-in : (lang : SourceLanguage) (base : ℕ) (files : List (List ℕ)) (program : List ℕ) → binary_in lang base files ≡ Some program
    → program_in lang base files ≡ Some program
keeps-in (Defined Hex0) base files program is = is
keeps-in (Defined Hex1) base files program is = is
keeps-in (Defined Hex2) base files program is = is
keeps-in (Defined M1) base files program is = absurd (no-value (expansion_of (joined_files files)) program is)
keeps-in Other base files program is = absurd cc

-- a source with a value in hex0, hex1 or hex2 has that value as its program
pub keeps-hex : (source : SourceText) (program : List ℕ) → binary_of source ≡ Some program → program_of_text source ≡ Some program
unfolding binary_of program_of_text
keeps-hex source program is = keeps-in source.lang source.base source.files program is

pub literal-program : (source : SourceText) (program : List ℕ) → binary_of source ≡ Some program → Implements (ProgramLeaves program_of_text) program source
literal-program source program value = own-program program_of_text source program (keeps-hex source program value)
