-- The binary that a source stands for. docs/reference/argument.md says the same for people.
use Rattle.std.specs.Prelude.{ℕ, Option, None, Some, Result, Ok, Err, List}
use Rattle.recipe.specs.declared.parts.SourceLanguage.{SourceLanguage}
use Rattle.recipe.specs.declared.parts.SourceLanguage.TheVariants.{Defined, Other}
use Rattle.audit_rules.specs.declared.source_check.cause.CheckCause.{CheckCause}
use Rattle.audit_rules.specs.SourceCheck.Checks.{SourceValue, ValueBytes, ValueItems, joined_files, source_value_of}
use Rattle.audit_rules.specs.Contents.{SourceText}

-- the bytes of a value; a value of M1 is items, which have no bytes of their own
abbrev pub bytes_of_value : Result SourceValue CheckCause → Option (List ℕ)
bytes_of_value (Ok (ValueBytes bytes)) = Some bytes
bytes_of_value (Ok (ValueItems items)) = None
bytes_of_value (Err why) = None

abbrev pub binary_in : SourceLanguage → ℕ → List (List ℕ) → Option (List ℕ)
binary_in (Defined language) base files = bytes_of_value (source_value_of language base (joined_files files))
binary_in Other base files = None

-- the value of a source in hex0, hex1 or hex2; None if it is refused, and in every other language
unfoldable pub binary_of : SourceText → Option (List ℕ)
binary_of source = binary_in source.lang source.base source.files
