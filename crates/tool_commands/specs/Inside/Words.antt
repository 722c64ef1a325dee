-- The arguments of the commands, one type for each set of them.
use Rattle.std.specs.Prelude.{ℕ, Option, None, Some, List, [], ◌∷◌, if◌then◌else◌}
use Rattle.std.specs.List.{list_all}
use Rattle.ddc_base.specs.declared.languages.Language.{Language}
use Rattle.ddc_base.specs.Languages.Words.{language_named}
use Rattle.guest_run.specs.Setting.{is_text}
use Rattle.command_plan.specs.Words.{as_file_name, as_steps, as_three_files, as_two_files}
use Rattle.tool_commands.specs.Asm.{as_base}
use Rattle.tool_commands.specs.declared.words.AsmWords.{AsmWords}
use Rattle.tool_commands.specs.declared.words.Hex0Words.{Hex0Words}
use Rattle.tool_commands.specs.declared.words.KaemWords.{KaemWords}
use Rattle.tool_commands.specs.declared.words.RunWords.{RunWords}
use Rattle.tool_commands.specs.declared.words.ScriptWords.{ScriptWords}

-- the word `BINARY`
abbrev pub binary_word : List (List ℕ) → Option (List ℕ)
binary_word (binary ∷ []) = as_file_name binary
binary_word _ = None

-- the words `SOURCE BINARY`
abbrev pub hex0_of_names : Option (List ℕ) → Option (List ℕ) → Option Hex0Words
hex0_of_names (Some source) (Some binary) = Some (record { source = source; binary = binary })
hex0_of_names _ _ = None

abbrev pub hex0_words : List (List ℕ) → Option Hex0Words
hex0_words (source ∷ binary ∷ []) = hex0_of_names (as_file_name source) (as_file_name binary)
hex0_words _ = None

-- the words `LANG BASE SOURCE OUT`
abbrev pub asm_of : Option Language → Option ℕ → Option (List ℕ × List ℕ) → Option AsmWords
asm_of (Some language) (Some base) (Some files) = Some (record { language = language; base = base; source = files.0; out = files.1 })
asm_of _ _ _ = None

abbrev pub asm_words : List (List ℕ) → Option AsmWords
asm_words (language ∷ base ∷ source ∷ out ∷ []) = asm_of (language_named language) (as_base base) (as_two_files source out)
asm_words _ = None

-- words without a zero byte, as arguments
abbrev pub as_args : List (List ℕ) → Option (List (List ℕ))
as_args words = if list_all is_text words then Some words else None

-- the words `PROGRAM STEPS ARG..`
abbrev pub run_of : Option (List ℕ) → Option ℕ → Option (List (List ℕ)) → Option RunWords
run_of (Some program) (Some steps) (Some args) = Some (record { program = program; steps = steps; args = args })
run_of _ _ _ = None

abbrev pub run_words : List (List ℕ) → Option RunWords
run_words (program ∷ steps ∷ args) = run_of (as_file_name program) (as_steps steps) (as_args args)
run_words _ = None

-- the words `SCRIPT LIST REPORT`
abbrev pub script_words_of : Option (List ℕ × List ℕ × List ℕ) → Option ScriptWords
script_words_of None = None
script_words_of (Some files) = Some (record { script = files.0; list = files.1; report = files.2 })

abbrev pub script_words : List (List ℕ) → Option ScriptWords
script_words (script ∷ list ∷ report ∷ []) = script_words_of (as_three_files script list report)
script_words _ = None

-- the words `SCRIPT LIST REPORT STEPS`
abbrev pub kaem_of : Option (List ℕ × List ℕ × List ℕ) → Option ℕ → Option KaemWords
kaem_of (Some files) (Some steps) = Some (record { script = files.0; list = files.1; report = files.2; steps = steps })
kaem_of _ _ = None

abbrev pub kaem_words : List (List ℕ) → Option KaemWords
kaem_words (script ∷ list ∷ report ∷ steps ∷ []) = kaem_of (as_three_files script list report) (as_steps steps)
kaem_words _ = None
