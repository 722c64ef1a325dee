-- The plans of the commands, over words that were read.
use Rattle.std.proofs.Common.{◌≡◌, ℕ, ◌&&◌, Bool, true, false, Option, None, Some, List, [], ◌∷◌, refl}
use Rattle.std.specs.Prelude.{if◌then◌else◌}
use Rattle.std.specs.List.{list_all}
use Rattle.ddc_base.specs.declared.languages.Language.{Language}
use Rattle.ddc_base.specs.Languages.Words.{language_named}
use Rattle.guest_run.specs.Setting.{is_text}
use Rattle.command_plan.specs.Plan.{Plan}
use Rattle.command_plan.specs.Words.{are_three_files, are_two_files, as_steps, is_file_word, or_usage, usage}
use Rattle.tool_commands.specs.Asm.{as_base, asm_files, asm_plan}
use Rattle.tool_commands.specs.Hex0.{hex0_files, hex0_plan}
use Rattle.tool_commands.specs.Inside.Words.{asm_of, asm_words, binary_word, hex0_of_names, hex0_words, kaem_of, kaem_words, run_of, run_words, script_words, script_words_of}
use Rattle.tool_commands.specs.Kaem.{kaem_files, kaem_plan}
use Rattle.tool_commands.specs.KaemVerify.{kaem_verify_files, kaem_verify_plan}
use Rattle.tool_commands.specs.List.{list_file, list_plan}
use Rattle.tool_commands.specs.RunProgram.{run_file, run_plan}
use Rattle.tool_commands.specs.declared.words.AsmWords.{AsmWords}
use Rattle.tool_commands.specs.declared.words.Hex0Words.{Hex0Words}
use Rattle.tool_commands.specs.declared.words.KaemWords.{KaemWords}
use Rattle.tool_commands.specs.declared.words.RunWords.{RunWords}
use Rattle.tool_commands.specs.declared.words.ScriptWords.{ScriptWords}

-- ---- list

listed : (binary : List ℕ) (named : Bool) → (if named then list_file binary else usage) ≡ or_usage (if named then Some binary else None) list_file
listed binary true = refl
listed binary false = refl

pub lists : (words : List (List ℕ)) → list_plan words ≡ or_usage (binary_word words) list_file
lists (binary ∷ []) = listed binary (is_file_word binary)
lists _ = refl

-- ---- hex0

abbrev pub over_hex0 : Hex0Words → Plan
over_hex0 w = hex0_files w.source w.binary

compared : (source binary : List ℕ) (first second : Bool)
    → (if first && second then hex0_files source binary else usage)
    ≡ or_usage (hex0_of_names (if first then Some source else None) (if second then Some binary else None)) over_hex0
compared source binary true true = refl
compared source binary true false = refl
compared source binary false second = refl

pub hex0s : (words : List (List ℕ)) → hex0_plan words ≡ or_usage (hex0_words words) over_hex0
hex0s (source ∷ binary ∷ []) = compared source binary (is_file_word source) (is_file_word binary)
hex0s _ = refl

-- ---- asm

abbrev pub over_asm : AsmWords → Plan
over_asm w = asm_files w.language w.base w.source w.out

made : (source out : List ℕ) (language : Option Language) (base : Option ℕ) (apart : Bool)
    → or_usage language (λ named. or_usage base (λ address. if apart then asm_files named address source out else usage))
    ≡ or_usage (asm_of language base (if apart then Some (source, out) else None)) over_asm
made source out (Some language) (Some base) true = refl
made source out (Some language) (Some base) false = refl
made source out (Some language) None apart = refl
made source out None base apart = refl

pub asms : (words : List (List ℕ)) → asm_plan words ≡ or_usage (asm_words words) over_asm
asms (language ∷ base ∷ source ∷ out ∷ []) = made source out (language_named language) (as_base base) (are_two_files source out)
asms _ = refl

-- ---- run

abbrev pub over_run : RunWords → Plan
over_run w = run_file w.program w.args w.steps

ran : (program : List ℕ) (args : List (List ℕ)) (steps : Option ℕ) (named texts : Bool)
    → or_usage steps (λ most. if named && texts then run_file program args most else usage)
    ≡ or_usage (run_of (if named then Some program else None) steps (if texts then Some args else None)) over_run
ran program args (Some steps) true true = refl
ran program args (Some steps) true false = refl
ran program args (Some steps) false texts = refl
ran program args None true texts = refl
ran program args None false texts = refl

pub runs : (words : List (List ℕ)) → run_plan words ≡ or_usage (run_words words) over_run
runs (program ∷ steps ∷ args) = ran program args (as_steps steps) (is_file_word program) (list_all is_text args)
runs _ = refl

-- ---- kaem

abbrev pub over_kaem : KaemWords → Plan
over_kaem w = kaem_files w.script w.list w.report w.steps

folded : (script list report : List ℕ) (apart : Bool) (steps : Option ℕ)
    → or_usage steps (λ most. if apart then kaem_files script list report most else usage)
    ≡ or_usage (kaem_of (if apart then Some (script, list, report) else None) steps) over_kaem
folded script list report true (Some most) = refl
folded script list report false (Some most) = refl
folded script list report true None = refl
folded script list report false None = refl

pub kaems : (words : List (List ℕ)) → kaem_plan words ≡ or_usage (kaem_words words) over_kaem
kaems (script ∷ list ∷ report ∷ steps ∷ []) = folded script list report (are_three_files script list report) (as_steps steps)
kaems _ = refl

-- ---- kaem-verify

abbrev pub over_script : ScriptWords → Plan
over_script w = kaem_verify_files w.script w.list w.report

verified : (script list report : List ℕ) (apart : Bool)
    → (if apart then kaem_verify_files script list report else usage) ≡ or_usage (script_words_of (if apart then Some (script, list, report) else None)) over_script
verified script list report true = refl
verified script list report false = refl

pub kaem_verifies : (words : List (List ℕ)) → kaem_verify_plan words ≡ or_usage (script_words words) over_script
kaem_verifies (script ∷ list ∷ report ∷ []) = verified script list report (are_three_files script list report)
kaem_verifies _ = refl
