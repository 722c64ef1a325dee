-- What the commands on scripts load first: a script, a list of files, and these files. docs/reference/command-line.md and
-- docs/reference/kaem.md say the same for people. Digests are SHA-256 (FIPS 180-4).
use Rattle.std.specs.Prelude.{ℕ, Bool, ◌&&◌, not, nat_le, bytes_eq, if◌then◌else◌, Option, None, Some, Result, Ok, Err, List, [], ◌∷◌, ◌++◌, length}
use Rattle.std.specs.List.{list_any}
use Rattle.ddc_base.specs.Limits.{most_content, most_files, most_script, most_total}
use Rattle.sha2.specs.Sha256.{sha256}
use Rattle.mem_files.specs.Calls.{placed}
use Rattle.mem_files.specs.Names.{stripped}
use Rattle.kaem_script.specs.declared.refusal.ScriptFault.{ScriptFault}
use Rattle.kaem_script.specs.FilesListed.{FilesListed, no_files}
use Rattle.kaem_script.specs.Script.{Commands, ScriptContents, commands_of}
use Rattle.command_plan.specs.declared.status.Status.TheVariants.{ScriptRefused}
use Rattle.command_plan.specs.Lists.{is_listed_word, needs_list}
use Rattle.command_plan.specs.Plan.{Plan, answers, needs, needs_all, unless_refused}
use Rattle.command_plan.specs.Words.{is_one_file, usage}
use Rattle.tool_commands.specs.ScriptTexts.{script_line}

-- ---- SCRIPT

-- a script: the digest of all bytes of its text, and its commands
abbrev pub script_by_text : List ℕ → Commands → Result ScriptContents (ScriptFault × ℕ)
script_by_text text (Err fault) = Err fault
script_by_text text (Ok commands) = Ok (record { digest = record { 0 = sha256 text }; commands = commands })

-- the script of a text, or its first fault with the byte offset of the word
unfoldable pub script_of : List ℕ → Result ScriptContents (ScriptFault × ℕ)
script_of text = script_by_text text (commands_of text)

-- loads the script, of at most 1,048,576 bytes, and reads it
abbrev pub needs_script : List ℕ → (ScriptContents → Plan) → Plan
needs_script file next =
    needs file most_script (λ text. unless_refused (script_of text) (λ fault. answers ScriptRefused (script_line fault.0 fault.1)) next)

-- ---- LIST

-- a word names a file by its text without leading `./`, and none of the earlier words names the same file
abbrev pub names_another : List (List ℕ) → List ℕ → Bool
names_another earlier word =
    nat_le 1 (length (stripped word)) && not (list_any (λ listed. bytes_eq (stripped listed) (stripped word)) earlier)

-- a line is one word that names another file than each line before it
unfoldable pub file_line : List (List ℕ) → List ℕ → Option (List ℕ)
file_line earlier line = if is_listed_word line && names_another earlier line then Some line else None

-- a usage answer where a listed word names the same file as REPORT
unfoldable pub needs_unlisted : List (List ℕ) → List ℕ → (Unit {0} → Plan) → Plan
needs_unlisted words report next = if list_any (λ word. is_one_file word report) words then usage else next tt

-- ---- the files

-- the listed files and one more, of this word and content
abbrev pub and_file : FilesListed → List ℕ → List ℕ → FilesListed
and_file listed word content = record { names = listed.names ++ stripped word ∷ []; world = (placed listed.world word content).1 }

-- the listed files and one more for each word, with the content of the same index
abbrev pub and_files : FilesListed → List (List ℕ) → List (List ℕ) → FilesListed
and_files listed (word ∷ words) (content ∷ contents) = and_files (and_file listed word content) words contents
and_files listed _ _ = listed

-- loads the files of the listed words in order, each of at most 268,435,456 bytes and all together of at most 536,870,912
unfoldable pub needs_files : List (List ℕ) → (FilesListed → Plan) → Plan
needs_files words next = needs_all most_content most_total words (λ contents. next (and_files no_files words contents))

-- ---- what is loaded before the files: SCRIPT, then LIST, of at most 4,096 lines; REPORT must not name a listed file

abbrev pub needs_script_and_list : List ℕ → List ℕ → List ℕ → (ScriptContents → List (List ℕ) → Plan) → Plan
needs_script_and_list script list report next =
    needs_script script (λ parsed. needs_list file_line most_files list (λ words. needs_unlisted words report (λ _. next parsed words)))
