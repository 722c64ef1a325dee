-- What holds of every script. docs/reference/kaem.md says the same for people.
use Rattle.std.specs.Prelude.{ℕ, ◌≤◌, ◌==◌, not, IsTrue, List, [], ◌∷◌, length, All}
use Rattle.std.specs.List.{list_any}
use Rattle.ddc_base.specs.Limits.{most_commands, most_words}
use Rattle.mem_files.specs.Names.{is_file_name, stripped}
use Rattle.report.specs.Reports.{IsDigest}
use Rattle.kaem_script.specs.Script.{ScriptContents}

-- a word has no zero byte, and at most 255 bytes
pub record IsWord (text : List ℕ) : Type 0 where
  pub no_zero : IsTrue (not (list_any (λ byte. byte == 0) text))
  pub short : length text ≤ 255

-- the first word of a line names a file of a guest, without a leading `./`
abbrev pub NamesProgram : List (List ℕ) → Type 0
NamesProgram [] = Unit {0}
NamesProgram (word ∷ words) = IsTrue (is_file_name (stripped word))

pub record IsLine (words : List (List ℕ)) : Type 0 where
  pub few : length words ≤ most_words
  pub each : All IsWord words
  pub named : NamesProgram words

pub record IsCommand (words : List (List ℕ)) : Type 0 where
  pub some : 1 ≤ length words
  pub line : IsLine words

pub record AreCommands (commands : List (List (List ℕ))) : Type 0 where
  pub few : length commands ≤ most_commands
  pub each : All IsCommand commands

-- a script that was read: the digest of its bytes, and commands that obey the rules
pub record IsScript (parsed : ScriptContents) : Type 0 where
  pub digest : IsDigest parsed.digest
  pub commands : AreCommands parsed.commands
