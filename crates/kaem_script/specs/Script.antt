-- The commands of a script. docs/reference/kaem.md says the same for people.
use Rattle.std.specs.Prelude.{◌≡◌, ℕ, zero, suc, ◌+◌, ◌-◌, ◌==◌, nat_le, nat_lt, Bool, true, false, ◌&&◌, ◌||◌, not, if◌then◌else◌, List, [], ◌∷◌, ◌++◌, length, take, drop, Result, Ok, Err}
use Rattle.std.specs.List.{list_any, position_or_len}
use Rattle.sha2.specs.Sha256.{sha256}
use Rattle.ddc_base.specs.declared.digests.Digest.{Digest}
use Rattle.ddc_base.specs.Limits.{most_commands, most_words}
use Rattle.mem_files.specs.Names.{stripped}
use Rattle.kaem_script.specs.declared.refusal.ScriptFault.{ScriptFault}
use Rattle.kaem_script.specs.declared.refusal.ScriptFault.TheVariants.{OpenQuote, BadWord, LongWord, TooManyWords, TooMany}
use Rattle.kaem_script.specs.declared.refusal.ScriptRefusal.{ScriptRefusal}
use Rattle.kaem_script.specs.declared.refusal.ScriptRefusal.TheVariants.{At, OutOfMemory}

-- blank, tab and CR separate words
abbrev pub parts_words : ℕ → Bool
parts_words byte = byte == 32 || byte == 9 || byte == 13

-- a line ends at LF, and a word at a blank or where its line ends
abbrev pub ends_line : ℕ → Bool
ends_line byte = byte == 10

abbrev pub ends_word : ℕ → Bool
ends_word byte = parts_words byte || ends_line byte

-- a quoted word is closed by the next `"` of its line
abbrev pub ends_quoted : ℕ → Bool
ends_quoted byte = byte == 34 || ends_line byte

-- ---- a word, which begins with the first of these bytes

-- a word's text, and the number of bytes that it takes
pub record ScriptWord : Type 0 where
  pub text : List ℕ
  pub size : ℕ

-- no unquoted word has `"`, `$`, `\` or a zero byte
abbrev pub is_wrong : ℕ → Bool
is_wrong byte = byte == 34 || byte == 36 || byte == 92 || byte == 0

abbrev pub plain_text : List ℕ → Result ScriptWord ScriptFault
plain_text text = if list_any is_wrong text then Err BadWord else Ok (record { text = text; size = length text })

unfoldable pub plain_word : List ℕ → Result ScriptWord ScriptFault
plain_word here = plain_text (take (position_or_len ends_word here) here)

-- whether a text begins with a byte that passes the test
abbrev pub begins : (ℕ → Bool) → List ℕ → Bool
begins test [] = false
begins test (byte ∷ rest) = test byte

-- whether a text is empty or begins with a byte that passes the test
abbrev pub ends_or_begins : (ℕ → Bool) → List ℕ → Bool
ends_or_begins test [] = true
ends_or_begins test (byte ∷ rest) = test byte

-- the text between two quotes, given the bytes from the closing one on
abbrev pub between_quotes : List ℕ → List ℕ → Result ScriptWord ScriptFault
between_quotes text closing =
    if begins (λ byte. byte == 34) closing
    then (if ends_or_begins ends_word (drop 1 closing) && not (list_any (λ byte. byte == 0) text)
    then Ok (record { text = text; size = length text + 2 }) else Err BadWord)
    else Err OpenQuote

-- a quoted word, given the bytes after its opening quote
unfoldable pub quoted_word : List ℕ → Result ScriptWord ScriptFault
quoted_word rest = between_quotes (take (position_or_len ends_quoted rest) rest) (drop (position_or_len ends_quoted rest) rest)

-- the first word of a line names a program; a word has at most 255 bytes
abbrev pub names_nothing : List ℕ → Bool
names_nothing text = nat_le (length (stripped text)) 0

abbrev pub fitting : Bool → Result ScriptWord ScriptFault → Result ScriptWord ScriptFault
fitting first (Err fault) = Err fault
fitting first (Ok word) =
    if first && names_nothing word.text then Err BadWord
    else (if nat_lt 255 (length word.text) then Err LongWord else Ok word)

unfoldable pub word_at : Bool → List ℕ → Result ScriptWord ScriptFault
word_at first here = fitting first (if begins (λ byte. byte == 34) here then quoted_word (drop 1 here) else plain_word here)

-- ---- a script

-- the words of a line as a command; a line without words adds no command
abbrev pub with_line : List (List (List ℕ)) → List (List ℕ) → List (List (List ℕ))
with_line commands [] = commands
with_line commands (word ∷ words) = commands ++ (word ∷ words) ∷ []

-- the next word, after this many commands and this many words of the line. A line has at most 64 words, and a script at most 4,096 commands
unfoldable pub next_word : ℕ → ℕ → List ℕ → Result ScriptWord ScriptFault
next_word commands words here =
    if words == most_words then Err TooManyWords
    else (if nat_le words 0 && commands == most_commands then Err TooMany
    else word_at (nat_le words 0) here)

-- a fault and the offset of its word
abbrev pub Commands : Type 0
Commands = Result (List (List (List ℕ))) (ScriptFault × ℕ)

abbrev pub after_word : ℕ → Result ScriptWord ScriptFault → (ScriptWord → Commands) → Commands
after_word at (Err fault) next = Err (fault, at)
after_word at (Ok word) next = next word

-- the commands of a script from offset `at` on, after these commands and these words of the current line; the first `inside` bytes are
-- already read
unfoldable pub commands_from : ℕ → ℕ → List (List (List ℕ)) → List (List ℕ) → List ℕ → Commands
commands_from at inside commands words [] = Ok (with_line commands words)
commands_from at (suc inside) commands words (byte ∷ rest) = commands_from (at + 1) inside commands words rest
commands_from at zero commands words (byte ∷ rest) =
    if ends_line byte then commands_from (at + 1) 0 (with_line commands words) [] rest
    else (if parts_words byte then commands_from (at + 1) 0 commands words rest
    else (if byte == 35 then commands_from (at + 1) (position_or_len ends_line rest) commands words rest
    else after_word at (next_word (length commands) (length words) (byte ∷ rest))
    (λ word. commands_from (at + 1) (word.size - 1) commands (words ++ word.text ∷ []) rest)))

-- the commands of a script, each with its words in order; or the first fault from left to right, with the offset of its word's first byte
abbrev pub commands_of : List ℕ → Commands
commands_of script = commands_from 0 0 [] [] script

-- the answer of a call: the commands, their first fault, or out of memory
abbrev pub Reads : Commands → Result (List (List (List ℕ))) ScriptRefusal → Type 0
Reads meant (Ok commands) = meant ≡ Ok commands
Reads meant (Err (At fault at)) = meant ≡ Err (fault, at)
Reads meant (Err OutOfMemory) = Unit {0}

-- ---- a script that was read

-- the digest of its bytes, and its commands
pub record ScriptContents : Type 0 where
  pub digest : Digest
  pub commands : List (List (List ℕ))

-- the answer of a call: the contents of a script, its first fault, or out of memory
abbrev pub ReadsScript : List ℕ → Result ScriptContents ScriptRefusal → Type 0
ReadsScript script (Ok parsed) = (commands_of script ≡ Ok parsed.commands) × (parsed.digest.0 ≡ sha256 script)
ReadsScript script (Err (At fault at)) = commands_of script ≡ Err (fault, at)
ReadsScript script (Err OutOfMemory) = Unit {0}
