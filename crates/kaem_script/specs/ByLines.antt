-- A second definition of a script's commands: the text is split at LF into lines, and each line into its words. The law `one_reading`
-- says that this is what `commands_of` of Script.antt reads in one pass. docs/reference/kaem.md says the same for people.
use Rattle.std.specs.Prelude.{ℕ, zero, suc, ◌+◌, ◌-◌, ◌==◌, nat_lt, Bool, ◌&&◌, not, if◌then◌else◌, List, [], ◌∷◌, ◌++◌, length, drop, Result, Ok, Err}
use Rattle.std.specs.List.{after_first, before_first, list_any, position_or_len, prefix_len, slice_split}
use Rattle.ddc_base.specs.Limits.{most_commands, most_words}
use Rattle.kaem_script.specs.declared.refusal.ScriptFault.{ScriptFault}
use Rattle.kaem_script.specs.declared.refusal.ScriptFault.TheVariants.{OpenQuote, BadWord, LongWord, TooManyWords, TooMany}
use Rattle.kaem_script.specs.Script.{Commands, ends_line, ends_or_begins, is_wrong, names_nothing, parts_words, with_line}

-- ---- a word, with which the rest of a line begins

-- a word's text, and the rest of its line
pub record WordOfLine : Type 0 where
  pub text : List ℕ
  pub following : List ℕ

-- a plain word ends before the next blank, tab or CR, or with the line
unfoldable pub plain_of : List ℕ → Result WordOfLine ScriptFault
plain_of line =
    if list_any is_wrong (before_first parts_words line) then Err BadWord
    else Ok (record { text = before_first parts_words line; following = drop (position_or_len parts_words line) line })

abbrev pub is_double_quote : ℕ → Bool
is_double_quote byte = byte == 34

-- a quoted word, given its line after the opening quote, ends at the next quote, which ends the line or is followed by a blank, tab or CR
unfoldable pub quoted_of : List ℕ → Result WordOfLine ScriptFault
quoted_of line =
    if not (list_any is_double_quote line) then Err OpenQuote
    else (if ends_or_begins parts_words (after_first is_double_quote line) && not (list_any (λ byte. byte == 0) (before_first is_double_quote line))
    then Ok (record { text = before_first is_double_quote line; following = after_first is_double_quote line }) else Err BadWord)

abbrev pub read_of : List ℕ → Result WordOfLine ScriptFault
read_of [] = plain_of []
read_of (byte ∷ line) = if is_double_quote byte then quoted_of line else plain_of (byte ∷ line)

-- the first word of a line names a program, and a word has at most 255 bytes
abbrev pub fitting_of : Bool → Result WordOfLine ScriptFault → Result WordOfLine ScriptFault
fitting_of first (Err fault) = Err fault
fitting_of first (Ok word) =
    if first && names_nothing word.text then Err BadWord
    else (if nat_lt 255 (length word.text) then Err LongWord else Ok word)

-- ---- a line

-- the words of a line, or a fault and the offset of its word
abbrev pub LineWords : Type 0
LineWords = Result (List (List ℕ)) (ScriptFault × ℕ)

abbrev pub after_blanks : List ℕ → List ℕ
after_blanks line = drop (prefix_len parts_words line) line

-- no word follows at the end of a line or at a comment
abbrev pub unless_over : {A : Type 0} → A → (List ℕ → A) → List ℕ → A
unless_over over next [] = over
unless_over over next (byte ∷ line) = if byte == 35 then over else next (byte ∷ line)

abbrev pub and_word : ℕ → Result WordOfLine ScriptFault → (WordOfLine → LineWords) → LineWords
and_word at (Err fault) next = Err (fault, at)
and_word at (Ok word) next = next word

-- the words of the rest of a line, after `words`; the line ends at offset `end`, and this many more words are allowed. The first word
-- begins a command, and a script has at most 4,096 of them
unfoldable pub words_of_line : ℕ → ℕ → ℕ → List (List ℕ) → List ℕ → LineWords
words_of_line zero commands end words line = unless_over (Ok words) (λ here. Err (TooManyWords, end - length here)) (after_blanks line)
words_of_line (suc more) commands end words line =
    unless_over (Ok words) (λ here.
    if length words == 0 && commands == most_commands then Err (TooMany, end - length here)
    else and_word (end - length here) (fitting_of (length words == 0) (read_of here)) (λ word.
    words_of_line more commands end (words ++ word.text ∷ []) word.following)) (after_blanks line)

-- ---- all lines

abbrev pub and_words : LineWords → (List (List ℕ) → Commands) → Commands
and_words (Err fault) next = Err fault
and_words (Ok words) next = next words

-- the commands of these lines, the first of which begins at offset `at`, after `commands`
unfoldable pub commands_of_lines : ℕ → List (List (List ℕ)) → List (List ℕ) → Commands
commands_of_lines at commands [] = Ok commands
commands_of_lines at commands (line ∷ lines) =
    and_words (words_of_line most_words (length commands) (at + length line) [] line)
    (λ words. commands_of_lines (at + length line + 1) (with_line commands words) lines)

abbrev pub commands_by_line : List ℕ → Commands
commands_by_line script = commands_of_lines 0 [] (slice_split ends_line script)
