-- The words of a script of bytes are bytes.
use Rattle.std.proofs.Common.{ℕ, zero, suc, ◌+◌, ◌-◌, ◌<◌, ◌==◌, ◌&&◌, Bool, true, false, cond, not, List, [], ◌∷◌, ◌++◌, length, drop, take, Result, Ok, Err, All}
use Rattle.std.specs.List.{list_any, position_or_len}
use Rattle.std.specs.Prelude.{nat_le, nat_lt}
use Rattle.std.proofs.lemmas.List.Elements.{All-drop, All-nil, All-push, All-tail, All-take}
use Rattle.ddc_base.specs.Limits.{most_commands, most_words}
use Rattle.mem_files.specs.Sound.{AreBytes}
use Rattle.kaem_script.specs.declared.refusal.ScriptFault.{ScriptFault}
use Rattle.kaem_script.specs.declared.refusal.ScriptFault.TheVariants.{BadWord, LongWord, OpenQuote, TooMany, TooManyWords}
use Rattle.kaem_script.specs.Script.{Commands, ScriptWord, begins, after_word, commands_from, commands_of, ends_line, ends_or_begins, ends_quoted, ends_word, fitting, is_wrong, names_nothing, next_word, parts_words, plain_word, quoted_word, with_line, word_at}

abbrev IsByte : ℕ → Type 0
IsByte byte = byte < 256

-- ---- a word

-- what is read is of bytes
abbrev HasBytes : Result ScriptWord ScriptFault → Type 0
HasBytes (Ok word) = AreBytes word.text
HasBytes (Err fault) = Unit {0}

plain-bytes : (here : List ℕ) → AreBytes here → HasBytes (plain_word here)
unfolding plain_word
plain-bytes here are = by (list_any is_wrong (take (position_or_len ends_word here) here))
  where
    by : (wrong : Bool) → HasBytes (cond wrong (Err BadWord) (Ok (record { text = take (position_or_len ends_word here) here; size = length (take (position_or_len ends_word here) here) })))
    by true = tt
    by false = All-take IsByte (position_or_len ends_word here) here are

quoted-bytes : (rest : List ℕ) → AreBytes rest → HasBytes (quoted_word rest)
unfolding quoted_word
quoted-bytes rest are =
    by (begins (λ byte. byte == 34) (drop (position_or_len ends_quoted rest) rest))
    (ends_or_begins ends_word (drop 1 (drop (position_or_len ends_quoted rest) rest)) && not (list_any (λ byte. byte == 0) (take (position_or_len ends_quoted rest) rest)))
  where
    by : (closed good : Bool) → HasBytes (cond closed (cond good
        (Ok (record { text = take (position_or_len ends_quoted rest) rest; size = length (take (position_or_len ends_quoted rest) rest) + 2 })) (Err BadWord)) (Err OpenQuote))
    by false good = tt
    by true false = tt
    by true true = All-take IsByte (position_or_len ends_quoted rest) rest are

fitting-bytes : (first : Bool) (found : Result ScriptWord ScriptFault) → HasBytes found → HasBytes (fitting first found)
fitting-bytes first (Err fault) are = tt
fitting-bytes first (Ok word) are = by (first && names_nothing word.text) (nat_lt 255 (length word.text))
  where
    by : (nothing long : Bool) → HasBytes (cond nothing (Err BadWord) (cond long (Err LongWord) (Ok word)))
    by true long = tt
    by false true = tt
    by false false = are

word-bytes : (first : Bool) (here : List ℕ) → AreBytes here → HasBytes (word_at first here)
unfolding word_at
word-bytes first here are = by (begins (λ byte. byte == 34) here)
  where
    by : (quoted : Bool) → HasBytes (fitting first (cond quoted (quoted_word (drop 1 here)) (plain_word here)))
    by true = fitting-bytes first (quoted_word (drop 1 here)) (quoted-bytes (drop 1 here) (All-drop IsByte 1 here are))
    by false = fitting-bytes first (plain_word here) (plain-bytes here are)

next-bytes : (commands words : ℕ) (here : List ℕ) → AreBytes here → HasBytes (next_word commands words here)
unfolding next_word
next-bytes commands words here are = by (words == most_words) (nat_le words 0 && commands == most_commands)
  where
    by : (many full : Bool) → HasBytes (cond many (Err TooManyWords) (cond full (Err TooMany) (word_at (nat_le words 0) here)))
    by true full = tt
    by false true = tt
    by false false = word-bytes (nat_le words 0) here are

-- ---- all commands

abbrev pub AllBytes : Commands → Type 0
AllBytes (Ok commands) = All (All AreBytes) commands
AllBytes (Err fault) = Unit {0}

line-bytes : (commands : List (List (List ℕ))) (words : List (List ℕ)) → All (All AreBytes) commands → All AreBytes words → All (All AreBytes) (with_line commands words)
line-bytes commands [] are line = are
line-bytes commands (word ∷ words) are line = All-push (All AreBytes) commands (word ∷ words) are line

either : (b : Bool) (one other : Commands) → AllBytes one → AllBytes other → AllBytes (cond b one other)
either true one other first second = first
either false one other first second = second

following : (at : ℕ) (word : Result ScriptWord ScriptFault) (next : ScriptWord → Commands) → HasBytes word → ((found : ScriptWord) → AreBytes found.text → AllBytes (next found))
    → AllBytes (after_word at word next)
following at (Err fault) next are later = tt
following at (Ok word) next are later = later word are

from-bytes : (at inside : ℕ) (commands : List (List (List ℕ))) (words : List (List ℕ)) (rest : List ℕ) → All (All AreBytes) commands → All AreBytes words → AreBytes rest
    → AllBytes (commands_from at inside commands words rest)
unfolding commands_from
from-bytes at inside commands words [] are line bytes = line-bytes commands words are line
from-bytes at (suc inside) commands words (byte ∷ rest) are line bytes = from-bytes (at + 1) inside commands words rest are line (All-tail IsByte byte rest bytes)
from-bytes at zero commands words (byte ∷ rest) are line bytes =
    let later : AreBytes rest = All-tail IsByte byte rest bytes in
    let next : ScriptWord → Commands = λ word. commands_from (at + 1) (word.size - 1) commands (words ++ word.text ∷ []) rest in
    let found = next_word (length commands) (length words) (byte ∷ rest) in
    let ended = commands_from (at + 1) 0 (with_line commands words) [] rest in
    let blank = commands_from (at + 1) 0 commands words rest in
    let comment = commands_from (at + 1) (position_or_len ends_line rest) commands words rest in
    either (ends_line byte) ended (cond (parts_words byte) blank (cond (byte == 35) comment (after_word at found next)))
    (from-bytes (at + 1) 0 (with_line commands words) [] rest (line-bytes commands words are line) (All-nil AreBytes) later)
    (either (parts_words byte) blank (cond (byte == 35) comment (after_word at found next)) (from-bytes (at + 1) 0 commands words rest are line later)
    (either (byte == 35) comment (after_word at found next) (from-bytes (at + 1) (position_or_len ends_line rest) commands words rest are line later)
    (following at found next (next-bytes (length commands) (length words) (byte ∷ rest) bytes)
    (λ word text. from-bytes (at + 1) (word.size - 1) commands (words ++ word.text ∷ []) rest are (All-push AreBytes words word.text line text) later))))

pub commands-bytes : (script : List ℕ) → AreBytes script → AllBytes (commands_of script)
commands-bytes script are = from-bytes 0 0 [] [] script (All-nil (All AreBytes)) (All-nil AreBytes) are
