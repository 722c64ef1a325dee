-- What follows an offset of a source, after blanks and comments: a word, a quote that is not closed, or nothing. Public source: the
-- language M1 of stage0-posix and mescc-tools, whose exact rules here are this project's profile. docs/reference/m1.md says the same for
-- people.
use Rattle.std.specs.Prelude.{◌≡◌, ℕ, ◌+◌, ◌<◌, ◌≤◌, List, length, drop}
use Rattle.m1_lang.specs.Words.Words.{Words, words_from, NoWord, Unclosed, Found}
use Rattle.m1_lang.specs.declared.words.splitting.Ahead.{Ahead}
use Rattle.m1_lang.specs.declared.words.splitting.Ahead.TheVariants as next

-- the words from an offset of a source on
abbrev pub words_at : List ℕ → ℕ → Words
words_at source at = words_from at 0 (drop at source)

-- the next word from an offset on, with the offset after its last byte
abbrev pub FindsAhead : Ahead → List ℕ → ℕ → Type 0
FindsAhead next.End source at = words_at source at ≡ NoWord
FindsAhead (next.Open offset) source at = words_at source at ≡ Unclosed offset
FindsAhead (next.Word start text after) source at =
    (words_at source at ≡ Found (record { at = start; text = text.now }) (words_at source after)) × (at < after) × (after ≤ length source)
    × (after ≡ start + length text.now)
