-- What stands between the process and the top call.
use Rattle.std.specs.Prelude.{ℕ, List, map}
use Rattle.std.specs.Borrow.{Bor}

-- the bytes of each word
abbrev pub word_bytes : List (Bor (List ℕ)) → List (List ℕ)
word_bytes words = map (λ (word : Bor (List ℕ)). word.now) words
