-- The tokens that the meaning of a word stands for. A meaning gives many bytes as a text of the source. Public source: the language M1 of
-- stage0-posix and mescc-tools, whose exact rules here are this project's profile. docs/reference/m1.md says the same for people.
use Rattle.std.specs.Prelude.{◌≡◌, ℕ, List, [], ◌∷◌, map, Option, Some, None, Result, Ok, Err}
use Rattle.std.specs.Int.{w32, to_le_bytes}
use Rattle.hex.specs.Hex.{hex_digit_value}
use Rattle.hex_langs.specs.Items.Tokens.{byte_of}
use Rattle.hex_langs.specs.declared.items.token.Token.{Token}
use Rattle.hex_langs.specs.declared.items.token.Token.TheVariants.{Byte}
use Rattle.m1_lang.specs.declared.words.meaning.WordMeaning.{WordMeaning}
use Rattle.m1_lang.specs.declared.words.meaning.WordMeaning.TheVariants.{Digits, Text, Number, One}
use Rattle.m1_lang.specs.declared.words.meaning.WordFault.{WordFault}
use Rattle.m1_lang.specs.Words.Forms.{Tokens, padded}

-- a byte in front of bytes; without a byte, nothing follows
abbrev pub before_bytes : Option ℕ → List ℕ → List ℕ
before_bytes (Some byte) bytes = byte ∷ bytes
before_bytes None bytes = []

-- the bytes of pairs of digits, up to the first pair that is not a byte
abbrev pub prefix_bytes : List ℕ → List ℕ
prefix_bytes [] = []
prefix_bytes (alone ∷ []) = []
prefix_bytes (high ∷ low ∷ rest) = before_bytes (byte_of (hex_digit_value high) (hex_digit_value low)) (prefix_bytes rest)

-- the tokens of a meaning
abbrev pub meaning_tokens : WordMeaning → List Token
meaning_tokens (Digits digits) = map Byte (prefix_bytes digits.now)
meaning_tokens (Text text) = map Byte (padded text.now)
meaning_tokens (Number n) = map Byte (to_le_bytes w32 n)
meaning_tokens (One token) = token ∷ []

-- a meaning with these tokens, or no meaning
abbrev pub MeansTokens : Option WordMeaning → Option (List Token) → Type 0
MeansTokens (Some meaning) tokens = tokens ≡ Some (meaning_tokens meaning)
MeansTokens None tokens = tokens ≡ None

-- a meaning with these tokens, or the same refusal
abbrev pub MeansResult : Result WordMeaning WordFault → Tokens → Type 0
MeansResult (Ok meaning) tokens = tokens ≡ Ok (meaning_tokens meaning)
MeansResult (Err why) tokens = tokens ≡ Err why
