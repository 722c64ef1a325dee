-- What the place of an item is: the offset of the token from which the reader forms the item. docs/reference/command-line.md says the same
-- for people.
use Rattle.std.specs.Prelude.{◌≡◌, ℕ, zero, suc, ◌+◌, ◌<◌, ◌≤◌, Option, None, Ok, List, length}
use Rattle.hex_langs.specs.declared.items.item.Item.{Item}
use Rattle.hex_langs.specs.declared.items.token.Dialect.{Dialect}
use Rattle.hex_langs.specs.declared.items.token.Token.{Token}
use Rattle.hex_langs.specs.declared.items.token.TokenFault.{TokenFault}
use Rattle.hex_langs.specs.declared.items.words.Open.{Open}
use Rattle.hex_langs.specs.Items.Reading.{Faulty, formed, NoToken, reading, Reading, Then, with_prefix}
use Rattle.hex_langs.specs.Items.Words.{taken}
use Rattle.tool_commands.specs.Offsets.{first_offset}

-- what is read after so many tokens
abbrev pub after_tokens : ℕ → Reading TokenFault → Reading TokenFault
after_tokens zero tokens = tokens
after_tokens (suc count) NoToken = NoToken
after_tokens (suc count) (Faulty why at) = Faulty why at
after_tokens (suc count) (Then at token later) = after_tokens count later

-- The first `count` tokens form the items before. The next token, at offset `at`, forms the items that include the one of this index, from
-- 0. The place is `at`, or the offset of the first token of the word that this token completes. `done` items were formed already.
pub record IsFormedAt (index done : ℕ) (begun : Option Open) (tokens : Reading TokenFault) (offset : ℕ) : Type 0 where
  pub count : ℕ
  pub at : ℕ
  pub token : Token
  pub later : Reading TokenFault
  pub read : after_tokens count tokens ≡ Then at token later
  pub before : List Item
  pub word : Option Open
  pub reads : formed begun tokens ≡ with_prefix before (formed word (Then at token later))
  pub made : List Item
  pub next : Option Open
  pub takes : taken word at token ≡ Ok (made, next)
  pub low : done + length before ≤ index
  pub high : index < done + length before + length made
  pub offset_is : offset ≡ first_offset word at

-- this offset is the place of the item of this index in a source
abbrev pub IsOffsetOf : Dialect → List ℕ → ℕ → ℕ → Type 0
IsOffsetOf dialect source index offset = IsFormedAt index 0 None (reading dialect 0 0 source) offset
