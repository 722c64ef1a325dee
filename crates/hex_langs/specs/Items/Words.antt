-- Words: one or more fields and references, of which at most one is a reference, and then exactly four bytes. Public source: the
-- languages hex1 and hex2 of stage0-posix and mescc-tools for riscv64, whose exact rules here are this project's profile.
-- docs/reference/hex2.md says the same for people.
use Rattle.std.specs.Prelude.{◌≡◌, ℕ, ◌+◌, ◌<◌, List, [], ◌∷◌, ◌++◌, length, map, Option, Some, None, Result, Ok, Err, bit_xor}
use Rattle.std.specs.Int.{w32, from_le_bytes, to_le_bytes}
use Rattle.ddc_base.specs.Limits.{most_items}
use Rattle.hex_langs.specs.declared.items.item.Kind.{Kind}
use Rattle.hex_langs.specs.declared.items.item.Item.{Item}
use Rattle.hex_langs.specs.declared.items.item.Item.TheVariants as item
use Rattle.hex_langs.specs.declared.items.token.Token.{Token}
use Rattle.hex_langs.specs.declared.items.token.Token.TheVariants.{Byte, Field, Reference, Alone}
use Rattle.hex_langs.specs.declared.items.words.Open.{Open}
use Rattle.hex_langs.specs.declared.items.words.Begun.{Begun}
use Rattle.hex_langs.specs.declared.items.words.Begun.TheVariants.{Nothing, One, Two, Three}
use Rattle.hex_langs.specs.declared.items.words.Halt.{Halt}
use Rattle.hex_langs.specs.declared.items.words.Halt.TheVariants.{Dangling, Second, TooLong, OutOfMemory}

-- the result of taking a token: the items that it forms and the word that is open after it, or why it is not taken
abbrev pub Step : Type 0
Step = Result (List Item × Option Open) Halt

abbrev pub still_open : Open → Step
still_open word = Ok ([], Some word)

-- the items of a complete word, whose four bytes were XORed with its fields
abbrev pub word_items : Option (Kind × List ℕ) → ℕ → List Item
word_items None value = map item.Byte (to_le_bytes w32 value)
word_items (Some reference) value = item.Word value reference.0 reference.1 ∷ []

-- an open word with these bytes takes one more byte
abbrev pub byte_in : Open → Begun → ℕ → Step
byte_in word Nothing byte = still_open (record word { begun = One byte })
byte_in word (One a) byte = still_open (record word { begun = Two a byte })
byte_in word (Two a b) byte = still_open (record word { begun = Three a b byte })
byte_in word (Three a b c) byte = Ok (word_items word.reference (bit_xor word.mask (from_le_bytes w32 (a ∷ b ∷ c ∷ byte ∷ []))), None)

abbrev pub byte_taken : Open → ℕ → Step
byte_taken word byte = byte_in word word.begun byte

-- a field must come before the bytes of the word
abbrev pub field_in : Open → Begun → ℕ → Step
field_in word Nothing mask = still_open (record word { mask = bit_xor word.mask mask })
field_in word _ mask = Err (Dangling word.first)

-- a reference must come before the bytes of the word, and there is only one
abbrev pub reference_in : Open → Option (Kind × List ℕ) → Begun → ℕ → Kind → List ℕ → Step
reference_in word (Some other) begun at kind name = Err (Second at)
reference_in word None Nothing at kind name = still_open (record word { reference = Some (kind, name) })
reference_in word None _ at kind name = Err (Dangling word.first)

-- a token at an offset, with or without an open word before it
abbrev pub taken : Option Open → ℕ → Token → Step
taken None at (Byte byte) = Ok (item.Byte byte ∷ [], None)
taken None at (Alone it) = Ok (it ∷ [], None)
taken None at (Field mask) = still_open (record { first = at; mask = mask; reference = None; begun = Nothing })
taken None at (Reference kind name) = still_open (record { first = at; mask = 0; reference = Some (kind, name); begun = Nothing })
taken (Some word) at (Byte byte) = byte_taken word byte
taken (Some word) at (Alone it) = Err (Dangling word.first)
taken (Some word) at (Field mask) = field_in word word.begun mask
taken (Some word) at (Reference kind name) = reference_in word word.reference word.begun at kind name

-- the items are extended by `more`, unless they are too many or memory runs out
abbrev pub Adds : List Item → Result (Unit {0}) Halt → List Item → List Item → Type 0
Adds more (Ok done) old new = new ≡ old ++ more
Adds more (Err TooLong) old new = most_items < length old + length more
Adds more (Err OutOfMemory) old new = Unit {0}
Adds more (Err other) old new = ⊥

-- the answer of taking a token, and its effect on the items
abbrev pub Takes : Result (Option Open) Halt → Step → List Item → List Item → Type 0
Takes (Err OutOfMemory) meant old new = Unit {0}
Takes (Err TooLong) (Ok step) old new = most_items < length old + length step.0
Takes (Err why) meant old new = meant ≡ Err why
Takes (Ok word) (Ok step) old new = (new ≡ old ++ step.0) × (word ≡ step.1)
Takes (Ok word) (Err why) old new = ⊥
