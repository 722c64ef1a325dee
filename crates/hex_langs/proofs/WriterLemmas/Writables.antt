-- Tokens with good names and small numbers give items that have lines.
use Rattle.std.proofs.Common.{ℕ, ◌<◌, ◌^◌, List, [], ◌∷◌, ◌++◌, arith, Option, Some, None, Ok, Err}
use Rattle.std.specs.Int.{w32, from_le_bytes}
use Rattle.std.proofs.lemmas.Nat.{xor_of_32}
use Rattle.hex_langs.specs.declared.items.item.Kind.{Kind}
use Rattle.hex_langs.specs.declared.items.item.Item.{Item}
use Rattle.hex_langs.specs.declared.items.token.Token.{Token}
use Rattle.hex_langs.specs.declared.items.token.Token.TheVariants.{Byte, Field, Reference, Alone}
use Rattle.hex_langs.specs.declared.items.words.Open.{Open}
use Rattle.hex_langs.specs.declared.items.words.Begun.{Begun}
use Rattle.hex_langs.specs.declared.items.words.Begun.TheVariants.{Nothing, One, Two, Three}
use Rattle.hex_langs.specs.Items.Words.{byte_in, field_in, reference_in, Step, taken, word_items}
use Rattle.hex_langs.specs.Items.Reading.{NoToken, Faulty, formed, Formed, after_step, Reading, Then}
use Rattle.hex_langs.specs.Writer.Writable.{AreWritable, IsHexName, IsWritable}

abbrev pub IsGood : Token → Type 0
IsGood (Byte byte) = byte < 256
IsGood (Field mask) = mask < 2 ^ 32
IsGood (Reference kind name) = IsHexName name
IsGood (Alone it) = IsWritable it

abbrev pub AreGood : {F : Type 0} → Reading F → Type 0
AreGood (Then at token later) = IsGood token × AreGood later
AreGood _ = Unit {0}

abbrev pub BytesFit : Begun → Type 0
BytesFit Nothing = Unit {0}
BytesFit (One a) = Unit {0} × (a < 256)
BytesFit (Two a b) = (a < 256) × (b < 256)
BytesFit (Three a b c) = (a < 256) × (b < 256) × (c < 256)

abbrev pub NameFits : Option (Kind × List ℕ) → Type 0
NameFits None = Unit {0}
NameFits (Some reference) = IsHexName reference.1

pub record WordFits (word : Open) : Type 0 where
  pub mask : word.mask < 2 ^ 32
  pub bytes : BytesFit word.begun
  pub name : NameFits word.reference

abbrev pub OpenFits : Option Open → Type 0
OpenFits None = Unit {0}
OpenFits (Some word) = WordFits word

abbrev pub StepFits : Step → Type 0
StepFits (Ok step) = AreWritable step.0 × OpenFits step.1
StepFits (Err why) = Unit {0}

items-fit : (reference : Option (Kind × List ℕ)) (value : ℕ) → NameFits reference → value < 2 ^ 32 → AreWritable (word_items reference value)
items-fit None value name small = (omega arith, (omega arith, (omega arith, (omega arith, tt))))
items-fit (Some reference) value name small = ((small, name), tt)

byte-fits : (word : Open) (begun : Begun) (byte : ℕ) → WordFits word → BytesFit begun → byte < 256 → StepFits (byte_in word begun byte)
byte-fits word Nothing byte fits bytes small = (tt, record { mask = fits.mask; bytes = (tt, small); name = fits.name })
byte-fits word (One a) byte fits bytes small = (tt, record { mask = fits.mask; bytes = (bytes.1, small); name = fits.name })
byte-fits word (Two a b) byte fits bytes small = (tt, record { mask = fits.mask; bytes = (bytes.0, bytes.1, small); name = fits.name })
byte-fits word (Three a b c) byte fits bytes small =
    let value : from_le_bytes w32 (a ∷ b ∷ c ∷ byte ∷ []) < 2 ^ 32 = omega (arith, bytes.0, bytes.1, bytes.2) in
    (items-fit word.reference _ fits.name (xor_of_32 word.mask (from_le_bytes w32 (a ∷ b ∷ c ∷ byte ∷ [])) fits.mask value), tt)

field-fits : (word : Open) (begun : Begun) (mask : ℕ) → WordFits word → mask < 2 ^ 32 → BytesFit begun → StepFits (field_in word begun mask)
field-fits word Nothing mask fits small bytes = (tt, record { mask = xor_of_32 word.mask mask fits.mask small; bytes = fits.bytes; name = fits.name })
field-fits word (One a) mask fits small bytes = tt
field-fits word (Two a b) mask fits small bytes = tt
field-fits word (Three a b c) mask fits small bytes = tt

reference-fits : (word : Open) (reference : Option (Kind × List ℕ)) (begun : Begun) (at : ℕ) (kind : Kind) (name : List ℕ) → WordFits word → IsHexName name
    → StepFits (reference_in word reference begun at kind name)
reference-fits word (Some other) begun at kind name fits is = tt
reference-fits word None Nothing at kind name fits is = (tt, record { mask = fits.mask; bytes = fits.bytes; name = is })
reference-fits word None (One a) at kind name fits is = tt
reference-fits word None (Two a b) at kind name fits is = tt
reference-fits word None (Three a b c) at kind name fits is = tt

step-fits : (word : Option Open) (at : ℕ) (token : Token) → OpenFits word → IsGood token → StepFits (taken word at token)
step-fits None at (Byte byte) fits good = ((good, tt), tt)
step-fits None at (Alone it) fits good = ((good, tt), tt)
step-fits None at (Field mask) fits good = (tt, record { mask = good; bytes = tt; name = tt })
step-fits None at (Reference kind name) fits good = (tt, record { mask = omega arith; bytes = tt; name = good })
step-fits (Some word) at (Byte byte) fits good = byte-fits word word.begun byte fits fits.bytes good
step-fits (Some word) at (Alone it) fits good = tt
step-fits (Some word) at (Field mask) fits good = field-fits word word.begun mask fits good fits.bytes
step-fits (Some word) at (Reference kind name) fits good = reference-fits word word.reference word.begun at kind name fits good

all-append : (xs ys : List Item) → AreWritable xs → AreWritable ys → AreWritable (xs ++ ys)
all-append [] ys first second = second
all-append (x ∷ xs) ys first second = (first.0, all-append xs ys first.1 second)

goes-on : {F : Type 0} (step : Step) (rest : Option Open → Formed F) → StepFits step → ((next : Option Open) → OpenFits next → AreWritable (rest next).items)
    → AreWritable (after_step step rest).items
goes-on (Ok step) rest fits later = all-append step.0 (rest step.1).items fits.0 (later step.1 fits.1)
goes-on (Err why) rest fits later = tt

-- the items of good tokens have lines
pub formed-writable : {F : Type 0} (word : Option Open) (reading : Reading F) → OpenFits word → AreGood reading → AreWritable (formed word reading).items
formed-writable word NoToken fits good = tt
formed-writable word (Faulty why at) fits good = tt
formed-writable word (Then at token later) fits good =
    goes-on (taken word at token) (λ next. formed next later) (step-fits word at token fits good.0) (λ next next_fits. formed-writable next later next_fits good.1)
