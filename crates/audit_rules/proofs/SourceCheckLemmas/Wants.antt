-- No source comes to want of memory.
use Rattle.std.proofs.Common.{◌≢◌, ℕ, ◌+◌, Bool, true, false, if◌then◌else◌, nat_lt, Option, None, Some, Result, Ok, Err, List, [], ◌∷◌, ◌++◌, length, is_some, not, subst}
use Rattle.ddc_base.specs.Limits.{most_items, most_source}
use Rattle.hex_langs.specs.declared.items.item.Item.{Item}
use Rattle.hex_langs.specs.declared.items.item.Kind.{Kind}
use Rattle.hex_langs.specs.declared.items.reader.HexRefusal.{HexRefusal}
use Rattle.hex_langs.specs.declared.items.reader.HexRefusal.TheVariants as hex
use Rattle.hex_langs.specs.declared.items.token.Dialect.{Dialect}
use Rattle.hex_langs.specs.declared.items.token.TokenFault.{TokenFault}
use Rattle.hex_langs.specs.declared.items.token.TokenFault.TheVariants as fault
use Rattle.hex_langs.specs.declared.items.token.Token.{Token}
use Rattle.hex_langs.specs.declared.items.token.Token.TheVariants.{Byte, Field, Reference, Alone}
use Rattle.hex_langs.specs.declared.items.words.Begun.{Begun}
use Rattle.hex_langs.specs.declared.items.words.Begun.TheVariants.{Nothing, One, Two, Three}
use Rattle.hex_langs.specs.declared.items.words.Halt.{Halt}
use Rattle.hex_langs.specs.declared.items.words.Halt.TheVariants as halt
use Rattle.hex_langs.specs.declared.items.words.Open.{Open}
use Rattle.hex_langs.specs.Items.Reading.{Ending, NoToken, Faulted, Faulty, Formed, Halted, Reading, Then, Whole, answer, after_step, formed, items_of, limited_items, reading}
use Rattle.hex_langs.specs.Items.Words.{Step, byte_in, field_in, reference_in, taken}
use Rattle.hex_langs.specs.declared.link.number.Miss.{Miss}
use Rattle.hex_langs.specs.declared.link.number.Miss.TheVariants.{NoLabel, OutOfReach}
use Rattle.hex_langs.specs.Link.Link.{Labels, address_of, appended, bytes_from, first_repeat, item_bytes, link_of, onto, size_at, unless_repeat}
use Rattle.hex_langs.specs.Link.Values.{linked}
use Rattle.m1_lang.specs.declared.words.meaning.WordFault.{WordFault}
use Rattle.m1_lang.specs.declared.words.meaning.WordFault.TheVariants as word
use Rattle.m1_lang.specs.Words.Words.{Word, Words, open_quote, words_of, word_list}
use Rattle.m1_lang.specs.declared.refusal.M1Refusal.{M1Refusal}
use Rattle.m1_lang.specs.declared.refusal.M1Refusal.TheVariants as m1
use Rattle.m1_lang.specs.Definitions.{Cut, Defined, Defines, SourcePart, Plain, defined_with, definitions, definitions_in, is_value, parts, plain_words, unless_open, value_in, with_defined}
use Rattle.m1_lang.specs.Expansion.{expansion_by, expansion_of, items_unless_refused, words_reading}

-- a word's halt that is none for want of memory
abbrev NotHalt : Halt → Type 0
NotHalt halt.OutOfMemory = ⊥
NotHalt _ = Unit {0}

abbrev NotStep : Step → Type 0
NotStep (Ok step) = Unit {0}
NotStep (Err why) = NotHalt why

abbrev NotEnding : {F : Type 0} → Ending F → Type 0
NotEnding Whole = Unit {0}
NotEnding (Halted why) = NotHalt why
NotEnding (Faulted why at) = Unit {0}

byte-not : (word : Open) (begun : Begun) (byte : ℕ) → NotStep (byte_in word begun byte)
byte-not word Nothing byte = tt
byte-not word (One a) byte = tt
byte-not word (Two a b) byte = tt
byte-not word (Three a b c) byte = tt

field-not : (word : Open) (begun : Begun) (mask : ℕ) → NotStep (field_in word begun mask)
field-not word Nothing mask = tt
field-not word _ mask = tt

reference-not : (word : Open) (reference : Option (Kind × List ℕ)) (begun : Begun) (at : ℕ) (kind : Kind) (name : List ℕ) → NotStep (reference_in word reference begun at kind name)
reference-not word (Some other) begun at kind name = tt
reference-not word None Nothing at kind name = tt
reference-not word None _ at kind name = tt

taken-not : (word : Option Open) (at : ℕ) (token : Token) → NotStep (taken word at token)
taken-not None at (Byte byte) = tt
taken-not None at (Alone it) = tt
taken-not None at (Field mask) = tt
taken-not None at (Reference kind name) = tt
taken-not (Some word) at (Byte byte) = byte-not word word.begun byte
taken-not (Some word) at (Alone it) = tt
taken-not (Some word) at (Field mask) = field-not word word.begun mask
taken-not (Some word) at (Reference kind name) = reference-not word word.reference word.begun at kind name

after-not : {F : Type 0} (step : Step) (rest : Option Open → Formed F) → NotStep step → ((next : Option Open) → NotEnding (rest next).end) → NotEnding (after_step step rest).end
after-not (Ok step) rest fine later = later step.1
after-not (Err why) rest fine later = fine

formed-not : {F : Type 0} (word : Option Open) (r : Reading F) → NotEnding (formed word r).end
formed-not None NoToken = tt
formed-not (Some word) NoToken = tt
formed-not word (Faulty why at) = tt
formed-not word (Then at token later) = after-not (taken word at token) (λ next. formed next later) (taken-not word at token) (λ next. formed-not next later)

-- hex1 and hex2
abbrev NotHex : {A : Type 0} → Result A HexRefusal → Type 0
NotHex (Err hex.OutOfMemory) = ⊥
NotHex _ = Unit {0}

halted-not : (items : List Item) (why : Halt) → NotHalt why → NotHex (answer items (Halted why))
halted-not items halt.OutOfMemory fine = fine
halted-not items (halt.Dangling first) fine = tt
halted-not items (halt.Second at) fine = tt
halted-not items halt.TooLong fine = tt

faulted-not : (items : List Item) (why : TokenFault) (at : ℕ) → NotHex (answer items (Faulted why at))
faulted-not items fault.OddDigits at = tt
faulted-not items fault.BadField at = tt

answer-not : (items : List Item) (end : Ending TokenFault) → NotEnding end → NotHex (answer items end)
answer-not items Whole fine = tt
answer-not items (Halted why) fine = halted-not items why fine
answer-not items (Faulted why at) fine = faulted-not items why at

choice-not : (b : Bool) (r : Result (List Item) HexRefusal) → NotHex r → NotHex (if b then Err hex.TooLong else r)
choice-not true r fine = tt
choice-not false r fine = fine

items-not : (dialect : Dialect) (source : List ℕ) → NotHex (items_of dialect source)
unfolding items_of
items-not dialect source =
    let all = formed None (reading dialect 0 0 source) in
    choice-not (nat_lt most_source (length source)) (limited_items all)
    (choice-not (nat_lt most_items (length all.items)) (answer all.items all.end) (answer-not all.items all.end (formed-not None (reading dialect 0 0 source))))

onto-not : (prefix : List ℕ) (r : Result (List ℕ) HexRefusal) → NotHex r → NotHex (onto prefix r)
onto-not prefix (Ok bytes) fine = tt
onto-not prefix (Err hex.OutOfMemory) fine = fine
onto-not prefix (Err _) fine = tt

put-not : (r : Result (List ℕ) Miss) (index : ℕ) (later : Result (List ℕ) HexRefusal) → NotHex later → NotHex (appended r index later)
put-not (Ok bytes) index later fine = onto-not bytes later fine
put-not (Err NoLabel) index later fine = tt
put-not (Err OutOfReach) index later fine = tt

bytes-not : (labels : Labels) (address index : ℕ) (items : List Item) → NotHex (bytes_from labels address index items)
bytes-not labels address index [] = tt
bytes-not labels address index (it ∷ items) =
    put-not (item_bytes labels address it) index (bytes_from labels (address + size_at address it) (index + 1) items) (bytes-not labels (address + size_at address it) (index + 1) items)

repeat-not : (o : Option ℕ) (later : Result (List ℕ) HexRefusal) → NotHex later → NotHex (unless_repeat o later)
repeat-not None later fine = fine
repeat-not (Some index) later fine = tt

link-not : (items : List Item) (base : ℕ) → NotHex (link_of items base)
unfolding link_of
link-not items base = repeat-not (first_repeat [] 0 items) (bytes_from (address_of base items) base 0 items) (bytes-not (address_of base items) base 0 items)

linked-not : (base : ℕ) (r : Result (List Item) HexRefusal) → NotHex r → NotHex (linked base r)
linked-not base (Ok items) fine = link-not items base
linked-not base (Err hex.OutOfMemory) fine = fine
linked-not base (Err _) fine = tt

pub items-never : (dialect : Dialect) (source : List ℕ) → items_of dialect source ≢ Err hex.OutOfMemory
items-never dialect source is = subst NotHex is (items-not dialect source)

pub values-never : (dialect : Dialect) (base : ℕ) (source : List ℕ) → linked base (items_of dialect source) ≢ Err hex.OutOfMemory
values-never dialect base source is = subst NotHex is (linked-not base (items_of dialect source) (items-not dialect source))

-- M1
abbrev NotM1 : {A : Type 0} → Result A M1Refusal → Type 0
NotM1 (Err m1.OutOfMemory) = ⊥
NotM1 _ = Unit {0}

m1-halted : (items : List Item) (why : Halt) → NotHalt why → NotM1 (items_unless_refused items (Halted why))
m1-halted items halt.OutOfMemory fine = fine
m1-halted items (halt.Dangling first) fine = tt
m1-halted items (halt.Second at) fine = tt
m1-halted items halt.TooLong fine = tt

m1-faulted : (items : List Item) (why : WordFault) (at : ℕ) → NotM1 (items_unless_refused items (Faulted why at))
m1-faulted items word.UnknownWord at = tt
m1-faulted items word.NumberRange at = tt

m1-answer : (items : List Item) (end : Ending WordFault) → NotEnding end → NotM1 (items_unless_refused items end)
m1-answer items Whole fine = tt
m1-answer items (Halted why) fine = m1-halted items why fine
m1-answer items (Faulted why at) fine = m1-faulted items why at

m1-choice : (b : Bool) (r : Result (List Item) M1Refusal) → NotM1 r → NotM1 (if b then Err m1.TooLong else r)
m1-choice true r fine = tt
m1-choice false r fine = fine

with-not : (r : Result Defined M1Refusal) (rest : Defined → Result Defined M1Refusal) → NotM1 r → ((seen : Defined) → NotM1 (rest seen)) → NotM1 (with_defined r rest)
with-not (Ok seen) rest fine later = later seen
with-not (Err m1.OutOfMemory) rest fine later = fine
with-not (Err _) rest fine later = tt

one-not : (seen : Defined) (at : ℕ) (name value : List ℕ) → NotM1 (defined_with seen at name value)
one-not seen at name value = by_tests (not (is_value value)) (is_some (value_in seen name)) where
  by_tests : (bad twice : Bool) → NotM1 (if bad then Err (m1.BadDefine at) else (if twice then Err (m1.DoubleDefine at) else Ok (seen ++ (name, value) ∷ [])))
  by_tests true twice = tt
  by_tests false true = tt
  by_tests false false = tt

defined-not : (seen : Defined) (all : List SourcePart) → NotM1 (definitions seen all)
defined-not seen [] = tt
defined-not seen (Defines at name value ∷ rest) = with-not (defined_with seen at name value) (λ more. definitions more rest) (one-not seen at name value) (λ more. defined-not more rest)
defined-not seen (Cut at ∷ rest) = tt
defined-not seen (Plain word ∷ rest) = defined-not seen rest

open-not : (o : Option ℕ) (later : Result Defined M1Refusal) → NotM1 later → NotM1 (unless_open o later)
open-not None later fine = fine
open-not (Some at) later fine = tt

in-not : (words : Words) → NotM1 (definitions_in words)
in-not words = open-not (open_quote words) (definitions [] (parts (word_list words))) (defined-not [] (parts (word_list words)))

by-not : (r : Result Defined M1Refusal) (words : List Word) → NotM1 r → NotM1 (expansion_by r words)
by-not (Ok defined) words fine =
    let all = formed None (words_reading (value_in defined) words) in
    m1-choice (nat_lt most_items (length all.items)) (items_unless_refused all.items all.end) (m1-answer all.items all.end (formed-not None (words_reading (value_in defined) words)))
by-not (Err m1.OutOfMemory) words fine = fine
by-not (Err _) words fine = tt

pub expansions-never : (source : List ℕ) → expansion_of source ≢ Err m1.OutOfMemory
unfolding expansion_of
expansions-never source is =
    subst NotM1 is
    (m1-choice (nat_lt most_source (length source)) (expansion_by (definitions_in (words_of source)) (plain_words (parts (word_list (words_of source)))))
    (by-not (definitions_in (words_of source)) (plain_words (parts (word_list (words_of source)))) (in-not (words_of source))))
