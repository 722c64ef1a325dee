-- What an M1 source expands to: the items of hex2 that its words give, or its first refusal. Public source: the language M1 of stage0-posix
-- and mescc-tools, whose exact rules here are this project's profile. docs/reference/m1.md says the same for people.
use Rattle.std.specs.Prelude.{◌≡◌, ℕ, nat_lt, if◌then◌else◌, List, [], ◌∷◌, length, Option, None, Result, Ok, Err}
use Rattle.ddc_base.specs.Limits.{most_items, most_source}
use Rattle.hex_langs.specs.declared.items.item.Item.{Item}
use Rattle.hex_langs.specs.declared.items.token.Token.{Token}
use Rattle.hex_langs.specs.declared.items.words.Halt.{Halt}
use Rattle.hex_langs.specs.declared.items.words.Halt.TheVariants as halt
use Rattle.hex_langs.specs.Items.Reading.{Ending, NoToken, Faulted, Faulty, formed, Formed, Halted, Reading, Then, Whole}
use Rattle.m1_lang.specs.declared.words.meaning.WordFault.{WordFault}
use Rattle.m1_lang.specs.declared.words.meaning.WordFault.TheVariants as fault
use Rattle.m1_lang.specs.Words.Words.{Word, word_list, words_of}
use Rattle.m1_lang.specs.Words.Forms.{Tokens, tokens_of}
use Rattle.m1_lang.specs.declared.refusal.M1Refusal.{M1Refusal}
use Rattle.m1_lang.specs.declared.refusal.M1Refusal.TheVariants.{UnknownWord, NumberRange, Dangling, TooLong, OutOfMemory}
use Rattle.m1_lang.specs.Definitions.{Defined, definitions_in, parts, plain_words, value_in}

-- tokens at one offset, and the rest of the reading
abbrev pub at_once : {F : Type 0} → ℕ → List Token → Reading F → Reading F
at_once at [] later = later
at_once at (token ∷ tokens) later = Then at token (at_once at tokens later)

-- the tokens of a word and the rest of the reading; or the fault of the word, and nothing more
abbrev pub then_read : ℕ → Tokens → Reading WordFault → Reading WordFault
then_read at (Ok tokens) later = at_once at tokens later
then_read at (Err why) later = Faulty why at

-- the tokens of words, each at its word's offset, with these values of definitions
abbrev pub words_reading : (List ℕ → Option (List ℕ)) → List Word → Reading WordFault
words_reading values [] = NoToken
words_reading values (word ∷ rest) = then_read word.at (tokens_of values word.text) (words_reading values rest)

-- the refusal of a token that a word of four bytes does not take
abbrev pub halt_refusal : Halt → M1Refusal
halt_refusal (halt.Dangling first) = Dangling first
halt_refusal (halt.Second at) = UnknownWord at
halt_refusal halt.TooLong = TooLong
halt_refusal halt.OutOfMemory = OutOfMemory

-- the refusal of a word
abbrev pub word_refusal : WordFault → ℕ → M1Refusal
word_refusal fault.UnknownWord at = UnknownWord at
word_refusal fault.NumberRange at = NumberRange at

-- the items, unless a refusal follows them
abbrev pub items_unless_refused : List Item → Ending WordFault → Result (List Item) M1Refusal
items_unless_refused items Whole = Ok items
items_unless_refused items (Halted why) = Err (halt_refusal why)
items_unless_refused items (Faulted why at) = Err (word_refusal why at)

-- `TooLong` if the items before the end or the first refusal are more than 33,554,432
abbrev pub counted_items : Formed WordFault → Result (List Item) M1Refusal
counted_items formed = if nat_lt most_items (length formed.items) then Err TooLong else items_unless_refused formed.items formed.end

-- the items of the words outside definitions; fields and bytes form words of four bytes as in hex2
abbrev pub expansion_by : Result Defined M1Refusal → List Word → Result (List Item) M1Refusal
expansion_by (Ok defined) words = counted_items (formed None (words_reading (value_in defined) words))
expansion_by (Err why) words = Err why

-- the items of a source, or its first refusal. The order is its length, an open quote, its definitions, its other words
unfoldable pub expansion_of : List ℕ → Result (List Item) M1Refusal
expansion_of source =
    if nat_lt most_source (length source) then Err TooLong
    else expansion_by (definitions_in (words_of source)) (plain_words (parts (word_list (words_of source))))

-- the answer of expanding: this result, or out of memory
abbrev pub Expands : Result (List Item) M1Refusal → Result (List Item) M1Refusal → Type 0
Expands meant (Err OutOfMemory) = Unit {0}
Expands meant result = meant ≡ result
