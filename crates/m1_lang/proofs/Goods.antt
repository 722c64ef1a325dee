-- The words of an M1 source of bytes give good tokens, so that its items have lines.
use Rattle.std.proofs.Common.{◌≡◌, ℕ, zero, suc, ◌+◌, ◌-◌, ◌%◌, ◌<◌, ◌≤◌, ◌==◌, nat_lt, Bool, true, false, cond, List, [], ◌∷◌, ◌++◌, length, take, map, replicate, refl, ap, subst, arith, Option, Some, None, Result, Ok, Err}
use Rattle.std.proofs.lemmas.Bool.Decides.{nat_tests}
use Rattle.std.specs.Prelude.{ℤ, pos, negsuc, neg_ℤ, ◌+ℤ◌}
use Rattle.std.specs.Int.{w32, to_le_bytes}
use Rattle.std.specs.List.{AllByRecursion}
use Rattle.ddc_base.specs.Limits.{most_items, most_source}
use Rattle.hex.specs.Hex.{hex_digit_value}
use Rattle.hex_langs.specs.declared.items.item.Item.{Item}
use Rattle.hex_langs.specs.declared.items.token.Dialect.TheVariants.{Hex2}
use Rattle.hex_langs.specs.declared.items.token.TokenFault.{TokenFault}
use Rattle.hex_langs.specs.declared.items.token.Token.{Token}
use Rattle.hex_langs.specs.declared.items.token.Token.TheVariants.{Byte, Field}
use Rattle.hex_langs.specs.Items.Tokens.{byte_of, gap_length, opens_gap, token_at}
use Rattle.hex_langs.specs.Items.Reading.{Ending, Faulted, formed, Formed, Halted, items_of, Reading, Whole}
use Rattle.hex_langs.specs.Writer.Writable.{AreWritable}
use Rattle.hex_langs.specs.Writer.Writing.{items_text}
use Rattle.hex_langs.proofs.WriterLemmas.GoodTokens.{byte-below, digit-below, IsBelow, IsGoodFound, token-good}
use Rattle.hex_langs.proofs.WriterLemmas.Texts.{items_of-written}
use Rattle.hex_langs.proofs.WriterLemmas.Writables.{AreGood, formed-writable, IsGood}
use Rattle.m1_lang.specs.declared.words.meaning.WordFault.{WordFault}
use Rattle.m1_lang.specs.declared.words.meaning.WordFault.TheVariants.{UnknownWord}
use Rattle.m1_lang.specs.Words.Digits.{cons_byte, digit_bytes}
use Rattle.m1_lang.specs.Words.Numbers.{number_in}
use Rattle.hex_langs.specs.Link.Link.{i_field, modulo_word}
use Rattle.m1_lang.specs.Words.Forms.{begins_with, between, byte_tokens, defined_tokens, FormTokens, form_or, form_tokens, ranged_tokens, is_within, number_after, number_tokens, numbered_or, numbered_tokens, one_token, padded, quoted_tokens, store_field, takes_number, token_over, Tokens, tokens_of, rounded_field, value_tokens, whole_token}
use Rattle.m1_lang.specs.Words.Words.{Found, Unclosed, Word, word_list, word_more, Words, words_from, words_of}
use Rattle.m1_lang.specs.declared.refusal.M1Refusal.{M1Refusal}
use Rattle.m1_lang.specs.declared.refusal.M1Refusal.TheVariants.{TooLong}
use Rattle.m1_lang.specs.Laws.{IsOfBytes}
use Rattle.m1_lang.specs.Definitions.{Defined, Defines, Cut, definitions_in, is_define, parts, Plain, plain_words, value_in}
use Rattle.m1_lang.specs.Expansion.{at_once, counted_items, expansion_by, expansion_of, then_read, items_unless_refused, words_reading}

abbrev AreGoodTokens : List Token → Type 0
AreGoodTokens tokens = AllByRecursion IsGood tokens

abbrev IsGoodList : Option (List Token) → Type 0
IsGoodList (Some tokens) = AreGoodTokens tokens
IsGoodList None = Unit {0}

abbrev IsGoodResult : Tokens → Type 0
IsGoodResult (Ok tokens) = AreGoodTokens tokens
IsGoodResult (Err why) = Unit {0}

abbrev IsGoodForm : FormTokens → Type 0
IsGoodForm (Some tokens) = IsGoodResult tokens
IsGoodForm None = Unit {0}

-- ---- bytes

bytes-good : (bytes : List ℕ) → IsOfBytes bytes → AreGoodTokens (map Byte bytes)
bytes-good [] are = tt
bytes-good (byte ∷ bytes) are = (are.0, bytes-good bytes are.1)

take-bytes : (n : ℕ) (bytes : List ℕ) → IsOfBytes bytes → IsOfBytes (take n bytes)
take-bytes zero [] are = tt
take-bytes zero (byte ∷ bytes) are = tt
take-bytes (suc n) [] are = tt
take-bytes (suc n) (byte ∷ bytes) are = (are.0, take-bytes n bytes are.1)

append-bytes : (xs ys : List ℕ) → IsOfBytes xs → IsOfBytes ys → IsOfBytes (xs ++ ys)
append-bytes [] ys first second = second
append-bytes (x ∷ xs) ys first second = (first.0, append-bytes xs ys first.1 second)

zeros-bytes : (count : ℕ) → IsOfBytes (replicate count 0)
zeros-bytes zero = tt
zeros-bytes (suc count) = (omega arith, zeros-bytes count)

-- ---- digits

abbrev IsBytesOption : Option (List ℕ) → Type 0
IsBytesOption (Some bytes) = IsOfBytes bytes
IsBytesOption None = Unit {0}

digits-bytes : (text : List ℕ) → IsBytesOption (digit_bytes text)
digits-bytes [] = tt
digits-bytes (alone ∷ []) = tt
digits-bytes (high ∷ low ∷ rest) =
    by (byte_of (hex_digit_value high) (hex_digit_value low)) (digit_bytes rest)
    (byte-below (hex_digit_value high) (hex_digit_value low) (digit-below high) (digit-below low)) (digits-bytes rest)
  where
    by : (byte : Option ℕ) (bytes : Option (List ℕ)) → IsBelow 256 byte → IsBytesOption bytes → IsBytesOption (cons_byte byte bytes)
    by None bytes below are = tt
    by (Some byte) None below are = tt
    by (Some byte) (Some bytes) below are = (below, are)

byte_tokens-good : (bytes : Option (List ℕ)) → IsBytesOption bytes → IsGoodList (byte_tokens bytes)
byte_tokens-good None are = tt
byte_tokens-good (Some []) are = tt
byte_tokens-good (Some (byte ∷ bytes)) are = bytes-good (byte ∷ bytes) are

-- ---- one token of hex2

over-good : (rest : List ℕ) (found : Result (Token × ℕ) TokenFault) → IsGoodFound found → IsGoodList (one_token (token_over rest found))
over-good rest (Err why) good = tt
over-good rest (Ok found) good = by (found.1 == length rest)
  where
    by : (test : Bool) → IsGoodList (one_token (cond test (Some found.0) None))
    by true = (good, tt)
    by false = tt

whole-good : (text : List ℕ) → IsGoodList (one_token (whole_token text))
unfolding whole_token
whole-good [] = tt
whole-good (first ∷ rest) = over-good rest (token_at Hex2 first rest) (token-good first rest)

value-good : (text : List ℕ) → IsGoodList (value_tokens text)
unfolding value_tokens
value-good text = by (begins_with 46 text)
  where
    by : (test : Bool) → IsGoodList (cond test (one_token (whole_token text)) (byte_tokens (digit_bytes text)))
    by true = whole-good text
    by false = byte_tokens-good (digit_bytes text) (digits-bytes text)

-- ---- quotes

quoted-good : (text : List ℕ) → IsOfBytes text → IsGoodList (quoted_tokens text)
quoted-good [] are = tt
quoted-good (quote ∷ rest) are = by (quote == 34) (quote == 39)
  where
    by : (string digits : Bool) → IsGoodList (cond string (Some (map Byte (padded (between rest)))) (cond digits (byte_tokens (digit_bytes (between rest))) None))
    by true digits =
        bytes-good (padded (between rest)) (append-bytes (between rest) (replicate (4 - length (between rest) % 4) 0) (take-bytes (length rest - 1) rest are.1) (zeros-bytes (4 - length (between rest) % 4)))
    by false true = byte_tokens-good (digit_bytes (between rest)) (digits-bytes (between rest))
    by false false = tt

-- ---- numbers

wrapped-small : (n : ℤ) → modulo_word n < 4294967296
wrapped-small (pos n) = omega arith
wrapped-small (negsuc n) = omega arith

range-good : (fits : Bool) (tokens : List Token) → AreGoodTokens tokens → IsGoodResult (ranged_tokens fits tokens)
range-good true tokens good = good
range-good false tokens good = tt

field-good : (mask : ℕ) → mask < 4294967296 → AreGoodTokens (Field mask ∷ [])
field-good mask small = (small, tt)

s_field-small : (n : ℕ) → store_field n < 4294967296
s_field-small n = omega arith

number-good : (sign : ℕ) (n : ℤ) → IsGoodResult (number_tokens sign n)
number-good sign n = by (sign == 33) (sign == 64) (sign == 126)
  where
    short : Bool
    short = is_within n (neg_ℤ (pos 2048)) (pos 2048)

    word : Bool
    word = is_within n (neg_ℤ (pos 2147483648)) (pos 4294967296)

    four : AreGoodTokens (map Byte (to_le_bytes w32 (modulo_word n)))
    four = (omega arith, (omega arith, (omega arith, (omega arith, tt))))

    by : (i s u : Bool) → IsGoodResult (cond i (ranged_tokens (is_within n (neg_ℤ (pos 2048)) (pos 2048)) (Field (i_field (modulo_word n)) ∷ []))
        (cond s (ranged_tokens (is_within n (neg_ℤ (pos 2048)) (pos 2048)) (Field (store_field (modulo_word n)) ∷ []))
        (cond u (ranged_tokens (is_within n (neg_ℤ (pos 2147483648)) (pos 4294967296)) (Field (rounded_field n) ∷ []))
        (ranged_tokens (is_within n (neg_ℤ (pos 2147483648)) (pos 4294967296)) (map Byte (to_le_bytes w32 (modulo_word n)))))))
    by true s u = range-good _ (Field (i_field (modulo_word n)) ∷ []) (field-good (i_field (modulo_word n)) (omega arith))
    by false true u = range-good _ (Field (store_field (modulo_word n)) ∷ []) (field-good (store_field (modulo_word n)) (s_field-small (modulo_word n)))
    by false false true = range-good _ (Field (rounded_field n) ∷ []) (field-good (rounded_field n) (omega (arith, wrapped-small (n +ℤ pos 2048))))
    by false false false = range-good _ (map Byte (to_le_bytes w32 (modulo_word n))) four

numbered-good : (text : List ℕ) → IsGoodForm (numbered_tokens text)
unfolding numbered_tokens
numbered-good [] = tt
numbered-good (sign ∷ rest) = by (takes_number sign) (number_in rest)
  where
    by : (takes : Bool) (n : Option ℤ) → IsGoodForm (cond takes (number_after sign n) None)
    by false n = tt
    by true None = tt
    by true (Some n) = number-good sign n

-- ---- words

or-good : (tokens : Option (List Token)) (later : Tokens) → IsGoodList tokens → IsGoodResult later → IsGoodResult (form_or tokens later)
or-good None later here there = there
or-good (Some tokens) later here there = here

numbered-or-good : (form : FormTokens) (later : Tokens) → IsGoodForm form → IsGoodResult later → IsGoodResult (numbered_or form later)
numbered-or-good None later here there = there
numbered-or-good (Some tokens) later here there = here

form-good : (text : List ℕ) → IsOfBytes text → IsGoodResult (form_tokens text)
unfolding form_tokens
form-good text are =
    or-good (quoted_tokens text) _ (quoted-good text are)
    (or-good (value_tokens text) _ (value-good text)
    (numbered-or-good (numbered_tokens text) _ (numbered-good text)
    (or-good (one_token (whole_token text)) (Err UnknownWord) (whole-good text) tt)))

defined-good : (value : Option (List ℕ)) → IsGoodList (defined_tokens value)
defined-good None = tt
defined-good (Some value) = value-good value

word-good : (values : List ℕ → Option (List ℕ)) (text : List ℕ) → IsOfBytes text → IsGoodResult (tokens_of values text)
word-good values text are = or-good (defined_tokens (values text)) (form_tokens text) (defined-good (values text)) (form-good text are)

once-good : (at : ℕ) (tokens : List Token) (later : Reading WordFault) → AreGoodTokens tokens → AreGood later → AreGood (at_once at tokens later)
once-good at [] later good rest = rest
once-good at (token ∷ tokens) later good rest = (good.0, once-good at tokens later good.1 rest)

read-good : (at : ℕ) (tokens : Tokens) (later : Reading WordFault) → IsGoodResult tokens → AreGood later → AreGood (then_read at tokens later)
read-good at (Ok tokens) later good rest = once-good at tokens later good rest
read-good at (Err why) later good rest = tt

abbrev AreByteWords : List Word → Type 0
AreByteWords words = AllByRecursion (λ (word : Word). IsOfBytes word.text) words

reading-good : (values : List ℕ → Option (List ℕ)) (words : List Word) → AreByteWords words → AreGood (words_reading values words)
reading-good values [] are = tt
reading-good values (word ∷ words) are =
    read-good word.at (tokens_of values word.text) (words_reading values words) (word-good values word.text are.0) (reading-good values words are.1)

-- ---- the words of a source

words-bytes : (at inside : ℕ) (remaining : List ℕ) → IsOfBytes remaining → AreByteWords (word_list (words_from at inside remaining))
unfolding words_from
words-bytes at inside [] are = tt
words-bytes at (suc inside) (byte ∷ remaining) are = words-bytes (at + 1) inside remaining are.1
words-bytes at zero (byte ∷ remaining) are = by (opens_gap byte) (word_more byte remaining) (λ inside. words-bytes (at + 1) inside remaining are.1)
  where
    by : (gap : Bool) (more : Option ℕ) → ((inside : ℕ) → AreByteWords (word_list (words_from (at + 1) inside remaining)))
        → AreByteWords (word_list (cond gap (words_from (at + 1) (gap_length (byte ∷ remaining) - 1) remaining)
        (elim more as (λ _. Words) [ Some size ↦ Found (record { at = at; text = byte ∷ take size remaining }) (words_from (at + 1) size remaining) | None ↦ Unclosed at ])))
    by true more later = later (gap_length (byte ∷ remaining) - 1)
    by false (Some size) later = ((are.0, take-bytes size remaining are.1), later size)
    by false None later = tt

plain-bytes : (words : List Word) → AreByteWords words → AreByteWords (plain_words (parts words))
plain-bytes [] are = tt
plain-bytes (word ∷ []) are = by (is_define word.text)
  where
    by : (define : Bool) → AreByteWords (plain_words (cond define (Cut word.at ∷ []) (Plain word ∷ [])))
    by true = tt
    by false = (are.0, tt)
plain-bytes (word ∷ name ∷ []) are = by (is_define word.text) (plain-bytes (name ∷ []) are.1)
  where
    by : (define : Bool) → AreByteWords (plain_words (parts (name ∷ []))) → AreByteWords (plain_words (cond define (Cut word.at ∷ []) (Plain word ∷ parts (name ∷ []))))
    by true rest = tt
    by false rest = (are.0, rest)
plain-bytes (word ∷ name ∷ value ∷ words) are = by (is_define word.text) (plain-bytes words are.1.1.1) (plain-bytes (name ∷ value ∷ words) are.1)
  where
    by : (define : Bool) → AreByteWords (plain_words (parts words)) → AreByteWords (plain_words (parts (name ∷ value ∷ words)))
        → AreByteWords (plain_words (cond define (Defines word.at name.text value.text ∷ parts words) (Plain word ∷ parts (name ∷ value ∷ words))))
    by true following rest = following
    by false following rest = (are.0, rest)

-- ---- the items

counted-ok : (whole : Formed WordFault) (items : List Item) → counted_items whole ≡ Ok items → (whole.items ≡ items) × (length whole.items ≤ most_items)
counted-ok whole items is = by (nat_lt most_items (length whole.items)) refl whole.end is
  where
    by : (over : Bool) → nat_lt most_items (length whole.items) ≡ over → (end : Ending WordFault) → cond over (Err TooLong) (items_unless_refused whole.items end) ≡ Ok items
        → (whole.items ≡ items) × (length whole.items ≤ most_items)
    by true many end same = absurd (cc)
    by false few Whole same = (cc, grind (arith, nat_tests))
    by false few (Halted why) same = absurd (cc)
    by false few (Faulted why at) same = absurd (cc)

items-fit : (defined : Result Defined M1Refusal) (words : List Word) (items : List Item) → AreByteWords words → expansion_by defined words ≡ Ok items
    → AreWritable items × (length items ≤ most_items)
items-fit (Err why) words items are is = absurd (cc)
items-fit (Ok defined) words items are is =
    let found = counted-ok (formed None (words_reading (value_in defined) words)) items is in (
      subst AreWritable found.0 (formed-writable None (words_reading (value_in defined) words) tt (reading-good (value_in defined) words are)),
      omega (arith, found.1, ap length found.0),
    )

-- what a source of bytes expands to, if it is written, is read again
pub written-again : (source : List ℕ) (items : List Item) → IsOfBytes source → expansion_of source ≡ Ok items → length (items_text items) ≤ most_source
    → items_of Hex2 (items_text items) ≡ Ok items
unfolding expansion_of
written-again source items are is short = by (nat_lt most_source (length source)) is
  where
    by : (long : Bool) → cond long (Err TooLong) (expansion_by (definitions_in (words_of source)) (plain_words (parts (word_list (words_of source))))) ≡ Ok items
        → items_of Hex2 (items_text items) ≡ Ok items
    by true same = absurd (cc)
    by false same =
        let fit = items-fit (definitions_in (words_of source)) (plain_words (parts (word_list (words_of source)))) items
        (plain-bytes (word_list (words_of source)) (words-bytes 0 0 source are)) same in
        items_of-written items fit.0 fit.1 short
