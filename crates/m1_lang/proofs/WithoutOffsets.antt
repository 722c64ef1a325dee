-- What a source expands to does not depend on offsets.
use Rattle.std.proofs.Common.{◌≡◌, ℕ, nat_lt, Bool, true, false, cond, not, List, [], ◌∷◌, ◌++◌, length, map, refl, sym, ap, subst, ◌∙◌, arith, Option, Some, None, is_some, Result, Ok, Err}
use Rattle.std.proofs.lemmas.Bool.{cond-false}
use Rattle.std.proofs.lemmas.Bool.Decides.{nat_tests}
use Rattle.ddc_base.specs.Limits.{most_items, most_source}
use Rattle.hex_langs.specs.declared.items.item.Item.{Item}
use Rattle.hex_langs.specs.declared.items.item.Kind.{Kind}
use Rattle.hex_langs.specs.declared.items.token.Token.{Token}
use Rattle.hex_langs.specs.declared.items.token.Token.TheVariants.{Byte, Field, Reference, Alone}
use Rattle.hex_langs.specs.declared.items.words.Begun.{Begun}
use Rattle.hex_langs.specs.declared.items.words.Begun.TheVariants.{Nothing, One, Two, Three}
use Rattle.hex_langs.specs.declared.items.words.Open.{Open}
use Rattle.hex_langs.specs.declared.items.words.Halt.TheVariants as halt
use Rattle.hex_langs.specs.Items.Words.{byte_in, field_in, reference_in, Step, taken}
use Rattle.hex_langs.specs.Items.Reading.{after_step, Ending, NoToken, Faulted, Faulty, formed, Formed, Halted, Reading, Then, Whole}
use Rattle.m1_lang.specs.declared.words.meaning.WordFault.{WordFault}
use Rattle.m1_lang.specs.Words.Forms.{Tokens, tokens_of}
use Rattle.m1_lang.specs.Words.Words.{Word, word_list, words_of}
use Rattle.m1_lang.specs.declared.refusal.M1Refusal.{M1Refusal}
use Rattle.m1_lang.specs.declared.refusal.M1Refusal.TheVariants as refusal
use Rattle.m1_lang.specs.Definitions.{with_defined, Cut, Defined, defined_with, Defines, definitions, is_define, is_value, SourcePart, parts, Plain, plain_words, unless_open, value_in}
use Rattle.m1_lang.specs.Expansion.{at_once, counted_items, expansion_by, expansion_of, then_read, items_unless_refused, words_reading}
use Rattle.m1_lang.specs.Laws.{IsCutIntoWords, parts_in, texts_in, without_offset}

-- ---- one token

abbrev without_first : Open → Open
without_first word = record word { first = 0 }

abbrev open_at_none : Option Open → Option Open
open_at_none None = None
open_at_none (Some word) = Some (without_first word)

abbrev step_at_none : Step → Step
step_at_none (Ok step) = Ok (step.0, open_at_none step.1)
step_at_none (Err (halt.Dangling first)) = Err (halt.Dangling 0)
step_at_none (Err (halt.Second at)) = Err (halt.Second 0)
step_at_none (Err halt.TooLong) = Err halt.TooLong
step_at_none (Err halt.OutOfMemory) = Err halt.OutOfMemory

byte-none : (word : Open) (begun : Begun) (byte : ℕ) → byte_in (without_first word) begun byte ≡ step_at_none (byte_in word begun byte)
byte-none word Nothing byte = refl
byte-none word (One a) byte = refl
byte-none word (Two a b) byte = refl
byte-none word (Three a b c) byte = refl

field-none : (word : Open) (begun : Begun) (mask : ℕ) → field_in (without_first word) begun mask ≡ step_at_none (field_in word begun mask)
field-none word Nothing mask = refl
field-none word (One a) mask = refl
field-none word (Two a b) mask = refl
field-none word (Three a b c) mask = refl

reference-none : (word : Open) (reference : Option (Kind × List ℕ)) (begun : Begun) (at : ℕ) (kind : Kind) (name : List ℕ)
    → reference_in (without_first word) reference begun 0 kind name ≡ step_at_none (reference_in word reference begun at kind name)
reference-none word (Some other) begun at kind name = refl
reference-none word None Nothing at kind name = refl
reference-none word None (One a) at kind name = refl
reference-none word None (Two a b) at kind name = refl
reference-none word None (Three a b c) at kind name = refl

taken-none : (word : Option Open) (at : ℕ) (token : Token) → taken (open_at_none word) 0 token ≡ step_at_none (taken word at token)
taken-none None at (Byte byte) = refl
taken-none None at (Alone it) = refl
taken-none None at (Field mask) = refl
taken-none None at (Reference kind name) = refl
taken-none (Some word) at (Byte byte) = byte-none word word.begun byte
taken-none (Some word) at (Alone it) = refl
taken-none (Some word) at (Field mask) = field-none word word.begun mask
taken-none (Some word) at (Reference kind name) = reference-none word word.reference word.begun at kind name

-- ---- readings

abbrev reading_at_none : Reading WordFault → Reading WordFault
reading_at_none NoToken = NoToken
reading_at_none (Faulty why at) = Faulty why 0
reading_at_none (Then at token later) = Then 0 token (reading_at_none later)

abbrev is_whole : Ending WordFault → Bool
is_whole Whole = true
is_whole (Halted why) = false
is_whole (Faulted why at) = false

-- equal items, and whole together
record Alike (one other : Formed WordFault) : Type 0 where
  items : one.items ≡ other.items
  end : is_whole one.end ≡ is_whole other.end

step-alike : (step : Step) (one other : Option Open → Formed WordFault) → ((next : Option Open) → Alike (one (open_at_none next)) (other next))
    → Alike (after_step (step_at_none step) one) (after_step step other)
step-alike (Ok step) one other later =
    record { items = ap (λ (items : List Item). step.0 ++ items) (later step.1).items; end = (later step.1).end }
step-alike (Err (halt.Dangling first)) one other later = record { items = refl; end = refl }
step-alike (Err (halt.Second at)) one other later = record { items = refl; end = refl }
step-alike (Err halt.TooLong) one other later = record { items = refl; end = refl }
step-alike (Err halt.OutOfMemory) one other later = record { items = refl; end = refl }

end-alike : (word : Option Open) → Alike (formed (open_at_none word) NoToken) (formed word NoToken)
end-alike None = record { items = refl; end = refl }
end-alike (Some word) = record { items = refl; end = refl }

formed-alike : (word : Option Open) (reading : Reading WordFault) → Alike (formed (open_at_none word) (reading_at_none reading)) (formed word reading)
formed-alike word NoToken = end-alike word
formed-alike word (Faulty why at) = record { items = refl; end = refl }
formed-alike word (Then at token later) =
    subst (λ (step : Step). Alike (after_step step (λ next. formed next (reading_at_none later))) (after_step (taken word at token) (λ next. formed next later)))
    (sym (taken-none word at token))
    (step-alike (taken word at token) (λ next. formed next (reading_at_none later)) (λ next. formed next later) (λ next. formed-alike next later))

-- ---- words

abbrev word_at_none : Word → Word
word_at_none word = record { at = 0; text = word.text }

once-none : (at : ℕ) (tokens : List Token) (later : Reading WordFault) → reading_at_none (at_once at tokens later) ≡ at_once 0 tokens (reading_at_none later)
once-none at [] later = refl
once-none at (token ∷ tokens) later = ap (Then 0 token) (once-none at tokens later)

read-none : (at : ℕ) (tokens : Tokens) (later : Reading WordFault) → reading_at_none (then_read at tokens later) ≡ then_read 0 tokens (reading_at_none later)
read-none at (Ok tokens) later = once-none at tokens later
read-none at (Err why) later = refl

reading-none : (values : List ℕ → Option (List ℕ)) (words : List Word) → reading_at_none (words_reading values words) ≡ words_reading values (map word_at_none words)
reading-none values [] = refl
reading-none values (word ∷ words) =
    read-none word.at (tokens_of values word.text) (words_reading values words) ∙ ap (then_read 0 (tokens_of values word.text)) (reading-none values words)

plain-none : (ps : List SourcePart) → plain_words (map without_offset ps) ≡ map word_at_none (plain_words ps)
plain-none [] = refl
plain-none (Defines at name value ∷ ps) = plain-none ps
plain-none (Cut at ∷ ps) = plain-none ps
plain-none (Plain word ∷ ps) = ap (λ (words : List Word). word_at_none word ∷ words) (plain-none ps)

-- ---- definitions

abbrev pub ok : {A : Type 0} → Result A M1Refusal → Option A
ok (Ok a) = Some a
ok (Err why) = None

with-none : (seen : Defined) (at : ℕ) (name value : List ℕ) (ps qs : List SourcePart) → ((more : Defined) → ok (definitions more ps) ≡ ok (definitions more qs))
    → ok (with_defined (defined_with seen 0 name value) (λ more. definitions more ps)) ≡ ok (with_defined (defined_with seen at name value) (λ more. definitions more qs))
with-none seen at name value ps qs later = by (is_value value) (is_some (value_in seen name))
  where
    by : (good again : Bool)
        → ok (with_defined (cond (not good) (Err (refusal.BadDefine 0)) (cond again (Err (refusal.DoubleDefine 0)) (Ok (seen ++ (name, value) ∷ [])))) (λ more. definitions more ps))
        ≡ ok (with_defined (cond (not good) (Err (refusal.BadDefine at)) (cond again (Err (refusal.DoubleDefine at)) (Ok (seen ++ (name, value) ∷ [])))) (λ more. definitions more qs))
    by false again = refl
    by true true = refl
    by true false = later (seen ++ (name, value) ∷ [])

definitions-none : (seen : Defined) (ps : List SourcePart) → ok (definitions seen (map without_offset ps)) ≡ ok (definitions seen ps)
definitions-none seen [] = refl
definitions-none seen (Defines at name value ∷ ps) = with-none seen at name value (map without_offset ps) ps (λ more. definitions-none more ps)
definitions-none seen (Cut at ∷ ps) = refl
definitions-none seen (Plain word ∷ ps) = definitions-none seen ps

-- ---- the whole

-- the items of a whole that are few enough
abbrev whole_items : List Item → Bool → Option (List Item)
whole_items items whole = cond (nat_lt most_items (length items)) None (cond whole (Some items) None)

abbrev pub expansion_by_values : (List ℕ → Option (List ℕ)) → List Word → Option (List Item)
expansion_by_values values words = whole_items (formed None (words_reading values words)).items (is_whole (formed None (words_reading values words)).end)

abbrev pub expansion_with : Option Defined → List Word → Option (List Item)
expansion_with None words = None
expansion_with (Some defined) words = expansion_by_values (value_in defined) words

counted-whole : (items : List Item) (end : Ending WordFault) → ok (counted_items (record { items = items; end = end })) ≡ whole_items items (is_whole end)
counted-whole items end = by (nat_lt most_items (length items)) end
  where
    by : (many : Bool) (end : Ending WordFault) → ok (cond many (Err refusal.TooLong) (items_unless_refused items end)) ≡ cond many None (cond (is_whole end) (Some items) None)
    by true end = refl
    by false Whole = refl
    by false (Halted why) = refl
    by false (Faulted why at) = refl

by-none : (defined : Result Defined M1Refusal) (words : List Word) → ok (expansion_by defined words) ≡ expansion_with (ok defined) (map word_at_none words)
by-none (Err why) words = refl
by-none (Ok defined) words =
    let values : List ℕ → Option (List ℕ) = value_in defined in
    let alike = formed-alike None (words_reading values words) in
    let same = subst (λ (r : Reading WordFault). Alike (formed None r) (formed None (words_reading values words))) (reading-none values words) alike in
    counted-whole (formed None (words_reading values words)).items (formed None (words_reading values words)).end
    ∙ ap (λ (items : List Item). whole_items items (is_whole (formed None (words_reading values words)).end)) (sym same.items)
    ∙ ap (whole_items (formed None (words_reading values (map word_at_none words))).items) (sym same.end)

-- what parts without offsets expand to
abbrev pub parts_expansion : List SourcePart → Option (List Item)
parts_expansion ps = expansion_with (ok (definitions [] ps)) (plain_words ps)

pub expansion-none : (source : List ℕ) → IsCutIntoWords source → ok (expansion_of source) ≡ parts_expansion (parts_in source)
unfolding expansion_of
expansion-none source whole =
    let ps = parts (word_list (words_of source)) in
    let fits : nat_lt most_source (length source) ≡ false = grind (arith, nat_tests, whole.short) in
    ap ok (cond-false _ _ _ fits)
    ∙ ap (λ (o : Option ℕ). ok (expansion_by (unless_open o (definitions [] ps)) (plain_words ps))) whole.closed
    ∙ by-none (definitions [] ps) (plain_words ps)
    ∙ ap (λ (d : Option Defined). expansion_with d (map word_at_none (plain_words ps))) (sym (definitions-none [] ps))
    ∙ ap (expansion_with (ok (definitions [] (map without_offset ps)))) (sym (plain-none ps))

-- what is given by one is given by the other
ok-is : {A : Type 0} (result : Result A M1Refusal) (a : A) → ok result ≡ Some a → result ≡ Ok a
ok-is (Ok b) a is = cc
ok-is (Err why) a is = absurd (cc)

pub gives-too : (one other : List ℕ) (items : List Item) → IsCutIntoWords one → IsCutIntoWords other → parts_expansion (parts_in one) ≡ parts_expansion (parts_in other)
    → expansion_of one ≡ Ok items → expansion_of other ≡ Ok items
gives-too one other items here there same is =
    ok-is (expansion_of other) items (expansion-none other there ∙ sym same ∙ sym (expansion-none one here) ∙ ap ok is)

-- ---- parts by the texts of words

abbrev text_word : List ℕ → Word
text_word text = record { at = 0; text = text }

parts-none : (words : List Word) → map without_offset (parts words) ≡ parts (map text_word (map (λ (word : Word). word.text) words))
parts-none [] = refl
parts-none (word ∷ []) = by (is_define word.text)
  where
    by : (define : Bool) → map without_offset (cond define (Cut word.at ∷ []) (Plain word ∷ [])) ≡ cond define (Cut 0 ∷ []) (Plain (text_word word.text) ∷ [])
    by true = refl
    by false = refl
parts-none (word ∷ name ∷ []) = by (is_define word.text) (parts-none (name ∷ []))
  where
    by : (define : Bool) → map without_offset (parts (name ∷ [])) ≡ parts (text_word name.text ∷ [])
        → map without_offset (cond define (Cut word.at ∷ []) (Plain word ∷ parts (name ∷ []))) ≡ cond define (Cut 0 ∷ []) (Plain (text_word word.text) ∷ parts (text_word name.text ∷ []))
    by true rest = refl
    by false rest = ap (λ (ps : List SourcePart). Plain (text_word word.text) ∷ ps) rest
parts-none (word ∷ name ∷ value ∷ words) = by (is_define word.text) (parts-none words) (parts-none (name ∷ value ∷ words))
  where
    by : (define : Bool) → map without_offset (parts words) ≡ parts (map text_word (map (λ (word : Word). word.text) words))
        → map without_offset (parts (name ∷ value ∷ words)) ≡ parts (text_word name.text ∷ text_word value.text ∷ map text_word (map (λ (word : Word). word.text) words))
        → map without_offset (cond define (Defines word.at name.text value.text ∷ parts words) (Plain word ∷ parts (name ∷ value ∷ words)))
        ≡ cond define (Defines 0 name.text value.text ∷ parts (map text_word (map (λ (word : Word). word.text) words)))
        (Plain (text_word word.text) ∷ parts (text_word name.text ∷ text_word value.text ∷ map text_word (map (λ (word : Word). word.text) words)))
    by true following rest = ap (λ (ps : List SourcePart). Defines 0 name.text value.text ∷ ps) following
    by false following rest = ap (λ (ps : List SourcePart). Plain (text_word word.text) ∷ ps) rest

pub same-texts : (one other : List ℕ) → texts_in one ≡ texts_in other → parts_in one ≡ parts_in other
same-texts one other same =
    parts-none (word_list (words_of one)) ∙ ap (λ (texts : List (List ℕ)). parts (map text_word texts)) same ∙ sym (parts-none (word_list (words_of other)))
