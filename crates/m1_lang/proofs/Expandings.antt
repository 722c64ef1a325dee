-- One word of a source on, and the whole.
use Rattle.std.proofs.Common.{◌≡◌, ◌≤◌, ◌<◌, ℕ, nat_lt, true, false, List, [], length, refl, ap, sym, subst, ◌∙◌, arith, Option, None, Result, Ok, Err}
use Rattle.std.proofs.lemmas.Bool.{cond-true, cond-false}
use Rattle.std.proofs.lemmas.Bool.Decides.{nat_tests}
use Rattle.ddc_base.specs.Limits.{most_items, most_source}
use Rattle.hex_langs.specs.declared.items.item.Item.{Item}
use Rattle.hex_langs.specs.declared.items.words.Open.{Open}
use Rattle.hex_langs.specs.Items.Reading.{NoToken, formed, Formed, Reading, with_prefix, word_end}
use Rattle.m1_lang.specs.declared.words.meaning.WordFault.{WordFault}
use Rattle.m1_lang.specs.Words.Words.{Found, Word, word_list, Words, words_of}
use Rattle.m1_lang.specs.Words.Forms.{tokens_of}
use Rattle.m1_lang.specs.Words.Ahead.{words_at}
use Rattle.m1_lang.specs.declared.refusal.M1Refusal.{M1Refusal}
use Rattle.m1_lang.specs.declared.refusal.M1Refusal.TheVariants as refusal
use Rattle.m1_lang.specs.Definitions.{Defined, definitions_in, is_define, parts, plain_words, value_in}
use Rattle.m1_lang.specs.Expansion.{counted_items, Expands, expansion_by, expansion_of, then_read, items_unless_refused, words_reading}
use Rattle.m1_lang.specs.Representation.Passes.{Definitions, looked_up, plain_after, parts_at, reading_at, Tabulates, TakesWord, Values, values_in}
use Rattle.m1_lang.proofs.Passing.{define-plain, parts-plain, words-end}
use Rattle.m1_lang.proofs.Takings.{counted-end}

-- ---- one word on

pub reading-word : (values : List ℕ → Option (List ℕ)) (source : List ℕ) (at after : ℕ) (word : Word) → words_at source at ≡ Found word (words_at source after)
    → is_define word.text ≡ false → reading_at values source at ≡ then_read word.at (tokens_of values word.text) (reading_at values source after)
reading-word values source at after word found plain =
    ap (λ (w : Words). words_reading values (plain_words (parts (word_list w)))) found
    ∙ ap (λ p. words_reading values (plain_words p)) (parts-plain word (word_list (words_at source after)) plain)

pub reading-define : (values : List ℕ → Option (List ℕ)) (source : List ℕ) (at after next : ℕ) (word : Word) → words_at source at ≡ Found word (words_at source after)
    → is_define word.text ≡ true → plain_after (word_list (words_at source after)) ≡ plain_words (parts_at source next)
    → reading_at values source at ≡ reading_at values source next
reading-define values source at after next word found define skips =
    ap (λ (w : Words). words_reading values (plain_words (parts (word_list w)))) found
    ∙ ap (words_reading values) (define-plain word (word_list (words_at source after)) define ∙ skips)

pub reading-over : (values : List ℕ → Option (List ℕ)) (source : List ℕ) (at : ℕ) → word_list (words_at source at) ≡ [] → reading_at values source at ≡ NoToken
reading-over values source at none = ap (λ (l : List Word). words_reading values (plain_words (parts l))) none

-- the last word is taken
pub reading-done : (values : List ℕ → Option (List ℕ)) (source : List ℕ) (at : ℕ) (word : Option Open) (items : List Item) (whole : Formed WordFault) → length source ≤ at
    → length items ≤ most_items → whole ≡ with_prefix items (formed word (reading_at values source at)) → counted_items whole ≡ items_unless_refused items (word_end word)
reading-done values source at word items whole past few is =
    ap counted_items is
    ∙ ap (λ (r : Reading WordFault). counted_items (with_prefix items (formed word r))) (reading-over values source at (ap word_list (words-end source at past)))
    ∙ counted-end items (word_end word) few

-- a word is refused
pub refused-word : (why : M1Refusal) (values : List ℕ → Option (List ℕ)) (word : Option Open) (at : ℕ) (text : List ℕ) (old new : List Item) (later : Reading WordFault)
    (whole : Formed WordFault) → whole ≡ with_prefix old (formed word (then_read at (tokens_of values text) later))
    → TakesWord (Err why) word at (tokens_of values text) old new → Expands (counted_items whole) (Err why)
refused-word (refusal.BadDefine offset) values word at text old new later whole is takes = ap counted_items is ∙ takes later
refused-word (refusal.DoubleDefine offset) values word at text old new later whole is takes = ap counted_items is ∙ takes later
refused-word (refusal.OpenString offset) values word at text old new later whole is takes = ap counted_items is ∙ takes later
refused-word (refusal.UnknownWord offset) values word at text old new later whole is takes = ap counted_items is ∙ takes later
refused-word (refusal.NumberRange offset) values word at text old new later whole is takes = ap counted_items is ∙ takes later
refused-word (refusal.Dangling offset) values word at text old new later whole is takes = ap counted_items is ∙ takes later
refused-word refusal.TooLong values word at text old new later whole is takes = ap counted_items is ∙ takes later
refused-word refusal.OutOfMemory values word at text old new later whole is takes = tt

-- ---- the whole

pub expansion-long : (source : List ℕ) → most_source < length source → expansion_of source ≡ Err refusal.TooLong
unfolding expansion_of
expansion-long source long = let over : nat_lt most_source (length source) ≡ true = grind (arith, nat_tests) in cond-true _ _ _ over

pub expansion-short : (source : List ℕ) → length source ≤ most_source
    → expansion_of source ≡ expansion_by (definitions_in (words_of source)) (plain_words (parts_at source 0))
unfolding expansion_of
expansion-short source short = let fits : nat_lt most_source (length source) ≡ false = grind (arith, nat_tests) in cond-false _ _ _ fits

-- the definitions are refused
refused-by : (why : M1Refusal) (source : List ℕ) (meant : Result Defined M1Refusal) → length source ≤ most_source
    → definitions_in (words_of source) ≡ meant → looked_up meant ≡ Err why → expansion_of source ≡ Err why
refused-by why source (Ok defined) short is looked = absurd (cc)
refused-by why source (Err same) short is looked =
    let one : same ≡ why = cc in
    expansion-short source short ∙ ap (λ d. expansion_by d (plain_words (parts_at source 0))) is ∙ ap Err one

pub refused-definitions : (why : M1Refusal) (source : List ℕ) → length source ≤ most_source
    → Tabulates (Err why) (definitions_in (words_of source)) → Expands (expansion_of source) (Err why)
refused-definitions (refusal.BadDefine offset) source short is = refused-by _ source _ short refl is
refused-definitions (refusal.DoubleDefine offset) source short is = refused-by _ source _ short refl is
refused-definitions (refusal.OpenString offset) source short is = refused-by _ source _ short refl is
refused-definitions (refusal.UnknownWord offset) source short is = refused-by _ source _ short refl is
refused-definitions (refusal.NumberRange offset) source short is = refused-by _ source _ short refl is
refused-definitions (refusal.Dangling offset) source short is = refused-by _ source _ short refl is
refused-definitions refusal.TooLong source short is = refused-by _ source _ short refl is
refused-definitions refusal.OutOfMemory source short is = tt

-- by the table of the definitions
pub expanded-by : (table : Definitions) (source : List ℕ) (result : Result (List Item) M1Refusal) → length source ≤ most_source
    → looked_up (definitions_in (words_of source)) ≡ Ok (values_in table)
    → Expands (counted_items (formed None (reading_at (values_in table) source 0))) result → Expands (expansion_of source) result
expanded-by table source result short looked expands = by (definitions_in (words_of source)) refl looked
  where
    by : (meant : Result Defined M1Refusal) → definitions_in (words_of source) ≡ meant → looked_up meant ≡ Ok (values_in table)
        → Expands (expansion_of source) result
    by (Ok defined) is looks =
        let same : value_in defined ≡ values_in table = cc in
        let whole = expansion-short source short ∙ ap (λ d. expansion_by d (plain_words (parts_at source 0))) is
        ∙ ap (λ (v : Values). counted_items (formed None (reading_at v source 0))) same in
        subst (λ (meant : Result (List Item) M1Refusal). Expands meant result) (sym whole) expands
    by (Err why) is looks = absurd (cc)
