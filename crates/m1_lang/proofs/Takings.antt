-- What taking one token after the other comes to.
use Rattle.std.proofs.Common.{◌≡◌, ℕ, suc, ◌-◌, replicate, ◌+◌, ◌<◌, ◌≤◌, true, false, nat_lt, List, [], ◌∷◌, ◌++◌, length, map, refl, sym, ap, ◌∙◌, arith, Option, Result, Ok, Err, length-append}
use Rattle.std.proofs.lemmas.Bool.{cond-true, cond-false}
use Rattle.std.proofs.lemmas.Bool.Decides.{nat_tests}
use Rattle.std.proofs.lemmas.List.{append-nil}
use Rattle.ddc_base.specs.Limits.{most_items}
use Rattle.hex_langs.specs.declared.items.item.Item.{Item}
use Rattle.hex_langs.specs.declared.items.token.Token.{Token}
use Rattle.hex_langs.specs.declared.items.token.Token.TheVariants.{Byte}
use Rattle.m1_lang.specs.Words.Meanings.{prefix_bytes}
use Rattle.hex_langs.specs.declared.items.words.Open.{Open}
use Rattle.hex_langs.specs.declared.items.words.Halt.{Halt}
use Rattle.hex_langs.specs.declared.items.words.Halt.TheVariants as halt
use Rattle.hex_langs.specs.Items.Reading.{Ending, formed, Formed, Halted, Reading, Then, with_prefix}
use Rattle.hex_langs.specs.Items.Words.{Step, taken, Takes}
use Rattle.hex_langs.proofs.ItemsLemmas.Readings.{formed-halt, formed-token, takes-ok, with_prefix-twice}
use Rattle.m1_lang.specs.declared.words.meaning.WordFault.{WordFault}
use Rattle.m1_lang.specs.declared.refusal.M1Refusal.TheVariants.{TooLong}
use Rattle.m1_lang.specs.Expansion.{at_once, counted_items, halt_refusal, items_unless_refused}
use Rattle.m1_lang.specs.Representation.Passes.{TakesTokens}

pub counted-few : (whole : Formed WordFault) → length whole.items ≤ most_items → counted_items whole ≡ items_unless_refused whole.items whole.end
counted-few whole few = let fits : nat_lt most_items (length whole.items) ≡ false = grind (arith, nat_tests) in cond-false _ _ _ fits

counted-many : (whole : Formed WordFault) → most_items < length whole.items → counted_items whole ≡ Err TooLong
counted-many whole many = let over : nat_lt most_items (length whole.items) ≡ true = grind (arith, nat_tests) in cond-true _ _ _ over

-- the items so far are few, and nothing comes after them
pub counted-end : (items : List Item) (end : Ending WordFault) → length items ≤ most_items
    → counted_items (with_prefix items (record { items = []; end = end })) ≡ items_unless_refused items end
counted-end items end few =
    ap (λ (all : List Item). counted_items (record { items = all; end = end })) (append-nil items) ∙ counted-few (record { items = items; end = end }) few

-- ---- one token

one-ok : (word next : Option Open) (at : ℕ) (token : Token) (old new : List Item) → Takes (Ok next) (taken word at token) old new
    → TakesTokens (Ok next) word at (token ∷ []) old new
one-ok word next at token old new takes later =
    let found = takes-ok (taken word at token) next old new takes in
    ap (with_prefix old) (formed-token word next at token later found.0 found.1) ∙ with_prefix-twice old found.0 (formed next later)
    ∙ ap (λ (items : List Item). with_prefix items (formed next later)) (sym found.2)

one-halt : (word : Option Open) (at : ℕ) (token : Token) (old : List Item) (why : Halt) → length old ≤ most_items → taken word at token ≡ Err why
    → (later : Reading WordFault) → counted_items (with_prefix old (formed word (Then at token later))) ≡ Err (halt_refusal why)
one-halt word at token old why few is later =
    ap (λ (f : Formed WordFault). counted_items (with_prefix old f)) (formed-halt word at token later why is) ∙ counted-end old (Halted why) few

one-long : (word : Option Open) (at : ℕ) (token : Token) (old new : List Item) (meant : Step) → length old ≤ most_items → taken word at token ≡ meant
    → Takes (Err halt.TooLong) meant old new → (later : Reading WordFault) → counted_items (with_prefix old (formed word (Then at token later))) ≡ Err TooLong
one-long word at token old new (Ok step) few is takes later =
    ap (λ (f : Formed WordFault). counted_items (with_prefix old f)) (formed-token word step.1 at token later step.0 is)
    ∙ counted-many (with_prefix old (with_prefix step.0 (formed step.1 later)))
    (omega (arith, takes, length-append old (step.0 ++ (formed step.1 later).items), length-append step.0 (formed step.1 later).items))
one-long word at token old new (Err why) few is takes later = one-halt word at token old halt.TooLong few (is ∙ takes) later

pub takes-one : (result : Result (Option Open) Halt) (word : Option Open) (at : ℕ) (token : Token) (old new : List Item) → length old ≤ most_items
    → Takes result (taken word at token) old new → TakesTokens result word at (token ∷ []) old new
takes-one (Ok next) word at token old new few takes = one-ok word next at token old new takes
takes-one (Err (halt.Dangling first)) word at token old new few takes = one-halt word at token old (halt.Dangling first) few takes
takes-one (Err (halt.Second offset)) word at token old new few takes = one-halt word at token old (halt.Second offset) few takes
takes-one (Err halt.TooLong) word at token old new few takes = one-long word at token old new (taken word at token) few refl takes
takes-one (Err halt.OutOfMemory) word at token old new few takes = tt

-- ---- more tokens

-- where some of the tokens were taken, what is left of them makes up the whole
abbrev pub Remaining : Option Open → List Token → List Item → Option Open → List Token → List Item → Type 0
Remaining word tokens old next remaining items =
    (at : ℕ) (later : Reading WordFault) → with_prefix old (formed word (at_once at tokens later)) ≡ with_prefix items (formed next (at_once at remaining later))

pub remaining-more : (word next then : Option Open) (tokens remaining : List Token) (token : Token) (old items new : List Item)
    → Remaining word tokens old next (token ∷ remaining) items → ((at : ℕ) → TakesTokens (Ok then) next at (token ∷ []) items new) → Remaining word tokens old then remaining new
remaining-more word next then tokens remaining token old items new so_far one at later = so_far at later ∙ one at (at_once at remaining later)

pub remaining-refused : (why : Halt) (word next : Option Open) (tokens remaining : List Token) (token : Token) (old items new : List Item)
    → Remaining word tokens old next (token ∷ remaining) items → ((at : ℕ) → TakesTokens (Err why) next at (token ∷ []) items new)
    → (at : ℕ) → TakesTokens (Err why) word at tokens old new
remaining-refused (halt.Dangling first) word next tokens remaining token old items new so_far one at = λ later. ap counted_items (so_far at later) ∙ one at (at_once at remaining later)
remaining-refused (halt.Second offset) word next tokens remaining token old items new so_far one at = λ later. ap counted_items (so_far at later) ∙ one at (at_once at remaining later)
remaining-refused halt.TooLong word next tokens remaining token old items new so_far one at = λ later. ap counted_items (so_far at later) ∙ one at (at_once at remaining later)
remaining-refused halt.OutOfMemory word next tokens remaining token old items new so_far one at = tt

-- ---- bytes

bytes-append : (at : ℕ) (xs ys : List ℕ) (later : Reading WordFault)
    → at_once at (map Byte (xs ++ ys)) later ≡ at_once at (map Byte xs) (at_once at (map Byte ys) later)
bytes-append at [] ys later = refl
bytes-append at (x ∷ xs) ys later = ap (Then at (Byte x)) (bytes-append at xs ys later)

pub append-refused : (why : Halt) (word : Option Open) (at : ℕ) (xs ys : List ℕ) (old new : List Item)
    → TakesTokens (Err why) word at (map Byte xs) old new → TakesTokens (Err why) word at (map Byte (xs ++ ys)) old new
append-refused (halt.Dangling first) word at xs ys old new one =
    λ later. ap (λ (r : Reading WordFault). counted_items (with_prefix old (formed word r))) (bytes-append at xs ys later) ∙ one (at_once at (map Byte ys) later)
append-refused (halt.Second offset) word at xs ys old new one =
    λ later. ap (λ (r : Reading WordFault). counted_items (with_prefix old (formed word r))) (bytes-append at xs ys later) ∙ one (at_once at (map Byte ys) later)
append-refused halt.TooLong word at xs ys old new one =
    λ later. ap (λ (r : Reading WordFault). counted_items (with_prefix old (formed word r))) (bytes-append at xs ys later) ∙ one (at_once at (map Byte ys) later)
append-refused halt.OutOfMemory word at xs ys old new one = tt

-- after the first bytes
both : (word next : Option Open) (at : ℕ) (xs ys : List ℕ) (old mid : List Item) → TakesTokens (Ok next) word at (map Byte xs) old mid
    → (later : Reading WordFault) → with_prefix old (formed word (at_once at (map Byte (xs ++ ys)) later)) ≡ with_prefix mid (formed next (at_once at (map Byte ys) later))
both word next at xs ys old mid one later =
    ap (λ (r : Reading WordFault). with_prefix old (formed word r)) (bytes-append at xs ys later) ∙ one (at_once at (map Byte ys) later)

pub append-taken : (result : Result (Option Open) Halt) (word next : Option Open) (at : ℕ) (xs ys : List ℕ) (old mid new : List Item)
    → TakesTokens (Ok next) word at (map Byte xs) old mid → TakesTokens result next at (map Byte ys) mid new → TakesTokens result word at (map Byte (xs ++ ys)) old new
append-taken (Ok then) word next at xs ys old mid new one two = λ later. both word next at xs ys old mid one later ∙ two later
append-taken (Err (halt.Dangling first)) word next at xs ys old mid new one two = λ later. ap counted_items (both word next at xs ys old mid one later) ∙ two later
append-taken (Err (halt.Second offset)) word next at xs ys old mid new one two = λ later. ap counted_items (both word next at xs ys old mid one later) ∙ two later
append-taken (Err halt.TooLong) word next at xs ys old mid new one two = λ later. ap counted_items (both word next at xs ys old mid one later) ∙ two later
append-taken (Err halt.OutOfMemory) word next at xs ys old mid new one two = tt

pub zeros-more : (count done : ℕ) → done < count → replicate {A = ℕ} (count - done) 0 ≡ 0 ∷ replicate {A = ℕ} (count - (done + 1)) 0
zeros-more count done remaining = let more : count - done ≡ suc (count - (done + 1)) = omega (arith, remaining) in ap (λ (n : ℕ). replicate {A = ℕ} n 0) more

pub prefix-short : (remaining : List ℕ) → length remaining ≤ 1 → prefix_bytes remaining ≡ []
prefix-short [] short = refl
prefix-short (alone ∷ []) short = refl
prefix-short (high ∷ low ∷ rest) short = absurd (omega (arith, short))
