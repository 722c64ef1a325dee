-- What one token, and one gap, does to what is left.
use Rattle.std.proofs.Common.{◌≡◌, ℕ, zero, suc, ◌+◌, ◌-◌, ◌<◌, ◌≤◌, Bool, true, false, List, [], ◌∷◌, ◌++◌, length, drop, take, get_or, cond, nat_lt, ◌||◌, refl, sym, ap, subst, ◌∙◌, arith, append_assoc, Option, None, Result, Ok, Err, length-append}
use Rattle.std.proofs.lemmas.Bool.{cond-true, cond-false}
use Rattle.std.proofs.lemmas.Bool.Decides.{nat_tests}
use Rattle.std.proofs.lemmas.List.{append-nil, at_drop_more, drop-drop, length-drop}
use Rattle.std.proofs.Math.Seq.{take-length}
use Rattle.ddc_base.specs.Limits.{most_items, most_source}
use Rattle.hex.specs.Hex.{is_hex_digit}
use Rattle.hex_langs.specs.declared.items.item.Item.{Item}
use Rattle.hex_langs.specs.declared.items.token.Dialect.{Dialect}
use Rattle.hex_langs.specs.declared.items.token.TokenFault.{TokenFault}
use Rattle.hex_langs.specs.declared.items.token.TokenFault.TheVariants as fault
use Rattle.hex_langs.specs.declared.items.token.Token.{Token}
use Rattle.hex_langs.specs.declared.items.words.Open.{Open}
use Rattle.hex_langs.specs.declared.items.words.Halt.{Halt}
use Rattle.hex_langs.specs.declared.items.words.Halt.TheVariants as halt
use Rattle.hex_langs.specs.declared.items.reader.HexRefusal.{HexRefusal}
use Rattle.hex_langs.specs.declared.items.reader.HexRefusal.TheVariants.{TooLong}
use Rattle.hex_langs.specs.Items.Tokens.{gap_from, gap_length, is_blank, opens_gap, pair_at, token_at}
use Rattle.hex_langs.specs.Hex0.{begins_comment}
use Rattle.hex_langs.specs.Items.Words.{Step, taken, Takes}
use Rattle.hex_langs.specs.Items.Reading.{answer, Ending, NoToken, Faulty, Formed, fault_at, formed, after_step, Halted, halted, items_of, limited_items, Reading, ReadsItems, reading, Then, with_prefix}

-- what is read already is passed over
pub reading-inside : (dialect : Dialect) (at inside : ℕ) (remaining : List ℕ)
    → reading dialect at inside remaining ≡ reading dialect (at + inside) 0 (drop inside remaining)
unfolding reading
reading-inside dialect at zero remaining = ap (λ (n : ℕ). reading dialect n 0 remaining) (omega arith)
reading-inside dialect at (suc inside) [] = refl
reading-inside dialect at (suc inside) (byte ∷ remaining) =
    let moved : at + 1 + inside ≡ at + suc inside = omega arith in
    reading-inside dialect (at + 1) inside remaining ∙ ap (λ (n : ℕ). reading dialect n 0 (drop inside remaining)) moved

-- at a gap
pub reading-gap : (dialect : Dialect) (at inside next : ℕ) (byte : ℕ) (remaining : List ℕ) → opens_gap byte ≡ true
    → gap_length (byte ∷ remaining) ≡ inside + 1 → next ≡ at + 1 + inside
    → reading dialect at 0 (byte ∷ remaining) ≡ reading dialect next 0 (drop inside remaining)
unfolding reading
reading-gap dialect at inside next byte remaining opens size is =
    rw opens (rw size (
    let counted : inside + 1 - 1 ≡ inside = omega arith in
    ap (λ (n : ℕ). reading dialect (at + 1) n remaining) counted
    ∙ reading-inside dialect (at + 1) inside remaining
    ∙ ap (λ (n : ℕ). reading dialect n 0 (drop inside remaining)) (sym is)))

-- at a token
pub reading-token : (dialect : Dialect) (at : ℕ) (byte : ℕ) (remaining : List ℕ) (token : Token) (more : ℕ) → opens_gap byte ≡ false
    → token_at dialect byte remaining ≡ Ok (token, more)
    → reading dialect at 0 (byte ∷ remaining) ≡ Then at token (reading dialect (at + 1 + more) 0 (drop more remaining))
unfolding reading
reading-token dialect at byte remaining token more code found =
    rw code (rw found (ap (Then at token) (reading-inside dialect (at + 1) more remaining)))

-- at a place without one
pub reading-fault : (dialect : Dialect) (at : ℕ) (byte : ℕ) (remaining : List ℕ) (why : TokenFault) → opens_gap byte ≡ false
    → token_at dialect byte remaining ≡ Err why → reading dialect at 0 (byte ∷ remaining) ≡ Faulty why at
unfolding reading
reading-fault dialect at byte remaining why code found = rw code (rw found refl)

pub with_prefix-twice : {F : Type 0} (prefix more : List Item) (later : Formed F) → with_prefix prefix (with_prefix more later) ≡ with_prefix (prefix ++ more) later
with_prefix-twice prefix more later = ap (λ (items : List Item). record { items = items; end = later.end }) (sym (append_assoc prefix more later.items))

-- a token that has its place
pub formed-token : {F : Type 0} (word next : Option Open) (at : ℕ) (token : Token) (later : Reading F) (more : List Item)
    → taken word at token ≡ Ok (more, next) → formed word (Then at token later) ≡ with_prefix more (formed next later)
formed-token word next at token later more is = ap (λ (step : Step). after_step step (λ then. formed then later)) is

-- a token that has none
pub formed-halt : {F : Type 0} (word : Option Open) (at : ℕ) (token : Token) (later : Reading F) (why : Halt)
    → taken word at token ≡ Err why → formed word (Then at token later) ≡ record { items = []; end = Halted why }
formed-halt word at token later why is = ap (λ (step : Step). after_step step (λ then. formed then later)) is

-- a digit begins a byte
pub token-digit : (dialect : Dialect) (byte : ℕ) (remaining : List ℕ) → is_hex_digit byte ≡ true → token_at dialect byte remaining ≡ pair_at byte remaining
unfolding token_at
token-digit dialect byte remaining is = rw is refl

-- ---- from one offset of a source to the next

pub rest_is : (xs : List ℕ) (i : ℕ) → take (length xs - i) (drop i xs) ≡ drop i xs
rest_is xs i = rw (← length-drop i xs) (take-length (drop i xs))

pub prefix_is : (xs : List ℕ) (i : ℕ) → i < length xs → drop i xs ≡ get_or xs i 0 ∷ drop (i + 1) xs
prefix_is xs i within = at_drop_more (λ (l : List ℕ). l) xs i 0 within

gap-some : (comment blank : Bool) (a b : ℕ) → blank || comment ≡ true
    → (inside : ℕ) × (cond comment (suc a) (cond blank (suc b) 0) ≡ inside + 1)
gap-some true blank a b opens = (a, omega arith)
gap-some false true a b opens = (b, omega arith)
gap-some false false a b opens = absurd (cc)

pub gap_length-some : (byte : ℕ) (remaining : List ℕ) → opens_gap byte ≡ true → (inside : ℕ) × (gap_length (byte ∷ remaining) ≡ inside + 1)
unfolding gap_length
gap_length-some byte remaining opens = gap-some (begins_comment byte) (is_blank byte) (gap_from true remaining) (gap_from false remaining) opens

-- a gap takes at least one byte, and what is read after it is what was read before it
pub moves-gap : (dialect : Dialect) (source : List ℕ) (at size : ℕ) → at < length source → opens_gap (get_or source at 0) ≡ true
    → size ≡ gap_length (drop at source)
    → (0 < size) × (reading dialect at 0 (drop at source) ≡ reading dialect (at + size) 0 (drop (at + size) source))
moves-gap dialect source at size within opens is =
    let prefix = prefix_is source at within in
    let some = gap_length-some (get_or source at 0) (drop (at + 1) source) opens in
    let size_is : size ≡ some.0 + 1 = is ∙ ap gap_length prefix ∙ some.1 in
    let next_is : at + size ≡ at + 1 + some.0 = omega arith in
    let moved = reading-gap dialect at some.0 (at + size) (get_or source at 0) (drop (at + 1) source) opens some.1 next_is in
    let remaining_is : drop some.0 (drop (at + 1) source) ≡ drop (at + size) source = drop-drop some.0 (at + 1) source ∙ ap (λ (n : ℕ). drop n source) (sym next_is) in
    (omega arith, ap (reading dialect at 0) prefix ∙ moved ∙ ap (reading dialect (at + size) 0) remaining_is)

pub moves-token : (dialect : Dialect) (source : List ℕ) (at more : ℕ) (token : Token) → at < length source
    → opens_gap (get_or source at 0) ≡ false
    → token_at dialect (get_or source at 0) (drop (at + 1) source) ≡ Ok (token, more)
    → reading dialect at 0 (drop at source) ≡ Then at token (reading dialect (at + (1 + more)) 0 (drop (at + (1 + more)) source))
moves-token dialect source at more token within code found =
    let prefix = prefix_is source at within in
    let next_is : at + 1 + more ≡ at + (1 + more) = omega arith in
    let moved = reading-token dialect at (get_or source at 0) (drop (at + 1) source) token more code found in
    let remaining_is : drop more (drop (at + 1) source) ≡ drop (at + (1 + more)) source = drop-drop more (at + 1) source ∙ ap (λ (n : ℕ). drop n source) next_is in
    ap (reading dialect at 0) prefix ∙ moved
    ∙ ap (λ (n : ℕ). Then at token (reading dialect n 0 (drop more (drop (at + 1) source)))) next_is
    ∙ ap (λ (remaining : List ℕ). Then at token (reading dialect (at + (1 + more)) 0 remaining)) remaining_is

pub moves-fault : (dialect : Dialect) (source : List ℕ) (at : ℕ) (why : TokenFault) → at < length source
    → opens_gap (get_or source at 0) ≡ false
    → token_at dialect (get_or source at 0) (drop (at + 1) source) ≡ Err why
    → reading dialect at 0 (drop at source) ≡ Faulty why at
moves-fault dialect source at why within code found =
    ap (reading dialect at 0) (prefix_is source at within)
    ∙ reading-fault dialect at (get_or source at 0) (drop (at + 1) source) why code found

-- ---- answers

pub takes-ok : (meant : Step) (next : Option Open) (old new : List Item) → Takes (Ok next) meant old new
    → (more : List Item) × (meant ≡ Ok (more, next)) × (new ≡ old ++ more)
takes-ok (Ok step) next old new takes = (step.0, ap (λ (word : Option Open). Ok (step.0, word)) (sym takes.1), takes.0)
takes-ok (Err why) next old new takes = absurd takes

judged-few : (whole : Formed TokenFault) → length whole.items ≤ most_items → limited_items whole ≡ answer whole.items whole.end
judged-few whole few = let fits : nat_lt most_items (length whole.items) ≡ false = grind (arith, nat_tests) in cond-false _ _ _ fits

judged-many : (whole : Formed TokenFault) → most_items < length whole.items → limited_items whole ≡ Err TooLong
judged-many whole many = let over : nat_lt most_items (length whole.items) ≡ true = grind (arith, nat_tests) in cond-true _ _ _ over

-- the items so far are few, and nothing comes after them
pub judged-end : (whole : Formed TokenFault) (items : List Item) (end : Ending TokenFault) → whole ≡ with_prefix items (record { items = []; end = end })
    → length items ≤ most_items → limited_items whole ≡ answer items end
judged-end whole items end is few =
    let all : whole ≡ record { items = items; end = end } = is ∙ ap (λ (all : List Item). record { items = all; end = end }) (append-nil items) in
    ap limited_items all ∙ judged-few (record { items = items; end = end }) few

judged-more : (whole : Formed TokenFault) (items more : List Item) (later : Formed TokenFault) → whole ≡ with_prefix items (with_prefix more later)
    → most_items < length items + length more → limited_items whole ≡ Err TooLong
judged-more whole items more later is many =
    rw is (judged-many (with_prefix items (with_prefix more later)) (omega (arith, length-append {A = Item})))

-- a token that has no place, or one item too many
too_long : (whole : Formed TokenFault) (items new : List Item) (word : Option Open) (at : ℕ) (token : Token) (later : Reading TokenFault) (meant : Step)
    → whole ≡ with_prefix items (formed word (Then at token later)) → taken word at token ≡ meant
    → Takes (Err halt.TooLong) meant items new → length items ≤ most_items → limited_items whole ≡ Err TooLong
too_long whole items new word at token later (Ok step) is means takes few =
    judged-more whole items step.0 (formed step.1 later) (is ∙ ap (with_prefix items) (formed-token word step.1 at token later step.0 means)) takes
too_long whole items new word at token later (Err why) is means takes few =
    judged-end whole items (Halted halt.TooLong) (is ∙ ap (with_prefix items) (formed-halt word at token later halt.TooLong (means ∙ takes))) few

pub refuses : (whole : Formed TokenFault) (items new : List Item) (word : Option Open) (at : ℕ) (token : Token) (later : Reading TokenFault) (why : Halt)
    → whole ≡ with_prefix items (formed word (Then at token later)) → Takes (Err why) (taken word at token) items new
    → length items ≤ most_items → ReadsItems (limited_items whole) (Err (halted why))
refuses whole items new word at token later (halt.Dangling first) is takes few =
    judged-end whole items (Halted (halt.Dangling first)) (is ∙ ap (with_prefix items) (formed-halt word at token later (halt.Dangling first) takes)) few
refuses whole items new word at token later (halt.Second offset) is takes few =
    judged-end whole items (Halted (halt.Second offset)) (is ∙ ap (with_prefix items) (formed-halt word at token later (halt.Second offset) takes)) few
refuses whole items new word at token later halt.TooLong is takes few = too_long whole items new word at token later (taken word at token) is refl takes few
refuses whole items new word at token later halt.OutOfMemory is takes few = tt

pub items_of-judged : (dialect : Dialect) (source : List ℕ) → length source ≤ most_source
    → items_of dialect source ≡ limited_items (formed None (reading dialect 0 0 source))
unfolding items_of
items_of-judged dialect source short = let fits : nat_lt most_source (length source) ≡ false = grind (arith, nat_tests) in cond-false _ _ _ fits

pub items_of-long : (dialect : Dialect) (source : List ℕ) → most_source < length source → items_of dialect source ≡ Err TooLong
unfolding items_of
items_of-long dialect source long = let over : nat_lt most_source (length source) ≡ true = grind (arith, nat_tests) in cond-true _ _ _ over

pub reads-fault : (meant : Result (List Item) HexRefusal) (why : TokenFault) (at : ℕ) → meant ≡ Err (fault_at why at) → ReadsItems meant (Err (fault_at why at))
reads-fault meant fault.OddDigits at is = is
reads-fault meant fault.BadField at is = is

pub reads-by : (meant same : Result (List Item) HexRefusal) (result : Result (List Item) HexRefusal) → meant ≡ same → ReadsItems same result → ReadsItems meant result
reads-by meant same result is reads = subst (λ (m : Result (List Item) HexRefusal). ReadsItems m result) (sym is) reads

pub reading-end : (dialect : Dialect) (at : ℕ) → reading dialect at 0 [] ≡ NoToken
unfolding reading
reading-end dialect at = refl
