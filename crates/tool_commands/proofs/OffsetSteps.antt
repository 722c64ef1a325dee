-- A token further in a source, and a byte further in a text.
use Rattle.std.proofs.Common.{◌≡◌, ℕ, ◌+◌, ◌==◌, ◌<◌, ◌≤◌, Bool, true, false, cond, if◌then◌else◌, nat_lt, length, refl, sym, ap, arith, take_all, ◌∙◌, Option, None, Some, Result, Ok, Err, IfOk, List}
use Rattle.std.specs.List.{position, position_or_len}
use Rattle.std.proofs.lemmas.Option.{cond_some}
use Rattle.std.proofs.lemmas.Bool.{cond-true, cond-false}
use Rattle.std.proofs.lemmas.Bool.Decides.{nat_tests}
use Rattle.ddc_base.specs.Limits.{most_items}
use Rattle.hex_langs.specs.declared.items.item.Item.{Item}
use Rattle.hex_langs.specs.declared.items.token.Token.{Token}
use Rattle.hex_langs.specs.declared.items.token.TokenFault.{TokenFault}
use Rattle.hex_langs.specs.declared.items.words.Open.{Open}
use Rattle.hex_langs.specs.declared.items.words.Halt.{Halt}
use Rattle.hex_langs.specs.declared.items.words.Halt.TheVariants as halt
use Rattle.hex_langs.specs.Items.Reading.{Reading, Then}
use Rattle.hex_langs.specs.Items.Tokens.{is_blank}
use Rattle.hex_langs.specs.Items.Words.{Step, taken, Takes}
use Rattle.tool_commands.specs.declared.offsets.Spot.{Spot}
use Rattle.tool_commands.specs.Offsets.{IsStopped, after_byte, first_offset, leading_word, item_offset, offset_within}

-- ---- a token that has its place: the item is among those that it forms, or comes later

module _ (index done : ℕ) (word next : Option Open) (at : ℕ) (token : Token) (later : Reading TokenFault) (more : List Item) (is : taken word at token ≡ Ok (more, next))
    (few : done + length more ≤ most_items) where
  stepped : item_offset index done word (Then at token later)
      ≡ (if nat_lt index (done + length more) then Some (first_offset word at) else item_offset index (done + length more) next later)
  stepped =
      let fits : nat_lt most_items (done + length more) ≡ false = grind (arith, nat_tests) in
      ap (λ (step : Step). offset_within index done (first_offset word at) step (λ so_far after. item_offset index so_far after later)) is ∙ cond-false _ _ _ fits

  pub found-here : index < done + length more → item_offset index done word (Then at token later) ≡ Some (first_offset word at)
  found-here here = let so : nat_lt index (done + length more) ≡ true = grind (arith, nat_tests) in stepped ∙ cond-true _ _ _ so

  pub found-later : done + length more ≤ index → item_offset index done word (Then at token later) ≡ item_offset index (done + length more) next later
  found-later behind = let so : nat_lt index (done + length more) ≡ false = grind (arith, nat_tests) in stepped ∙ cond-false _ _ _ so

-- ---- a token that has none ends it

module _ (index offset : ℕ) (old new : List Item) (later : ℕ → Option Open → Option ℕ) where
  dangles : (first : ℕ) (meant : Step) → Takes (Err (halt.Dangling first)) meant old new → offset_within index (length old) offset meant later ≡ None
  dangles first (Err why) takes = refl
  dangles first (Ok step) takes = absurd cc

  is-second : (at : ℕ) (meant : Step) → Takes (Err (halt.Second at)) meant old new → offset_within index (length old) offset meant later ≡ None
  is-second at (Err why) takes = refl
  is-second at (Ok step) takes = absurd cc

  is-too-long : (meant : Step) → Takes (Err halt.TooLong) meant old new → offset_within index (length old) offset meant later ≡ None
  is-too-long (Err why) takes = refl
  is-too-long (Ok step) takes = let over : nat_lt most_items (length old + length step.0) ≡ true = grind (arith, nat_tests) in cond-true _ _ _ over

  pub stops : {E : Type 0} (why : Halt) (result : Result (Option ℕ) E) (meant : Step) → IsStopped why result → Takes (Err why) meant old new
      → IfOk result (λ found. found ≡ offset_within index (length old) offset meant later)
  stops why (Err want) meant is takes = tt
  stops (halt.Dangling first) (Ok offset) meant is takes = is ∙ sym (dangles first meant takes)
  stops (halt.Second at) (Ok offset) meant is takes = is ∙ sym (is-second at meant takes)
  stops halt.TooLong (Ok offset) meant is takes = is ∙ sym (is-too-long meant takes)
  stops halt.OutOfMemory (Ok offset) meant is takes = absurd is

-- ---- a byte further

abbrev line_more : Spot → Spot
line_more spot = record { line = spot.line + 1; column = 1 }

abbrev column_more : Spot → Spot
column_more spot = record { line = spot.line; column = spot.column + 1 }

line-by : (ends : Bool) (spot : Spot) (n : ℕ) → spot.line ≤ n → (if ends then line_more spot else column_more spot).line ≤ n + 1
line-by true spot n few = omega (arith, few)
line-by false spot n few = omega (arith, few)

pub line-few : (spot : Spot) (byte n : ℕ) → spot.line ≤ n → (after_byte spot byte).line ≤ n + 1
line-few spot byte n few = line-by (byte == 10) spot n few

column-by : (ends : Bool) (spot : Spot) (n : ℕ) → spot.column ≤ n → (if ends then line_more spot else column_more spot).column ≤ n + 1
column-by true spot n few = omega arith
column-by false spot n few = omega (arith, few)

pub column-few : (spot : Spot) (byte n : ℕ) → spot.column ≤ n → (after_byte spot byte).column ≤ n + 1
column-few spot byte n few = column-by (byte == 10) spot n few

-- ---- where a word ends

pub blank_there : (rest : List ℕ) (at : ℕ) → position is_blank rest ≡ Some at → position_or_len is_blank rest ≡ at
blank_there rest at is = (cond_some (nat_lt (position_or_len is_blank rest) (length rest)) (position_or_len is_blank rest) at is).1

past : (rest : List ℕ) → position is_blank rest ≡ None → length rest ≤ position_or_len is_blank rest
past rest is = by (nat_lt (position_or_len is_blank rest) (length rest)) refl is where
  by : (b : Bool) → nat_lt (position_or_len is_blank rest) (length rest) ≡ b → cond b (Some (position_or_len is_blank rest)) None ≡ None → length rest ≤ position_or_len is_blank rest
  by true under none = absurd cc
  by false over none = grind (arith, nat_tests)

pub whole_before : (rest : List ℕ) → position is_blank rest ≡ None → leading_word rest ≡ rest
whole_before rest is = take_all (position_or_len is_blank rest) rest (past rest is)
