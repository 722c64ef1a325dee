-- The place of an item is that of the token which forms it.
use Rattle.std.proofs.Common.{◌≡◌, ℕ, suc, ◌+◌, ◌<◌, ◌≤◌, Bool, true, false, cond, nat_lt, List, [], ◌++◌, length, length-append, append_assoc, Option, None, Some, Result, Ok, Err, refl, sym, ap, ◌∙◌, ◌⊎◌, inl, inr, arith}
use Rattle.std.proofs.lemmas.Bool.{cond-true, cond-false, cases_lt}
use Rattle.std.proofs.lemmas.Bool.Decides.{nat_tests}
use Rattle.ddc_base.specs.Limits.{most_items, most_source}
use Rattle.hex_langs.specs.declared.items.item.Item.{Item}
use Rattle.hex_langs.specs.declared.items.reader.HexRefusal.{HexRefusal}
use Rattle.hex_langs.specs.declared.items.reader.HexRefusal.TheVariants.{TooLong}
use Rattle.hex_langs.specs.declared.items.token.Dialect.{Dialect}
use Rattle.hex_langs.specs.declared.items.token.TokenFault.{TokenFault}
use Rattle.hex_langs.specs.declared.items.words.Open.{Open}
use Rattle.hex_langs.specs.Items.Reading.{after_step, answer, Ending, Faulted, Faulty, Formed, formed, Halted, items_of, limited_items, NoToken, reading, Reading, Then, Whole, with_prefix}
use Rattle.hex_langs.specs.Items.Words.{Step, taken}
use Rattle.tool_commands.specs.Offsets.{first_offset, item_offset, offset_of_item, offset_within}
use Rattle.tool_commands.specs.TokenOffsets.{IsFormedAt, IsOffsetOf}

below : (a b : ℕ) → a < b → nat_lt a b ≡ true
below a b less = grind (arith, nat_tests)

beyond : (a b : ℕ) → b ≤ a → nat_lt a b ≡ false
beyond a b more = grind (arith, nat_tests)

-- the items before are put in front
prefixes : (prefix before : List Item) (rest : Formed TokenFault) → with_prefix prefix (with_prefix before rest) ≡ with_prefix (prefix ++ before) rest
prefixes prefix before rest = ap (λ (items : List Item). record { items = items; end = rest.end }) (sym (append_assoc prefix before rest.items))

abbrev Placed : ℕ → ℕ → Option Open → Reading TokenFault → Type 0
Placed index done word tokens = (offset : ℕ) × (item_offset index done word tokens ≡ Some offset) × IsFormedAt index done word tokens offset

placed : (tokens : Reading TokenFault) (index done : ℕ) (word : Option Open) → done ≤ index → index < done + length (formed word tokens).items
    → done + length (formed word tokens).items ≤ most_items → Placed index done word tokens
placed NoToken index done word low high few = absurd (omega arith)
placed (Faulty why at) index done word low high few = absurd (omega arith)
placed (Then at token later) index done word low high few = by (λ more next. placed later index more next) (taken word at token) refl high few
  where
    here : (step : List Item × Option Open) → taken word at token ≡ Ok step → index < done + length step.0 → IsFormedAt index done word (Then at token later) (first_offset word at)
    here step takes within = record {
      count = 0;
      at = at;
      token = token;
      later = later;
      read = refl;
      before = [];
      word = word;
      reads = refl;
      made = step.0;
      next = step.1;
      takes = takes;
      low = omega arith;
      high = omega arith;
      offset_is = refl;
    }

    on : (step : List Item × Option Open) (offset : ℕ) → taken word at token ≡ Ok step → IsFormedAt index (done + length step.0) step.1 later offset
        → IsFormedAt index done word (Then at token later) offset
    on step offset takes found = record {
      count = suc found.count;
      at = found.at;
      token = found.token;
      later = found.later;
      read = found.read;
      before = step.0 ++ found.before;
      word = found.word;
      reads = ap (λ (s : Step). after_step s (λ next. formed next later)) takes ∙ ap (with_prefix step.0) found.reads
          ∙ prefixes step.0 found.before (formed found.word (Then found.at found.token found.later));
      made = found.made;
      next = found.next;
      takes = found.takes;
      low = omega (arith, found.low, length-append step.0 found.before);
      high = omega (arith, found.high, length-append step.0 found.before);
      offset_is = found.offset_is;
    }

    by : ((more : ℕ) (next : Option Open) → more ≤ index → index < more + length (formed next later).items → more + length (formed next later).items ≤ most_items
        → Placed index more next later) → (s : Step) → taken word at token ≡ s → index < done + length (after_step s (λ next. formed next later)).items
        → done + length (after_step s (λ next. formed next later)).items ≤ most_items
        → (offset : ℕ) × (offset_within index done (first_offset word at) s (λ more next. item_offset index more next later) ≡ Some offset)
        × IsFormedAt index done word (Then at token later) offset
    by rest (Err why) takes high few = absurd (omega arith)
    by rest (Ok step) takes high few = at_index (cases_lt index (done + length step.0))
      where
        whole : length (step.0 ++ (formed step.1 later).items) ≡ length step.0 + length (formed step.1 later).items
        whole = length-append step.0 (formed step.1 later).items

        fits : nat_lt most_items (done + length step.0) ≡ false
        fits = beyond most_items (done + length step.0) (omega (arith, few, whole))

        at_index : (index < done + length step.0) ⊎ (done + length step.0 ≤ index)
            → (offset : ℕ) × (offset_within index done (first_offset word at) (Ok step) (λ more next. item_offset index more next later) ≡ Some offset)
            × IsFormedAt index done word (Then at token later) offset
        at_index (inl within) = (
          first_offset word at,
          cond-false _ _ _ fits ∙ cond-true _ _ _ (below index (done + length step.0) within),
          here step takes within,
        )
        at_index (inr past) =
            let found = rest (done + length step.0) step.1 past (omega (arith, high, whole)) (omega (arith, few, whole)) in (
              found.0,
              cond-false _ _ _ fits ∙ cond-false _ _ _ (beyond index (done + length step.0) past) ∙ found.1,
              on step found.0 takes found.2,
            )

-- what is read whole is what is formed, and not too much
read-whole : (formed : Formed TokenFault) (items : List Item) → limited_items formed ≡ Ok items → (length formed.items ≤ most_items) × (formed.items ≡ items)
read-whole formed items is = by (cases_lt most_items (length formed.items))
  where
    ended : (end : Ending TokenFault) → ◌≡◌ {A = Result (List Item) HexRefusal} (answer formed.items end) (Ok items) → formed.items ≡ items
    ended Whole is = cc
    ended (Halted why) is = absurd cc
    ended (Faulted why at) is = absurd cc

    by : (most_items < length formed.items) ⊎ (length formed.items ≤ most_items) → (length formed.items ≤ most_items) × (formed.items ≡ items)
    by (inl many) = let no = sym (cond-true _ _ _ (below most_items (length formed.items) many)) ∙ is in absurd cc
    by (inr few) = (few, ended formed.end (sym (cond-false _ _ _ (beyond most_items (length formed.items) few)) ∙ is))

pub is_at_its_token : (dialect : Dialect) (source : List ℕ) (items : List Item) (index : ℕ) → items_of dialect source ≡ Ok items → index < length items
    → (offset : ℕ) × (offset_of_item dialect source index ≡ Some offset) × IsOffsetOf dialect source index offset
unfolding items_of offset_of_item
is_at_its_token dialect source items index is within = by (nat_lt most_source (length source)) is
  where
    tokens : Reading TokenFault
    tokens = reading dialect 0 0 source

    by : (long : Bool) → ◌≡◌ {A = Result (List Item) HexRefusal} (cond long (Err TooLong) (limited_items (formed None tokens))) (Ok items) → Placed index 0 None tokens
    by true is = absurd cc
    by false is =
        let whole = read-whole (formed None tokens) items is in
        let count : length (formed None tokens).items ≡ length items = ap length whole.1 in
        placed tokens index 0 None (omega arith) (omega (arith, count, within)) (omega (arith, whole.0))
