-- Loads in a row, and saves in a row.
use Rattle.std.proofs.Common.{◌≡◌, ℕ, zero, suc, ◌+◌, ◌-◌, ◌<◌, ◌≤◌, Result, Ok, Err, List, [], ◌∷◌, ◌++◌, length, map, drop, get_or, min, append_assoc, append-nil, le_trans, sym, ap, subst, arith}
use Rattle.std.proofs.lemmas.List.{drop_all, length-map}
use Rattle.std.proofs.Math.Nat.{min-le_left, min-le_right}
use Rattle.ddc_base.specs.Outside.{ShelfState}
use Rattle.command_plan.specs.declared.stop.Stop.{Stop}
use Rattle.command_plan.specs.declared.stop.Stop.TheVariants as stop
use Rattle.command_plan.specs.declared.answer.Answer.{Answer}
use Rattle.command_plan.specs.Performs.{Performs}
use Rattle.command_plan.specs.Plan.{Plan, needs_all, sets}
use Rattle.command_plan.specs.Steps.{EndsAs, Fetches, LeadsOn, Obtains, PlanEnding, Saves}
use Rattle.command_plan.proofs.Performing.{ends_at_fetch, ends_at_save, leads_after_fetch, leads_after_save, led_to, wants_memory}

-- what is left of loads in a row: these names, after these contents
abbrev pub rest_of : ℕ → ℕ → List (List ℕ) → List (List ℕ) → (List (List ℕ) → Plan) → Plan
rest_of most budget contents names next = needs_all most budget names (λ more. next (contents ++ more))

module _ (plan : (List (List ℕ) → Plan) → Plan) (most budget : ℕ) (contents : List (List ℕ)) (old now : ShelfState) where
  -- one more content
  more : (name : List ℕ) (names : List (List ℕ)) (mid : ShelfState) (content : List ℕ) → LeadsOn plan (rest_of most budget contents (name ∷ names)) old now
      → Fetches name (min most budget) now mid (Ok content) → LeadsOn plan (rest_of most (budget - length content) (contents ++ content ∷ []) names) old mid
  more name names mid content leads f = λ next final ending e.
      leads next final ending (leads_after_fetch name (min most budget) (λ c. needs_all most (budget - length c) names (λ more. next (contents ++ c ∷ more))) now mid content f final ending
      (subst (λ (n : List (List ℕ) → Plan). EndsAs (needs_all most (budget - length content) names n) mid final ending)
      (λ i more. next (append_assoc contents (content ∷ []) more i)) e))

  -- a load that ends the command
  stops : (name : List ℕ) (names : List (List ℕ)) (new : ShelfState) (ending : Stop) → LeadsOn plan (rest_of most budget contents (name ∷ names)) old now
      → Fetches name (min most budget) now new (Err ending) → Obtains plan old new (Err ending)
  stops name names new ending leads f = record {
    by_result = λ next. led_to plan (rest_of most budget contents (name ∷ names)) old now leads next new (Err ending)
        (ends_at_fetch name (min most budget) (λ c. needs_all most (budget - length c) names (λ more. next (contents ++ c ∷ more))) now new ending f);
  }

  -- want of memory between two loads
  pub wants : (names : List (List ℕ)) → LeadsOn plan (rest_of most budget contents names) old now → Obtains plan old now (Err stop.OutOfMemory)
  wants names leads = record {
    by_result = λ next. led_to plan (rest_of most budget contents names) old now leads next now (Err stop.OutOfMemory) (wants_memory (rest_of most budget contents names next) now);
  }

  -- the names of these values, from one on
  module _ {A : Type 0} (name : A → List ℕ) (values : List A) (index : ℕ) where
    -- all contents
    pub ends : LeadsOn plan (rest_of most budget contents (drop index (map name values))) old now → length values ≤ index → Obtains plan old now (Ok contents)
    ends leads le =
        let none : drop index (map name values) ≡ [] =
        drop_all index (map name values) (let same : length (map name values) ≡ length values = length-map values name in omega (arith, le, same)) in
        let led : LeadsOn plan (rest_of most budget contents []) old now = subst (λ names. LeadsOn plan (rest_of most budget contents names) old now) none leads in
        record {
          by_result = λ next final ending e. led next final ending (subst (λ c. EndsAs (next c) now final ending) (sym (append-nil contents)) e);
        }

names_from : {A : Type 0} (name : A → List ℕ) (values : List A) (index : ℕ) (item : A) → index < length values → item ≡ get_or values index item
    → drop index (map name values) ≡ name item ∷ drop (index + 1) (map name values)
names_from name [] index item lt is = absurd (omega (arith, lt))
names_from name (value ∷ values) zero item lt is = ap (λ v. name v ∷ map name values) (sym is)
names_from name (value ∷ values) (suc index) item lt is =
    let next : suc index + 1 ≡ suc (index + 1) = omega arith in
    subst (λ n. drop index (map name values) ≡ name item ∷ drop n (map name (value ∷ values))) (sym next) (names_from name values index item (omega (arith, lt)) is)

-- the same, as a loop over values with names has them: the name's text, the limit and what is left of the room are computed
module _ {A : Type 0} (plan : (List (List ℕ) → Plan) → Plan) (most budget limit : ℕ) (contents : List (List ℕ)) (name : A → List ℕ) (values : List A) (index : ℕ) (item : A) (text : List ℕ)
    (old now : ShelfState) where
  one : (new : ShelfState) (result : Result (List ℕ) Stop) → text ≡ name item → limit ≡ min most budget → Fetches text limit now new result → Fetches (name item) (min most budget) now new result
  one new result named limited f = subst (λ n. Fetches n (min most budget) now new result) named (subst (λ l. Fetches text l now new result) limited f)

  there : LeadsOn plan (rest_of most budget contents (drop index (map name values))) old now → index < length values → item ≡ get_or values index item
      → LeadsOn plan (rest_of most budget contents (name item ∷ drop (index + 1) (map name values))) old now
  there leads lt is = subst (λ names. LeadsOn plan (rest_of most budget contents names) old now) (names_from name values index item lt is) leads

  pub stops_at : (new : ShelfState) (ending : Stop) → LeadsOn plan (rest_of most budget contents (drop index (map name values))) old now → index < length values → item ≡ get_or values index item
      → text ≡ name item → limit ≡ min most budget → Fetches text limit now new (Err ending) → Obtains plan old new (Err ending)
  stops_at new ending leads lt is named limited f =
      stops plan most budget contents old now (name item) (drop (index + 1) (map name values)) new ending (there leads lt is) (one new (Err ending) named limited f)

  pub goes_on : (mid : ShelfState) (content : List ℕ) (left : ℕ) (so_far : List (List ℕ)) → LeadsOn plan (rest_of most budget contents (drop index (map name values))) old now
      → index < length values → item ≡ get_or values index item → text ≡ name item → limit ≡ min most budget → Fetches text limit now mid (Ok content)
      → left ≡ budget - length content → so_far ≡ contents ++ content ∷ []
      → LeadsOn plan (rest_of most left so_far (drop (index + 1) (map name values))) old mid
  goes_on mid content left so_far leads lt is named limited f falls pushed =
      subst (λ c. LeadsOn plan (rest_of most left c (drop (index + 1) (map name values))) old mid) (sym pushed)
      (subst (λ r. LeadsOn plan (rest_of most r (contents ++ content ∷ []) (drop (index + 1) (map name values))) old mid) (sym falls)
      (more plan most budget contents old now (name item) (drop (index + 1) (map name values)) mid content (there leads lt is) (one mid (Ok content) named limited f)))

-- what was fetched is no more than the limit, so than either limit
pub fetched_within : (text : List ℕ) (most budget limit : ℕ) (old new : ShelfState) (content : List ℕ) → limit ≡ min most budget → Fetches text limit old new (Ok content)
    → (length content ≤ most) × (length content ≤ budget)
fetched_within text most budget limit old new content limited f =
    let fits : length content ≤ min most budget = subst (λ l. length content ≤ l) limited f.by_result.2 in
    (le_trans fits (min-le_left most budget), le_trans fits (min-le_right most budget))

-- ---- saves in a row

-- from where the shelf stands now a plan goes on as this rest: the invariant of a loop that saves
abbrev pub GoesOnAs : Plan → Plan → ShelfState → ShelfState → Type 0
GoesOnAs plan rest old now = (final : ShelfState) (ending : PlanEnding) → EndsAs rest now final ending → EndsAs plan old final ending

module _ (plan rest : Plan) (old now : ShelfState) (leads : GoesOnAs plan rest old now) where
  pub ends_as : (new : ShelfState) (result : Result Answer Stop) → Performs rest now new result → Performs plan old new result
  ends_as new result p = led_to {A = Unit {0}} (λ _. plan) (λ _. rest) old now (λ n final ending e. leads final ending e) (λ _. rest) new result p

module _ (plan : Plan) (name content : List ℕ) (next : Plan) (old now : ShelfState) (leads : GoesOnAs plan (sets name content next) old now) where
  -- one more save
  pub goes_on_saved : (mid : ShelfState) (done : Unit {0}) → Saves name content now mid (Ok done) → GoesOnAs plan next old mid
  goes_on_saved mid done s = λ final ending e. leads final ending (leads_after_save name content next now mid done s final ending e)

  -- a save that ends the command
  pub ends_at_one : (new : ShelfState) (ending : Stop) → Saves name content now new (Err ending) → Performs plan old new (Err ending)
  ends_at_one new ending s = ends_as plan (sets name content next) old now leads new (Err ending) (ends_at_save name content next now new ending s)

module _ {A : Type 0} (plan : Plan) (step : (A → Plan) → Plan) (next : A → Plan) (old now : ShelfState) (leads : GoesOnAs plan (step next) old now) where
  -- one more step
  pub goes_on_obtained : (mid : ShelfState) (value : A) → Obtains step now mid (Ok value) → GoesOnAs plan (next value) old mid
  goes_on_obtained mid value o = λ final ending e. leads final ending (o.by_result next final ending e)

  -- a step that ends the command
  pub ends_at_step : (new : ShelfState) (ending : Stop) → Obtains step now new (Err ending) → Performs plan old new (Err ending)
  ends_at_step new ending o = ends_as plan (step next) old now leads new (Err ending) (o.by_result next)
