-- The files of a list are placed one after the other, and no rule refuses one of them.
use Rattle.std.proofs.Common.{◌≡◌, ℕ, ◌+◌, ◌-◌, ◌<◌, ◌≤◌, ◌||◌, false, cond, not, IsTrue, None, Some, Result, Ok, Err, List, [], ◌∷◌, ◌++◌, length, drop, get_or, min, nat_le, nat_lt, refl, sym, ap, ◌∙◌, subst, arith, All}
use Rattle.std.specs.Prelude.{bytes_eq, is_some}
use Rattle.std.specs.FinMap as fin
use Rattle.std.specs.Ordering.{eq_by_cmp, is_eq}
use Rattle.std.specs.declared.cmp.Ordering.{Ordering}
use Rattle.std.specs.declared.cmp.Ordering.TheVariants.{Less, Equal, Greater}
use Rattle.std.specs.Cmp.Lexicographic.{nat_list_cmp_total}
use Rattle.std.proofs.lemmas.Bool.{false≢true}
use Rattle.std.proofs.lemmas.Bool.Decides.{nat_tests}
use Rattle.std.proofs.lemmas.List.{at_drop_more, drop_all}
use Rattle.std.proofs.lemmas.List.Elements.{All-head, All-tail}
use Rattle.std.proofs.lemmas.Slice.Eq.{bytes_eq-Decides}
use Rattle.ddc_base.specs.Outside.{ShelfState}
use Rattle.ddc_base.specs.Limits.{most_content, most_files, most_names, most_total}
use Rattle.mem_files.specs.declared.open_file.PlaceRefusal.{PlaceRefusal}
use Rattle.mem_files.specs.declared.open_file.PlaceRefusal.TheVariants.{BadName, Twice, Full}
use Rattle.mem_files.specs.Calls.{first_world, is_full, placed, with_file}
use Rattle.mem_files.specs.Names.{bytes_cmp, is_file_name, stripped}
use Rattle.mem_files.specs.World.{World, lowest_unused, total}
use Rattle.mem_files.proofs.Directory.{bytes_cmp-IsAntisymmetric}
use Rattle.mem_files.proofs.First.{no_bytes}
use Rattle.mem_files.proofs.Totals.{total-insert}
use Rattle.kaem_script.specs.FilesListed.{FilesListed, no_files}
use Rattle.command_plan.specs.declared.stop.Stop.{Stop}
use Rattle.command_plan.specs.declared.stop.Stop.TheVariants as stop
use Rattle.command_plan.specs.Plan.{Plan, needs, needs_all}
use Rattle.command_plan.specs.Steps.{LeadsOn, Obtains}
use Rattle.command_plan.proofs.Performing.{led_to, wants_memory}
use Rattle.tool_commands.specs.Inside.Placing.{AreApart, IsPlaced}
use Rattle.tool_commands.specs.Scripts.{and_file, and_files}

-- ---- the files

-- the files so far, which may have so many bytes more, and words that stand for other files
pub record HasBudget (listed : FilesListed) (budget : ℕ) (words : List (List ℕ)) : Type 0 where
  pub apart : AreApart words
  pub new : All (λ word. fin.get listed.world.names (stripped word) ≡ None) words
  pub few : fin.len listed.world.names + length words ≤ most_files
  pub bytes : total listed.world + budget ≤ most_total

pub budget-at-first : (words : List (List ℕ)) → AreApart words → length words ≤ most_files → HasBudget no_files most_total words
budget-at-first words apart few =
    let none = no_bytes in
    let nameless : fin.len first_world.names ≡ 0 = fin.len-empty bytes_cmp ℕ in
    record {
      apart = apart;
      new = λ index default less. fin.get-empty bytes_cmp (stripped (get_or words index default));
      few = omega (arith, nameless, few);
      bytes = omega (arith, none);
    }

-- a name that is another one is not found under it
found-apart : (name other : List ℕ) → bytes_eq name other ≡ false → eq_by_cmp bytes_cmp other name ≡ false
found-apart name other differ = by (bytes_cmp other name) refl where
  by : (o : Ordering) → bytes_cmp other name ≡ o → is_eq o ≡ false
  by Less is = refl
  by Greater is = refl
  by Equal is = absurd (false≢true (sym differ ∙ (bytes_eq-Decides name other).1 (sym (bytes_cmp-IsAntisymmetric other name is))))

not-full : (sum size count : ℕ) → size ≤ most_content → sum + size ≤ most_total → count < most_names
    → (nat_lt most_content size || nat_lt most_total (sum + size) || nat_le most_names count) ≡ false
not-full sum size count small fits few = grind (arith, nat_tests)

module _ (listed : FilesListed) (budget : ℕ) (word : List ℕ) (words : List (List ℕ)) (content : List ℕ) (has : HasBudget listed budget (word ∷ words))
    (named : IsTrue (is_file_name (stripped word))) (small : length content ≤ most_content) (within : length content ≤ budget) where
  abbrev made : World
  made = with_file listed.world (stripped word) content

  absent : fin.get listed.world.names (stripped word) ≡ None
  absent = All-head (λ w. fin.get listed.world.names (stripped w) ≡ None) word words has.new

  fits : is_full listed.world (length content) ≡ false
  fits =
      let few = has.few in
      let bytes = has.bytes in
      not-full (total listed.world) (length content) (fin.len listed.world.names) small (omega (arith, bytes, within)) (omega (arith, few))

  is-placed : placed listed.world word content ≡ (Ok tt, made)
  is-placed =
      λ i. cond {A = Result (Unit {0}) PlaceRefusal × World} (not (named i)) (Err BadName, listed.world)
      (cond (is_some (absent i)) (Err Twice, listed.world) (cond (fits i) (Err Full, listed.world) (Ok tt, made)))

  pub placed-so : IsPlaced listed word content
  placed-so = ap (λ (p : Result (Unit {0}) PlaceRefusal × World). p.0) is-placed

  pub budget-following : HasBudget (and_file listed word content) (budget - length content) words
  budget-following =
      let number = lowest_unused listed.world.files in
      let grown = total-insert listed.world (lowest_unused listed.world.files) content in
      let longer : fin.len made.names ≡ fin.len listed.world.names + 1 =
      fin.len-insert nat_list_cmp_total listed.world.names (stripped word) number ∙ ap (λ o. cond (is_some o) (fin.len listed.world.names) (fin.len listed.world.names + 1)) absent in
      let few = has.few in
      let bytes = has.bytes in
      subst (λ (w : World). HasBudget (record { names = listed.names ++ stripped word ∷ []; world = w }) (budget - length content) words)
      (sym (ap (λ (p : Result (Unit {0}) PlaceRefusal × World). p.1) is-placed)) (record {
        apart = has.apart.1;
        new = λ index default less.
            fin.get-insert nat_list_cmp_total listed.world.names (stripped word) number (stripped (get_or words index default))
            ∙ ap (λ b. cond b (Some number) (fin.get listed.world.names (stripped (get_or words index default))))
            (found-apart (stripped word) (stripped (get_or words index default)) (has.apart.0 index default less))
            ∙ All-tail (λ w. fin.get listed.world.names (stripped w) ≡ None) word words has.new index default less;
        few = omega (arith, longer, few);
        bytes = omega (arith, grown, bytes, within);
      })

-- ---- the plan

-- the files of these words are needed yet, after the files so far
abbrev pub files_left : ℕ → FilesListed → List (List ℕ) → (FilesListed → Plan) → Plan
files_left budget listed words next = needs_all most_content budget words (λ contents. next (and_files listed words contents))

-- want of memory on the way
pub wants_on : {A : Type 0} (plan rest : (A → Plan) → Plan) (old now : ShelfState) → LeadsOn plan rest old now → Obtains plan old now (Err stop.OutOfMemory)
wants_on plan rest old now leads = record { by_result = λ next. led_to plan rest old now leads next now (Err stop.OutOfMemory) (wants_memory (rest next) now) }

pub at-prefix : (words : List (List ℕ)) (index : ℕ) (word : List ℕ) → index < length words → word ≡ get_or words index word → drop index words ≡ word ∷ drop (index + 1) words
at-prefix words index word less is = at_drop_more (λ (l : List (List ℕ)). l) words index word less ∙ ap (λ w. w ∷ drop (index + 1) words) (sym is)

module _ (plan : (FilesListed → Plan) → Plan) (listed : FilesListed) (budget : ℕ) (words : List (List ℕ)) (index : ℕ) (old now : ShelfState)
    (leads : LeadsOn plan (files_left budget listed (drop index words)) old now) where
  -- no word is left
  pub files-end : length words ≤ index → Obtains plan old now (Ok listed)
  files-end past = record {
    by_result = subst (λ (left : List (List ℕ)). LeadsOn plan (files_left budget listed left) old now) (drop_all index words past) leads;
  }

  -- one word more
  module _ (word text : List ℕ) (limit : ℕ) (prefix : drop index words ≡ word ∷ drop (index + 1) words) (named : text ≡ word) (limited : limit ≡ min most_content budget) where
    abbrev following : (FilesListed → Plan) → List ℕ → Plan
    following next content = files_left (budget - length content) (and_file listed word content) (drop (index + 1) words) next

    here : LeadsOn plan (λ next. needs text limit (following next)) old now
    here =
        subst (λ t. LeadsOn plan (λ next. needs t limit (following next)) old now) (sym named)
        (subst (λ l. LeadsOn plan (λ next. needs word l (following next)) old now) (sym limited)
        (subst (λ (left : List (List ℕ)). LeadsOn plan (files_left budget listed left) old now) prefix leads))

    pub file-ends : (new : ShelfState) (ending : Stop) → Obtains (needs text limit) now new (Err ending) → Obtains plan old new (Err ending)
    file-ends new ending o = record {
      by_result = λ next. led_to plan (λ n. needs text limit (following n)) old now here next new (Err ending) (o.by_result (following next));
    }

    pub file-more : (mid : ShelfState) (content : List ℕ) → Obtains (needs text limit) now mid (Ok content)
        → LeadsOn plan (files_left (budget - length content) (and_file listed word content) (drop (index + 1) words)) old mid
    file-more mid content o = λ next final ending e. here next final ending (o.by_result (following next) final ending e)

    pub file-added : (mid : ShelfState) (content : List ℕ) (left : ℕ) (grown : FilesListed) → Obtains (needs text limit) now mid (Ok content)
        → HasBudget (and_file listed word content) (budget - length content) (drop (index + 1) words) → left ≡ budget - length content → grown ≡ and_file listed word content
        → LeadsOn plan (files_left left grown (drop (index + 1) words)) old mid × HasBudget grown left (drop (index + 1) words)
    file-added mid content left grown o has fell added =
        subst (λ r. LeadsOn plan (files_left r grown (drop (index + 1) words)) old mid × HasBudget grown r (drop (index + 1) words)) (sym fell)
        (subst (λ (l : FilesListed). LeadsOn plan (files_left (budget - length content) l (drop (index + 1) words)) old mid × HasBudget l (budget - length content) (drop (index + 1) words)) (sym added)
        (file-more mid content o, has))
