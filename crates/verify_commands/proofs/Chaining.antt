-- Audits in a row, as a plan and as a loop.
use Rattle.std.proofs.Common.{◌≡◌, ℕ, Bool, true, false, if◌then◌else◌, Option, Some, None, ◌+◌, ◌<◌, ◌≤◌, Result, Ok, Err, List, [], ◌∷◌, ◌++◌, length, drop, get_or, refl, sym, ap, ◌∙◌, subst}
use Rattle.std.proofs.lemmas.List.{at_drop_more, drop_all, length-append}
use Rattle.ddc_base.specs.Outside.{ShelfState}
use Rattle.report.specs.declared.types.CompareLine.{CompareLine}
use Rattle.audit_rules.specs.Bench.{all_equal}
use Rattle.verifier.specs.declared.part.Part.{Part}
use Rattle.verifier.specs.declared.part.Verdict.TheVariants as verdict
use Rattle.verifier.specs.Verdicts.{Judges}
use Rattle.audit_chain.specs.declared.link.Link.{Link}
use Rattle.command_plan.specs.declared.status.Status.{Status}
use Rattle.command_plan.specs.declared.status.Status.TheVariants as status
use Rattle.command_plan.specs.declared.answer.Answer.{Answer}
use Rattle.command_plan.specs.declared.stop.Stop.{Stop}
use Rattle.command_plan.specs.declared.stop.Stop.TheVariants as stop
use Rattle.command_plan.specs.Performs.{Performs}
use Rattle.command_plan.specs.Plan.{Plan, answers}
use Rattle.command_plan.specs.Steps.{Obtains, Says}
use Rattle.command_plan.proofs.Gathering.{GoesOnAs, ends_as, ends_at_step, goes_on_obtained}
use Rattle.command_plan.proofs.Obtaining.{answers_at_once, leads, wants_as}
use Rattle.command_plan.proofs.Performing.{says, wants_memory}
use Rattle.recipe_plan.specs.Texts.{compared_lines}
use Rattle.verify_commands.specs.declared.pair.Pair.{Pair}
use Rattle.verify_commands.specs.Chain.{chained, needs_audit, needs_true, budget_after}
use Rattle.verify_commands.specs.Inside.Ends.{EndsWith}
use Rattle.verify_commands.specs.Texts.{refuted_line}

module _ (plan : Plan) (old now : ShelfState) (pairs : List Pair) (links : List Link) (budget index : ℕ) (pair : Pair) (leads : GoesOnAs plan (chained links budget (drop index pairs)) old now)
    (count : length links ≡ index) (less : index < length pairs) (is : pair ≡ get_or pairs index pair) where
  abbrev later : Link → Plan
  later link = chained (links ++ link ∷ []) (budget_after budget link.inputs) (drop (index + 1) pairs)

  here : GoesOnAs plan (needs_audit (index + 1) budget pair later) old now
  here =
      let prefix : drop index pairs ≡ pair ∷ drop (index + 1) pairs = at_drop_more (λ (l : List Pair). l) pairs index pair less ∙ ap (λ p. p ∷ drop (index + 1) pairs) (sym is) in
      subst (λ n. GoesOnAs plan (needs_audit (n + 1) budget pair later) old now) count (subst (λ (l : List Pair). GoesOnAs plan (chained links budget l) old now) prefix leads)

  -- an audit that ends the command
  pub audit_ends : (new : ShelfState) (ending : Stop) → Obtains (needs_audit (index + 1) budget pair) now new (Err ending) → Performs plan old new (Err ending)
  audit_ends new ending o = ends_at_step plan (needs_audit (index + 1) budget pair) later old now here new ending o

  -- one more audit
  pub audit_more : (mid : ShelfState) (link : Link) (left : ℕ) (grown : List Link) → Obtains (needs_audit (index + 1) budget pair) now mid (Ok link)
      → left ≡ budget_after budget link.inputs → grown ≡ links ++ link ∷ []
      → GoesOnAs plan (chained grown left (drop (index + 1) pairs)) old mid × (length grown ≡ index + 1)
  audit_more mid link left grown o fell pushed = (
    subst (λ (l : List Link). GoesOnAs plan (chained l left (drop (index + 1) pairs)) old mid) (sym pushed)
        (subst (λ r. GoesOnAs plan (chained (links ++ link ∷ []) r (drop (index + 1) pairs)) old mid) (sym fell)
        (goes_on_obtained plan (needs_audit (index + 1) budget pair) later old now here mid link o)),
    ap length pushed ∙ length-append links (link ∷ []) ∙ ap (λ n. n + 1) count,
  )

  -- want of memory after it
  pub audit_wants : (mid : ShelfState) (link : Link) → Obtains (needs_audit (index + 1) budget pair) now mid (Ok link) → Performs plan old mid (Err stop.OutOfMemory)
  audit_wants mid link o =
      ends_as plan (later link) old mid (goes_on_obtained plan (needs_audit (index + 1) budget pair) later old now here mid link o) mid (Err stop.OutOfMemory) (wants_memory (later link) mid)

-- after the last audit
pub all_done : (plan : Plan) (old now : ShelfState) (pairs : List Pair) (links : List Link) (budget index : ℕ) → GoesOnAs plan (chained links budget (drop index pairs)) old now
    → length pairs ≤ index → (result : Result Answer Stop) → Says (chained links 0 []) result → Performs plan old now result
all_done plan old now pairs links budget index leads past result answered =
    let none : drop index pairs ≡ [] = drop_all index pairs past in
    let led : GoesOnAs plan (chained links budget []) old now = subst (λ (l : List Pair). GoesOnAs plan (chained links budget l) old now) none leads in
    ends_as plan (chained links budget []) old now led now result (says (chained links budget []) now result answered)

-- ---- the judgement of one audit

module _ (prefix : List ℕ) (lines : List CompareLine) where
  yes_goes : (fault : Option (Part × ℕ)) → Judges fault lines verdict.Yes → (next : Unit {0} → Plan) → needs_true prefix lines fault next ≡ next tt
  unfolding needs_true
  yes_goes None judged next = by (all_equal lines) judged where
    by : (equal : Bool) → verdict.Yes ≡ (if equal then verdict.Yes else verdict.TrueButDiffers)
        → (if equal then next tt else answers status.Differs (prefix ++ compared_lines lines)) ≡ next tt
    by true is = refl
    by false is = absurd cc
  yes_goes (Some (part, place)) judged next = absurd cc

  differs_goes : (fault : Option (Part × ℕ)) → Judges fault lines verdict.TrueButDiffers → (next : Unit {0} → Plan)
      → needs_true prefix lines fault next ≡ answers status.Differs (prefix ++ compared_lines lines)
  unfolding needs_true
  differs_goes None judged next = by (all_equal lines) judged where
    by : (equal : Bool) → verdict.TrueButDiffers ≡ (if equal then verdict.Yes else verdict.TrueButDiffers)
        → (if equal then next tt else answers status.Differs (prefix ++ compared_lines lines)) ≡ answers status.Differs (prefix ++ compared_lines lines)
    by true is = absurd cc
    by false is = refl
  differs_goes (Some (part, place)) judged next = absurd cc

  refuted_goes : (fault : Option (Part × ℕ)) (part : Part) (place : ℕ) → Judges fault lines (verdict.Refuted part place) → (next : Unit {0} → Plan)
      → needs_true prefix lines fault next ≡ answers status.Refuted (prefix ++ refuted_line part place)
  unfolding needs_true
  refuted_goes None part place judged next = absurd (never (all_equal lines) judged) where
    never : (equal : Bool) → verdict.Refuted part place ≡ (if equal then verdict.Yes else verdict.TrueButDiffers) → ⊥
    never true is = cc
    never false is = cc
  refuted_goes (Some (first, at)) part place judged next =
      let part_is : first ≡ part = cc in
      let place_is : at ≡ place = cc in
      λ i. answers status.Refuted (prefix ++ refuted_line (part_is i) (place_is i))

  pub yes_leads : (fault : Option (Part × ℕ)) → Judges fault lines verdict.Yes → (shelf : ShelfState) → Obtains (needs_true prefix lines fault) shelf shelf (Ok tt)
  yes_leads fault judged shelf = leads (needs_true prefix lines fault) shelf tt (yes_goes fault judged)

-- an answer that ends the command, or want of memory before it was made
ends_so : (plan : (Unit {0} → Plan) → Plan) (given : Status) (text : List ℕ) → ((next : Unit {0} → Plan) → plan next ≡ answers given text) → (shelf : ShelfState) (answered : Result Answer Stop)
    (result : Result (Unit {0}) Stop) → Says (answers given text) answered → EndsWith answered result → Obtains plan shelf shelf result
ends_so plan given text is shelf (Ok answer) result answered ends =
    subst (Obtains plan shelf shelf) (sym ends) (answers_at_once plan shelf answer (λ next. is next ∙ answered.by_result))
ends_so plan given text is shelf (Err ending) result answered ends = subst (Obtains plan shelf shelf) (sym ends) (wants_as plan shelf ending answered.by_result)

pub differs_ends : (prefix : List ℕ) (lines : List CompareLine) (fault : Option (Part × ℕ)) → Judges fault lines verdict.TrueButDiffers → (shelf : ShelfState) (answered : Result Answer Stop)
    (result : Result (Unit {0}) Stop) → Says (answers status.Differs (prefix ++ compared_lines lines)) answered → EndsWith answered result
    → Obtains (needs_true prefix lines fault) shelf shelf result
differs_ends prefix lines fault judged shelf answered result says_so ends =
    ends_so (needs_true prefix lines fault) status.Differs (prefix ++ compared_lines lines) (differs_goes prefix lines fault judged) shelf answered result says_so ends

pub refuted_ends : (prefix : List ℕ) (lines : List CompareLine) (fault : Option (Part × ℕ)) (part : Part) (place : ℕ) → Judges fault lines (verdict.Refuted part place) → (shelf : ShelfState)
    (answered : Result Answer Stop) (result : Result (Unit {0}) Stop) → Says (answers status.Refuted (prefix ++ refuted_line part place)) answered → EndsWith answered result
    → Obtains (needs_true prefix lines fault) shelf shelf result
refuted_ends prefix lines fault part place judged shelf answered result says_so ends =
    ends_so (needs_true prefix lines fault) status.Refuted (prefix ++ refuted_line part place) (refuted_goes prefix lines fault part place judged) shelf answered result says_so ends
