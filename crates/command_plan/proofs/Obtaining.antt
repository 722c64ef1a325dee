-- Steps of a command in a row. What each of them does is `Obtains`, with a shelf or without.
use Rattle.std.proofs.Common.{◌≡◌, ℕ, Option, Result, Ok, Err, List, refl, sym, ap, subst, ◌∙◌}
use Rattle.std.specs.Prelude.{IsErrAnd}
use Rattle.ddc_base.specs.declared.outside.PutFail.{PutFail}
use Rattle.ddc_base.specs.Outside.{ShelfState, SinkState}
use Rattle.prompt.specs.Converses.{Converses}
use Rattle.prompt.specs.Prompts.{PromptState}
use Rattle.prompt.specs.Talks.{Talk}
use Rattle.command_plan.specs.declared.answer.Answer.{Answer}
use Rattle.command_plan.specs.declared.stop.Stop.{Stop}
use Rattle.command_plan.specs.declared.stop.Stop.TheVariants as stop
use Rattle.command_plan.specs.Plan.{Plan, answers, talks, needs, unless_refused}
use Rattle.command_plan.specs.Performs.{OutsideState, PerformsTalk, Performs, outside}
use Rattle.command_plan.specs.Words.{or_usage}
use Rattle.command_plan.specs.Steps.{EndsAs, Fetches, Obtains, talking}
use Rattle.command_plan.proofs.Performing.{ends_answered, ends_at_fetch, leads_after_fetch, led_to, spoken, wants_memory}

-- ---- what follows a step, and what `?` hands on of one that ended the command

pub goes_on_with : {A : Type 0} {plan : (A → Plan) → Plan} {next : A → Plan} {old mid new : ShelfState} {value : A} {result : Result Answer Stop}
    → Obtains plan old mid (Ok value) → Performs (next value) mid new result → Performs (plan next) old new result
goes_on_with {A} {plan} {next} {old} {mid} {new} {value} {result} o p = led_to plan (λ n. n value) old mid o.by_result next new result p

pub ends_before : {A : Type 0} {plan : (A → Plan) → Plan} {next : A → Plan} {old new : ShelfState} {ending : Stop}
    → Obtains plan old new (Err ending) → Performs (plan next) old new (Err ending)
ends_before {A} {plan} {next} o = o.by_result next

pub ends_with : {plan : Plan} {old new : ShelfState} {ending : Stop} {result : Result Answer Stop} → IsErrAnd result (λ handed. handed ≡ ending)
    → Performs plan old new (Err ending) → Performs plan old new result
ends_with {result = Ok answer} handed p = absurd handed
ends_with {plan} {old} {new} {result = Err given} handed p = subst (λ e. Performs plan old new (Err e)) (sym handed) p

pub ruleset obtaining = (goes_on_with, ends_before)

-- ---- a command on words that were read, or on words that say nothing

pub on_words : {A : Type 0} {plan : Plan} {read found : Option A} {old new : ShelfState} {result : Result Answer Stop} (next : A → Plan)
    → plan ≡ or_usage read next → found ≡ read → Performs (or_usage found next) old new result → Performs plan old new result
on_words {old = old} {new = new} {result = result} next is same p =
    subst (λ q. Performs q old new result) (ap (λ o. or_usage o next) same ∙ sym is) p

-- ---- the same of a command that may hold a talk

pub holds_with : {A : Type 0} {plan : (A → Plan) → Plan} {next : A → Plan} {old mid : ShelfState} {sink : SinkState} {prompt : PromptState} {after : OutsideState} {value : A}
    {result : Result (Result (Unit {0}) PutFail) Stop} → Obtains plan old mid (Ok value) → PerformsTalk (next value) (outside mid sink prompt) after result → PerformsTalk (plan next) (outside old sink prompt) after result
holds_with {A} {plan} {next} {after = after} {value = value} {result = Ok end} o h = record {
  by_result = record {
    talk = h.by_result.talk;
    speaks = (o.by_result next after.shelf (talking h.by_result.talk) (record { by_ending = h.by_result.speaks })).by_ending;
    went = h.by_result.went;
  };
}
holds_with {next = next} {result = Err ending} o h = record { by_result = (goes_on_with {next = next} o h.by_result.0, h.by_result.1, h.by_result.2) }

-- what ended the command before its talk, and what `?` hands on of it
pub stops_holding : {plan : Plan} {old new : ShelfState} {sink : SinkState} {prompt : PromptState} {ending : Stop} {result : Result (Result (Unit {0}) PutFail) Stop}
    → IsErrAnd result (λ handed. handed ≡ ending) → Performs plan old new (Err ending) → PerformsTalk plan (outside old sink prompt) (outside new sink prompt) result
stops_holding {result = Ok end} handed p = absurd handed
stops_holding {plan} {old} {new} {result = Err given} handed p = record { by_result = (subst (λ e. Performs plan old new (Err e)) (sym handed) p, refl, refl) }

-- the talk itself, with no further call of a shelf
pub holds_here : (plan : Plan) (shelf : ShelfState) (before after : SinkState) (asked now : PromptState) (talk : List ℕ → Talk) (end : Result (Unit {0}) PutFail) → plan ≡ talks talk
    → Converses talk before after asked now end → PerformsTalk plan (outside shelf before asked) (outside shelf after now) (Ok end)
holds_here plan shelf before after asked now talk end is went = record { by_result = record { talk = talk; speaks = spoken plan shelf talk is; went = went } }

-- ---- steps

-- a load
pub loads : (name : List ℕ) (limit : ℕ) (old new : ShelfState) (result : Result (List ℕ) Stop) → Fetches name limit old new result → Obtains (needs name limit) old new result
loads name limit old new (Ok content) f = record { by_result = λ next final ending e. leads_after_fetch name limit next old new content f final ending e }
loads name limit old new (Err ending) f = record { by_result = λ next. ends_at_fetch name limit next old new ending f }

-- a judgement, which touches no shelf: it leads to a value, or answers, or wants memory
module _ {A : Type 0} (plan : (A → Plan) → Plan) (shelf : ShelfState) where
  pub leads : (value : A) → ((next : A → Plan) → plan next ≡ next value) → Obtains plan shelf shelf (Ok value)
  leads value is = record { by_result = λ next final ending e. subst (λ q. EndsAs q shelf final ending) (sym (is next)) e }

  pub answers_at_once : (answer : Answer) → ((next : A → Plan) → plan next ≡ answers answer.status answer.text) → Obtains plan shelf shelf (Err (stop.Answered answer))
  answers_at_once answer is = record { by_result = λ next. ends_answered (plan next) shelf answer (is next) }

  pub wants_as : (ending : Stop) → ending ≡ stop.OutOfMemory → Obtains plan shelf shelf (Err ending)
  wants_as ending is = subst (λ e. Obtains plan shelf shelf (Err e)) (sym is) (record { by_result = λ next. wants_memory (plan next) shelf })

  pub wants_at_once : Obtains plan shelf shelf (Err stop.OutOfMemory)
  wants_at_once = record { by_result = λ next. wants_memory (plan next) shelf }

-- a judgement that reads: what was read is seen by `view`, and what was refused is answered
module _ {A B E : Type 0} (meant : Result A E) (refuse : E → Plan) (view : A → B) (shelf : ShelfState) where
  pub reads : (value : A) (seen : B) → meant ≡ Ok value → seen ≡ view value → Obtains (λ next. unless_refused meant refuse (λ v. next (view v))) shelf shelf (Ok seen)
  reads value seen is same = leads (λ next. unless_refused meant refuse (λ v. next (view v))) shelf seen
      (λ next. ap (λ m. unless_refused m refuse (λ v. next (view v))) is ∙ ap next (sym same))

  pub refuses : (why : E) (answer : Answer) → meant ≡ Err why → refuse why ≡ answers answer.status answer.text
      → Obtains (λ next. unless_refused meant refuse (λ v. next (view v))) shelf shelf (Err (stop.Answered answer))
  refuses why answer is answer_is = answers_at_once (λ next. unless_refused meant refuse (λ v. next (view v))) shelf answer
      (λ next. ap (λ m. unless_refused m refuse (λ v. next (view v))) is ∙ answer_is)

-- ---- steps that make up one

module _ {A B : Type 0} {first : (A → Plan) → Plan} {second : A → (B → Plan) → Plan} {old mid new : ShelfState} where
  pub and_then : {value : A} {result : Result B Stop} → Obtains first old mid (Ok value) → Obtains (second value) mid new result
      → Obtains (λ next. first (λ v. second v next)) old new result
  and_then {result = Ok found} f s = record { by_result = λ next final ending e. f.by_result (λ v. second v next) final ending (s.by_result next final ending e) }
  and_then {result = Err ending} f s = record { by_result = λ next. goes_on_with {next = λ v. second v next} f (s.by_result next) }

module _ {A B : Type 0} {first : (A → Plan) → Plan} {second : A → (B → Plan) → Plan} {old new : ShelfState} where
  pub stops_before : {ending : Stop} → Obtains first old new (Err ending) → Obtains (λ next. first (λ v. second v next)) old new (Err ending)
  stops_before f = record { by_result = λ next. f.by_result (λ v. second v next) }

pub stops_with : {A : Type 0} {plan : (A → Plan) → Plan} {old new : ShelfState} {ending : Stop} {result : Result A Stop} → IsErrAnd result (λ handed. handed ≡ ending)
    → Obtains plan old new (Err ending) → Obtains plan old new result
stops_with {result = Ok value} handed o = absurd handed
stops_with {plan} {old} {new} {result = Err given} handed o = subst (λ e. Obtains plan old new (Err e)) (sym handed) o
