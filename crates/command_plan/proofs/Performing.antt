-- How the steps of a command make up the whole.
use Rattle.std.proofs.Common.{◌≡◌, ℕ, ◌<◌, All, suc, Bool, true, false, IsTrue, inl, inr, Result, Ok, Err, List, [], ◌∷◌, ◌++◌, length, take, slice_get, append_assoc, append-nil, take_all, le_refl, refl, sym, ap, subst, ◌∙◌}
use Rattle.std.specs.Bool.{OnTrue}
use Rattle.std.specs.Option.{option_map}
use Rattle.std.specs.FinMap as map
use Rattle.ddc_base.specs.declared.outside.Operation.{Operation}
use Rattle.ddc_base.specs.declared.outside.Operation.TheVariants as operation
use Rattle.ddc_base.specs.declared.outside.Call.{Call}
use Rattle.ddc_base.specs.declared.outside.Call.TheVariants.{Load, Save}
use Rattle.ddc_base.specs.declared.outside.Loaded.TheVariants as content
use Rattle.ddc_base.specs.Outside.{NamedFiles, ShelfState, SaveFails, after_call, after_fault, after_setting, loaded, one_more}
use Rattle.prompt.specs.Talks.{Talk}
use Rattle.command_plan.specs.declared.status.Status.TheVariants.{FileRefused}
use Rattle.command_plan.specs.declared.answer.Answer.{Answer}
use Rattle.command_plan.specs.declared.stop.Stop.{Stop}
use Rattle.command_plan.specs.declared.stop.Stop.TheVariants as stop
use Rattle.command_plan.specs.Plan.{Plan, LoadsBytes, answers, talks, needs, sets, follow, outcome, talk_of, asked, files_after, IsSettled}
use Rattle.command_plan.specs.Endings.{Completes, Stops, Fails, failure_of}
use Rattle.command_plan.specs.Performs.{Answers, Performs, Speaks}
use Rattle.command_plan.specs.Steps.{PlanEnding, EndsAs, Fetches, IsRefusal, LeadsOn, Saves, Says, concluding, talking, faulting, wanting}

-- a fact that holds where the shelf tells, on a shelf that tells
pub where_told : {P : Type 0} (tells : Bool) → IsTrue tells → OnTrue tells P → P
where_told true told p = p
where_told false told p = absurd cc

-- what is true holds where the shelf tells
on_true : {P : Type 0} (tells : Bool) → (IsTrue tells → P) → OnTrue tells P
on_true true p = p refl
on_true false p = tt

settled_by_telling : (plan : Plan) (tells : Bool) → IsTrue tells → IsSettled plan tells
settled_by_telling (answers status text) tells told = tt
settled_by_telling (talks talk) tells told = tt
settled_by_telling (needs name limit next) tells told = told
settled_by_telling (sets name content next) tells told = told

-- no call leaves the files, whatever the plan
at_start : (plan : Plan) (files : NamedFiles) → files_after plan files 0 ≡ files
at_start (answers status text) files = refl
at_start (talks talk) files = refl
at_start (needs name limit next) files = refl
at_start (sets name content next) files = refl

-- the first call of a plan that needs a name leaves the files, whatever was loaded
after_load : (name : List ℕ) (limit : ℕ) (next : List ℕ → Plan) (files : NamedFiles) → files_after (needs name limit next) files 1 ≡ files
after_load name limit next files =
    elim (loaded files name limit) as (λ l. follow l (λ c. files_after (next c) files 0) (λ _. files) name ≡ files) [
      | content.Bytes c ↦ at_start (next c) files
      | content.Absent ↦ refl
      | content.TooLong ↦ refl
    ]

-- all calls lead to the outcome's files
at_end : (plan : Plan) (files : NamedFiles) → files_after plan files (length (asked plan files)) ≡ (outcome plan files).files
at_end (answers status text) files = refl
at_end (talks talk) files = refl
at_end (needs name limit next) files =
    elim (loaded files name limit) as (λ l.
    follow l (λ c. files_after (next c) files (length (follow l (λ b. asked (next b) files) (λ _. []) name))) (λ _. files) name
    ≡ (follow l (λ c. outcome (next c) files) (λ text. record { status = FileRefused; text = text; files = files }) name).files) [
      | content.Bytes c ↦ at_end (next c) files
      | content.Absent ↦ refl
      | content.TooLong ↦ refl
    ]
at_end (sets name content next) files = at_end next (map.insert files name content)

-- a plan whose calls were all answered stands at its last call
pub stops_complete : (plan : Plan) (old new : ShelfState) → Completes plan old new → Stops plan old new
stops_complete plan old new c = record {
  tells = c.tells;
  faults = c.faults;
  last_failed = c.last_failed;
  place = on_true old.tells (λ told.
      let settled = settled_by_telling plan old.tells told in
      let all = asked plan old.files in (
        length all,
        record {
          calls = c.calls settled ∙ ap (λ calls. old.calls ++ calls) (sym (take_all (length all) all (le_refl (length all))));
          files = c.files settled ∙ sym (at_end plan old.files);
        },
      ));
}

-- memory was wanting before any call
stays : (plan : Plan) (shelf : ShelfState) → Stops plan shelf shelf
stays plan shelf = record {
  tells = refl;
  faults = refl;
  last_failed = refl;
  place = on_true shelf.tells (λ _. (0, record { calls = sym (append-nil shelf.calls); files = sym (at_start plan shelf.files) }));
}

pub wants_memory : (plan : Plan) (shelf : ShelfState) → Performs plan shelf shelf (Err stop.OutOfMemory)
wants_memory plan shelf = record { by_result = record { by_cause = inl (stays plan shelf) } }

-- a plan that asks for nothing
completed_at_once : (plan : Plan) (shelf : ShelfState) → asked plan shelf.files ≡ [] → (outcome plan shelf.files).files ≡ shelf.files → LoadsBytes plan shelf.files → Completes plan shelf shelf
completed_at_once plan shelf none same bytes = record {
  tells = refl;
  faults = refl;
  last_failed = refl;
  calls = λ _. sym (append-nil shelf.calls) ∙ ap (λ calls. shelf.calls ++ calls) (sym none);
  files = λ _. sym same;
  bytes = λ _. bytes;
}

-- an answer that needs no call
answered : (plan : Plan) (shelf : ShelfState) (answer : Answer) → plan ≡ answers answer.status answer.text → Answers plan shelf shelf answer
answered plan shelf answer is =
    let P : Plan → Type 0 = λ p. Answers p shelf shelf answer in
    subst P (sym is) (record {
      shelf = completed_at_once (answers answer.status answer.text) shelf refl refl tt;
      status = λ _. refl;
      text = λ _. refl;
      talk = λ _. refl;
    })

-- a talk that needs no call
pub spoken : (plan : Plan) (shelf : ShelfState) (talk : List ℕ → Talk) → plan ≡ talks talk → Speaks plan shelf shelf talk
spoken plan shelf talk is =
    let P : Plan → Type 0 = λ p. Speaks p shelf shelf talk in
    subst P (sym is) (record { shelf = completed_at_once (talks talk) shelf refl refl tt; status = λ _. refl; talk = λ _. refl })

pub says : (plan : Plan) (shelf : ShelfState) (result : Result Answer Stop) → Says plan result → Performs plan shelf shelf result
says plan shelf (Ok answer) answer_is = record { by_result = answered plan shelf answer answer_is.by_result }
says plan shelf (Err ending) answer_is =
    let P : Stop → Type 0 = λ ended. Performs plan shelf shelf (Err ended) in
    subst P (sym answer_is.by_result) (wants_memory plan shelf)

-- one that ends the command
pub ends_answered : (plan : Plan) (shelf : ShelfState) (answer : Answer) → plan ≡ answers answer.status answer.text → Performs plan shelf shelf (Err (stop.Answered answer))
ends_answered plan shelf answer is = record { by_result = answered plan shelf answer is }

-- a shelf that tells keeps the call that it answered
kept : (old : ShelfState) (call : Call) → IsTrue old.tells → (after_call call old).calls ≡ old.calls ++ call ∷ []
kept old call told = rw told refl

-- a fetch that ends the command
refused : (name : List ℕ) (limit : ℕ) (next : List ℕ → Plan) (old : ShelfState) (answer : Answer) → IsRefusal old name limit answer
    → Answers (needs name limit next) old (after_call (Load name limit) old) answer
refused name limit next old answer r = record {
  shelf = record {
    tells = refl;
    faults = refl;
    last_failed = refl;
    calls = λ told. elim (where_told old.tells told r.1) [
      | inl absent ↦ rw (absent.0) (kept old (Load name limit) told)
      | inr too_long ↦ rw (too_long.0) (kept old (Load name limit) told)
    ];
    files = λ told. elim (where_told old.tells told r.1) [
      | inl absent ↦ rw (absent.0) refl
      | inr too_long ↦ rw (too_long.0) refl
    ];
    bytes = λ told. elim (where_told old.tells told r.1) [
      | inl absent ↦ rw (absent.0) tt
      | inr too_long ↦ rw (too_long.0) tt
    ];
  };
  status = λ told. elim (where_told old.tells told r.1) [
    | inl absent ↦ rw (absent.0) r.0
    | inr too_long ↦ rw (too_long.0) r.0
  ];
  text = λ told. elim (where_told old.tells told r.1) [
    | inl absent ↦ rw (absent.0) absent.1
    | inr too_long ↦ rw (too_long.0) too_long.1
  ];
  talk = λ told. elim (where_told old.tells told r.1) [
    | inl absent ↦ rw (absent.0) refl
    | inr too_long ↦ rw (too_long.0) refl
  ];
}

-- the first call of a plan was a load, and failed
load_failed : (name : List ℕ) (limit : ℕ) (next : List ℕ → Plan) (old : ShelfState)
    → Fails (needs name limit next) (operation.Load, name) old (after_fault operation.Load name old)
load_failed name limit next old = record {
  tells = refl;
  faults = refl;
  last_failed = refl;
  place = on_true old.tells (λ _. (0, record { calls = sym (append-nil old.calls); next = refl; files = refl }));
}

-- the first call of a plan was a load, and then memory was wanting
load_answered : (name : List ℕ) (limit : ℕ) (next : List ℕ → Plan) (old : ShelfState) → Stops (needs name limit next) old (after_call (Load name limit) old)
load_answered name limit next old = record {
  tells = refl;
  faults = refl;
  last_failed = refl;
  place = on_true old.tells (λ told. (1, record { calls = kept old (Load name limit) told; files = sym (after_load name limit next old.files) }));
}

pub ends_at_fetch : (name : List ℕ) (limit : ℕ) (next : List ℕ → Plan) (old new : ShelfState) (ending : Stop) → Fetches name limit old new (Err ending) → Performs (needs name limit next) old new (Err ending)
ends_at_fetch name limit next old new (stop.Answered answer) f =
    let P : ShelfState → Type 0 = λ shelf. Answers (needs name limit next) old shelf answer in
    record { by_result = subst P (sym f.by_result.0) (refused name limit next old answer f.by_result.1) }
ends_at_fetch name limit next old new (stop.ShelfFault text) f =
    let P : ShelfState → Type 0 = λ shelf. Fails (needs name limit next) (operation.Load, name) old shelf in
    record { by_result = record { call = (operation.Load, name); failed = subst P (sym f.by_result.0) (load_failed name limit next old); names = f.by_result.1 } }
ends_at_fetch name limit next old new stop.OutOfMemory f =
    let P : ShelfState → Type 0 = λ shelf. Performs (needs name limit next) old shelf (Err stop.OutOfMemory) in
    elim f.by_result [
      | inl same ↦ subst P (sym same) (wants_memory (needs name limit next) old)
      | inr called ↦ elim called [
        | inl loaded_first ↦ subst P (sym loaded_first) (record { by_result = record { by_cause = inl (load_answered name limit next old) } })
        | inr lost ↦ subst P (sym lost) (record { by_result = record { by_cause = inr ((operation.Load, name), load_failed name limit next old) } })
      ]
    ]

-- a save that ends the command
save_failed : (name content : List ℕ) (next : Plan) (old new : ShelfState) → SaveFails name old new → Fails (sets name content next) (operation.Save, name) old new
save_failed name content next old new s = record {
  tells = ap (λ shelf. shelf.tells) s.failed;
  faults = ap (λ shelf. shelf.faults) s.failed;
  last_failed = ap (λ shelf. shelf.last_failed) s.failed;
  place = on_true old.tells (λ _. (
    0,
    record {
      calls = ap (λ shelf. shelf.calls) s.failed ∙ sym (append-nil old.calls);
      next = refl;
      files = s.files;
    },
  ));
}

pub ends_at_save : (name content : List ℕ) (next : Plan) (old new : ShelfState) (ending : Stop) → Saves name content old new (Err ending) → Performs (sets name content next) old new (Err ending)
ends_at_save name content next old new (stop.Answered answer) s = absurd s.by_result
ends_at_save name content next old new (stop.ShelfFault text) s =
    record { by_result = record { call = (operation.Save, name); failed = save_failed name content next old new s.by_result.0; names = s.by_result.1 } }
ends_at_save name content next old new stop.OutOfMemory s =
    let P : ShelfState → Type 0 = λ shelf. Performs (sets name content next) old shelf (Err stop.OutOfMemory) in
    elim s.by_result [
      | inl same ↦ subst P (sym same) (wants_memory (sets name content next) old)
      | inr lost ↦ record { by_result = record { by_cause = inr ((operation.Save, name), save_failed name content next old new lost) } }
    ]

-- a plan's first call was answered, and the rest is this plan from there
record Leads (plan : Plan) (old : ShelfState) (next : Plan) (mid : ShelfState) : Type 0 where
  tells : mid.tells ≡ old.tells
  faults : mid.faults ≡ old.faults
  last_failed : mid.last_failed ≡ old.last_failed
  asks : IsSettled plan old.tells → IsTrue old.tells
  outcome : IsTrue old.tells → outcome plan old.files ≡ outcome next mid.files
  talk : IsTrue old.tells → talk_of plan old.files ≡ talk_of next mid.files
  bytes : IsTrue old.tells → LoadsBytes next mid.files → LoadsBytes plan old.files
  calls : IsTrue old.tells → (call : Call) × (mid.calls ≡ old.calls ++ call ∷ []) × (asked plan old.files ≡ call ∷ asked next mid.files)
  files : IsTrue old.tells → (count : ℕ) → files_after plan old.files (suc count) ≡ files_after next mid.files count

-- the calls so far and those that follow
joined : (made : List Call) (call : Call) (rest : List Call) → (made ++ call ∷ []) ++ rest ≡ made ++ call ∷ rest
joined made call rest = append_assoc made (call ∷ []) rest

calls_on : (plan : Plan) (old : ShelfState) (next : Plan) (mid : ShelfState) (calls rest : List Call) → Leads plan old next mid → IsTrue old.tells → calls ≡ mid.calls ++ rest
    → (call : Call) × (calls ≡ old.calls ++ call ∷ rest) × (asked plan old.files ≡ call ∷ asked next mid.files)
calls_on plan old next mid calls rest l told is =
    let c = l.calls told in
    (c.0, is ∙ ap (λ made. made ++ rest) c.1 ∙ joined old.calls c.0 rest, c.2)

completes_on : (plan : Plan) (old : ShelfState) (next : Plan) (mid new : ShelfState) → Leads plan old next mid → Completes next mid new → Completes plan old new
completes_on plan old next mid new l c = record {
  tells = c.tells ∙ l.tells;
  faults = c.faults ∙ l.faults;
  last_failed = c.last_failed ∙ l.last_failed;
  calls = λ settled.
      let told = l.asks settled in
      let on = calls_on plan old next mid new.calls (asked next mid.files) l told (c.calls (settled_by_telling next mid.tells (l.tells ∙ told))) in
      on.1 ∙ ap (λ calls. old.calls ++ calls) (sym on.2);
  files = λ settled.
      let told = l.asks settled in
      c.files (settled_by_telling next mid.tells (l.tells ∙ told)) ∙ ap (λ o. o.files) (sym (l.outcome told));
  bytes = λ settled.
      let told = l.asks settled in
      l.bytes told (c.bytes (settled_by_telling next mid.tells (l.tells ∙ told)));
}

answers_on : (plan : Plan) (old : ShelfState) (next : Plan) (mid new : ShelfState) (answer : Answer) → Leads plan old next mid → Answers next mid new answer → Answers plan old new answer
answers_on plan old next mid new answer l a = record {
  shelf = completes_on plan old next mid new l a.shelf;
  status = λ settled.
      let told = l.asks settled in
      a.status (settled_by_telling next mid.tells (l.tells ∙ told)) ∙ ap (λ o. o.status) (sym (l.outcome told));
  text = λ settled.
      let told = l.asks settled in
      a.text (settled_by_telling next mid.tells (l.tells ∙ told)) ∙ ap (λ o. o.text) (sym (l.outcome told));
  talk = λ settled.
      let told = l.asks settled in
      l.talk told ∙ a.talk (settled_by_telling next mid.tells (l.tells ∙ told));
}

speaks_on : (plan : Plan) (old : ShelfState) (next : Plan) (mid new : ShelfState) (talk : List ℕ → Talk) → Leads plan old next mid → Speaks next mid new talk → Speaks plan old new talk
speaks_on plan old next mid new talk l s = record {
  shelf = completes_on plan old next mid new l s.shelf;
  status = λ settled.
      let told = l.asks settled in
      s.status (settled_by_telling next mid.tells (l.tells ∙ told)) ∙ ap (λ o. o.status) (sym (l.outcome told));
  talk = λ settled.
      let told = l.asks settled in
      l.talk told ∙ s.talk (settled_by_telling next mid.tells (l.tells ∙ told));
}

prefix_on : (plan : Plan) (old : ShelfState) (next : Plan) (mid new : ShelfState) (count : ℕ) → Leads plan old next mid → IsTrue old.tells → new.calls ≡ mid.calls ++ take count (asked next mid.files)
    → new.calls ≡ old.calls ++ take (suc count) (asked plan old.files)
prefix_on plan old next mid new count l told is =
    let on = calls_on plan old next mid new.calls (take count (asked next mid.files)) l told is in
    on.1 ∙ ap (λ calls. old.calls ++ take (suc count) calls) (sym on.2)

stops_on : (plan : Plan) (old : ShelfState) (next : Plan) (mid new : ShelfState) → Leads plan old next mid → Stops next mid new → Stops plan old new
stops_on plan old next mid new l s = record {
  tells = s.tells ∙ l.tells;
  faults = s.faults ∙ l.faults;
  last_failed = s.last_failed ∙ l.last_failed;
  place = on_true old.tells (λ told.
      let at = where_told mid.tells (l.tells ∙ told) s.place in (
        suc at.0,
        record {
          calls = prefix_on plan old next mid new at.0 l told at.1.calls;
          files = at.1.files ∙ sym (l.files told at.0);
        },
      ));
}

fails_on : (plan : Plan) (old : ShelfState) (next : Plan) (mid new : ShelfState) (call : Operation × List ℕ) → Leads plan old next mid → Fails next call mid new → Fails plan call old new
fails_on plan old next mid new call l f = record {
  tells = f.tells ∙ l.tells;
  faults = f.faults ∙ ap one_more l.faults;
  last_failed = f.last_failed;
  place = on_true old.tells (λ told.
      let at = where_told mid.tells (l.tells ∙ told) f.place in (
        suc at.0,
        record {
          calls = prefix_on plan old next mid new at.0 l told at.1.calls;
          next = ap (λ calls. option_map failure_of (slice_get calls (suc at.0))) (l.calls told).2 ∙ at.1.next;
          files = rw (l.files told at.0) at.1.files;
        },
      ));
}

goes_on : (plan : Plan) (old : ShelfState) (next : Plan) (mid new : ShelfState) (ending : PlanEnding) → Leads plan old next mid → EndsAs next mid new ending → EndsAs plan old new ending
goes_on plan old next mid new (concluding answer) l e = record { by_ending = answers_on plan old next mid new answer l e.by_ending }
goes_on plan old next mid new (talking talk) l e = record { by_ending = speaks_on plan old next mid new talk l e.by_ending }
goes_on plan old next mid new (faulting text) l e = record {
  by_ending = record {
    call = e.by_ending.call;
    failed = fails_on plan old next mid new e.by_ending.call l e.by_ending.failed;
    names = e.by_ending.names;
  };
}
goes_on plan old next mid new wanting l e = record {
  by_ending = record {
    by_cause = elim e.by_ending.by_cause [
      | inl stopped ↦ inl (stops_on plan old next mid new l stopped)
      | inr lost ↦ inr (lost.0, fails_on plan old next mid new lost.0 l lost.1)
    ];
  };
}

-- a plan that leads on does so for whatever its command ends with
pub led_to : {A : Type 0} (plan rest : (A → Plan) → Plan) (old now : ShelfState) → LeadsOn plan rest old now → (next : A → Plan) (final : ShelfState) (result : Result Answer Stop)
    → Performs (rest next) now final result → Performs (plan next) old final result
led_to plan rest old now leads next final (Ok answer) p = record { by_result = (leads next final (concluding answer) (record { by_ending = p.by_result })).by_ending }
led_to plan rest old now leads next final (Err (stop.Answered answer)) p = record { by_result = (leads next final (concluding answer) (record { by_ending = p.by_result })).by_ending }
led_to plan rest old now leads next final (Err (stop.ShelfFault text)) p = record { by_result = (leads next final (faulting text) (record { by_ending = p.by_result })).by_ending }
led_to plan rest old now leads next final (Err stop.OutOfMemory) p = record { by_result = (leads next final wanting (record { by_ending = p.by_result })).by_ending }

-- a fetch that goes on
fetch_leads : (name : List ℕ) (limit : ℕ) (next : List ℕ → Plan) (old : ShelfState) (bytes : List ℕ) → OnTrue old.tells (loaded old.files name limit ≡ content.Bytes bytes)
    → All (λ byte. byte < 256) bytes → Leads (needs name limit next) old (next bytes) (after_call (Load name limit) old)
fetch_leads name limit next old bytes is are_bytes = record {
  tells = refl;
  faults = refl;
  last_failed = refl;
  asks = λ told. told;
  outcome = λ told. rw (where_told old.tells told is) refl;
  talk = λ told. rw (where_told old.tells told is) refl;
  bytes = λ told rest. rw (where_told old.tells told is) (are_bytes, rest);
  calls = λ told. (Load name limit, kept old (Load name limit) told, rw (where_told old.tells told is) refl);
  files = λ told count. rw (where_told old.tells told is) refl;
}

pub leads_after_fetch : (name : List ℕ) (limit : ℕ) (next : List ℕ → Plan) (old mid : ShelfState) (bytes : List ℕ) → Fetches name limit old mid (Ok bytes) → (final : ShelfState) (ending : PlanEnding)
    → EndsAs (next bytes) mid final ending → EndsAs (needs name limit next) old final ending
leads_after_fetch name limit next old mid bytes f final ending e =
    let P : ShelfState → Type 0 = λ shelf. EndsAs (next bytes) shelf final ending in
    goes_on (needs name limit next) old (next bytes) (after_call (Load name limit) old) final ending (fetch_leads name limit next old bytes f.by_result.1 f.by_result.3) (subst P f.by_result.0 e)

pub goes_on_after_fetch : (name : List ℕ) (limit : ℕ) (next : List ℕ → Plan) (old mid new : ShelfState) (bytes : List ℕ) (result : Result Answer Stop) → Fetches name limit old mid (Ok bytes) → Performs (next bytes) mid new result → Performs (needs name limit next) old new result
goes_on_after_fetch name limit next old mid new bytes result f p =
    led_to (needs name limit) (λ n. n bytes) old mid (λ n final ending e. leads_after_fetch name limit n old mid bytes f final ending e) next new result p

-- a save that goes on
save_leads : (name content : List ℕ) (next : Plan) (old : ShelfState) → Leads (sets name content next) old next (after_call (Save name content) (after_setting name content old))
save_leads name content next old = record {
  tells = refl;
  faults = refl;
  last_failed = refl;
  asks = λ told. told;
  outcome = λ told. rw told refl;
  talk = λ told. rw told refl;
  bytes = λ told rest. rw told at rest;
  calls = λ told. (Save name content, rw told refl, rw told refl);
  files = λ told count. rw told refl;
}

pub leads_after_save : (name content : List ℕ) (next : Plan) (old mid : ShelfState) (done : Unit {0}) → Saves name content old mid (Ok done) → (final : ShelfState) (ending : PlanEnding)
    → EndsAs next mid final ending → EndsAs (sets name content next) old final ending
leads_after_save name content next old mid done s final ending e =
    let here : ShelfState = after_call (Save name content) (after_setting name content old) in
    let P : ShelfState → Type 0 = λ shelf. EndsAs next shelf final ending in
    goes_on (sets name content next) old next here final ending (save_leads name content next old) (subst P s.by_result e)

pub goes_on_after_save : (name content : List ℕ) (next : Plan) (old mid new : ShelfState) (done : Unit {0}) (result : Result Answer Stop) → Saves name content old mid (Ok done) → Performs next mid new result → Performs (sets name content next) old new result
goes_on_after_save name content next old mid new done result s p =
    led_to {A = Unit {0}} (λ n. sets name content (n tt)) (λ n. n tt) old mid (λ n final ending e. leads_after_save name content (n tt) old mid done s final ending e) (λ _. next) new result p

-- an answer after a save
pub answers_after_save : (name content : List ℕ) (old new : ShelfState) (done : Unit {0}) (answer : Answer) → Saves name content old new (Ok done) → Performs (sets name content (answers answer.status answer.text)) old new (Ok answer)
answers_after_save name content old new done answer s =
    goes_on_after_save name content (answers answer.status answer.text) old new new done (Ok answer) s (record { by_result = answered (answers answer.status answer.text) new answer refl })

-- what a command that loads needs, and one that saves
pub ruleset performing = (wants_memory, says, ends_at_fetch, goes_on_after_fetch)

pub ruleset saving = (wants_memory, ends_at_save, goes_on_after_save, answers_after_save)
