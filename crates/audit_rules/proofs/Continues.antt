-- Every position on the way has the bench's answer.
use Rattle.std.proofs.Common.{◌≡◌, ℕ, zero, suc, ◌+◌, ◌-◌, ◌≤◌, Bool, true, false, nat_lt, if◌then◌else◌, Option, None, Some, Result, Ok, Err, List, [], ◌∷◌, ◌++◌, length, drop, All, refl, sym, ap, ◌∙◌, arith, subst, inl, inr}
use Rattle.std.proofs.lemmas.Bool.{cases_lt}
use Rattle.std.proofs.lemmas.List.{length-append, drop-drop}
use Rattle.std.proofs.lemmas.List.Elements.{All-drop}
use Rattle.guest_run.specs.State.{GuestState}
use Rattle.elf_load.specs.Image.{image_of}
use Rattle.elf_load.specs.declared.Image.{Image}
use Rattle.elf_load.specs.declared.refusal.ElfRefusal.{ElfRefusal}
use Rattle.ddc_base.specs.Limits.{most_texts, most_total}
use Rattle.guest_run.specs.Start.{Refusal, ArgsTooLong, BoxTooLarge, start_of, start_state, started}
use Rattle.guest_run.specs.Setting.{Setting, files_size}
use Rattle.guest_run.specs.Stack.{start_size}
use Rattle.guest_run.specs.Run.{End, Next, Goes, Ends, first_end, next}
use Rattle.guest_run.proofs.Stepping.{next-counted}
use Rattle.guest_run.proofs.Running.{after-none, after-on, found}
use Rattle.guest_run.proofs.RunLaws.{first_end-sum}
use Rattle.recipe.specs.declared.parts.Stage.{Stage}
use Rattle.recipe.specs.declared.contents.RecipeContents.{RecipeContents}
use Rattle.audit_rules.specs.declared.answer.Finished.{Finished}
use Rattle.audit_rules.specs.declared.answer.StageFault.{StageFault}
use Rattle.audit_rules.specs.declared.answer.AuditAnswer.{AuditAnswer}
use Rattle.audit_rules.specs.Stages.{by_end, by_start, contents, ending, start_stage}
use Rattle.audit_rules.specs.Bench.{after_stage, bench, bench_from}
use Rattle.audit_rules.specs.Positions.{Position, Phase, On, Over, at, beginning, stage_closed, continue, continue_among, enter, entered, finish, forward, onward, position, step, todo}
use Rattle.audit_rules.proofs.Slices.{step-next, went-on, went-spent}
use Rattle.audit_rules.proofs.Here.{IsHere}

-- the first end, by the first step
first_end-goes : (guest to : GuestState) (most : ℕ) → next guest ≡ Goes to → first_end guest (suc most) ≡ first_end to most
first_end-goes guest to most goes =
    let one : suc most ≡ 1 + most = omega arith in
    ap (first_end guest) one ∙ first_end-sum guest to 1 most (after-on guest guest to 0 (after-none guest) goes)

first_end-ends : (guest : GuestState) (most : ℕ) (end : End) → next guest ≡ Ends end → first_end guest (suc most) ≡ Some (end, guest)
first_end-ends guest most end ends = found guest guest 0 (suc most) end (after-none guest) ends (omega arith)

first_end-none : (guest : GuestState) → first_end guest 0 ≡ None
unfolding first_end
first_end-none guest = refl

-- a started guest has taken no step
pub fresh : (program : List ℕ) (setting : Setting) (guest : GuestState) → start_of program setting ≡ Ok guest → guest.steps ≡ 0
unfolding start_of start_state
fresh program setting guest is = by_image (image_of program) is where
  steps_of : Result GuestState Refusal → ℕ
  steps_of (Ok g) = g.steps
  steps_of (Err e) = 0

  started_steps : (r : Result Image ElfRefusal) → steps_of (started program setting r) ≡ 0
  started_steps (Err refusal) = refl
  started_steps (Ok image) = by_texts (nat_lt most_texts (start_size setting.args setting.env)) where
    by_files : (b : Bool) → steps_of (if b then Err BoxTooLarge else Ok (start_state program setting image)) ≡ 0
    by_files true = refl
    by_files false = refl

    by_texts : (b : Bool) → steps_of (if b then Err ArgsTooLong else (if nat_lt most_total (files_size setting.files) then Err BoxTooLarge else Ok (start_state program setting image))) ≡ 0
    by_texts true = refl
    by_texts false = by_files (nat_lt most_total (files_size setting.files))

  by_image : (r : Result Image ElfRefusal) → started program setting r ≡ Ok guest → guest.steps ≡ 0
  by_image r is = sym (ap steps_of is) ∙ started_steps r

-- one stage more is done
pub todo-next : (recipe : RecipeContents) (done : List Finished) (f : Finished) (stage : Stage) (stages : List Stage) → todo recipe done ≡ stage ∷ stages
    → todo recipe (done ++ f ∷ []) ≡ stages
todo-next recipe done f stage stages left =
    let one : length (done ++ f ∷ []) ≡ length done + 1 = length-append done (f ∷ []) in
    ap (λ n. drop n recipe.stages) one ∙ sym (drop-drop 1 (length done) recipe.stages) ∙ ap (drop 1) left

continue-at : (recipe : RecipeContents) (inputs : List (List ℕ)) (p : Position) (stage : Stage) (stages : List Stage) → todo recipe p.done ≡ stage ∷ stages
    → continue recipe inputs p ≡ continue_among recipe inputs p (stage ∷ stages)
unfolding continue
continue-at recipe inputs p stage stages left = ap (continue_among recipe inputs p) left

-- the bench goes on where the next stage is entered
enter-bench : (recipe : RecipeContents) (inputs : List (List ℕ)) (done : List Finished) (stages : List Stage) → todo recipe done ≡ stages
    → finish recipe inputs (enter recipe inputs done stages) ≡ bench_from recipe inputs done stages
enter-bench recipe inputs done [] left = refl
enter-bench recipe inputs done (stage ∷ stages) left = by_begin (start_stage recipe (contents inputs done) stage) refl where
  by_begin : (s : Result GuestState Refusal) → start_stage recipe (contents inputs done) stage ≡ s
      → finish recipe inputs (entered done s)
      ≡ after_stage (suc (length done)) (by_start recipe inputs done stage s) (λ f. bench_from recipe inputs (done ++ f ∷ []) stages)
  by_begin (Err why) is = refl
  by_begin (Ok guest) is =
      let zero_steps = fresh _ _ guest is in
      let all : stage.steps - guest.steps ≡ stage.steps = omega arith in
      continue-at recipe inputs (at done guest) stage stages left
      ∙ ap (λ n. after_stage (suc (length done)) (by_end recipe inputs done stage (first_end guest n)) (λ f. bench_from recipe inputs (done ++ f ∷ []) stages)) all

-- and where a stage is closed
closed-bench : (recipe : RecipeContents) (inputs : List (List ℕ)) (done : List Finished) (stage : Stage) (stages : List Stage) → todo recipe done ≡ stage ∷ stages
    → (r : Result Finished StageFault)
    → finish recipe inputs (stage_closed recipe inputs done stages r) ≡ after_stage (suc (length done)) r (λ f. bench_from recipe inputs (done ++ f ∷ []) stages)
closed-bench recipe inputs done stage stages left (Err fault) = refl
closed-bench recipe inputs done stage stages left (Ok f) = enter-bench recipe inputs (done ++ f ∷ []) stages (todo-next recipe done f stage stages left)

-- a step keeps the answer
pub step-continue : (recipe : RecipeContents) (inputs : List (List ℕ)) (p : Position) (stage : Stage) (stages : List Stage) → IsHere recipe p stage stages
    → finish recipe inputs (step recipe inputs p) ≡ continue recipe inputs p
step-continue recipe inputs p stage stages ok = by_next (next p.at) refl where
  rest : ℕ
  rest = stage.steps - p.at.steps - 1

  is_more : stage.steps - p.at.steps ≡ suc rest
  is_more = omega (arith, ok.within)

  end : Option (End × GuestState) → AuditAnswer
  end e = after_stage (suc (length p.done)) (by_end recipe inputs p.done stage e) (λ f. bench_from recipe inputs (p.done ++ f ∷ []) stages)

  now : continue recipe inputs p ≡ end (first_end p.at (suc rest))
  now = continue-at recipe inputs p stage stages ok.left ∙ ap (λ n. end (first_end p.at n)) is_more

  by_next : (n : Next) → next p.at ≡ n → finish recipe inputs (step recipe inputs p) ≡ continue recipe inputs p
  by_next (Ends why) is =
      ap (finish recipe inputs) (step-next recipe inputs p stage stages (Ends why) ok.left is)
      ∙ closed-bench recipe inputs p.done stage stages ok.left (ending recipe inputs p.done stage why p.at)
      ∙ sym (now ∙ ap end (first_end-ends p.at rest why is))
  by_next (Goes to) is =
      let counted = next-counted p.at to is in
      ap (finish recipe inputs) (step-next recipe inputs p stage stages (Goes to) ok.left is)
      ∙ elim (cases_lt to.steps stage.steps) [
        | inl lt ↦
            (let same : stage.steps - to.steps ≡ rest = omega arith in
            ap (finish recipe inputs) (went-on p.done stage to lt)
            ∙ continue-at recipe inputs (at p.done to) stage stages ok.left
            ∙ ap (λ n. end (first_end to n)) same)
        | inr le ↦
            (let same : rest ≡ 0 = omega (arith, ok.within) in
            ap (finish recipe inputs) (went-spent p.done stage to le)
            ∙ sym (ap (λ n. end (first_end to n)) same ∙ ap end (first_end-none to)))
      ]
      ∙ sym (now ∙ ap end (first_end-goes p.at to rest is))

-- every stage may take a step
abbrev pub AllMayStep : RecipeContents → Type 0
AllMayStep recipe = All (λ (s : Stage). 1 ≤ s.steps) recipe.stages

-- a position is one of the recipe: a stage is left, and its steps are not spent
abbrev pub IsPosition : RecipeContents → Position → Type 0
IsPosition recipe p = (stage : Stage) × (stages : List Stage) × IsHere recipe p stage stages

-- where an audit stands is a position, or it is over
abbrev pub IsOnPosition : RecipeContents → Phase → Type 0
IsOnPosition recipe (On p) = IsPosition recipe p
IsOnPosition recipe (Over answer) = Unit {0}

pub first_may : (recipe : RecipeContents) → AllMayStep recipe → (done : List Finished) (stage : Stage) (stages : List Stage) → todo recipe done ≡ stage ∷ stages → 1 ≤ stage.steps
first_may recipe all done stage stages left =
    let P : Stage → Type 0 = λ s. 1 ≤ s.steps in
    subst (All P) left (All-drop P (length done) recipe.stages all) 0 stage (omega arith)

pub enter-position : (recipe : RecipeContents) → AllMayStep recipe → (inputs : List (List ℕ)) (done : List Finished) (stages : List Stage) → todo recipe done ≡ stages
    → IsOnPosition recipe (enter recipe inputs done stages)
enter-position recipe all inputs done [] left = tt
enter-position recipe all inputs done (stage ∷ stages) left = by_begin (start_stage recipe (contents inputs done) stage) refl where
  by_begin : (s : Result GuestState Refusal) → start_stage recipe (contents inputs done) stage ≡ s → IsOnPosition recipe (entered done s)
  by_begin (Err why) is = tt
  by_begin (Ok guest) is =
      let zero_steps = fresh _ _ guest is in
      let may = first_may recipe all done stage stages left in
      (stage, stages, record { left = left; within = omega arith })

closed-position : (recipe : RecipeContents) → AllMayStep recipe → (inputs : List (List ℕ)) (done : List Finished) (stage : Stage) (stages : List Stage) → todo recipe done ≡ stage ∷ stages
    → (r : Result Finished StageFault) → IsOnPosition recipe (stage_closed recipe inputs done stages r)
closed-position recipe all inputs done stage stages left (Err fault) = tt
closed-position recipe all inputs done stage stages left (Ok f) = enter-position recipe all inputs (done ++ f ∷ []) stages (todo-next recipe done f stage stages left)

-- a step from a position gives a position or an answer
pub step-position : (recipe : RecipeContents) → AllMayStep recipe → (inputs : List (List ℕ)) (p : Position) → IsPosition recipe p → IsOnPosition recipe (step recipe inputs p)
step-position recipe all inputs p (stage, stages, ok) = by_next (next p.at) refl where
  by_next : (n : Next) → next p.at ≡ n → IsOnPosition recipe (step recipe inputs p)
  by_next (Ends why) is =
      subst (IsOnPosition recipe) (sym (step-next recipe inputs p stage stages (Ends why) ok.left is))
      (closed-position recipe all inputs p.done stage stages ok.left (ending recipe inputs p.done stage why p.at))
  by_next (Goes to) is =
      subst (IsOnPosition recipe) (sym (step-next recipe inputs p stage stages (Goes to) ok.left is))
      (elim (cases_lt to.steps stage.steps) [
        | inl lt ↦ subst (IsOnPosition recipe) (sym (went-on p.done stage to lt)) (stage, stages, record { left = ok.left; within = lt })
        | inr le ↦ subst (IsOnPosition recipe) (sym (went-spent p.done stage to le)) tt
      ])

-- many steps keep the answer, and come to a position or an answer
pub forward-continue : (recipe : RecipeContents) → AllMayStep recipe → (inputs : List (List ℕ)) (p : Position) → IsPosition recipe p → (count : ℕ)
    → (finish recipe inputs (forward recipe inputs p count) ≡ continue recipe inputs p) × IsOnPosition recipe (forward recipe inputs p count)
unfolding forward
forward-continue recipe all inputs p ok zero = (refl, ok)
forward-continue recipe all inputs p ok (suc count) = by_position (forward recipe inputs p count) (forward-continue recipe all inputs p ok count) where
  by_position : (o : Phase) → (finish recipe inputs o ≡ continue recipe inputs p) × IsOnPosition recipe o
      → (finish recipe inputs (onward o (step recipe inputs)) ≡ continue recipe inputs p) × IsOnPosition recipe (onward o (step recipe inputs))
  by_position (Over answer) earlier = earlier
  by_position (On q) earlier =
      (step-continue recipe inputs q earlier.1.0 earlier.1.1 earlier.1.2 ∙ earlier.0, step-position recipe all inputs q earlier.1)

-- every position on the way has the bench's answer
pub position-bench : (recipe : RecipeContents) → AllMayStep recipe → (inputs : List (List ℕ)) (count : ℕ)
    → finish recipe inputs (position recipe inputs count) ≡ bench recipe inputs
position-bench recipe all inputs count = by_position (beginning recipe inputs) (enter-bench recipe inputs [] recipe.stages refl) (enter-position recipe all inputs [] recipe.stages refl) where
  by_position : (o : Phase) → finish recipe inputs o ≡ bench recipe inputs → IsOnPosition recipe o → finish recipe inputs (onward o (λ p. forward recipe inputs p count)) ≡ bench recipe inputs
  by_position (Over answer) is ok = is
  by_position (On p) is ok = (forward-continue recipe all inputs p ok count).0 ∙ is
