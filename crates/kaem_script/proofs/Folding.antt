-- One command more.
use Rattle.std.proofs.Common.{◌≡◌, ℕ, suc, ◌+◌, ◌<◌, ◌≤◌, List, [], ◌∷◌, ◌++◌, length, take, drop, get_or, map, Result, Ok, Err, refl, sym, ap, ◌∙◌, subst, length-append, take_all, arith}
use Rattle.std.proofs.lemmas.List.{at_drop_more, drop_all, map_push, take-append-drop, take_more}
use Rattle.mem_files.specs.World.{World}
use Rattle.kaem_script.specs.declared.cause.CommandCause.{CommandCause}
use Rattle.kaem_script.specs.declared.fold.ScriptStop.{ScriptStop}
use Rattle.kaem_script.specs.declared.fold.ScriptStop.TheVariants.{Failed, OutOfMemory}
use Rattle.report.specs.declared.script.types.CommandLine.{CommandLine}
use Rattle.kaem_script.specs.Fold.{AnswersScript, CommandResult, Folded, Ran, RanAll, ScriptResult, Stopped, after_command, command, fold_from, folded}
use Rattle.kaem_script.specs.Inside.Commands.{Finishes, Folds, IsRun, UnlessStopped, WantsWithin, ran_with}
use Rattle.kaem_script.specs.Reported.{command_line}
use Rattle.kaem_script.specs.Wants.{FirstHasProgram, HasProgram, OnScriptWant, WantsAt}

-- ---- commands after others that ran

further_one : (most number : ℕ) (found : CommandResult) (former latter : Ran → Folded) (whole : Folded) (all : List Ran) (left : World)
    → ((ran : Ran) → former ran ≡ RanAll all left → latter ran ≡ whole) → after_command number found former ≡ RanAll all left → after_command number found latter ≡ whole
further_one most number (Err why) former latter whole all left next is = absurd cc
further_one most number (Ok ran) former latter whole all left next is = next ran is

pub further : (most : ℕ) (done all : List Ran) (w left : World) (xs more : List (List (List ℕ))) → fold_from most done w xs ≡ RanAll all left
    → fold_from most done w (xs ++ more) ≡ fold_from most all left more
further most done all w left [] more is =
    let done_is : done ≡ all = cc in
    let world_is : w ≡ left = cc in
    λ i. fold_from most (done_is i) (world_is i) more
further most done all w left (x ∷ xs) more is =
    further_one most (length done + 1) (command most w x) (λ ran. fold_from most (done ++ ran ∷ []) ran.world xs) (λ ran. fold_from most (done ++ ran ∷ []) ran.world (xs ++ more))
    (fold_from most all left more) all left (λ ran. further most (done ++ ran ∷ []) all ran.world left xs more) is

-- what holds of a command that was begun holds unless it stopped the script
pub unless-stopped : {A B E : Type 0} {fact : Type 0} (answer : Result (Result A B) E) → fact → UnlessStopped answer fact
unless-stopped (Ok (Ok ran)) holds = holds
unless-stopped (Ok (Err why)) holds = tt
unless-stopped (Err want) holds = holds

-- ---- a walk along the commands

-- the first so many commands ran over these files, with these lines, and left the latter files
pub record Going (most : ℕ) (first : World) (commands : List (List (List ℕ))) (index : ℕ) (lines : List CommandLine) (world : World) : Type 0 where
  pub done : List Ran
  pub count : length done ≡ index
  pub lines_are : lines ≡ map command_line done
  pub before : folded most first (take index commands) ≡ RanAll done world

pub begins : (most : ℕ) (lines : List CommandLine) (world : World) (commands : List (List (List ℕ))) → lines ≡ [] → Going most world commands 0 lines world
unfolding folded
begins most lines world commands none = record { done = []; count = refl; lines_are = none; before = refl }

module _ (most : ℕ) (first : World) (xs : List (List (List ℕ))) (i : ℕ) (lines : List CommandLine) (world : World) (going : Going most first xs i lines world) where
  -- what comes of all commands is what comes of those that are left
  rest : folded most first xs ≡ fold_from most going.done world (drop i xs)
  unfolding folded
  rest = ap (fold_from most [] first) (sym (take-append-drop i xs)) ∙ further most [] going.done first world (take i xs) (drop i xs) going.before

  prefix : (x : List (List ℕ)) → i < length xs → x ≡ get_or xs i x → drop i xs ≡ x ∷ drop (i + 1) xs
  prefix x less is = at_drop_more (λ (l : List (List (List ℕ))). l) xs i x less ∙ ap (λ (y : List (List ℕ)). y ∷ drop (i + 1) xs) (sym is)

  pub goes_on : (more : List CommandLine) (line : CommandLine) (left : World) (x : List (List ℕ)) → i < length xs → x ≡ get_or xs i x
      → IsRun (command most world x) line left → more ≡ lines ++ line ∷ [] → Going most first xs (i + 1) more left
  unfolding folded
  goes_on more line left x less is run pushed =
      let ran = ran_with line left in
      record {
        done = going.done ++ ran ∷ [];
        count = length-append going.done (ran ∷ []) ∙ ap (λ (n : ℕ). n + 1) going.count;
        lines_are = pushed ∙ ap (λ (l : List CommandLine). l ++ line ∷ []) going.lines_are
            ∙ ap (λ (c : CommandLine). map command_line going.done ++ c ∷ []) run.1 ∙ sym (map_push command_line going.done ran);
        before = ap (fold_from most [] first) (take_more xs i x less ∙ ap (λ (y : List (List ℕ)). take i xs ++ y ∷ []) (sym is)) ∙ further most [] going.done first world (take i xs) (x ∷ []) going.before
            ∙ ap (λ c. after_command (length going.done + 1) c (λ r. fold_from most (going.done ++ r ∷ []) r.world [])) run.0;
      }

  pub stops : (x : List (List ℕ)) (why : CommandCause × ℕ) → i < length xs → x ≡ get_or xs i x → command most world x ≡ Err why
      → folded most first xs ≡ Stopped (i + 1) why.0 why.1
  stops x why less is err =
      rest ∙ ap (fold_from most going.done world) (prefix x less is)
      ∙ ap (λ c. after_command (length going.done + 1) c (λ r. fold_from most (going.done ++ r ∷ []) r.world (drop (i + 1) xs))) err
      ∙ ap (λ (n : ℕ). Stopped (n + 1) why.0 why.1) going.count

  -- memory was wanting at the command that follows
  pub wants : (x : List (List ℕ)) → i < length xs → x ≡ get_or xs i x → HasProgram world x → WantsAt most first xs (i + 1)
  wants x less is has = record {
    ran = going.done;
    left = world;
    number_is = ap (λ (n : ℕ). n + 1) (sym going.count);
    before = subst (λ (n : ℕ). folded most first (take n xs) ≡ RanAll going.done world) (sym going.count) going.before;
    here = subst (λ (n : ℕ). FirstHasProgram world (drop n xs)) (sym going.count) (subst (FirstHasProgram world) (sym (prefix x less is)) has);
  }

  pub finishes : length xs ≤ i → Finishes (folded most first xs) lines world
  finishes past = record {
    done = going.done;
    is = ap (folded most first) (sym (take_all i xs past)) ∙ going.before;
    lines_are = going.lines_are;
  }

-- ---- memory was wanting for the report

one_longer : (number count more : ℕ) (found : CommandResult) (former : Ran → Folded) (all : List Ran) (left : World)
    → ((ran : Ran) → former ran ≡ RanAll all left → count ≡ more) → after_command number found former ≡ RanAll all left → count ≡ more
one_longer number count more (Err why) former all left next is = absurd cc
one_longer number count more (Ok ran) former all left next is = next ran is

pub length-ran : (most : ℕ) (done all : List Ran) (w left : World) (xs : List (List (List ℕ))) → fold_from most done w xs ≡ RanAll all left → length all ≡ length done + length xs
length-ran most done all w left [] is =
    let done_is : done ≡ all = cc in
    let same = ap length (sym done_is) in
    omega (arith, same)
length-ran most done all w left (x ∷ xs) is =
    one_longer (length done + 1) (length all) (length done + suc (length xs)) (command most w x) (λ ran. fold_from most (done ++ ran ∷ []) ran.world xs) all left
    (λ ran here. (let more = length-ran most (done ++ ran ∷ []) all ran.world left xs here in omega (arith, more, length-append done (ran ∷ [])))) is

pub wants-last : (most : ℕ) (first world : World) (commands : List (List (List ℕ))) (lines : List CommandLine) → Finishes (folded most first commands) lines world
    → WantsAt most first commands (length commands + 1)
unfolding folded
wants-last most first world commands lines finished =
    let count = length-ran most [] finished.done first world commands finished.is in
    record {
      ran = finished.done;
      left = world;
      number_is = omega (arith, count);
      before = ap (fold_from most [] first) (take_all (length finished.done) commands (omega (arith, count))) ∙ finished.is;
      here = subst (FirstHasProgram world) (sym (drop_all (length finished.done) commands (omega (arith, count)))) tt;
    }

-- ---- commands that did not all run

-- what stopped them is what the script comes to
pub stopped_so : {A : Type 0} (ended : Folded → ScriptResult A) (found meant : Folded) (stop : ScriptStop) → found ≡ meant
    → ((number : ℕ) (why : CommandCause) (step : ℕ) → ended (Stopped number why step) ≡ Err (number, why, step)) → Folds found (Err stop)
    → AnswersScript (ended meant) (Err stop)
stopped_so ended found meant (Failed number why step) same stops is = ap ended (sym same ∙ is) ∙ stops number why step
stopped_so ended found meant (OutOfMemory number) same stops is = tt

-- where memory was wanting for them, it was for more of them
pub wants_so : (count : ℕ) (former latter : ℕ → Type 0) (stop : ScriptStop) → ((number : ℕ) → number ≤ count → former number → latter number)
    → WantsWithin count stop → OnScriptWant stop former → OnScriptWant stop latter
wants_so count former latter (Failed number why step) more within at = tt
wants_so count former latter (OutOfMemory number) more within at = more number within at
