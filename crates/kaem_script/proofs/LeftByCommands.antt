-- What a command left, beside what all commands come to.
use Rattle.std.proofs.Common.{◌≡◌, ℕ, zero, suc, ◌+◌, ◌≤◌, Option, None, Some, List, [], ◌∷◌, ◌++◌, length, take, drop, Result, Ok, Err, refl, sym, ap, ◌∙◌, subst, length-append, arith}
use Rattle.std.proofs.lemmas.Bool.{ne_eqb}
use Rattle.std.proofs.Math.Seq.{drop-append_seam, take-append_seam}
use Rattle.std.proofs.lemmas.List.{drop-append-le, length-drop, take-append-le}
use Rattle.mem_files.specs.World.{World}
use Rattle.mem_files.specs.Calls.{content_at}
use Rattle.guest_run.specs.Run.{End, Exited, Trapped, UnknownCall, first_end}
use Rattle.guest_run.specs.Start.{ArgsTooLong, BoxTooLarge, Elf, Refusal, start_of}
use Rattle.guest_run.specs.State.{GuestState}
use Rattle.kaem_script.specs.declared.cause.CommandCause.{CommandCause}
use Rattle.kaem_script.specs.declared.cause.CommandCause.TheVariants as cause
use Rattle.kaem_script.specs.declared.leaving.CommandLeft.{CommandLeft}
use Rattle.kaem_script.specs.Fold.{CommandResult, Folded, Ran, RanAll, Stopped, after_command, by_first_end, by_program, by_started, by_status, command, command_box, fold_from, folded, program_name}
use Rattle.kaem_script.specs.Leaving.{IsLast, LeftResult, StopsThere, command_left, after_earlier, left_by_program, left_by_start, left_of_command, result_by_cause, result_of, end_of_run, end_of_run_by}
use Rattle.std.specs.Prelude.{IfOk}
use Rattle.kaem_script.specs.Inside.Commands.{Finishes, LeavesOver}
use Rattle.kaem_script.specs.Wants.{FirstHasProgram, HasProgram, WantsAt}
use Rattle.report.specs.declared.script.types.CommandLine.{CommandLine}
use Rattle.kaem_script.proofs.Folding.{further, length-ran}

-- ---- one command

by_end : (most : ℕ) (guest : GuestState) (end : Option (End × GuestState)) → by_first_end most end ≡ result_of (Ok (end_of_run_by guest most end))
by_end most guest None = refl
by_end most guest (Some (Exited status, last)) = refl
by_end most guest (Some (Trapped why, last)) = refl
by_end most guest (Some (UnknownCall number, last)) = refl

by_start : (most number : ℕ) (start : Result GuestState Refusal) → by_started most start ≡ result_of (left_by_start most number start)
unfolding end_of_run
by_start most number (Err (Elf refusal)) = refl
by_start most number (Err ArgsTooLong) = refl
by_start most number (Err BoxTooLarge) = refl
by_start most number (Ok guest) = by_end most guest (first_end guest most)

by_content : (most number : ℕ) (world : World) (words : List (List ℕ)) (program : Option (List ℕ)) → by_program most world words program ≡ result_of (left_by_program most number world words program)
by_content most number world words None = refl
by_content most number world words (Some program) = by_start most number (start_of program (command_box world words))

pub alone : (most number : ℕ) (world : World) (words : List (List ℕ)) → command most world words ≡ result_of (command_left most number world words)
unfolding command command_left
alone most number world words = by_content most number world words (content_at world (program_name words))

-- a start that is refused is said under the command's own number
refused_by_start : (most number : ℕ) (start : Result GuestState Refusal) (stop : ℕ × CommandCause × ℕ) → left_by_start most number start ≡ Err stop → stop.0 ≡ number
refused_by_start most number (Err refusal) stop is = cc
refused_by_start most number (Ok guest) stop is = absurd cc

refused_by_program : (most number : ℕ) (world : World) (words : List (List ℕ)) (program : Option (List ℕ)) (stop : ℕ × CommandCause × ℕ)
    → left_by_program most number world words program ≡ Err stop → stop.0 ≡ number
refused_by_program most number world words None stop is = cc
refused_by_program most number world words (Some program) stop is = refused_by_start most number (start_of program (command_box world words)) stop is

refused : (most number : ℕ) (world : World) (words : List (List ℕ)) (stop : ℕ × CommandCause × ℕ) → command_left most number world words ≡ Err stop → stop.0 ≡ number
unfolding command_left
refused most number world words stop is = refused_by_program most number world words (content_at world (program_name words)) stop is

-- ---- among all commands

pub stopped_before : (most : ℕ) (world : World) (earlier : List (List (List ℕ))) (words : List (List ℕ)) (number : ℕ) (why : CommandCause) (step : ℕ)
    → folded most world earlier ≡ Stopped number why step → left_of_command most world earlier words ≡ Err (number, why, step)
unfolding left_of_command
stopped_before most world earlier words number why step is = ap (after_earlier most (length earlier + 1) words) is

-- commands that stop stay stopped, whatever follows them, and at one of them
kept_one : (number least : ℕ) (found : CommandResult) (former latter : Ran → Folded) (at : ℕ) (why : CommandCause) (step : ℕ) → number ≤ least
    → ((ran : Ran) → former ran ≡ Stopped at why step → (latter ran ≡ Stopped at why step) × (at ≤ least))
    → after_command number found former ≡ Stopped at why step → (after_command number found latter ≡ Stopped at why step) × (at ≤ least)
kept_one number least (Err cause) former latter at why step within next is =
    let same : number ≡ at = cc in
    (is, omega (arith, same, within))
kept_one number least (Ok ran) former latter at why step within next is = next ran is

kept : (most : ℕ) (done : List Ran) (w : World) (xs more : List (List (List ℕ))) (at : ℕ) (why : CommandCause) (step : ℕ) → fold_from most done w xs ≡ Stopped at why step
    → (fold_from most done w (xs ++ more) ≡ Stopped at why step) × (at ≤ length done + length xs)
kept most done w [] more at why step is = absurd cc
kept most done w (x ∷ xs) more at why step is =
    kept_one (length done + 1) (length done + suc (length xs)) (command most w x) (λ ran. fold_from most (done ++ ran ∷ []) ran.world xs) (λ ran. fold_from most (done ++ ran ∷ []) ran.world (xs ++ more))
    at why step (omega arith)
    (λ ran here. (let rest = kept most (done ++ ran ∷ []) ran.world xs more at why step here in (rest.0, omega (arith, rest.1, length-append done (ran ∷ []))))) is

kept_whole : (most : ℕ) (w : World) (xs more : List (List (List ℕ))) (at : ℕ) (why : CommandCause) (step : ℕ) → folded most w xs ≡ Stopped at why step
    → (folded most w (xs ++ more) ≡ Stopped at why step) × (at ≤ length xs)
unfolding folded
kept_whole most w xs more at why step is = let stays = kept most [] w xs more at why step is in (stays.0, omega (arith, stays.1))

count_ran : (most : ℕ) (w left : World) (xs : List (List (List ℕ))) (ran : List Ran) → folded most w xs ≡ RanAll ran left → length ran ≡ length xs
unfolding folded
count_ran most w left xs ran is = let count = length-ran most [] ran w left xs is in omega (arith, count)

same_number : (a b : ℕ) (why cause : CommandCause) (step at : ℕ) → Stopped a why step ≡ Stopped b cause at → a ≡ b
same_number a b why cause step at is = cc

not_both : {A : Type 0} (at : ℕ) (why : CommandCause) (step : ℕ) (ran : List Ran) (left : World) → Stopped at why step ≡ RanAll ran left → A
not_both at why step ran left is = absurd cc

-- commands behind some that ran stop behind them
stops_one : (number : ℕ) (found : CommandResult) (next : Ran → Folded) (at : ℕ) (why : CommandCause) (step : ℕ)
    → ((ran : Ran) → next ran ≡ Stopped at why step → number ≤ at) → after_command number found next ≡ Stopped at why step → number ≤ at
stops_one number (Err stop) next at why step rest is =
    let same : number ≡ at = cc in
    omega (arith, same)
stops_one number (Ok ran) next at why step rest is = rest ran is

stops_later : (most : ℕ) (others : List (List (List ℕ))) (done : List Ran) (left : World) (at : ℕ) (why : CommandCause) (step : ℕ)
    → fold_from most done left others ≡ Stopped at why step → length done + 1 ≤ at
stops_later most [] done left at why step is = absurd cc
stops_later most (x ∷ others) done left at why step is =
    stops_one (length done + 1) (command most left x) (λ one. fold_from most (done ++ one ∷ []) one.world others) at why step
    (λ one here. (let more = stops_later most others (done ++ one ∷ []) one.world at why step here in omega (arith, more, length-append done (one ∷ [])))) is

not_zero : (status step : ℕ) (files : World) → by_status (suc status) step files ≡ Err (cause.Status (suc status), step)
not_zero status step files = rw (ne_eqb (suc status) 0 (λ e. absurd (omega (arith, e)))) refl

-- a command that stops, by what it left
stops_by : (left : LeftResult) (number : ℕ) (next : Ran → Folded) (why : CommandCause) (step : ℕ)
    → ((stop : ℕ × CommandCause × ℕ) → left ≡ Err stop → stop.0 ≡ number)
    → after_command number (result_of left) next ≡ Stopped number why step
    → ((ran : Ran) → next ran ≡ Stopped number why step → ⊥) → StopsThere number why step left
stops_by (Err stop) number next why step named is none =
    let same = named stop refl in
    let why_is : stop.1 ≡ why = cc in
    let step_is : stop.2 ≡ step = cc in
    λ i. (same i, why_is i, step_is i)
stops_by (Ok left) number next why step named is none = at left.cause refl is
  where
    by_zero : (status : ℕ) → left.cause ≡ cause.Status status → after_command number (by_status status left.step left.files) next ≡ Stopped number why step → (left.cause ≡ why) × (left.step ≡ step)
    by_zero zero same here = absurd (none (record { steps = left.step; world = left.files }) here)
    by_zero (suc status) same here =
        let stopped : Stopped number (cause.Status (suc status)) left.step ≡ Stopped number why step =
        ap (λ (found : CommandResult). after_command number found next) (sym (not_zero status left.step left.files)) ∙ here in
        let why_is : cause.Status (suc status) ≡ why = cc in
        let step_is : left.step ≡ step = cc in
        (same ∙ why_is, step_is)

    at : (cause : CommandCause) → left.cause ≡ cause → after_command number (result_by_cause cause left.step left.files) next ≡ Stopped number why step → (left.cause ≡ why) × (left.step ≡ step)
    at (cause.Status status) same here = by_zero status same here
    at cause.NoProgram same here = (same ∙ cc, cc)
    at (cause.Elf refusal) same here = (same ∙ cc, cc)
    at (cause.Trap trap) same here = (same ∙ cc, cc)
    at (cause.Call call) same here = (same ∙ cc, cc)
    at cause.Spent same here = (same ∙ cc, cc)

-- commands that all ran, the last of which left what stands at the end
ran_by : (left : LeftResult) (number : ℕ) (done : List Ran) (all : List Ran) (world : World)
    → after_command number (result_of left) (λ ran. RanAll (done ++ ran ∷ []) ran.world) ≡ RanAll all world → IsLast left all world
ran_by (Err stop) number done all world is = absurd cc
ran_by (Ok left) number done all world is = at left.cause refl is
  where
    goes_on : Ran → Folded
    goes_on ran = RanAll (done ++ ran ∷ []) ran.world

    by_zero : (status : ℕ) → left.cause ≡ cause.Status status → after_command number (by_status status left.step left.files) goes_on ≡ RanAll all world → IsLast (Ok left) all world
    by_zero zero same here =
        let last : Ran = record { steps = left.step; world = left.files } in
        let all_is : done ++ last ∷ [] ≡ all = cc in
        let world_is : left.files ≡ world = cc in
        record {
          before = done;
          last = last;
          ran_is = sym all_is;
          world_is = world_is;
          left_is = λ i. Ok (record { cause = same i; step = left.step; files = left.files });
        }
    by_zero (suc status) same here =
        not_both number (cause.Status (suc status)) left.step all world
        (ap (λ (found : CommandResult). after_command number found (λ (ran : Ran). RanAll (done ++ ran ∷ []) ran.world)) (sym (not_zero status left.step left.files)) ∙ here)

    at : (cause : CommandCause) → left.cause ≡ cause → after_command number (result_by_cause cause left.step left.files) goes_on ≡ RanAll all world → IsLast (Ok left) all world
    at (cause.Status status) same here = by_zero status same here
    at cause.NoProgram same here = absurd cc
    at (cause.Elf refusal) same here = absurd cc
    at (cause.Trap trap) same here = absurd cc
    at (cause.Call call) same here = absurd cc
    at cause.Spent same here = absurd cc

module _ (most : ℕ) (world : World) (earlier : List (List (List ℕ))) (words : List (List ℕ)) where
  -- the commands before it, by what they come to, with the command and the others after them
  after_them : (others : List (List (List ℕ))) (ran : List Ran) (left : World) → folded most world earlier ≡ RanAll ran left
      → folded most world (earlier ++ words ∷ others)
      ≡ after_command (length ran + 1) (result_of (command_left most (length earlier + 1) left words)) (λ one. fold_from most (ran ++ one ∷ []) one.world others)
  unfolding folded
  after_them others ran left is =
      further most [] ran world left earlier (words ∷ others) is
      ∙ ap (λ found. after_command (length ran + 1) found (λ one. fold_from most (ran ++ one ∷ []) one.world others)) (alone most (length earlier + 1) left words)

  pub stopped_here : (others : List (List (List ℕ))) (why : CommandCause) (step : ℕ) → folded most world (earlier ++ words ∷ others) ≡ Stopped (length earlier + 1) why step
      → StopsThere (length earlier + 1) why step (left_of_command most world earlier words)
  unfolding left_of_command
  stopped_here others why step is = by (folded most world earlier) refl
    where
      by : (prefix : Folded) → folded most world earlier ≡ prefix → StopsThere (length earlier + 1) why step (after_earlier most (length earlier + 1) words prefix)
      by (Stopped at cause before) same =
          let stays = kept_whole most world earlier (words ∷ others) at cause before same in
          let one = same_number at (length earlier + 1) cause why before step (sym stays.0 ∙ is) in
          absurd (omega (arith, one, stays.1))
      by (RanAll ran left) same =
          let count = count_ran most world left earlier ran same in
          stops_by (command_left most (length earlier + 1) left words) (length earlier + 1) (λ one. fold_from most (ran ++ one ∷ []) one.world others) why step
          (refused most (length earlier + 1) left words)
          (ap (λ (n : ℕ). after_command (n + 1) (result_of (command_left most (length earlier + 1) left words)) (λ one. fold_from most (ran ++ one ∷ []) one.world others)) (sym count)
          ∙ sym (after_them others ran left same) ∙ is)
          (λ one later. (let past = stops_later most others (ran ++ one ∷ []) one.world (length earlier + 1) why step later in omega (arith, past, count, length-append ran (one ∷ []))))

  pub all_ran : (ran : List Ran) (left : World) → folded most world (earlier ++ words ∷ []) ≡ RanAll ran left → IsLast (left_of_command most world earlier words) ran left
  unfolding left_of_command
  all_ran ran left is = by (folded most world earlier) refl
    where
      by : (prefix : Folded) → folded most world earlier ≡ prefix → IsLast (after_earlier most (length earlier + 1) words prefix) ran left
      by (Stopped at cause before) same =
          let stays = kept_whole most world earlier (words ∷ []) at cause before same in
          not_both at cause before ran left (sym stays.0 ∙ is)
      by (RanAll done before) same =
          ran_by (command_left most (length earlier + 1) before words) (length done + 1) done ran left (sym (after_them [] done before same) ∙ is)

-- ---- the command after those that ran, in the code's terms

pub left_here : (most : ℕ) (world left : World) (earlier : List (List (List ℕ))) (words : List (List ℕ)) (lines : List CommandLine)
    → Finishes (folded most world earlier) lines left → left_of_command most world earlier words ≡ command_left most (length earlier + 1) left words
unfolding left_of_command
left_here most world left earlier words lines finished = ap (after_earlier most (length earlier + 1) words) finished.is

pub ran_over : {E : Type 0} (meant : LeftResult) (number : ℕ) (left : CommandLeft) (result : Result (Result CommandLeft CommandCause) E) → meant ≡ Ok left
    → IfOk result (λ found. found ≡ Ok left) → IfOk result (LeavesOver meant number)
ran_over meant number left (Ok found) is same = subst (LeavesOver meant number) (sym same) is
ran_over meant number left (Err want) is same = tt

-- ---- where memory was wanting

prefix_program : (world : World) (xs more : List (List (List ℕ))) → 1 ≤ length xs → FirstHasProgram world xs → FirstHasProgram world (xs ++ more)
prefix_program world [] more some has = absurd (omega arith)
prefix_program world (x ∷ xs) more some has = has

-- one of the commands before, as one of them and the command that follows
pub wants_before : (most : ℕ) (world : World) (earlier more : List (List (List ℕ))) (number : ℕ) → number ≤ length earlier → WantsAt most world earlier number
    → WantsAt most world (earlier ++ more) number
wants_before most world earlier more number within at =
    let less : length at.ran + 1 ≤ length earlier = omega (arith, at.number_is, within) in
    record {
      ran = at.ran;
      left = at.left;
      number_is = at.number_is;
      before = ap (folded most world) (take-append-le (length at.ran) earlier more (omega (arith, less))) ∙ at.before;
      here = subst (FirstHasProgram at.left) (sym (drop-append-le (length at.ran) earlier more (omega (arith, less))))
          (prefix_program at.left (drop (length at.ran) earlier) more (omega (arith, less, length-drop (length at.ran) earlier)) at.here);
    }

-- the command itself, after those before it
pub wants_here : (most : ℕ) (world left : World) (earlier : List (List (List ℕ))) (words : List (List ℕ)) (lines : List CommandLine)
    → Finishes (folded most world earlier) lines left → HasProgram left words → WantsAt most world (earlier ++ words ∷ []) (length earlier + 1)
wants_here most world left earlier words lines finished has =
    let count = count_ran most world left earlier finished.done finished.is in
    record {
      ran = finished.done;
      left = left;
      number_is = ap (λ (n : ℕ). n + 1) (sym count);
      before = ap (λ (n : ℕ). folded most world (take n (earlier ++ words ∷ []))) count ∙ ap (folded most world) (take-append_seam earlier (words ∷ [])) ∙ finished.is;
      here = subst (λ (n : ℕ). FirstHasProgram left (drop n (earlier ++ words ∷ []))) (sym count)
          (subst (FirstHasProgram left) (sym (drop-append_seam earlier (words ∷ []))) has);
    }
