-- All pieces together.
use Rattle.std.proofs.Common.{◌≡◌, ℕ, zero, suc, ◌+◌, ◌-◌, Bool, true, false, cond, Some, Result, Ok, Err, List, [], ◌∷◌, refl, sym, ap, ◌∙◌, subst, arith}
use Rattle.std.specs.Prelude.{nat_lt}
use Rattle.elf_load.specs.declared.Image.{Image}
use Rattle.elf_load.specs.declared.refusal.ElfRefusal.{ElfRefusal}
use Rattle.elf_load.specs.Image.{image_of}
use Rattle.ddc_base.specs.Limits.{most_texts, most_total}
use Rattle.guest_run.specs.declared.run.RunEnd.{RunEnd}
use Rattle.guest_run.specs.declared.run.RunEnd.TheVariants as run
use Rattle.guest_run.specs.Run.{after, end_at, end_of, first_end, End, Exited, Trapped, UnknownCall, Runs}
use Rattle.guest_run.specs.Setting.{Setting, files_size}
use Rattle.guest_run.specs.Stack.{start_size}
use Rattle.guest_run.specs.Start.{ArgsTooLong, BoxTooLarge, Refusal, start_of, start_state, started}
use Rattle.guest_run.specs.State.{GuestState}
use Rattle.guest_run.proofs.Running.{after-counted, after-none, end_at-next}
use Rattle.guest_run.proofs.RunLaws.{after-sum, ends_after, first_end-at, first_end-found, no_end_at-zero}
use Rattle.checkpoints.specs.Checkpoint.{guest_of}
use Rattle.segments.specs.Segments.{AreLinked, BeginsWith, EndsWith, IsRunsEnd, IsStateOf, IsWholeRun, last_text}

-- a text is that of one state
pub one_state : (text : List ℕ) (a b : GuestState) → IsStateOf text a → IsStateOf text b → a ≡ b
one_state text a b first second =
    let both : Ok first.0 ≡ Ok second.0 = sym first.1 ∙ second.1 in
    let same : first.0 ≡ second.0 = cc in
    first.4 ∙ ap guest_of same ∙ sym second.4

-- no step is taken at a start
steps_of : Result GuestState Refusal → ℕ
steps_of (Ok guest) = guest.steps
steps_of (Err refusal) = 0

fresh-by : (program : List ℕ) (setting : Setting) (image : Result Image ElfRefusal) → steps_of (started program setting image) ≡ 0
unfolding steps_of start_state
fresh-by program setting (Err refusal) = refl
fresh-by program setting (Ok image) = by (nat_lt most_texts (start_size setting.args setting.env)) (nat_lt most_total (files_size setting.files))
  where
    by : (a b : Bool) → steps_of (cond a (Err ArgsTooLong) (cond b (Err BoxTooLarge) (Ok (start_state program setting image)))) ≡ 0
    by true b = refl
    by false true = refl
    by false false = refl

pub fresh : (program : List ℕ) (setting : Setting) (guest : GuestState) → start_of program setting ≡ Ok guest → guest.steps ≡ 0
unfolding start_of steps_of
fresh program setting guest starts = sym (ap steps_of starts) ∙ fresh-by program setting (image_of program)

-- along the texts the run goes on to the last one's state
pub record Reaches (begun : GuestState) (text : List ℕ) : Type 0 where
  pub last : GuestState
  pub is : IsStateOf text last
  pub there : after begun last.steps ≡ Some last

pub reaches : (begun : GuestState) (text : List ℕ) (texts : List (List ℕ)) → Reaches begun text → AreLinked text texts → Reaches begun (last_text text texts)
reaches begun text [] at linked = at
reaches begun text (next' ∷ texts) at linked =
    let steps = linked.0.0 in
    let piece = linked.0.1 in
    let same : piece.states.first ≡ at.last = one_state text piece.states.first at.last piece.states.from_is at.is in
    let counted : piece.states.last.steps ≡ at.last.steps + steps = piece.piece.counted ∙ ap (λ (g : GuestState). g.steps + steps) same in
    let here : after at.last steps ≡ Some piece.states.last = ap (λ (g : GuestState). after g steps) (sym same) ∙ piece.piece.reached in
    reaches begun next' texts (record {
      last = piece.states.last;
      is = piece.states.to_is;
      there = ap (after begun) counted ∙ after-sum begun at.last at.last.steps steps at.there ∙ here;
    }) linked.1

-- the end of the run from there is that of the whole
record Ended (begun guest : GuestState) (end : End) : Type 0 where
  reached : after begun guest.steps ≡ Some guest
  ends : first_end begun (guest.steps + 1) ≡ Some (end, guest)

ended-at : (begun last guest : GuestState) (most number : ℕ) (end : End) → after begun last.steps ≡ Some last → end_at last number ≡ Some (end, guest) → Ended begun guest end
ended-at begun last guest most zero end there at = absurd (no_end_at-zero last (end, guest) at)
ended-at begun last guest most (suc count) end there at =
    let parts = ends_after last count (end, guest) at in
    let counted : guest.steps ≡ last.steps + count = after-counted last guest count parts.0 in
    let reached : after begun guest.steps ≡ Some guest = ap (after begun) counted ∙ after-sum begun last last.steps count there ∙ parts.0 in
    let ended : end_at begun (suc guest.steps) ≡ Some (end, guest) = end_at-next begun guest guest.steps reached ∙ ap (end_of guest) parts.1 in
    let one : suc guest.steps ≡ guest.steps + 1 = omega arith in
    record { reached = reached; ends = ap (first_end begun) (sym one) ∙ first_end-found begun (suc guest.steps) (suc guest.steps) (end, guest) (omega arith) ended }

ended-by : (begun last guest : GuestState) (most : ℕ) (end : End) → after begun last.steps ≡ Some last → first_end last most ≡ Some (end, guest) → Ended begun guest end
ended-by begun last guest most end there is =
    let at = first_end-at last most (end, guest) is in
    ended-at begun last guest most at.0 end there at.2

pub whole-by : (program : List ℕ) (setting : Setting) (begun last guest : GuestState) (most : ℕ) (why : RunEnd) → start_of program setting ≡ Ok begun
    → after begun last.steps ≡ Some last → IsRunsEnd why → Runs last most why guest → IsWholeRun program setting guest why
whole-by program setting begun last guest most (run.Exited status) starts there end runs =
    let e = ended-by begun last guest most (Exited status) there runs in
    record { begun = begun; starts = starts; reached = e.reached; ends = e.ends }
whole-by program setting begun last guest most (run.Trapped cause) starts there end runs =
    let e = ended-by begun last guest most (Trapped cause) there runs in
    record { begun = begun; starts = starts; reached = e.reached; ends = e.ends }
whole-by program setting begun last guest most (run.UnknownCall number) starts there end runs =
    let e = ended-by begun last guest most (UnknownCall number) there runs in
    record { begun = begun; starts = starts; reached = e.reached; ends = e.ends }
whole-by program setting begun last guest most run.Spent starts there end runs = absurd end
whole-by program setting begun last guest most run.OutOfMemory starts there end runs = absurd end

pub whole-law : (program : List ℕ) (setting : Setting) (text : List ℕ) (texts : List (List ℕ)) (limit : ℕ) (guest : GuestState) (why : RunEnd)
    → BeginsWith program setting text → AreLinked text texts → EndsWith (last_text text texts) limit guest why → IsWholeRun program setting guest why
whole-law program setting text texts limit guest why start linked ends =
    let none = fresh program setting start.guest start.starts in
    let first : Reaches start.guest text = record { last = start.guest; is = start.is; there = ap (after start.guest) none ∙ after-none start.guest } in
    let there = reaches start.guest text texts first linked in
    let same : ends.from ≡ there.last = one_state (last_text text texts) ends.from there.last ends.is there.is in
    whole-by program setting start.guest there.last guest (limit - ends.from.steps) why start.starts there.there ends.end
    (subst (λ (g : GuestState). Runs g (limit - ends.from.steps) why guest) same ends.ends)
