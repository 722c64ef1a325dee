use Rattle.std.proofs.Common.{◌≡◌, ap, ◌∙◌, sym, subst, arith}
use Rattle.std.specs.List.{fold}
use Rattle.std.specs.Map.Iter.{deref_pair}
use Rattle.std.proofs.lemmas.Map.Iter.{rest_more}
use Rattle.mem_files.specs.Inside.Cells.{keyed}
use Rattle.mem_files.specs.Calls.{first_world, with_file}
use Rattle.guest_run.specs.Start.{start_world, with_given}
use Rattle.guest_run.proofs.GivenLists.{can_start, CanPlace, place_next, placed_next, size-given, world-given}
use Rattle.guest_run.proofs.given.GivenFiles.start_files.Goals as goal

pub loop-name-init : goal.loop-name-init
loop-name-init c =
    let all : c.into_iter-name-iterator.result ≡ c.self.inside.entries.entries = cc in
    let empty : c.in_ok-files.files ≡ first_world = c.in_ok-files.ensures in
    let size = size-given (keyed (λ name. name.items) c.self.inside.entries.entries) _ _ c.self.invariant c.self.view_is in
    rw (all, empty) (
      world-given (keyed (λ name. name.items) c.self.inside.entries.entries) _ c.self.invariant.sorted c.self.view_is,
      can_start (keyed (λ name. name.items) c.self.inside.entries.entries) c.self.inside.size c.self.invariant.sorted c.self.invariant.each c.self.invariant.few c.self.invariant.counted (omega (arith, size, c.requires)),
    )

pub place_given-requires : goal.place_given-requires
place_given-requires c =
    let left = rest_more deref_pair c.loop-name.name-iterator c.next.new.self c.next.result (c.in-Some.name, c.in-Some.content) c.in-Some.is c.next.ensures.steps in
    let can = subst (λ list. CanPlace c.loop-name.files (keyed (λ name. name.items) list)) left c.loop-name.invariant.1 in
    rw (c.as_slice.ensures.value, c.as_slice-in-loop-name.ensures)
    (place_next c.loop-name.files (c.in-Some.name.now.items, c.in-Some.content.now) (keyed (λ name. name.items) c.next.new.self) can)

pub loop-name-preserved : goal.loop-name-preserved
loop-name-preserved c =
    let left = rest_more deref_pair c.loop-name.name-iterator c.next.new.self c.next.result (c.in-Some.name, c.in-Some.content) c.in-Some.is c.next.ensures.steps in
    let can = subst (λ list. CanPlace c.loop-name.files (keyed (λ name. name.items) list)) left c.loop-name.invariant.1 in
    let whole = subst (λ list. fold with_given c.loop-name.files (keyed (λ name. name.items) list) ≡ start_world c.args.self.now) left c.loop-name.invariant.0 in
    let placed : c.place_given.new.files ≡ with_file c.loop-name.files c.in-Some.name.now.items c.in-Some.content.now =
    rw (c.as_slice.ensures.value, c.as_slice-in-loop-name.ensures) at c.in_ok-place_given.ensures in (
      ap (λ w. fold with_given w (keyed (λ name. name.items) c.next.new.self)) placed ∙ whole,
      subst (λ w. CanPlace w (keyed (λ name. name.items) c.next.new.self)) (sym placed)
          (placed_next c.loop-name.files (c.in-Some.name.now.items, c.in-Some.content.now) (keyed (λ name. name.items) c.next.new.self) can),
    )
