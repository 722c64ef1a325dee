use Rattle.std.proofs.Common.{◌≡◌, ℕ, List, Option, Some, None, refl, ap, ◌∙◌, unwrap_or, []}
use Rattle.mem_files.specs.Calls.{content_at, drained, with_file}
use Rattle.mem_files.proofs.Walks.{walk-name, walk-shorter}
use Rattle.kaem_script.proofs.Moving.{moving-begins, moving-content, moving-goes-on, moving-name}
use Rattle.kaem_script.proofs.Renewing.{placing-begins, placing-ends, placing-fits, placing-goes-on}
use Rattle.kaem_script.proofs.present.move_all.Goals as goal

pub loop-last-init : goal.loop-last-init
loop-last-init c = record {
  placing = placing-begins c.args.left.now c.args.files.now c.show_sound.ensures c.requires;
  moving = moving-begins c.args.left.now;
}

pub take_content-content-requires : goal.take_content-content-requires
take_content-content-requires c =
    let found = moving-name c.args.left.now c.loop-last.left c.loop-last.last _ c.loop-last.invariant.moving c.in_ok-name.ensures ∙ c.in-Some.is in
    rw c.as_slice.ensures (walk-name c.args.left.now _ _ c.show_sound.ensures found)

pub place-requires : goal.place-requires
place-requires c =
    let found = moving-name c.args.left.now c.loop-last.left c.loop-last.last _ c.loop-last.invariant.moving c.in_ok-name.ensures ∙ c.in-Some.is in
    let name : c.as_slice.result.now ≡ c.in-Some.name = c.as_slice.ensures in
    let again : c.as_slice-in-Some.result.now ≡ c.in-Some.name = c.as_slice-in-Some.ensures in
    let content = c.take_content-content.ensures.value ∙ ap (λ n. unwrap_or (content_at c.loop-last.left n) []) name in
    rw again (placing-fits c.args.left.now c.loop-last.last c.loop-last.files c.in-Some.name _ c.loop-last.invariant.placing found
    (moving-content c.args.left.now c.loop-last.left c.loop-last.last c.in-Some.name _ c.loop-last.invariant.moving found content))

pub loop-last-smaller : goal.loop-last-smaller
loop-last-smaller c =
    let found = moving-name c.args.left.now c.loop-last.left c.loop-last.last _ c.loop-last.invariant.moving c.in_ok-name.ensures ∙ c.in-Some.is in
    walk-shorter c.args.left.now c.loop-last.last c.in-Some.name found

pub loop-last-preserved : goal.loop-last-preserved
loop-last-preserved c =
    let found = moving-name c.args.left.now c.loop-last.left c.loop-last.last _ c.loop-last.invariant.moving c.in_ok-name.ensures ∙ c.in-Some.is in
    let name : c.as_slice.result.now ≡ c.in-Some.name = c.as_slice.ensures in
    let again : c.as_slice-in-Some.result.now ≡ c.in-Some.name = c.as_slice-in-Some.ensures in
    let taken = c.take_content-content.ensures.value ∙ ap (λ n. unwrap_or (content_at c.loop-last.left n) []) name in
    let content = moving-content c.args.left.now c.loop-last.left c.loop-last.last c.in-Some.name _ c.loop-last.invariant.moving found taken in
    let put = c.in_ok-place.ensures ∙ ap (λ n. with_file c.loop-last.files n c.take_content-content.result.items) again in
    let left = c.take_content-content.ensures.left ∙ ap (drained c.loop-last.left) name in
    record {
      placing = placing-goes-on c.args.left.now c.loop-last.last c.loop-last.files c.place.new.files c.in-Some.name c.take_content-content.result.items
          c.loop-last.invariant.placing found content put;
      moving = moving-goes-on c.args.left.now c.loop-last.left c.take_content-content.new.self c.loop-last.last c.in-Some.name c.show_sound.ensures
          c.loop-last.invariant.moving found left;
    }

pub returns : goal.returns
returns c =
    placing-ends c.args.left.now c.loop-last.last c.loop-last.files c.loop-last.invariant.placing
    (moving-name c.args.left.now c.loop-last.left c.loop-last.last _ c.loop-last.invariant.moving c.in_ok-name.ensures ∙ none-of _ c.in_default.not-Some)
  where
    none-of : (o : Option (List ℕ)) → ((x : List ℕ) → o ≡ Some x → ⊥) → o ≡ None
    none-of None h = refl
    none-of (Some x) h = absurd (h x refl)
