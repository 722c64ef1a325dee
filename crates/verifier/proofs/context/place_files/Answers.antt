use Rattle.std.proofs.Common.{◌≤◌, ◌∙◌, ℕ, List, length, arith, sym, ap, subst}
use Rattle.std.specs.FinMap as finite
use Rattle.std.specs.List.{fold}
use Rattle.ddc_base.specs.Limits.{most_content}
use Rattle.guest_run.specs.Setting.{Setting}
use Rattle.audit_rules.specs.Contents.{with_stage_file}
use Rattle.audit_rules.proofs.GivenBoxes.{content-is}
use Rattle.verifier.specs.Inside.Holdings.{so_far}
use Rattle.verifier.proofs.Placing.{turn}
use Rattle.verifier.proofs.context.place_files.Goals as goal

pub place-requires-clause-small : goal.place-requires-clause-small
place-requires-clause-small c =
    let is = content-is c.args.held.now.recipe.now (so_far c.args.held.now) c.file-item.result.from (record { inputs = c.requires.held.inputs; artefacts = c.requires.held.artefacts }) in
    subst (λ (bytes : List ℕ). length bytes ≤ most_content) (sym c.bytes.ensures) is.small

pub loop-file-preserved : goal.loop-file-preserved
loop-file-preserved c =
    let before = c.loop-file.invariant.2 in
    let done = c.in_ok-place.ensures in
    let next =
    turn c.args.held.now.recipe.now (so_far c.args.held.now) c.loop-file.context.files c.place.new.context.files c.args.files.now c.loop-file.file-index c.file-item.result
    (fold (with_stage_file c.args.held.now.recipe.now (so_far c.args.held.now)) c.args.context.now.files c.args.files.now)
    (omega arith) c.file-item.is c.loop-file.invariant.0 c.loop-file.invariant.1
    (ap (λ (s : Setting). s.files) done ∙ (λ i. finite.insert c.loop-file.context.files (c.as_slice.ensures i) (c.bytes.ensures i))) in (
      next.0,
      next.1,
      done
          ∙ (λ i. record {
            args = ap (λ (s : Setting). s.args) before i;
            env = ap (λ (s : Setting). s.env) before i;
            files = sym (ap (λ (s : Setting). s.files) done) i;
            heap = ap (λ (s : Setting). s.heap) before i;
          }),
    )
