use Rattle.std.proofs.Common.{◌≡◌, arith, ap}
use Rattle.std.specs.FinMap as finite
use Rattle.guest_run.specs.Setting.{Setting}
use Rattle.verifier.proofs.StageRules.{args-are, env-is, files-can, heap-is, text-at}
use Rattle.verifier.proofs.context.box_of.Goals as goal

pub new-context-requires : goal.new-context-requires
new-context-requires c = heap-is c.args.held.now.recipe.now c.args.stage.now c.requires.held.recipe c.requires.known

pub push_arg-requires : goal.push_arg-requires
push_arg-requires c =
    text-at c.args.stage.now.args c.as_slice-text-items.result.now c.loop-text.text-index c.text-item.result c.as_slice.result.now
    (args-are c.args.held.now.recipe.now c.args.stage.now c.requires.held.recipe c.requires.known)
    c.as_slice-text-items.ensures (omega arith) c.text-item.is c.as_slice.ensures

pub push_env-requires : goal.push_env-requires
push_env-requires c =
    text-at c.args.stage.now.env c.as_slice-variable-items.result.now c.loop-variable.variable-index c.variable-item.result c.as_slice-in-loop-variable.result.now
    (env-is c.args.held.now.recipe.now c.args.stage.now c.requires.held.recipe c.requires.known)
    c.as_slice-variable-items.ensures (omega arith) c.variable-item.is c.as_slice-in-loop-variable.ensures

pub place_files-requires-clause-free : goal.place_files-requires-clause-free
place_files-requires-clause-free c =
    let empty : c.loop-variable.context.files ≡ finite.empty = ap (λ (s : Setting). s.files) c.loop-variable.invariant in
    rw (empty, c.as_slice-2.ensures) (files-can c.args.held.now.recipe.now c.args.stage.now c.requires.held.recipe c.requires.known)
