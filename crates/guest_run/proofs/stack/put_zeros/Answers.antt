use Rattle.std.proofs.Common.{◌++◌, [], ◌∷◌, sym, ap, ◌∙◌, append_assoc}
use Rattle.std.proofs.lemmas.List.{append-nil}
use Rattle.paged_mem.specs.Memory.{zeros}
use Rattle.guest_run.proofs.Texts.{zeros-none, zeros-more}
use Rattle.guest_run.proofs.stack.put_zeros.Goals as goal

pub loop-index-init : goal.loop-index-init
loop-index-init c = rw zeros-none (sym (append-nil _))

pub loop-index-preserved : goal.loop-index-preserved
loop-index-preserved c =
    c.in_ok-push.ensures.items ∙ ap (λ xs. xs ++ 0 ∷ []) c.loop-index.invariant
    ∙ append_assoc _ (zeros c.loop-index.index) (0 ∷ [])
    ∙ ap (λ xs. c.args.bytes.now.items ++ xs) (sym (zeros-more c.loop-index.index))
