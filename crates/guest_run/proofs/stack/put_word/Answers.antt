use Rattle.std.proofs.Common.{◌++◌, ap, ◌∙◌}
use Rattle.guest_run.proofs.Texts.{le_bytes-are}
use Rattle.guest_run.proofs.stack.put_word.Goals as goal

pub returns : goal.returns
returns c =
    c.in_ok-extend_from_slice.ensures.items
    ∙ ap (λ xs. c.args.bytes.now.items ++ xs) (c.to_le_bytes.ensures ∙ le_bytes-are c.args.word)
