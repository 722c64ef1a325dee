use Rattle.std.proofs.Common.{◌∙◌, drop, take, ap}
use Rattle.step_debug.proofs.Written.{joined, regs_of}
use Rattle.step_debug.proofs.replies.regs_line.Goals as goal

pub returns : goal.returns
returns c =
    regs_of _ _ _ _ c.pc.ensures (ap (λ r. take 31 (drop 1 r)) (c.registers-registers.ensures.value ∙ ap (λ h. h.registers) c.hart.ensures))
    (joined _ _ _ _ _ _ _ c.new-text.ensures c.in_ok-put_address.ensures c.in_ok-put_values.ensures c.in_ok-push.ensures.ok)
