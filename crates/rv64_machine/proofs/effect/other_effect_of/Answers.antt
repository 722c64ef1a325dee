use Rattle.std.proofs.Common.{◌≡◌, ap, refl, ◌∙◌}
use Rattle.rv64_table.specs.declared.Op.{Op}
use Rattle.rv64_table.specs.declared.Op.TheVariants.{Lrw, Scw, Amoswapw, Amoaddw, Amoxorw, Amoandw, Amoorw, Amominw, Amomaxw, Amominuw, Amomaxuw, Lrd, Scd, Amoswapd, Amoaddd, Amoxord, Amoandd, Amoord, Amomind, Amomaxd, Amominud, Amomaxud}
use Rattle.rv64_machine.specs.declared.effect.Effect.TheVariants.{Put}
use Rattle.rv64_machine.specs.Inside.Computed.{computed, other_effect}
use Rattle.rv64_machine.proofs.effect.other_effect_of.Goals as goal

-- the rows that are not listed are not atomic
pub returns-in_default : goal.returns-in_default
returns-in_default c = ap Put c.value_of.ensures ∙ by_op c.args.op refl
  where
    by_op : (op : Op) → c.args.op ≡ op → Put (computed op c.args.a c.args.b c.args.i) ≡ other_effect op c.args.a c.args.b c.args.i
    by_op Lrw is = absurd (c.in_default.not-Lrw is)
    by_op Scw is = absurd (c.in_default.not-Scw is)
    by_op Amoswapw is = absurd (c.in_default.not-Amoswapw is)
    by_op Amoaddw is = absurd (c.in_default.not-Amoaddw is)
    by_op Amoxorw is = absurd (c.in_default.not-Amoxorw is)
    by_op Amoandw is = absurd (c.in_default.not-Amoandw is)
    by_op Amoorw is = absurd (c.in_default.not-Amoorw is)
    by_op Amominw is = absurd (c.in_default.not-Amominw is)
    by_op Amomaxw is = absurd (c.in_default.not-Amomaxw is)
    by_op Amominuw is = absurd (c.in_default.not-Amominuw is)
    by_op Amomaxuw is = absurd (c.in_default.not-Amomaxuw is)
    by_op Lrd is = absurd (c.in_default.not-Lrd is)
    by_op Scd is = absurd (c.in_default.not-Scd is)
    by_op Amoswapd is = absurd (c.in_default.not-Amoswapd is)
    by_op Amoaddd is = absurd (c.in_default.not-Amoaddd is)
    by_op Amoxord is = absurd (c.in_default.not-Amoxord is)
    by_op Amoandd is = absurd (c.in_default.not-Amoandd is)
    by_op Amoord is = absurd (c.in_default.not-Amoord is)
    by_op Amomind is = absurd (c.in_default.not-Amomind is)
    by_op Amomaxd is = absurd (c.in_default.not-Amomaxd is)
    by_op Amominud is = absurd (c.in_default.not-Amominud is)
    by_op Amomaxud is = absurd (c.in_default.not-Amomaxud is)
    by_op _ is = refl
