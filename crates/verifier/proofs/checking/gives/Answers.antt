use Rattle.std.proofs.Common.{◌≡◌, ◌∙◌, sym, ap, subst}
use Rattle.std.specs.Prelude.{IfOk, bytes_eq, is_none}
use Rattle.hex_langs.specs.Hex0.{hex0_of}
use Rattle.audit_rules.specs.SourceCheck.Checks.{check}
use Rattle.verifier.proofs.Refused.{m1-refused}
use Rattle.verifier.proofs.Rightness.{no-difference}
use Rattle.verifier.proofs.checking.gives.Goals as goal

pub returns-in_ok-hex0-in-Hex0 : goal.returns-in_ok-hex0-in-Hex0
unfolding check
returns-in_ok-hex0-in-Hex0 c =
    c.eq.ensures ∙ ap (λ bytes. bytes_eq bytes c.args.made.now) (c.as_slice-in-Hex0.ensures ∙ c.in_ok-hex0-in-Hex0.ensures.value)
    ∙ sym (no-difference (hex0_of c.args.source.now) c.args.made.now)
    ∙ ap (λ language. is_none (check language c.args.base c.args.source.now c.args.made.now)) (sym c.in-Hex0.is)

pub returns-in-Err : goal.returns-in-Err
unfolding check
returns-in-Err c =
    subst (λ language. IfOk c.m1_refused.result (λ right. right ≡ is_none (check language c.args.base c.args.source.now c.args.made.now))) (sym c.in-M1.is)
    (m1-refused c.args.made.now _ c.in-Err.refusal _ c.in-Err.ensures c.m1_refused.ensures)
