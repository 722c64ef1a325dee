use Rattle.std.proofs.Common.{◌≡◌, ◌∙◌, ℕ, List, arith, ap, map, sym, subst}
use Rattle.std.specs.Prelude.{IfOk, is_none}
use Rattle.std.specs.List.{join_with_byte}
use Rattle.audit_rules.specs.SourceCheck.Checks.{check}
use Rattle.audit_rules.specs.Contents.{content, text_of}
use Rattle.verifier.specs.Inside.Holdings.{so_far}
use Rattle.verifier.proofs.Rightness.{joined-only}
use Rattle.verifier.proofs.checking.gives_text.Goals as goal

pub returns-in-len1 : goal.returns-in-len1
unfolding text_of
returns-in-len1 c =
    let bytes = content c.args.held.now.recipe.now (so_far c.args.held.now) in
    let text : join_with_byte 10 (map bytes c.args.source.now.files) ≡ c.bytes.result.now =
    ap (λ files. join_with_byte 10 (map bytes files)) (sym c.as_slice.ensures)
    ∙ joined-only bytes c.as_slice.result.now c.only-item.result (omega arith) c.only-item.is ∙ sym c.bytes.ensures in
    subst (λ (t : List ℕ). IfOk c.gives.result (λ right. right ≡ is_none (check c.args.language c.args.source.now.base t c.args.made.now))) (sym text) c.gives.ensures
