use Rattle.std.proofs.Common.{◌≡◌, false, subst, true, refl, arith}
use Rattle.audit_run.proofs.SaveLemmas.Origins.{Tells, no_next, other_next, same_next, split, wrong_next}
use Rattle.audit_run.proofs.save.origin.+are_next.Goals as goal

pub returns-in-empty : goal.returns-in-empty
returns-in-empty t c = no_next c.args.inputs.now c.args.cursor.now (omega (arith, c.in-empty.len_below))

pub returns-then-not-is_digest_of : goal.returns-then-not-is_digest_of
returns-then-not-is_digest_of t c =
    subst (λ inputs. Tells inputs false c.args.cursor.now) (split c.args.inputs.now c.input-item.result c.in-len1-up.len_at_least c.input-item.is)
    (other_next c.input-item.result _ c.args.cursor.now c.digest_of.new.cursor c.in-Ok.digest c.in-Ok.ensures (λ same. let is : false ≡ true = c.if-not-is_digest_of.ensures.1 same in cc))

pub returns-else-not-is_digest_of : goal.returns-else-not-is_digest_of
returns-else-not-is_digest_of t c =
    subst (λ inputs. Tells inputs c.are_next.result c.args.cursor.now) (split c.args.inputs.now c.input-item.result c.in-len1-up.len_at_least c.input-item.is)
    (same_next c.input-item.result _ c.args.cursor.now c.digest_of.new.cursor c.in-Ok.digest c.are_next.result c.in-Ok.ensures (c.if-not-is_digest_of.ensures.0 refl) c.are_next.ensures)

pub returns-in-Err : goal.returns-in-Err
returns-in-Err t c =
    subst (λ inputs. Tells inputs false c.args.cursor.now) (split c.args.inputs.now c.input-item.result c.in-len1-up.len_at_least c.input-item.is)
    (wrong_next c.input-item.result _ c.args.cursor.now c.in-Err.field-0.remaining false c.in-Err.ensures)
