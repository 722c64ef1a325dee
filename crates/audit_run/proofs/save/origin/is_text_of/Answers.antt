use Rattle.std.proofs.Common.{◌≡◌, ◌∙◌, false, refl, sym, true}
use Rattle.audit_run.proofs.SaveLemmas.Origins.{no_header, other_count, other_recipe, same_count}
use Rattle.audit_run.proofs.save.origin.is_text_of.Goals as goal

pub returns-then-not-is_same : goal.returns-then-not-is_same
returns-then-not-is_same c = λ save formed.
    other_recipe c.args.text.now c.new-cursor.result c.new-cursor.ensures save formed c.in-Ok.found c.in-Ok.count c.origin_of.new.cursor c.in-Ok.ensures c.args.recipe.now c.args.inputs.now
    (λ same. let is : false ≡ true = c.if-not-is_same.ensures.1 (same ∙ sym c.digest.ensures.value) in cc)

pub returns-then-count-inputs : goal.returns-then-count-inputs
returns-then-count-inputs c = λ save formed.
    other_count c.args.text.now c.new-cursor.result c.new-cursor.ensures save formed c.in-Ok.found c.in-Ok.count c.origin_of.new.cursor c.in-Ok.ensures c.args.recipe.now c.args.inputs.now c.if-count-inputs.true

pub returns-else-count-inputs : goal.returns-else-count-inputs
returns-else-count-inputs c = λ save formed.
    same_count c.args.text.now c.new-cursor.result c.new-cursor.ensures save formed c.in-Ok.found c.in-Ok.count c.origin_of.new.cursor c.in-Ok.ensures c.args.recipe.now c.args.inputs.now c.are_next.result
    (c.if-not-is_same.ensures.0 refl ∙ c.digest.ensures.value) c.if-count-inputs.false c.are_next.ensures

pub returns-in-Err : goal.returns-in-Err
returns-in-Err c = λ save formed.
    no_header c.args.text.now c.new-cursor.result c.new-cursor.ensures save formed c.in-Err.field-0.remaining c.in-Err.ensures false c.args.recipe.now c.args.inputs.now
