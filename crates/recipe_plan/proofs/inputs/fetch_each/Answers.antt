use Rattle.std.proofs.Common.{◌+◌, ◌-◌, All, [], ◌∷◌, length, refl, sym, ap, ◌∙◌, subst}
use Rattle.std.proofs.lemmas.List.{length-append}
use Rattle.std.proofs.lemmas.List.Elements.{All-append, All-cons, All-nil}
use Rattle.ddc_base.specs.Limits.{most_content}
use Rattle.mem_files.specs.Outputs.{IsContent}
use Rattle.recipe.specs.declared.parts.Input.{Input}
use Rattle.command_plan.proofs.Gathering.{ends, fetched_within, goes_on, stops_at, wants}
use Rattle.command_plan.proofs.Obtaining.{stops_with}
use Rattle.recipe_plan.proofs.inputs.fetch_each.Goals as goal

pub loop-input-init : goal.loop-input-init
loop-input-init g c = rw c.new-contents.ensures (record { leads = λ next final result p. p; count = refl; each = All-nil IsContent })

pub size_of-budget-requires : goal.size_of-budget-requires
size_of-budget-requires g c =
    rw c.as_slice.ensures (fetched_within c.name_of.result most_content c.loop-input.budget c.min.result _ _ c.in_ok-content.content c.min.ensures c.in_ok-content.ensures.fetched).0

pub returns-in_err-content-clause-obtained : goal.returns-in_err-content-clause-obtained
returns-in_err-content-clause-obtained g c =
    stops_with c.from_residual.ensures.1
    (stops_at _ most_content c.loop-input.budget c.min.result c.loop-input.contents (λ (input : Input). input.path) c.args.inputs.now c.loop-input.input-index c.input-item.result c.name_of.result
    _ _ _ _ c.loop-input.invariant.leads c.loop-input-test.true c.input-item.is c.name_of.ensures c.min.ensures c.in_err-content.ensures.fetched)

pub returns-in_err-push-clause-obtained : goal.returns-in_err-push-clause-obtained
returns-in_err-push-clause-obtained g c =
    stops_with c.from_residual-in_err-push.ensures.1
    (wants _ most_content _ _ _ _ _
    (goes_on _ most_content c.loop-input.budget c.min.result c.loop-input.contents (λ (input : Input). input.path) c.args.inputs.now c.loop-input.input-index c.input-item.result c.name_of.result
    _ _ _ c.in_ok-content.content _ _ c.loop-input.invariant.leads c.loop-input-test.true c.input-item.is c.name_of.ensures c.min.ensures c.in_ok-content.ensures.fetched refl refl))

pub loop-input-preserved : goal.loop-input-preserved
loop-input-preserved g c =
    let pushed = c.in_ok-push.ensures.ok in
    record {
      leads = goes_on _ most_content c.loop-input.budget c.min.result c.loop-input.contents (λ (input : Input). input.path) c.args.inputs.now c.loop-input.input-index c.input-item.result
          c.name_of.result _ _ _ c.in_ok-content.content _ _ c.loop-input.invariant.leads c.loop-input-test.true c.input-item.is c.name_of.ensures c.min.ensures c.in_ok-content.ensures.fetched
          (ap (λ n. c.loop-input.budget - n) (c.size_of-budget.ensures.size ∙ ap length c.as_slice.ensures)) pushed;
      count = ap length pushed ∙ length-append c.loop-input.contents (c.in_ok-content.content ∷ []) ∙ ap (λ n. n + 1) c.loop-input.invariant.count;
      each = subst (All IsContent) (sym pushed)
          (All-append IsContent c.loop-input.contents (c.in_ok-content.content ∷ []) c.loop-input.invariant.each
          (All-cons IsContent c.in_ok-content.content [] (rw c.as_slice.ensures at c.size_of-budget.ensures.content) (All-nil IsContent)));
    }

pub returns-clause-obtained : goal.returns-clause-obtained
returns-clause-obtained g c =
    ends _ most_content c.loop-input.budget c.loop-input.contents _ _ (λ (input : Input). input.path) c.args.inputs.now c.loop-input.input-index c.loop-input.invariant.leads c.loop-input-test.false
