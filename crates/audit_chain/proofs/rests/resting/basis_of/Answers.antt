use Rattle.std.proofs.Common.{filter_map, sym, ap, ap₂, ◌∙◌}
use Rattle.std.specs.Prelude.{filter}
use Rattle.wheeler.specs.Routes.{about}
use Rattle.audit_chain.specs.Rests.Basis.{layout_name, layouts, own_layout, ran, ran_name, spoken, spoken_name, text_name, texts}
use Rattle.audit_chain.specs.Rests.Walk.{runs_meet}
use Rattle.audit_chain.proofs.RestsLemmas.Least.{lines-are}
use Rattle.audit_chain.proofs.rests.resting.basis_of.Goals as goal

pub returns-clause-texts : goal.returns-clause-texts
unfolding texts
returns-clause-texts c =
    c.in_ok-texts.ensures ∙ ap (λ parts. filter_map (text_name parts) c.args.recipe.now.inputs) (c.as_slice.ensures ∙ c.in_ok-parts.ensures)

pub returns-clause-layouts : goal.returns-clause-layouts
unfolding layouts
returns-clause-layouts c =
    c.in_ok-layouts.ensures ∙ ap (λ parts. filter_map (layout_name c.args.recipe.now parts) c.args.recipe.now.stages) (c.as_slice-2.ensures ∙ c.in_ok-parts.ensures)

pub returns-clause-own_layout : goal.returns-clause-own_layout
unfolding own_layout
returns-clause-own_layout c = c.in_ok-own_layout.ensures

pub returns-clause-ran : goal.returns-clause-ran
unfolding ran
returns-clause-ran c =
    c.in_ok-ran.ensures ∙ ap (λ parts. filter_map (ran_name parts) c.args.recipe.now.stages) (c.as_slice-3.ensures ∙ c.in_ok-parts.ensures)

pub returns-clause-lines : goal.returns-clause-lines
returns-clause-lines c =
    c.in_ok-lines.ensures
    ∙ ap₂ (λ parts whole. filter (λ line. runs_meet parts (about line)) whole) (c.as_slice-4.ensures ∙ c.in_ok-parts.ensures) (c.as_slice-5.ensures ∙ c.in_ok-whole.ensures)
    ∙ sym (lines-are c.args.recipe.now c.args.name.now)

pub returns-clause-spoken : goal.returns-clause-spoken
unfolding spoken
returns-clause-spoken c =
    let these =
    c.in_ok-lines.ensures
    ∙ ap₂ (λ parts whole. filter (λ line. runs_meet parts (about line)) whole) (c.as_slice-4.ensures ∙ c.in_ok-parts.ensures) (c.as_slice-5.ensures ∙ c.in_ok-whole.ensures)
    ∙ sym (lines-are c.args.recipe.now c.args.name.now) in
    c.in_ok-spoken.ensures ∙ ap (λ lines. filter_map (spoken_name c.args.recipe.now lines) c.args.recipe.now.stages) (c.as_slice-6.ensures ∙ these)
