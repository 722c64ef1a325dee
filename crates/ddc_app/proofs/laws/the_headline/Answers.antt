use Rattle.std.proofs.Common.{ap, ◌∙◌}
use Rattle.ddc_base.specs.declared.digests.Digest.{Digest}
use Rattle.ddc_app.proofs.Named.{bears, inputs-counted}
use Rattle.ddc_app.proofs.laws.the_headline.Goals as goal

pub returns : goal.returns
returns c recipe report files parsed inputs made held =
    let ok = c.a_recipe_that_reads_keeps_the_rules.ensures held.recipe_bytes parsed held.recipe_reads in
    let words = c.a_yes_in_its_own_words.ensures parsed inputs made ok (inputs-counted files parsed inputs held.inputs_held) in
    let says = c.verdicts.ensures.yes recipe report files parsed inputs made held in (
      λ status.
          let yes = words.1 (says.0 status) in
          record { named = ap (λ (d : Digest). d.0) yes.is_true.digest ∙ bears held.recipe_bytes parsed held.recipe_reads; yes = yes },
      λ answer. says.1 (words.0 answer.yes),
    )
