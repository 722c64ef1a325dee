use Rattle.std.proofs.Common.{◌≡◌, ◌∙◌, Ok, true, false, inl, inr, sym, ap, subst}
use Rattle.std.specs.Prelude.{bytes_eq}
use Rattle.std.proofs.lemmas.Bool.{cases_Bool}
use Rattle.std.proofs.lemmas.Slice.Eq.{bytes_eq-Decides}
use Rattle.ddc_base.specs.declared.digests.Digest.{Digest}
use Rattle.recipe.specs.declared.contents.RecipeContents.{RecipeContents}
use Rattle.recipe.specs.Reading.{recipe_of}
use Rattle.audit_rules.specs.declared.answer.AuditAnswer.TheVariants.{Completes}
use Rattle.audit_rules.specs.Bench.{bench}
use Rattle.audit_rules.specs.Valid.{IsInputs}
use Rattle.verify_commands.specs.Provenance.{origin_text}
use Rattle.ddc_app.proofs.Named.{bears}
use Rattle.ddc_app.proofs.laws.printed_digests_settle_it.Goals as goal

pub returns : goal.returns
returns c bytes other_bytes parsed other_parsed inputs others made other name stage reads other_reads digest one two is was at printed =
    elim (cases_Bool (bytes_eq bytes other_bytes)) [
      | inl same ↦
          let read = sym reads ∙ ap recipe_of ((bytes_eq-Decides bytes other_bytes).0 same) ∙ other_reads in
          let recipes : other_parsed ≡ parsed = cc in
          let ok = c.a_recipe_that_reads_keeps_the_rules.ensures bytes parsed reads in
          let settled =
          c.what_is_printed_settles_it.ensures parsed inputs others made other name stage ok one (subst (λ (r : RecipeContents). IsInputs r others) recipes two) is
          (subst (λ (r : RecipeContents). bench r others ≡ Completes other) recipes was) at (printed ∙ ap (λ (r : RecipeContents). origin_text r others other name) recipes) in
          elim settled [
            | inl artefact ↦ inl artefact
            | inr found ↦ inr (record { one = found.one; other = found.other; digests = found.digests; differ = found.differ })
          ]
      | inr apart ↦
          inr (record {
            one = bytes;
            other = other_bytes;
            digests = sym (bears bytes parsed reads) ∙ ap (λ (d : Digest). d.0) digest ∙ bears other_bytes other_parsed other_reads;
            differ = λ same. let both : false ≡ true = sym apart ∙ (bytes_eq-Decides bytes other_bytes).1 same in absurd cc;
          })
    ]
