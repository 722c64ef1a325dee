use Rattle.std.proofs.Common.{ap, sym, subst, ◌∙◌, ◌≡◌, Some, rules}
use Rattle.std.specs.Prelude.{ℤ, FitsSigned}
use Rattle.std.specs.Int.{w64}
use Rattle.std.proofs.lemmas.Int.{to_z-of_z}
use Rattle.m1_lang.specs.Words.Forms.{FormTokens, number_after, number_tokens}
use Rattle.m1_lang.specs.Words.Numbers.{number_in}
use Rattle.m1_lang.specs.Words.Meanings.{MeansResult}
use Rattle.m1_lang.specs.Words.Representation.Meanings.{MeansForm}
use Rattle.m1_lang.proofs.WordsLemmas.Capping.{number_after-capped, fits-given}
use Rattle.m1_lang.proofs.words.meaning.signed.Goals as goal

pub returns-in-None : goal.returns-in-None
returns-in-None c =
    sym (number_after-capped c.args.sign c.args.rest.now) ∙ ap (number_after c.args.sign) (sym c.number_in.ensures.value ∙ c.in-None.is)

pub returns-in-Some : goal.returns-in-Some
returns-in-Some c =
    let is : number_after c.args.sign (number_in c.args.rest.now) ≡ number_after c.args.sign (Some c.in-Some.n) =
    sym (number_after-capped c.args.sign c.args.rest.now) ∙ ap (number_after c.args.sign) (sym c.number_in.ensures.value ∙ c.in-Some.is) in
    let fits : FitsSigned w64 c.in-Some.n = search rules in
    subst (λ (f : FormTokens). MeansForm (Some c.number_after.result) f) (sym is)
    (fits-given c.number_after.result (number_tokens c.args.sign c.in-Some.n)
    (subst (λ (n : ℤ). MeansResult c.number_after.result (number_tokens c.args.sign n)) (to_z-of_z w64 c.in-Some.n fits) c.number_after.ensures))
