use Rattle.std.proofs.Common.{arith}
use Rattle.recipe.specs.declared.text.keys.Key.TheVariants as key
use Rattle.recipe.proofs.TextLemmas.Accepted.{required_ok, number_ok}
use Rattle.recipe.specs.Text.Reading.{a_number}
use Rattle.recipe.specs.Tables.{top_place}
use Rattle.recipe.proofs.prefix.format_of.Goals as goal

pub overflow_cast-result : goal.overflow_cast-result
overflow_cast-result c =
    let at = required_ok (a_number 1 2) top_place key.Format _ c.in_ok-format.format c.in_ok-format.ensures.value in
    let range = number_ok 1 2 top_place key.Format at.0 c.in_ok-format.format at.1 in
    record { fits = omega (arith, range.1) }
