use Rattle.std.proofs.Common.{refl}
use Rattle.std.proofs.lemmas.Str.{is_utf8-from_IsUtf8}
use Rattle.recipe.specs.Text.Reading.{document_of}
use Rattle.recipe.proofs.TextLemmas.NoTexts.{is_no_text}
use Rattle.recipe.proofs.text.documents.document.Goals as goal

pub returns-in-Ok-table_from_str : goal.returns-in-Ok-table_from_str
unfolding document_of
returns-in-Ok-table_from_str c =
    let cases = c.in-Ok.ensures.cases in
    rw (is_utf8-from_IsUtf8 c.args.bytes.now cases.1, ← cases.0, c.in-Ok-table_from_str.ensures.ok) refl

pub returns-in-Err : goal.returns-in-Err
unfolding document_of
returns-in-Err c = rw (is_no_text c.args.bytes.now c.in-Err.ensures.cases.0) refl
