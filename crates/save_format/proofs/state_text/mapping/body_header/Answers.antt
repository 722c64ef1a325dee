use Rattle.std.proofs.Common.{refl}
use Rattle.std.proofs.lemmas.Result.{err_from_is_err_and}
use Rattle.std.specs.Int.{w32}
use Rattle.save_format.specs.ByteFields.Reader.{blob, counted}
use Rattle.save_format.specs.Inside.Headers.{lists_at}
use Rattle.save_format.specs.StateText.StateText.{after_descriptor, after_file, after_page, descriptor_at, file_at, page_at}
use Rattle.save_format.proofs.StateTextLemmas.Mapped.{header_says}
use Rattle.save_format.proofs.state_text.mapping.body_header.Goals as goal

pub returns-in_err-mappable : goal.returns-in_err-mappable
unfolding lists_at
returns-in_err-mappable c =
    let p = err_from_is_err_and c.from_residual-in_err-mappable.result c.from_residual-in_err-mappable.ensures.1 in
    rw (p.1, p.2, c.in_ok-numbers.ensures, c.in_err-mappable.ensures) refl

pub returns : goal.returns
unfolding lists_at
returns c =
    rw (c.in_ok-numbers.ensures, c.header.ensures)
    (header_says (counted page_at after_page 0) (counted file_at after_file 0) (counted descriptor_at after_descriptor 0) (blob w32) (blob w32)
    c.in_ok-numbers.numbers c.in_ok-mappable.ensures.0 _ _ c.in_ok-mappable.mappable c.in_ok-mappable.ensures.1 c.in_ok-mappable.ensures.2)
