use Rattle.std.proofs.Common.{Some, refl}
use Rattle.std.proofs.lemmas.Result.{err_from_is_err_and}
use Rattle.save_format.specs.ByteFields.Reader.{counted}
use Rattle.save_format.specs.Inside.Headers.{lists_relative_at}
use Rattle.save_format.specs.PatchText.PatchText.{changed_pages_at, content_relative_at, patched_file_at}
use Rattle.save_format.specs.StateText.Seen.{state_view}
use Rattle.save_format.specs.StateText.StateText.{after_descriptor, after_file, descriptor_at}
use Rattle.save_format.proofs.StateTextLemmas.Mapped.{header_says}
use Rattle.save_format.proofs.patch_text.mapping.patch_header.Goals as goal

pub returns-in_err-mappable : goal.returns-in_err-mappable
unfolding lists_relative_at
returns-in_err-mappable c =
    let p = err_from_is_err_and c.from_residual-in_err-mappable.result c.from_residual-in_err-mappable.ensures.1 in
    rw (p.1, p.2, c.in_ok-numbers.ensures, c.in_err-mappable.ensures) refl

pub returns : goal.returns
unfolding lists_relative_at
returns c =
    let base = state_view c.args.base.now in
    rw (c.in_ok-numbers.ensures, c.header.ensures)
    (header_says (changed_pages_at base.pages) (counted (patched_file_at base.files) after_file 0) (counted descriptor_at after_descriptor 0) (content_relative_at (Some base.stream1)) (content_relative_at (Some base.stream2))
    c.in_ok-numbers.numbers c.in_ok-mappable.ensures.0 _ _ c.in_ok-mappable.mappable c.in_ok-mappable.ensures.1 c.in_ok-mappable.ensures.2)
