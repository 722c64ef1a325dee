use Rattle.std.proofs.Common.{◌≤◌, ◌+◌, drop, map, refl, sym, ap, ◌∙◌, arith}
use Rattle.std.proofs.lemmas.Result.{err_from_is_err_and}
use Rattle.save_format.proofs.ByteFieldsLemmas.Loop.{sets_out, went_on, went_past, went_wrong}
use Rattle.save_format.specs.StateText.Seen.{file_view}
use Rattle.save_format.specs.PatchText.PatchText.{patched_file_at}
use Rattle.save_format.specs.StateText.StateText.{after_file}
use Rattle.save_format.proofs.PatchTextLemmas.Listing.{file_alike, file_from_least, file_number}
use Rattle.save_format.proofs.PatchTextLemmas.Rising.{rises_lower}
use Rattle.save_format.proofs.patch_text.passing.pass_files.Goals as goal

pub loop-init : goal.loop-init
loop-init c = record {
  at = omega arith;
  rises = c.requires;
  same = λ k le. refl;
  went = rw c.in_ok-count.ensures (sets_out (patched_file_at (map file_view c.args.base.now)) after_file 0 c.in_ok-count.count _);
}

pub file_of-requires-clause-rises : goal.file_of-requires-clause-rises
file_of-requires-clause-rises c = rises_lower file_number c.loop.least 0 _ (omega arith) c.loop.invariant.rises

pub returns-in_err-file : goal.returns-in_err-file
returns-in_err-file c =
    let p = err_from_is_err_and c.from_residual-in_err-file.result c.from_residual-in_err-file.ensures.1 in
    rw (p.1, p.2) (went_wrong (patched_file_at (map file_view c.args.base.now)) after_file c.loop.least c.in_err-file.field-0.0.remaining c.in_ok-count.count c.loop.counter c.loop.cursor _ c.loop-test.true
    (sym (file_alike (map file_view c.args.base.now) (map file_view (drop c.loop.at c.args.base.now)) c.loop.least c.loop.cursor c.loop.invariant.same) ∙ c.in_err-file.ensures.read) c.loop.invariant.went)

pub loop-preserved : goal.loop-preserved
loop-preserved c =
    let read = sym (file_alike (map file_view c.args.base.now) (map file_view (drop c.loop.at c.args.base.now)) c.loop.least c.loop.cursor c.loop.invariant.same) ∙ c.in_ok-file.ensures.read in
    let low : c.loop.least ≤ c.in_ok-file.file.number = file_from_least (map file_view c.args.base.now) c.loop.least c.loop.cursor (file_view c.in_ok-file.file) c.file_of.new.cursor read in
    record {
      at = c.in_ok-file.ensures.within;
      rises = rw c.from-least.ensures c.in_ok-file.ensures.rises;
      same = λ k le. c.in_ok-file.ensures.same k (omega (arith, le, c.from-least.ensures)) ∙ c.loop.invariant.same k (omega (arith, le, low, c.from-least.ensures));
      went = went_on (patched_file_at (map file_view c.args.base.now)) after_file c.loop.least _ c.in_ok-count.count c.loop.counter c.loop.cursor (file_view c.in_ok-file.file) c.file_of.new.cursor _ c.loop-test.true read (ap (λ n. n + 1) (sym c.from-least.ensures)) c.loop.invariant.went;
    }

pub returns : goal.returns
returns c = went_past (patched_file_at (map file_view c.args.base.now)) after_file c.loop.least c.in_ok-count.count c.loop.counter c.loop.cursor _ c.loop-test.false c.loop.invariant.went
