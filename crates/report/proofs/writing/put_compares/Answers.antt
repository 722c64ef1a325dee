use Rattle.std.proofs.Common.{[], ◌++◌, ◌∷◌, map, refl, sym, ◌∙◌, ap}
use Rattle.std.proofs.lemmas.List.{drop_all}
use Rattle.report.specs.declared.line.ReportLine.TheVariants.{Compare}
use Rattle.report.specs.Lines.{line_words}
use Rattle.report.proofs.Written.{one_line, writes_more, writes_all}
use Rattle.report.proofs.writing.put_compares.Goals as goal

pub loop-compare-preserved : goal.loop-compare-preserved
loop-compare-preserved c =
    writes_more line_words (map Compare) (λ x. Compare x ∷ []) (λ x xs. refl) c.args.out.now c.args.compares.now c.loop-compare.compare-index c.compare-item.result c.loop-compare.out c.put_compare.new.out
    c.loop-compare-test.true c.compare-item.is c.loop-compare.invariant (c.in_ok-put_compare.ensures ∙ ap (λ t. c.loop-compare.out ++ t) (sym (one_line line_words (Compare c.compare-item.result))))

pub returns : goal.returns
returns c = writes_all line_words (map Compare) refl c.args.out.now c.args.compares.now c.loop-compare.compare-index c.loop-compare.out (drop_all c.loop-compare.compare-index c.args.compares.now c.loop-compare-test.false) c.loop-compare.invariant
