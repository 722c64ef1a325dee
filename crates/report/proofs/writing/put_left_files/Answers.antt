use Rattle.std.proofs.Common.{[], ◌++◌, ◌∷◌, map, refl, sym, ◌∙◌, ap}
use Rattle.std.proofs.lemmas.List.{drop_all}
use Rattle.report.specs.declared.line.ReportLine.TheVariants.{Left}
use Rattle.report.specs.Lines.{line_words}
use Rattle.report.proofs.Written.{one_line, writes_more, writes_all}
use Rattle.report.proofs.writing.put_left_files.Goals as goal

pub loop-file-preserved : goal.loop-file-preserved
loop-file-preserved c =
    writes_more line_words (map Left) (λ x. Left x ∷ []) (λ x xs. refl) c.args.out.now c.args.files.now c.loop-file.file-index c.file-item.result c.loop-file.out c.put_left.new.out
    c.loop-file-test.true c.file-item.is c.loop-file.invariant (c.in_ok-put_left.ensures ∙ ap (λ t. c.loop-file.out ++ t) (sym (one_line line_words (Left c.file-item.result))))

pub returns : goal.returns
returns c = writes_all line_words (map Left) refl c.args.out.now c.args.files.now c.loop-file.file-index c.loop-file.out (drop_all c.loop-file.file-index c.args.files.now c.loop-file-test.false) c.loop-file.invariant
