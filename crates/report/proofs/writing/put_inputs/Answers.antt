use Rattle.std.proofs.Common.{[], ◌++◌, ◌∷◌, map, refl, sym, ◌∙◌, ap}
use Rattle.std.proofs.lemmas.List.{drop_all}
use Rattle.report.specs.declared.line.ReportLine.TheVariants.{Input}
use Rattle.report.specs.Lines.{line_words}
use Rattle.report.proofs.Written.{one_line, writes_more, writes_all}
use Rattle.report.proofs.writing.put_inputs.Goals as goal

pub loop-input-preserved : goal.loop-input-preserved
loop-input-preserved c =
    writes_more line_words (map Input) (λ x. Input x ∷ []) (λ x xs. refl) c.args.out.now c.args.inputs.now c.loop-input.input-index c.input-item.result c.loop-input.out c.put_input.new.out
    c.loop-input-test.true c.input-item.is c.loop-input.invariant (c.in_ok-put_input.ensures ∙ ap (λ t. c.loop-input.out ++ t) (sym (one_line line_words (Input c.input-item.result))))

pub returns : goal.returns
returns c = writes_all line_words (map Input) refl c.args.out.now c.args.inputs.now c.loop-input.input-index c.loop-input.out (drop_all c.loop-input.input-index c.args.inputs.now c.loop-input-test.false) c.loop-input.invariant
