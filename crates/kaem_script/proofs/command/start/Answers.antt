use Rattle.std.proofs.Common.{◌≡◌, [], Err, ap, sym, ◌∙◌, length, arith, take_all}
use Rattle.std.specs.FinMap as fin
use Rattle.ddc_base.specs.Limits.{usual_heap}
use Rattle.guest_run.specs.Start.{ArgsTooLong, BoxTooLarge, start_of}
use Rattle.kaem_script.specs.Inside.Commands.{texts_of}
use Rattle.kaem_script.proofs.Starting.{loaded-starts}
use Rattle.kaem_script.proofs.command.start.Goals as goal

pub unreachable-requires : goal.unreachable-requires
unreachable-requires c =
    let all = take_all c.loop-word.word-index c.args.words.now (omega (arith, c.loop-word-test.false, ap length c.as_slice-word-items.ensures)) in
    let context : c.loop-word.context ≡ texts_of c.args.words.now =
    c.loop-word.invariant ∙ ap (λ texts. record { args = texts; env = []; files = fin.empty; heap = usual_heap }) all in
    let refused = rw c.in-Err-Elf.field-0-is at c.in-Err-Elf.ensures.answer in
    absurd (loaded-starts c.args.program.now c.args.words.now c.args.image.now _ c.requires.words c.requires.read (ap (start_of c.args.program.now) (sym context) ∙ refused))

pub unreachable-requires-in-Err-ArgsTooLong : goal.unreachable-requires-in-Err-ArgsTooLong
unreachable-requires-in-Err-ArgsTooLong c =
    let all = take_all c.loop-word.word-index c.args.words.now (omega (arith, c.loop-word-test.false, ap length c.as_slice-word-items.ensures)) in
    let context : c.loop-word.context ≡ texts_of c.args.words.now =
    c.loop-word.invariant ∙ ap (λ texts. record { args = texts; env = []; files = fin.empty; heap = usual_heap }) all in
    let refused : start_of c.args.program.now c.loop-word.context ≡ Err ArgsTooLong = rw c.in-Err-ArgsTooLong.field-0-is at c.in-Err-ArgsTooLong.ensures.answer in
    absurd (loaded-starts c.args.program.now c.args.words.now c.args.image.now ArgsTooLong c.requires.words c.requires.read (ap (start_of c.args.program.now) (sym context) ∙ refused))

pub unreachable-requires-in-Err-BoxTooLarge : goal.unreachable-requires-in-Err-BoxTooLarge
unreachable-requires-in-Err-BoxTooLarge c =
    let all = take_all c.loop-word.word-index c.args.words.now (omega (arith, c.loop-word-test.false, ap length c.as_slice-word-items.ensures)) in
    let context : c.loop-word.context ≡ texts_of c.args.words.now =
    c.loop-word.invariant ∙ ap (λ texts. record { args = texts; env = []; files = fin.empty; heap = usual_heap }) all in
    let refused : start_of c.args.program.now c.loop-word.context ≡ Err BoxTooLarge = rw c.in-Err-BoxTooLarge.field-0-is at c.in-Err-BoxTooLarge.ensures.answer in
    absurd (loaded-starts c.args.program.now c.args.words.now c.args.image.now BoxTooLarge c.requires.words c.requires.read (ap (start_of c.args.program.now) (sym context) ∙ refused))
