use Rattle.std.proofs.Common.{◌≡◌, ◌+◌, ◌-◌, suc, Some, None, Ok, sym, ap, ◌∙◌, arith, append-nil}
use Rattle.std.specs.FinMap.{get}
use Rattle.paged_mem.proofs.MemoryLaws.{get-past}
use Rattle.linux_calls.specs.Paths.{text_at}
use Rattle.linux_calls.proofs.Texts.{after, after-push, text_at-step, text_at-unmapped, text_at-none, reads-one}
use Rattle.linux_calls.proofs.path.read_text.Goals as goal

pub returns-in_default : goal.returns-in_default
returns-in_default g c =
    let remaining : 256 - c.loop-i.i ≡ suc (255 - c.loop-i.i) = omega arith in
    c.loop-i.invariant.1 ∙ ap (after c.loop-i.text.items)
    (text_at-unmapped (g.R.Ram.bytes c.args.ram.now) (c.args.at + c.loop-i.i) (256 - c.loop-i.i) (255 - c.loop-i.i) remaining
    (get-past (g.R.Ram.bytes c.args.ram.now) (g.met.R.Ram.whole c.args.ram.now) (c.args.at + c.loop-i.i) (omega (arith, c.in_default.ensures))))

pub returns-in_default-load : goal.returns-in_default-load
returns-in_default-load g c =
    let m = g.R.Ram.bytes c.args.ram.now in
    let remaining : 256 - c.loop-i.i ≡ suc (255 - c.loop-i.i) = omega arith in
    let gone : get m (c.args.at + c.loop-i.i) ≡ None = ap (get m) (sym c.in-Some.ensures.1) ∙ sym (reads-one m c.in-Some.address) ∙ sym c.in_default-load.ensures.value in
    c.loop-i.invariant.1 ∙ ap (after c.loop-i.text.items) (text_at-unmapped m (c.args.at + c.loop-i.i) (256 - c.loop-i.i) (255 - c.loop-i.i) remaining gone)

pub returns-then-byte-eq0 : goal.returns-then-byte-eq0
returns-then-byte-eq0 g c =
    let m = g.R.Ram.bytes c.args.ram.now in
    let at = c.args.at + c.loop-i.i in
    let remaining : 256 - c.loop-i.i ≡ suc (255 - c.loop-i.i) = omega arith in
    let found : get m at ≡ Some 0 = ap (get m) (sym c.in-Some.ensures.1) ∙ sym (reads-one m c.in-Some.address) ∙ sym c.in-Some-load.ensures.value ∙ ap Some c.if-byte-eq0.true in
    c.loop-i.invariant.1 ∙ ap (after c.loop-i.text.items) (text_at-step m at (256 - c.loop-i.i) (255 - c.loop-i.i) 0 remaining found) ∙ ap Ok (append-nil c.loop-i.text.items)

pub loop-i-preserved : goal.loop-i-preserved
loop-i-preserved g c =
    let m = g.R.Ram.bytes c.args.ram.now in
    let at = c.args.at + c.loop-i.i in
    let remaining : 256 - c.loop-i.i ≡ suc (255 - c.loop-i.i) = omega arith in
    let found : get m at ≡ Some c.in-Some-load.byte = ap (get m) (sym c.in-Some.ensures.1) ∙ sym (reads-one m c.in-Some.address) ∙ sym c.in-Some-load.ensures.value in
    let next : suc at ≡ c.args.at + (c.loop-i.i + 1) = omega arith in
    let fewer : 255 - c.loop-i.i ≡ 256 - (c.loop-i.i + 1) = omega arith in (
      omega arith,
      c.loop-i.invariant.1
          ∙ ap (after c.loop-i.text.items) (text_at-step m at (256 - c.loop-i.i) (255 - c.loop-i.i) c.in-Some-load.byte remaining found)
          ∙ after-push c.loop-i.text.items c.in-Some-load.byte (text_at m (suc at) (255 - c.loop-i.i)) c.if-byte-eq0.false
          ∙ ap (λ read. after read (text_at m (suc at) (255 - c.loop-i.i))) (sym c.push.ensures.items)
          ∙ ap (after c.push.new.self.items) (ap (λ n. text_at m n (255 - c.loop-i.i)) next ∙ ap (text_at m (c.args.at + (c.loop-i.i + 1))) fewer),
    )

pub returns : goal.returns
returns g c =
    c.loop-i.invariant.1 ∙ ap (after c.loop-i.text.items) (ap (text_at (g.R.Ram.bytes c.args.ram.now) (c.args.at + c.loop-i.i)) (omega arith) ∙ text_at-none (g.R.Ram.bytes c.args.ram.now) (c.args.at + c.loop-i.i))
