use Rattle.std.proofs.Common.{◌-◌, ap, subst, sym, ◌∙◌, arith}
use Rattle.paged_mem.specs.Memory.{maps, page_up}
use Rattle.linux_calls.specs.HeapOf.{IsHeapOf, resized}
use Rattle.linux_calls.proofs.Heaps.{mapped_above, kept_resized}
use Rattle.linux_calls.proofs.program_break.brk.Goals as goal

pub resize-requires-clause-present : goal.resize-requires-clause-present
resize-requires-clause-present g c falls =
    ap (λ n. maps (g.R.Ram.bytes c.args.ram.now) n (c.page_up.result - n)) c.page_up-2.ensures
    ∙ ap (λ n. maps (g.R.Ram.bytes c.args.ram.now) (page_up c.args.to) (n - page_up c.args.to)) c.page_up.ensures
    ∙ mapped_above (g.R.Ram.bytes c.args.ram.now) c.args.heap.now c.requires c.args.to (omega arith) (omega arith) (omega (arith, falls, c.page_up.ensures, c.page_up-2.ensures))

pub returns-in-Ok-clause-kept : goal.returns-in-Ok-clause-kept
returns-in-Ok-clause-kept g c =
    let m = g.R.Ram.bytes c.args.ram.now in
    let now = ap (λ n. resized m n c.page_up-2.result) c.page_up.ensures ∙ ap (resized m (page_up c.args.heap.now.now)) c.page_up-2.ensures in
    subst (λ n. IsHeapOf n (record c.args.heap.now { now = c.args.to })) (sym (c.in-Ok.ensures.ok ∙ now))
    (kept_resized m c.args.heap.now c.requires c.args.to (omega arith) (omega arith))
