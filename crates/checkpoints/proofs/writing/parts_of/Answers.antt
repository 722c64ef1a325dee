use Rattle.std.proofs.Common.{◌<◌, ◌^◌, drop, sym, subst, ap, ◌∙◌, arith}
use Rattle.rv64_machine.specs.Hart.{HartState}
use Rattle.mem_files.specs.Lists.{AreInRange, lists_of}
use Rattle.mem_files.specs.World.{World}
use Rattle.checkpoints.proofs.FilePartsLemmas.GoodLists.{good_range}
use Rattle.checkpoints.specs.MemoryParts.Canonical.{pages_of, runs_of}
use Rattle.save_format.specs.StateText.Encoded.{IsStateText}
use Rattle.checkpoints.proofs.States.{is_text, parsed}
use Rattle.checkpoints.proofs.writing.parts_of.Goals as goal

pub files_of-requires : goal.files_of-requires
files_of-requires g c = subst (λ (w : World). AreInRange (lists_of w)) (sym c.files-files.ensures) (good_range _ c.steps-steps.ensures.valid.files)

pub descriptors_of-requires : goal.descriptors_of-requires
descriptors_of-requires g c = subst (λ (w : World). AreInRange (lists_of w)) (sym c.files-files.ensures) (good_range _ c.steps-steps.ensures.valid.files)

pub returns-clause-seen : goal.returns-clause-seen
returns-clause-seen g c =
    let hart = c.hart-hart.ensures in
    let world = c.files-files.ensures in
    let one = c.ram.ensures ∙ ap (λ (h : HartState). h.memory) hart in
    let two = c.ram-2.ensures ∙ ap (λ (h : HartState). h.memory) hart in
    parsed c.args.guest.now _ c.steps-steps.ensures.value
    (c.pc.ensures.value ∙ ap (λ (h : HartState). h.pc) hart)
    (c.registers_of.ensures ∙ ap (λ (h : HartState). drop 1 h.registers) hart)
    (c.reserved_of.ensures ∙ ap (λ (h : HartState). h.reservation) hart)
    c.heap.ensures
    (c.in_ok-runs.ensures ∙ ap runs_of one)
    (c.in_ok-pages.ensures ∙ ap pages_of two)
    (c.in_ok-listed.ensures ∙ ap (λ (w : World). (lists_of w).files) world)
    (c.in_ok-descriptors.ensures ∙ ap (λ (w : World). (lists_of w).open_files) world)
    (c.stream.ensures.bytes ∙ ap (λ (w : World). w.stream1) world)
    (c.stream-2.ensures.bytes ∙ ap (λ (w : World). w.stream2) world)

pub returns-clause-text : goal.returns-clause-text
returns-clause-text g c =
    let few : c.args.guest.now.steps < 2 ^ 64 = omega (arith, c.steps-steps.ensures.value, c.steps-steps.type_inv) in
    subst IsStateText (sym (returns-clause-seen g c)) (is_text c.args.guest.now c.steps-steps.ensures.valid few)
