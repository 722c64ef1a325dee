use Rattle.std.proofs.Common.{◌≡◌, ◌-◌, ◌<◌, None, length, replicate, ap, ◌∙◌, sym, subst, arith}
use Rattle.std.specs.Prelude.{AllPairs, slice_set}
use Rattle.std.proofs.lemmas.List.Elements.{All-from_get_or}
use Rattle.ddc_base.specs.Limits.{stack_size}
use Rattle.paged_mem.specs.Memory.{IsFree}
use Rattle.rv64_machine.specs.Hart.{HartState, with_register}
use Rattle.elf_load.specs.Segments.{AreApart}
use Rattle.guest_run.specs.Stack.{stack_bytes, stack_end, stack_pointer}
use Rattle.guest_run.specs.Placed.{with_segments, with_stack}
use Rattle.guest_run.specs.Start.{start_state, start_world}
use Rattle.guest_run.specs.State.{GuestState}
use Rattle.guest_run.specs.Valid.{IsValid}
use Rattle.guest_run.proofs.Beginnings.{stack_length}
use Rattle.guest_run.proofs.StartLaw.{start-valid}
use Rattle.guest_run.proofs.SegmentAddresses.{stack_free}
use Rattle.guest_run.proofs.guest.started.Goals as goal

pub place_segments-requires-clause-apart : goal.place_segments-requires-clause-apart
place_segments-requires-clause-apart g c =
    subst (λ list. AllPairs AreApart list) (sym c.as_slice.ensures.value) c.requires.sound.apart

pub place_stack-requires-clause-free : goal.place_stack-requires-clause-free
place_stack-requires-clause-free g c =
    subst (λ m. IsFree m (stack_end - stack_size) stack_size)
    (sym (c.in_ok-place_segments.ensures ∙ ap (with_segments c.args.program.now) c.as_slice.ensures.value))
    (stack_free c.args.program.now c.args.image.now.segments.items c.requires.sound.placed)

pub place_stack-requires-clause-high : goal.place_stack-requires-clause-high
place_stack-requires-clause-high g c =
    let at : c.in_ok-stack.stack.at ≡ stack_pointer c.args.setting.now.args c.args.setting.now.env =
    c.in_ok-stack.ensures.0 ∙ (λ i. stack_pointer (c.args-2.ensures i) (c.env.ensures i)) in
    let bytes : c.as_slice-2.result.now ≡ stack_bytes c.args.setting.now.args c.args.setting.now.env =
    c.as_slice-2.ensures.value ∙ c.in_ok-stack.ensures.1 ∙ (λ i. stack_bytes (c.args-2.ensures i) (c.env.ensures i)) in
    let long : length c.as_slice-2.result.now ≡ length (stack_bytes c.args.setting.now.args c.args.setting.now.env) = ap length bytes in
    let whole = stack_length c.args.setting.now.args c.args.setting.now.env c.requires.texts in
    rw (at, long) (omega (arith, whole))

pub invariant_of-result : goal.invariant_of-result
unfolding start_state
invariant_of-result g c =
    let at : c.in_ok-stack.stack.at ≡ stack_pointer c.args.setting.now.args c.args.setting.now.env =
    c.in_ok-stack.ensures.0 ∙ (λ i. stack_pointer (c.args-2.ensures i) (c.env.ensures i)) in
    let bytes : c.as_slice-2.result.now ≡ stack_bytes c.args.setting.now.args c.args.setting.now.env =
    c.as_slice-2.ensures.value ∙ c.in_ok-stack.ensures.1 ∙ (λ i. stack_bytes (c.args-2.ensures i) (c.env.ensures i)) in
    let segments = c.in_ok-place_segments.ensures ∙ ap (with_segments c.args.program.now) c.as_slice.ensures.value in
    let hart = c.set_reg.ensures ∙ ap (λ (h : HartState). with_register h 2 c.in_ok-stack.stack.at) c.new-hart.ensures in
    let memory : c.set_reg.new.self.memory
    ≡ with_stack (with_segments c.args.program.now c.args.image.now.segments.items)
    (stack_pointer c.args.setting.now.args c.args.setting.now.env) (stack_bytes c.args.setting.now.args c.args.setting.now.env) =
    ap (λ (h : HartState). h.memory) hart ∙ c.in_ok-place_stack.ensures ∙ (λ i. with_stack (segments i) (at i) (bytes i)) in
    let registers : c.set_reg.new.self.registers ≡ slice_set (replicate 32 0) 2 (stack_pointer c.args.setting.now.args c.args.setting.now.env) =
    ap (λ (h : HartState). h.registers) hart ∙ ap (λ v. slice_set (replicate 32 0) 2 v) at in
    let pc : c.set_reg.new.self.pc ≡ c.args.image.now.entry = ap (λ (h : HartState). h.pc) hart in
    let none : c.set_reg.new.self.reservation ≡ None = ap (λ (h : HartState). h.reservation) hart in
    let world = c.in_ok-files.ensures ∙ ap start_world c.files.ensures in
    let same : ◌≡◌ {A = GuestState} (record {
      hart = c.set_reg.new.self;
      world = c.in_ok-files.files;
      heap = record { first = c.args.image.now.first_break; now = c.args.image.now.first_break; limit = c.heap.result };
      steps = 0;
    }) (start_state c.args.program.now c.args.setting.now c.args.image.now) =
    λ i. record {
      hart = record { registers = registers i; pc = pc i; memory = memory i; reservation = none i };
      world = world i;
      heap = record { first = c.args.image.now.first_break; now = c.args.image.now.first_break; limit = c.heap.ensures.value i };
      steps = 0;
    } in
    subst IsValid (sym same)
    (start-valid c.args.program.now c.args.setting.now c.args.image.now
    (All-from_get_or (λ byte. byte < 256) c.args.program.now 0 (λ i less. omega (arith, c.type_inv.program i)))
    c.heap.ensures.valid c.requires.sound c.requires.texts c.requires.files)

pub returns : goal.returns
unfolding start_state
returns g c =
    let at : c.in_ok-stack.stack.at ≡ stack_pointer c.args.setting.now.args c.args.setting.now.env =
    c.in_ok-stack.ensures.0 ∙ (λ i. stack_pointer (c.args-2.ensures i) (c.env.ensures i)) in
    let bytes : c.as_slice-2.result.now ≡ stack_bytes c.args.setting.now.args c.args.setting.now.env =
    c.as_slice-2.ensures.value ∙ c.in_ok-stack.ensures.1 ∙ (λ i. stack_bytes (c.args-2.ensures i) (c.env.ensures i)) in
    let segments = c.in_ok-place_segments.ensures ∙ ap (with_segments c.args.program.now) c.as_slice.ensures.value in
    let hart = c.set_reg.ensures ∙ ap (λ (h : HartState). with_register h 2 c.in_ok-stack.stack.at) c.new-hart.ensures in
    let memory : c.set_reg.new.self.memory
    ≡ with_stack (with_segments c.args.program.now c.args.image.now.segments.items)
    (stack_pointer c.args.setting.now.args c.args.setting.now.env) (stack_bytes c.args.setting.now.args c.args.setting.now.env) =
    ap (λ (h : HartState). h.memory) hart ∙ c.in_ok-place_stack.ensures ∙ (λ i. with_stack (segments i) (at i) (bytes i)) in
    let registers : c.set_reg.new.self.registers ≡ slice_set (replicate 32 0) 2 (stack_pointer c.args.setting.now.args c.args.setting.now.env) =
    ap (λ (h : HartState). h.registers) hart ∙ ap (λ v. slice_set (replicate 32 0) 2 v) at in
    let pc : c.set_reg.new.self.pc ≡ c.args.image.now.entry = ap (λ (h : HartState). h.pc) hart in
    let none : c.set_reg.new.self.reservation ≡ None = ap (λ (h : HartState). h.reservation) hart in
    let world = c.in_ok-files.ensures ∙ ap start_world c.files.ensures in
    λ i. record {
      hart = record { registers = registers i; pc = pc i; memory = memory i; reservation = none i };
      world = world i;
      heap = record { first = c.args.image.now.first_break; now = c.args.image.now.first_break; limit = c.heap.ensures.value i };
      steps = 0;
    }
