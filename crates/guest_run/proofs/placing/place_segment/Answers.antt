use Rattle.std.proofs.Common.{◌≡◌, ◌+◌, ◌-◌, ◌*◌, ◌/◌, take, drop, sym, ap, ◌∙◌, arith}
use Rattle.std.proofs.lemmas.Result.{on_ok_weaker}
use Rattle.paged_mem.specs.Memory.{with_bytes, zeros}
use Rattle.elf_load.specs.Segments.{first_page}
use Rattle.guest_run.specs.Placed.{segment_bytes, with_segment}
use Rattle.guest_run.proofs.SegmentAddresses.{first_page-is, pages-are, placed_low, maps-within, segment_within, length-segment_bytes}
use Rattle.guest_run.proofs.placing.place_segment.Goals as goal

pub overflow_add-end : goal.overflow_add-end
overflow_add-end g c = omega (arith, placed_low _ _ c.requires.placed)

pub overflow_add-end-2 : goal.overflow_add-end-2
overflow_add-end-2 g c = omega (arith, placed_low _ _ c.requires.placed)

pub map_zero-requires-clause-low : goal.map_zero-requires-clause-low
map_zero-requires-clause-low g c = omega (arith, placed_low _ _ c.requires.placed)

pub map_zero-requires-clause-free : goal.map_zero-requires-clause-free
map_zero-requires-clause-free g c address from to =
    let first = first_page-is c.args.segment.now in
    let pages = pages-are c.args.segment.now in
    c.requires.free address (omega arith) (omega arith)

pub write_mapped-requires : goal.write_mapped-requires
write_mapped-requires g c =
    let first = first_page-is c.args.segment.now in
    let pages = pages-are c.args.segment.now in
    let taken : c.args.segment.now.offset + c.args.segment.now.file_size - c.args.segment.now.offset ≡ c.args.segment.now.file_size = omega arith in
    let size = length-segment_bytes c.args.program.now c.args.segment.now c.requires.placed.in_range in
    let within = segment_within c.args.segment.now c.args.segment.now.file_size c.requires.placed.file_size in
    rw (c.in_ok-map_zero.ensures.ok, taken, size)
    (maps-within _ _ _ c.args.segment.now.address c.args.segment.now.file_size (omega arith) (omega arith))

pub returns : goal.returns
unfolding with_segment
returns g c =
    let first = first_page-is c.args.segment.now in
    let pages = pages-are c.args.segment.now in
    let taken : c.args.segment.now.offset + c.args.segment.now.file_size - c.args.segment.now.offset ≡ c.args.segment.now.file_size = omega arith in
    on_ok_weaker c.write_mapped.result
    (λ new. new
    ∙ ap (λ n. with_bytes (g.R.Ram.bytes c.map_zero.new.self) c.args.segment.now.address (take n (drop c.args.segment.now.offset c.args.program.now))) taken
    ∙ ap (λ m. with_bytes m c.args.segment.now.address (segment_bytes c.args.program.now c.args.segment.now))
    (c.in_ok-map_zero.ensures.ok
    ∙ ap (λ n. with_bytes (g.R.Ram.bytes c.args.ram.now) n (zeros (4096 * ((c.args.segment.now.address + c.args.segment.now.memory_size + 4095) / 4096 - c.args.segment.now.address / 4096)))) (sym first)
    ∙ ap (λ n. with_bytes (g.R.Ram.bytes c.args.ram.now) (first_page c.args.segment.now) (zeros n)) (sym pages)))
    c.write_mapped.ensures
