use Rattle.std.proofs.Common.{◌+◌, length, take, drop, arith, sym, ap, ◌∙◌, length-take, length-drop}
use Rattle.paged_mem.proofs.Flats.{get_or-all_zeros}
use Rattle.std.proofs.lemmas.Grind.{same_number_lists}
use Rattle.std.proofs.lemmas.List.{get_or-take, get_or-drop}
use Rattle.paged_mem.specs.Memory.{zeros}
use Rattle.paged_mem.specs.Inside.Entries.{page_content}
use Rattle.paged_mem.proofs.Mapped.{length-zeros}
use Rattle.paged_mem.proofs.entries.fill_from.Goals as goal

pub returns-in-None : goal.returns-in-None
returns-in-None c =
    same_number_lists c.clear.new.out (take (length c.args.out.now) (drop c.args.low (zeros 4096)))
    (omega (arith, c.clear.ensures.len, c.requires, length-zeros 4096, length-take (length c.args.out.now) (drop c.args.low (zeros 4096)), length-drop c.args.low (zeros 4096)))
    (λ k below.
    c.clear.ensures.zero k
    ∙ sym (get_or-take (length c.args.out.now) (drop c.args.low (zeros 4096)) k 0 (omega (arith, c.clear.ensures.len)) ∙ get_or-drop c.args.low (zeros 4096) k 0 ∙ get_or-all_zeros 4096 (c.args.low + k)))
    ∙ ap (λ entry. take (length c.args.out.now) (drop c.args.low (page_content entry))) (sym c.in-None.is)
