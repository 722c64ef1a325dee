use Rattle.mem_files.proofs.Tournament.{first_leaves, first_tree, shifted}
use Rattle.mem_files.proofs.numbers.Numbers.new.Goals as goal

pub invariant_of-result : goal.invariant_of-result
invariant_of-result c = first_tree c.args.height _ c.in_ok-full.full.items c.requires (shifted c.args.height c.requires) (c.in_ok-full.ensures.items_if_clones_equal (λ y e. e))

pub returns : goal.returns
returns c = first_leaves c.args.height _ c.in_ok-full.full.items (shifted c.args.height c.requires) (c.in_ok-full.ensures.items_if_clones_equal (λ y e. e))
