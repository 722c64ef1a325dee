use Rattle.std.proofs.Common.{◌≡◌, ◌*◌, ◌+◌, true, false, ap, ◌∙◌, subst, arith}
use Rattle.mem_files.specs.Inside.Numbers.{mark}
use Rattle.mem_files.proofs.Tournament.{IsOnWay, at_root, has_below, one_down, at_leaf}
use Rattle.mem_files.proofs.numbers.leftmost.Goals.{then-full-node, else-full-node}
use Rattle.mem_files.proofs.numbers.leftmost.Goals as goal

pub loop-depth-init : goal.loop-depth-init
loop-depth-init c = at_root c.args.full.now c.args.height c.requires.sized c.requires.right c.requires.capacity

pub overflow_mul-node : goal.overflow_mul-node
overflow_mul-node c =
    omega (arith, has_below c.args.full.now c.args.height c.requires.sized c.requires.right c.loop-depth.depth c.loop-depth.node c.loop-depth-test.true c.loop-depth.invariant.to)

pub bounds-full-node : goal.bounds-full-node
bounds-full-node c =
    let two = has_below c.args.full.now c.args.height c.requires.sized c.requires.right c.loop-depth.depth c.loop-depth.node c.loop-depth-test.true c.loop-depth.invariant.to in
    omega arith

pub loop-depth-preserved : goal.loop-depth-preserved
loop-depth-preserved c =
    let down = one_down c.args.full.now c.args.height c.requires.sized c.requires.right c.loop-depth.depth c.loop-depth.node c.loop-depth-test.true c.loop-depth.invariant in
    let left : 2 * c.loop-depth.node ≡ c.loop-depth.node * 2 = omega arith in
    let on = λ (node : _). IsOnWay c.args.full.now c.args.height (c.loop-depth.depth + 1) node in
    elim c.if-full-node.branch [
      | then-full-node w ↦ subst on (let e : 2 * c.loop-depth.node + 1 ≡ c.if-full-node.node = omega (arith, w.node-is) in e) (down true (ap (mark c.args.full.now) left ∙ w.if-full-node.true))
      | else-full-node w ↦ subst on (let e : 2 * c.loop-depth.node ≡ c.if-full-node.node = omega (arith, w.node-is) in e) (down false (ap (mark c.args.full.now) left ∙ w.if-full-node.false))
    ]

pub returns-clause-used : goal.returns-clause-used
returns-clause-used c = at_leaf c.args.full.now c.args.height c.requires.sized c.requires.right c.loop-depth.depth c.loop-depth.node (omega (arith, c.loop-depth-test.false)) c.loop-depth.invariant
