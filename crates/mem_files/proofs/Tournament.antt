-- The tree of marks: a change below a node is mended upwards, and the leftmost unmarked leaf is found downwards.
use Rattle.std.proofs.Common.{◌≡◌, ◌≢◌, ℕ, zero, suc, ◌+◌, ◌-◌, ◌*◌, ◌/◌, ◌%◌, ◌^◌, ◌<◌, ◌≤◌, Bool, true, false, cond, ◌&&◌, List, length, set, take, drop, ◌++◌, replicate, refl, sym, ap, ◌∙◌, subst, arith}
use Rattle.std.proofs.lemmas.List.{get_or-set_same, get_or-set_other, get_or-drop, get_or_past, get_or-replicate, length-replicate, length-drop, length-set, drop-replicate, drop-set-add}
use Rattle.std.proofs.lemmas.Bool.{cases_lt, false≢true}
use Rattle.std.proofs.Common.{inl, inr}
use Rattle.std.proofs.Math.Nat.{pow-succ', one-le-pow}
use Rattle.std.proofs.Math.Seq.{take-append_seam}
use Rattle.std.proofs.Math.Pow.{pow_mono}
use Rattle.mem_files.specs.Inside.Numbers.{mark, IsRightBut, IsTree}
use Rattle.mem_files.proofs.Keeping.{by_eq}

-- one node is mended, and the one above it may be wrong
pub mended : (full : List Bool) (node : ℕ) → 0 < node → 2 * node < length full → IsRightBut node full → IsRightBut (node / 2) (set full node (mark full (2 * node) && mark full (2 * node + 1)))
mended full node some inside right = λ i from below apart.
    let value : Bool = mark full (2 * node) && mark full (2 * node + 1) in
    let there : node < length full = omega arith in
    let within : 2 * i < length full = omega (arith, length-set full node value) in
    let same : (q : ℕ) → q ≢ node → mark (set full node value) q ≡ mark full q = λ q ne. get_or-set_other full node q value false ne in
    let low : 2 * i ≢ node = λ e. apart (omega arith) in
    let high : 2 * i + 1 ≢ node = λ e. apart (omega arith) in
    by_eq i node
    (λ is. let first : 2 * i ≢ node = omega arith in
    ap (mark (set full node value)) is ∙ get_or-set_same full node value false there
    ∙ sym (ap (λ b. b && mark (set full node value) (2 * i + 1)) (same (2 * i) low) ∙ ap (λ b. mark full (2 * i) && b) (same (2 * i + 1) high) ∙ ap (λ n. mark full (2 * n) && mark full (2 * n + 1)) is))
    (λ ne. same i ne ∙ right i from within ne ∙ sym (ap (λ b. b && mark (set full node value) (2 * i + 1)) (same (2 * i) low) ∙ ap (λ b. mark full (2 * i) && b) (same (2 * i + 1) high)))

-- a leaf that changes leaves the node above it to be mended
pub changed : (full : List Bool) (leaf : ℕ) (value : Bool) → length full ≤ 2 * leaf → IsRightBut 0 full → IsRightBut (leaf / 2) (set full leaf value)
changed full leaf value last right = λ i from below apart.
    let within : 2 * i < length full = omega (arith, length-set full leaf value) in
    let same : (q : ℕ) → q ≢ leaf → mark (set full leaf value) q ≡ mark full q = λ q ne. get_or-set_other full leaf q value false ne in
    same i (omega arith) ∙ right i from within (omega arith)
    ∙ sym (ap (λ b. b && mark (set full leaf value) (2 * i + 1)) (same (2 * i) (λ e. apart (omega arith))) ∙ ap (λ b. mark full (2 * i) && b) (same (2 * i + 1) (λ e. apart (omega arith))))

-- the node so many levels above another
abbrev pub up : ℕ → ℕ → ℕ
up zero node = node
up (suc height) node = up height (node / 2)

up-suc : (height node : ℕ) → up (suc height) node ≡ up height node / 2
up-suc zero node = refl
up-suc (suc height) node = up-suc height (node / 2)

pub both : (a b : Bool) → true ≡ (a && b) → (a ≡ true) × (b ≡ true)
both true true h = (refl, refl)
both true false h = absurd (false≢true (sym h))
both false b h = absurd (false≢true (sym h))

-- what lies below a marked node is marked
pub all_below : (full : List Bool) → IsRightBut 0 full → (height node : ℕ) → node < length full → 1 ≤ up height node → mark full (up height node) ≡ true → mark full node ≡ true
all_below full right zero node inside some marked = marked
all_below full right (suc height) node inside some marked =
    let parent : ℕ = node / 2 in
    let above = all_below full right height parent (omega arith) some marked in
    let low : parent ≤ node = omega arith in
    elim (cases_lt parent 1) as (λ _. mark full node ≡ true) [
      | inl none ↦ absurd (nothing height parent none some)
      | inr from ↦
          let parts = both _ _ (sym above ∙ right parent from (omega arith) (omega arith)) in
          elim (cases_lt (2 * parent) node) as (λ _. mark full node ≡ true) [
            | inl more ↦ let is : 2 * parent + 1 ≡ node = omega arith in sym (ap (mark full) is) ∙ parts.1
            | inr less ↦ let is : 2 * parent ≡ node = omega arith in sym (ap (mark full) is) ∙ parts.0
          ]
    ]
  where
    nothing : (height node : ℕ) → node < 1 → 1 ≤ up height node → ⊥
    nothing zero node h e = absurd (omega arith)
    nothing (suc height) node h e = nothing height (node / 2) (omega arith) e

double : (height : ℕ) → 2 ^ suc height ≡ 2 * 2 ^ height
double height = pow-succ' 2 height

-- the root is above every leaf
pub up-root : (height node : ℕ) → 2 ^ height ≤ node → node < 2 * 2 ^ height → up height node ≡ 1
up-root zero node from to = let one : node ≡ 1 = omega arith in one
up-root (suc height) node from to =
    let power = double height in
    up-root height (node / 2) (half_from (2 ^ height) (2 ^ suc height) power from) (half_to (2 ^ height) (2 ^ suc height) power to)
  where
    half_from : (small large : ℕ) → large ≡ 2 * small → large ≤ node → small ≤ node / 2
    half_from small large e h = omega arith

    half_to : (small large : ℕ) → large ≡ 2 * small → node < 2 * large → node / 2 < 2 * small
    half_to small large e h = omega arith

one : (height : ℕ) → 1 ≤ 2 ^ height
one height = one-le-pow height 2 (omega arith)

-- on the way down to the leftmost unmarked leaf: so deep is the node, it is unmarked, and the leaves that lie before it
-- are marked
pub record IsOnWay (full : List Bool) (height depth node : ℕ) : Type 0 where
  pub from : 2 ^ depth ≤ node
  pub to : node < 2 * 2 ^ depth
  pub free : mark full node ≡ false
  pub before : (leaf : ℕ) → 2 ^ height ≤ leaf → leaf < 2 * 2 ^ height → up (height - depth) leaf < node → mark full leaf ≡ true

module _ (full : List Bool) (height : ℕ) (sized : length full ≡ 2 * 2 ^ height) (right : IsRightBut 0 full) where
  -- a node above the leaves has two below it
  pub has_below : (depth node : ℕ) → depth < height → node < 2 * 2 ^ depth → 2 * node + 1 < length full
  has_below depth node above to = calc (2 ^ depth) (2 ^ suc depth) (2 ^ height) (double depth) (pow_mono above) sized to
    where
      calc : (a b c : ℕ) → b ≡ 2 * a → b ≤ c → length full ≡ 2 * c → node < 2 * a → 2 * node + 1 < length full
      calc a b c e le size h = omega arith

  pub at_root : mark full 1 ≡ false → IsOnWay full height 0 1
  at_root free = record {
    from = omega arith;
    to = omega arith;
    free = free;
    before = λ leaf from to less.
        let whole : height - 0 ≡ height = omega arith in
        let root : up height leaf ≡ 1 = up-root height leaf from to in
        let low : up height leaf < 1 = subst (λ h. up h leaf < 1) whole less in
        absurd (omega arith);
  }

  pub one_down : (depth node : ℕ) → depth < height → IsOnWay full height depth node → (b : Bool) → mark full (2 * node) ≡ b → IsOnWay full height (depth + 1) (cond b (2 * node + 1) (2 * node))
  one_down depth node above way true marked = record {
    from = calc_from (2 ^ depth) (2 ^ (depth + 1)) power way.from;
    to = calc_to (2 ^ depth) (2 ^ (depth + 1)) power way.to;
    free = sym (ap (λ b. b && mark full (2 * node + 1)) marked) ∙ sym split ∙ way.free;
    before = λ leaf from to less.
        let h : ℕ = height - (depth + 1) in
        let u : ℕ = up h leaf in
        elim (cases_lt (u / 2) node) as (λ _. mark full leaf ≡ true) [
          | inl left ↦ way.before leaf from to (subst (λ k. k < node) (sym (one_up leaf)) left)
          | inr on ↦ let is : u ≡ 2 * node = omega arith in
              all_below full right h leaf (inside leaf to) (omega arith) (ap (mark full) is ∙ marked)
        ];
  }
    where
      power : 2 ^ (depth + 1) ≡ 2 * 2 ^ depth
      power = ap (λ d. 2 ^ d) (let e : depth + 1 ≡ suc depth = omega arith in e) ∙ double depth

      some : 1 ≤ node
      some = let least = one depth in let from = way.from in least_of (2 ^ depth) least from
        where
          least_of : (a : ℕ) → 1 ≤ a → a ≤ node → 1 ≤ node
          least_of a h e = omega arith

      split : mark full node ≡ (mark full (2 * node) && mark full (2 * node + 1))
      split = let two = has_below depth node above way.to in right node some (omega arith) (omega arith)

      calc_from : (a b : ℕ) → b ≡ 2 * a → a ≤ node → b ≤ 2 * node + 1
      calc_from a b e h = omega arith

      calc_to : (a b : ℕ) → b ≡ 2 * a → node < 2 * a → 2 * node + 1 < 2 * b
      calc_to a b e h = omega arith

      one_up : (leaf : ℕ) → up (height - depth) leaf ≡ up (height - (depth + 1)) leaf / 2
      one_up leaf = ap (λ k. up k leaf) (let e : height - depth ≡ suc (height - (depth + 1)) = omega arith in e) ∙ up-suc (height - (depth + 1)) leaf

      inside : (leaf : ℕ) → leaf < 2 * 2 ^ height → leaf < length full
      inside leaf to = subst (λ n. leaf < n) (sym sized) to
  one_down depth node above way false unmarked = record {
    from = calc_from (2 ^ depth) (2 ^ (depth + 1)) power way.from;
    to = calc_to (2 ^ depth) (2 ^ (depth + 1)) power way.to;
    free = unmarked;
    before = λ leaf from to less.
        way.before leaf from to (subst (λ k. k < node) (sym (one_up leaf)) (let left : up (height - (depth + 1)) leaf / 2 < node = omega arith in left));
  }
    where
      power : 2 ^ (depth + 1) ≡ 2 * 2 ^ depth
      power = ap (λ d. 2 ^ d) (let e : depth + 1 ≡ suc depth = omega arith in e) ∙ double depth

      calc_from : (a b : ℕ) → b ≡ 2 * a → a ≤ node → b ≤ 2 * node
      calc_from a b e h = omega arith

      calc_to : (a b : ℕ) → b ≡ 2 * a → node < 2 * a → 2 * node < 2 * b
      calc_to a b e h = omega arith

      one_up : (leaf : ℕ) → up (height - depth) leaf ≡ up (height - (depth + 1)) leaf / 2
      one_up leaf = ap (λ k. up k leaf) (let e : height - depth ≡ suc (height - (depth + 1)) = omega arith in e) ∙ up-suc (height - (depth + 1)) leaf

  pub at_leaf : (depth node : ℕ) → depth ≡ height → IsOnWay full height depth node → (leaf : ℕ) → 2 ^ height ≤ leaf → leaf < node → mark full leaf ≡ true
  at_leaf depth node deep way leaf from less =
      let none : height - depth ≡ 0 = omega arith in
      way.before leaf from (below (2 ^ height) (2 ^ depth) (ap (λ d. 2 ^ d) deep) way.to) (subst (λ h. up h leaf < node) (sym none) less)
    where
      below : (a b : ℕ) → b ≡ a → node < 2 * b → leaf < 2 * a
      below a b e h = omega arith

  -- below a marked root all are marked
  pub all_marked : mark full 1 ≡ true → (leaf : ℕ) → 2 ^ height ≤ leaf → leaf < 2 * 2 ^ height → mark full leaf ≡ true
  all_marked marked leaf from to =
      let root = up-root height leaf from to in
      all_below full right height leaf (subst (λ n. leaf < n) (sym sized) to) (omega arith) (ap (mark full) root ∙ marked)

-- all numbers are unused at first
pub shifted : (height : ℕ) → height < 32 → 1 * 2 ^ height % 2 ^ 64 ≡ 2 ^ height
shifted height low = calc (2 ^ height) (pow_mono {i = height} {j = 31} (omega arith))
  where
    calc : (n : ℕ) → n ≤ 2 ^ 31 → 1 * n % 2 ^ 64 ≡ n
    calc n h = omega arith

pub unmarked : (count node : ℕ) → mark (replicate count false) node ≡ false
unmarked count node = elim (cases_lt node count) as (λ _. mark (replicate count false) node ≡ false) [
  | inl h ↦ get_or-replicate count node false false h
  | inr h ↦ get_or_past (replicate count false) node false (omega (arith, length-replicate {A = Bool} count false))
]

pub first_tree : (height leaves : ℕ) (full : List Bool) → height < 32 → leaves ≡ 2 ^ height → full ≡ replicate (2 * leaves) false → IsTree full leaves height
first_tree height leaves full low power is = record {
  low = low;
  power = power;
  sized = ap length is ∙ length-replicate {A = Bool} (2 * leaves) false ∙ ap (λ n. 2 * n) power;
  right = λ node from within apart.
      let none : (q : ℕ) → mark full q ≡ false = λ q. ap (λ l. mark l q) is ∙ unmarked (2 * leaves) q in
      none node ∙ sym (ap (λ b. b && mark full (2 * node + 1)) (none (2 * node)));
}

pub first_leaves : (height leaves : ℕ) (full : List Bool) → leaves ≡ 2 ^ height → full ≡ replicate (2 * leaves) false → drop leaves full ≡ replicate (2 ^ height) false
first_leaves height leaves full power is =
    ap (drop leaves) is ∙ drop-replicate leaves (2 * leaves) false ∙ ap (λ n. replicate n false) (let e : 2 * leaves - leaves ≡ leaves = omega arith in e ∙ power)

-- the tree and its leaves
module _ (full : List Bool) (leaves height : ℕ) (tree : IsTree full leaves height) (used : List Bool) (is : drop leaves full ≡ used) where
  pub leaf-is : (number : ℕ) → mark used number ≡ mark full (leaves + number)
  leaf-is number = ap (λ l. mark l number) (sym is) ∙ get_or-drop leaves full number false

  pub used_below : ((leaf : ℕ) → 2 ^ height ≤ leaf → leaf < 2 * 2 ^ height → mark full leaf ≡ true) → (number : ℕ) → number < leaves → mark used number ≡ true
  used_below marked number low = leaf-is number ∙ marked (leaves + number) (from (2 ^ height) tree.power) (to (2 ^ height) tree.power)
    where
      from : (n : ℕ) → leaves ≡ n → n ≤ leaves + number
      from n e = omega arith

      to : (n : ℕ) → leaves ≡ n → leaves + number < 2 * n
      to n e = omega arith

  pub has_root : 1 < length full
  has_root = at_least (2 ^ height) (one height) tree.sized
    where
      at_least : (n : ℕ) → 1 ≤ n → length full ≡ 2 * n → 1 < length full
      at_least n h e = omega arith

  pub leaves_half : length full ≡ 2 * leaves
  leaves_half = tree.sized ∙ ap (λ n. 2 * n) (sym tree.power)

  pub numbers_low : (number : ℕ) → number < length used → number < leaves
  numbers_low number h = omega (arith, leaves_half, length-drop leaves full, ap length is)

  -- a leaf is set, and the rest of the tree mended
  pub set_leaf : (number : ℕ) (value : Bool) (mended : List Bool) → number < length used
      → ((count : ℕ) → (leaves + number) / 2 < count → drop count mended ≡ drop count (set full (leaves + number) value)) → drop leaves mended ≡ set used number value
  set_leaf number value mended h same =
      let low = numbers_low number h in
      same leaves (omega arith) ∙ drop-set-add leaves full number value ∙ ap (λ l. set l number value) is

-- elements that are written over as many
pub refilled : {X : Type 0} (count : ℕ) (new old : List X) → length new ≡ count → take count (new ++ drop (length new) old) ≡ new
refilled count new old same = ap (λ k. take k (new ++ drop (length new) old)) (sym same) ∙ take-append_seam new (drop (length new) old)
