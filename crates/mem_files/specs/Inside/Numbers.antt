-- Marks in a tree that lies in a list: node 1 is the root, and below node i lie 2i and 2i + 1.
use Rattle.std.specs.Prelude.{◌≡◌, ◌≢◌, ℕ, ◌+◌, ◌*◌, ◌^◌, ◌<◌, ◌≤◌, Bool, false, ◌&&◌, List, length, slice_index_or}

-- is a node marked?
abbrev pub mark : List Bool → ℕ → Bool
mark full node = slice_index_or full node false

-- each node with children is marked exactly if both children are; the node `but` is exempt
abbrev pub IsRightBut : ℕ → List Bool → Type 0
IsRightBut but full =
    (node : ℕ) → 1 ≤ node → 2 * node < length full → node ≢ but → mark full node ≡ (mark full (2 * node) && mark full (2 * node + 1))

-- the last half are the leaves, as many as a power of two, and every node is right
pub record IsTree (full : List Bool) (leaves height : ℕ) : Type 0 where
  pub low : height < 32
  pub power : leaves ≡ 2 ^ height
  pub sized : length full ≡ 2 * 2 ^ height
  pub right : IsRightBut 0 full
