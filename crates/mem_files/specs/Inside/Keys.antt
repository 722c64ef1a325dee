-- Names as keys of the tree.
use Rattle.std.specs.Prelude.{ℕ, Bool, true, List}
use Rattle.std.specs.Ordering.{is_le, is_lt}
use Rattle.std.specs.declared.ops.Bound.{Bound}
use Rattle.std.specs.declared.ops.Bound.TheVariants.{Included, Excluded, Unbounded}
use Rattle.arrayvec.specs.declared.array_vec.ArrayVec.{ArrayVec}
use Rattle.mem_files.specs.Names.{bytes_cmp}

-- is a name within a lower bound, which is a key or none?
abbrev pub begins : Bound (ArrayVec ℕ 255 (Unit {0})) → List ℕ → Bool
begins (Included key) name = is_le (bytes_cmp key.items name)
begins (Excluded key) name = is_lt (bytes_cmp key.items name)
begins Unbounded name = true
