-- Names of files, and how they are compared and shortened (docs/reference/files.md, "Names").
use Rattle.std.specs.Prelude.{ℕ, Bool, false, ◌==◌, ◌&&◌, not, nat_le, if◌then◌else◌, List, ◌∷◌, length}
use Rattle.std.specs.List.{list_any}
use Rattle.std.specs.Ordering.{nat_cmp}
use Rattle.std.specs.declared.cmp.Ordering.{Ordering}
use Rattle.std.specs.Cmp.Lexicographic.{slice_cmp}
use Rattle.ddc_base.specs.Limits.{most_name}

-- the order of names: byte by byte; a name precedes the longer names that begin with it
abbrev pub bytes_cmp : List ℕ → List ℕ → Ordering
bytes_cmp = slice_cmp nat_cmp

-- does a name begin with `./`?
abbrev pub begins_with_dot_slash : List ℕ → Bool
begins_with_dot_slash (a ∷ (b ∷ rest)) = a == 46 && b == 47
begins_with_dot_slash xs = false

-- a name without its leading `./`, removed repeatedly
abbrev pub stripped : List ℕ → List ℕ
stripped (a ∷ (b ∷ rest)) = if a == 46 && b == 47 then stripped rest else a ∷ (b ∷ rest)
stripped xs = xs

-- a guest file name has 1 to 255 bytes, none of them zero
abbrev pub is_file_name : List ℕ → Bool
is_file_name bytes = nat_le 1 (length bytes) && nat_le (length bytes) most_name && not (list_any (λ byte. byte == 0) bytes)

-- a name as the files store it
abbrev pub is_stripped_name : List ℕ → Bool
is_stripped_name bytes = is_file_name bytes && not (begins_with_dot_slash bytes)
