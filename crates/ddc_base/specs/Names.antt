-- Names: 1 to 32 bytes of `a` to `z`, `0` to `9` and `_`.
use Rattle.std.specs.Prelude.{ℕ, Bool, IsTrue, ◌&&◌, ◌||◌, ◌==◌, nat_le, List, length, Option, Some, None, if◌then◌else◌}
use Rattle.std.specs.List.{list_all}

-- a byte of a name
abbrev pub is_name_byte : ℕ → Bool
is_name_byte byte = (nat_le 97 byte && nat_le byte 122) || (nat_le 48 byte && nat_le byte 57) || byte == 95

-- whether a text is a name
unfoldable pub is_name : List ℕ → Bool
is_name text = nat_le 1 (length text) && nat_le (length text) 32 && list_all is_name_byte text

-- a text is a name
abbrev pub IsName : List ℕ → Type 0
IsName text = IsTrue (is_name text)

-- the name that a text is
abbrev pub name_of : List ℕ → Option (List ℕ)
name_of text = if is_name text then Some text else None
