-- A cell of the files: the bytes and the name in it.
use Rattle.std.specs.Prelude.{ℕ, Option, Some, None, option_map, List}
use Rattle.mem_files.specs.declared.stored.Stored.{Stored}

-- the bytes of a file, if there is one
abbrev pub content_in : Option Stored → Option (List ℕ)
content_in None = None
content_in (Some file) = Some file.content.items

-- its name, unless that was removed
abbrev pub name_in : Option Stored → Option (List ℕ)
name_in None = None
name_in (Some file) = option_map (λ name. name.items) file.name
