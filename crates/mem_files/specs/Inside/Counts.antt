-- How many descriptors stand for a file.
use Rattle.std.specs.Prelude.{ℕ, Option, Some, None, if◌then◌else◌}
use Rattle.mem_files.specs.declared.open_file.OpenFile.{OpenFile}
use Rattle.mem_files.specs.World.{is_of}

-- how many descriptors one cell counts for a file: one or none
abbrev pub opens_in : ℕ → Option OpenFile → ℕ
opens_in number None = 0
opens_in number (Some open_file) = if is_of number open_file then 1 else 0
