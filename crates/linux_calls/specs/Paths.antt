-- How a call reads a path, and what its directory argument means (docs/reference/calls.md, "Paths").
use Rattle.std.specs.Prelude.{ℕ, zero, suc, ◌%◌, ◌^◌, Bool, false, ◌||◌, ◌==◌, if◌then◌else◌, Option, Some, None, Result, Ok, Err, List, [], ◌∷◌}
use Rattle.std.specs.FinMap.{get, contains_key}
use Rattle.ddc_base.specs.Results.{◌>>=◌}
use Rattle.paged_mem.specs.Memory.{Memory}
use Rattle.mem_files.specs.Names.{stripped}
use Rattle.mem_files.specs.World.{World}
use Rattle.mem_files.specs.Linux.{enoent, ebadf}
use Rattle.linux_calls.specs.Linux.{efault, enotdir, enametoolong, at_fdcwd}

-- the low 32 bits of a register
abbrev pub low : ℕ → ℕ
low register = register % 2 ^ 32

-- a text that begins with this byte; a zero byte ends it
abbrev pub text_from : ℕ → Result (List ℕ) ℕ → Result (List ℕ) ℕ
text_from byte rest = if byte == 0 then Ok [] else (rest >>= λ text. Ok (byte ∷ text))

abbrev pub text_or_fault : Option ℕ → Result (List ℕ) ℕ → Result (List ℕ) ℕ
text_or_fault None rest = Err efault
text_or_fault (Some byte) rest = text_from byte rest

-- the text at an address, if a zero byte among the next `most` bytes ends it
unfoldable pub text_at : Memory → ℕ → ℕ → Result (List ℕ) ℕ
text_at m at zero = Err enametoolong
text_at m at (suc most) = text_or_fault (get m at) (text_at m (suc at) most)

abbrev pub not_empty : List ℕ → Result (List ℕ) ℕ
not_empty [] = Err enoent
not_empty (byte ∷ bytes) = Ok (byte ∷ bytes)

-- the file name in a path
abbrev pub name_at : Memory → ℕ → Result (List ℕ) ℕ
name_at m at = do
  text ← text_at m at 256
  not_empty (stripped text)

-- does a name begin with `/`?
abbrev pub is_absolute : List ℕ → Bool
is_absolute [] = false
is_absolute (byte ∷ bytes) = byte == 47

-- any directory argument is valid for an absolute name, and the working directory for every name; a descriptor is not a directory
abbrev pub in_directory : World → ℕ → List ℕ → Result (List ℕ) ℕ
in_directory w dir name =
    if is_absolute name || low dir == at_fdcwd then Ok name
    else (if contains_key w.open_files (low dir) then Err enotdir else Err ebadf)

-- the file name in a path, if the directory argument is valid
abbrev pub name_in_directory : Memory → World → ℕ → ℕ → Result (List ℕ) ℕ
name_in_directory m w dir at = do
  name ← name_at m at
  in_directory w dir name
