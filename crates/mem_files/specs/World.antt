-- The files of a guest as one value: equal files are equal values (docs/reference/files.md, "What is kept").
use Rattle.std.specs.Prelude.{ℕ, ◌+◌, Bool, false, ◌==◌, if◌then◌else◌, unwrap_or, List, [], ◌∷◌, length, sum_by}
use Rattle.std.specs.List.{list_any}
use Rattle.std.specs.Ordering.{nat_cmp}
use Rattle.std.specs.FinMap as map
use Rattle.mem_files.specs.declared.open_file.OpenFile.{OpenFile}
use Rattle.mem_files.specs.declared.open_file.OpenFile.TheVariants.{Input, Stream1, Stream2, File}
use Rattle.mem_files.specs.Names.{bytes_cmp}

-- names to file numbers, numbers to contents, descriptors to open files, and the two collected streams
pub record World : Type 0 where
  pub names : map.FinMap bytes_cmp ℕ
  pub files : map.FinMap nat_cmp (List ℕ)
  pub open_files : map.FinMap nat_cmp OpenFile
  pub stream1 : List ℕ
  pub stream2 : List ℕ

-- the content of a file; empty if there is no such file
abbrev pub content_of : World → ℕ → List ℕ
content_of w number = unwrap_or (map.get w.files number) []

-- the number of bytes of all files and both streams
abbrev pub total : World → ℕ
total w = length w.stream1 + length w.stream2 + sum_by length (map.values w.files)

-- is the open file the file with this number?
abbrev pub is_of : ℕ → OpenFile → Bool
is_of number Input = false
is_of number Stream1 = false
is_of number Stream2 = false
is_of number (File held file_offset access) = held == number

-- does a file have a name?
abbrev pub is_named : World → ℕ → Bool
is_named w number = list_any (λ held. held == number) (map.values w.names)

-- does a descriptor stand for a file?
abbrev pub is_open : World → ℕ → Bool
is_open w number = list_any (is_of number) (map.values w.open_files)

-- the least number from n on that is not in a rising list
abbrev pub first_gap : ℕ → List ℕ → ℕ
first_gap n [] = n
first_gap n (key ∷ keys) = if key == n then first_gap (n + 1) keys else n

-- the least number that is not a key
abbrev pub lowest_unused : {X : Type 0} → map.FinMap nat_cmp X → ℕ
lowest_unused m = first_gap 0 (map.keys m)
