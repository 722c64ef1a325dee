-- The `World` that a table represents, and the invariant of a table.
use Rattle.std.specs.Prelude.{◌≡◌, ℕ, ◌+◌, ◌≤◌, Bool, false, IsTrue, Option, Some, None, is_some, slice_index_or, List, map, length, sum_by}
use Rattle.std.specs.FinMap.{from_sorted, is_sorted, get, len}
use Rattle.mem_files.specs.declared.open_file.OpenFile.{OpenFile}
use Rattle.mem_files.specs.declared.stored.Stored.{Stored}
use Rattle.mem_files.specs.declared.table.FileTable.TheInside.{Inside}
use Rattle.ddc_base.specs.Limits.{most_descriptors, most_names, most_name}
use Rattle.mem_files.specs.Names.{bytes_cmp}
use Rattle.mem_files.specs.World.{World, total}
use Rattle.mem_files.specs.Inside.Stored.{content_in, name_in}
use Rattle.mem_files.specs.Inside.Cells.{map_of, keyed}
use Rattle.mem_files.specs.Inside.Counts.{opens_in}

-- a table as lists and numbers: the names in order with their numbers, and the cells of files and descriptors
pub record Parts : Type 0 where
  pub names : List (List ℕ × ℕ)
  pub files : List (Option Stored)
  pub used_files : List Bool
  pub open_files : List (Option OpenFile)
  pub used_open_files : List Bool
  pub open_file_count : ℕ
  pub open_counts : List ℕ
  pub stream1 : List ℕ
  pub stream2 : List ℕ
  pub total : ℕ

-- the parts of a table
abbrev pub parts_of : Inside → Parts
parts_of a = record {
  names = keyed (λ name. name.items) a.names.entries;
  files = a.files.items;
  used_files = a.used_files;
  open_files = a.open_files.items;
  used_open_files = a.used_open_files;
  open_file_count = a.open_file_count;
  open_counts = a.open_counts.items;
  stream1 = a.stream1.items;
  stream2 = a.stream2.items;
  total = a.total;
}

-- the `World` of a table
abbrev pub world_of : Parts → World
world_of p = record {
  names = from_sorted p.names;
  files = map_of (map content_in p.files);
  open_files = map_of p.open_files;
  stream1 = p.stream1;
  stream2 = p.stream2;
}

-- exactly the numbers whose cell is full are used
abbrev pub Uses : {X : Type 0} → List Bool → List (Option X) → Type 0
Uses used cells = (number : ℕ) → slice_index_or used number false ≡ is_some (slice_index_or cells number None)

-- the cells of descriptors are few, and the counts and the used numbers are right
pub record AreOpenFiles (open_files : List (Option OpenFile)) (used : List Bool) (count : ℕ) (open_counts : List ℕ) : Type 0 where
  pub few : length open_files ≤ most_descriptors
  pub enough : length used ≡ 1024
  pub uses : Uses used open_files
  pub counted : count ≡ len (map_of open_files)
  pub opens : (number : ℕ) → slice_index_or open_counts number 0 ≡ sum_by (opens_in number) open_files

-- the names are in order and short, the cells are few, the counts and the used numbers are right, and a file holds the
-- name that leads to it
pub record IsConsistent (p : Parts) : Type 0 where
  pub sorted : IsTrue (is_sorted bytes_cmp p.names)
  pub short : (name : List ℕ) (number : ℕ) → get (from_sorted {R = bytes_cmp} p.names) name ≡ Some number → length name ≤ most_name
  pub open_files_fit : AreOpenFiles p.open_files p.used_open_files p.open_file_count p.open_counts
  pub few_files : length p.files ≤ most_names + most_descriptors
  pub enough_files : length p.used_files ≡ 8192
  pub files_used : Uses p.used_files p.files
  pub bytes_counted : p.total ≡ total (world_of p)
  pub found : (name : List ℕ) (number : ℕ) → get (from_sorted {R = bytes_cmp} p.names) name ≡ Some number → name_in (slice_index_or p.files number None) ≡ Some name
  pub holds : (number : ℕ) (name : List ℕ) → name_in (slice_index_or p.files number None) ≡ Some name → get (from_sorted {R = bytes_cmp} p.names) name ≡ Some number
