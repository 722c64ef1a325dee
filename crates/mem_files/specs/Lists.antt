-- Files as lists, in the order of their numbers (docs/reference/files.md, "Lists").
use Rattle.std.specs.Prelude.{◌≡◌, ℕ, ◌+◌, ◌<◌, ◌≤◌, Bool, true, ◌||◌, ◌==◌, nat_le, Option, None, Some, is_some, option_map, List, [], ◌∷◌, length, map, find, sum_by, slice_index_or, All, IsTrue}
use Rattle.std.specs.List.{list_any, IsDistinct}
use Rattle.std.specs.Option.{option_copied}
use Rattle.std.specs.Ordering.{nat_cmp, eq_by_cmp}
use Rattle.std.specs.FinMap as fin
use Rattle.mem_files.specs.declared.view.FileView.{FileView}
use Rattle.mem_files.specs.declared.open_file.OpenFile.{OpenFile}
use Rattle.mem_files.specs.declared.open_file.OpenFile.TheVariants.{Input, Stream1, Stream2, File}
use Rattle.ddc_base.specs.Limits.{file_number_end, most_descriptors, most_names, most_total}
use Rattle.mem_files.specs.Names.{bytes_cmp, is_stripped_name}
use Rattle.mem_files.specs.World.{World, is_of}
use Rattle.mem_files.specs.Sound.{AreBytes, IsOpenFileAt}
use Rattle.mem_files.specs.Outputs.{IsContent}

-- a file: its number, its name unless that was removed, and its bytes
pub record ListedFile : Type 0 where
  pub number : ℕ
  pub name : Option (List ℕ)
  pub content : List ℕ

-- what a `FileView` shows
abbrev pub listed : FileView → ListedFile
listed view = record { number = view.number; name = option_copied view.name; content = view.content.now }

-- the files, the descriptors with their open files, and the contents of the streams
pub record FileLists : Type 0 where
  pub files : List ListedFile
  pub open_files : List (ℕ × OpenFile)
  pub streams : List (List ℕ)

-- the lists that these slices hold
abbrev pub lists_from : List FileView → List (ℕ × OpenFile) → List ℕ → List ℕ → FileLists
lists_from files open_files stream1 stream2 = record { files = map listed files; open_files = open_files; streams = stream1 ∷ stream2 ∷ [] }

-- ---- the lists of a world

-- the name of the file that has a number
abbrev pub name_of_file : World → ℕ → Option (List ℕ)
name_of_file w number = option_map (λ e. e.0) (find (λ e. e.1 == number) (fin.entries w.names))

-- a file by its number and its bytes
abbrev pub listed_file : World → ℕ × List ℕ → ListedFile
listed_file w file = record { number = file.0; name = name_of_file w file.0; content = file.1 }

abbrev pub lists_of : World → FileLists
lists_of w = record {
  files = map (listed_file w) (fin.entries w.files);
  open_files = fin.entries w.open_files;
  streams = w.stream1 ∷ w.stream2 ∷ [];
}

-- the least number that is not below the given one, with its value
abbrev pub first_from : {X : Type 0} → fin.FinMap nat_cmp X → ℕ → Option (ℕ × X)
first_from m number = find (λ e. nat_le number e.0) (fin.entries m)

-- `file_from`
abbrev pub file_from : World → ℕ → Option ListedFile
file_from w number = option_map (listed_file w) (first_from w.files number)

-- `open_file_from`
abbrev pub open_file_from : World → ℕ → Option (ℕ × OpenFile)
open_file_from w fd = first_from w.open_files fd

-- ---- the world of lists

abbrev pub with_name : Option (List ℕ) → ℕ → List (List ℕ × ℕ) → List (List ℕ × ℕ)
with_name None number names = names
with_name (Some name) number names = (name, number) ∷ names

-- the names that files have, with the files' numbers
abbrev pub named : List ListedFile → List (List ℕ × ℕ)
named [] = []
named (file ∷ files) = with_name file.name file.number (named files)

-- the bytes of files, with the files' numbers
abbrev pub numbered_contents : List ListedFile → List (ℕ × List ℕ)
numbered_contents files = map (λ file. (file.number, file.content)) files

abbrev pub world_of : FileLists → World
world_of lists = record {
  names = fin.from_entries (named lists.files);
  files = fin.from_entries (numbered_contents lists.files);
  open_files = fin.from_entries lists.open_files;
  stream1 = slice_index_or lists.streams 0 [];
  stream2 = slice_index_or lists.streams 1 [];
}

-- ---- the rules of lists

-- numbers and descriptors rise, and there are two streams
pub record AreOrdered (lists : FileLists) : Type 0 where
  pub files_rise : IsTrue (fin.is_sorted nat_cmp (numbered_contents lists.files))
  pub open_files_rise : IsTrue (fin.is_sorted nat_cmp lists.open_files)
  pub two_streams : length lists.streams ≡ 2

-- a name as the files store it
abbrev pub IsHeldName : List ℕ → Type 0
IsHeldName name = IsTrue (is_stripped_name name) × AreBytes name

-- what counts and ranges require
pub record AreInRange (lists : FileLists) : Type 0 where
  pub few_names : length (named lists.files) ≤ most_names
  pub good_names : All (λ e. IsHeldName e.0) (named lists.files)
  pub distinct : IsDistinct (eq_by_cmp bytes_cmp) (map (λ e. e.0) (named lists.files))
  -- 5,120 is the most names and the most descriptors together
  pub low_numbers : All (λ file. file.number < file_number_end) lists.files
  pub good_files : All (λ file. IsContent file.content) lists.files
  pub good_streams : All IsContent lists.streams
  pub small_total : sum_by length lists.streams + sum_by (λ file. length file.content) lists.files ≤ most_total
  pub low_open_files : All (λ e. e.0 < most_descriptors) lists.open_files
  pub good_open_files : All (λ e. IsOpenFileAt e.0 e.1) lists.open_files

-- is the file of a descriptor among these?
abbrev pub is_listed : List ListedFile → OpenFile → Bool
is_listed files Input = true
is_listed files Stream1 = true
is_listed files Stream2 = true
is_listed files (File number file_offset access) = list_any (λ file. file.number == number) files

-- does a file have a name, or one of these descriptors?
abbrev pub is_used : List (ℕ × OpenFile) → ListedFile → Bool
is_used open_files file = is_some file.name || list_any (λ e. is_of file.number e.1) open_files

-- what references require: each descriptor's file is listed, and each listed file has a name or a descriptor
pub record AreJoined (lists : FileLists) : Type 0 where
  pub held : All (λ e. IsTrue (is_listed lists.files e.1)) lists.open_files
  pub used : All (λ file. IsTrue (is_used lists.open_files file)) lists.files
