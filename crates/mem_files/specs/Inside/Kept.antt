-- The invariant of every `Files` in the form its calls use: the rules of specs/Sound.antt in one list, and bytes apart.
use Rattle.std.specs.Prelude.{◌≡◌, ℕ, ◌+◌, ◌^◌, ◌<◌, ◌≤◌, ◌||◌, List, length, Some, IsSome, IsTrue}
use Rattle.std.specs.FinMap as map
use Rattle.mem_files.specs.declared.open_file.OpenFile.{OpenFile}
use Rattle.mem_files.specs.declared.open_file.OpenFile.TheVariants.{Input, Stream1, Stream2, File}
use Rattle.ddc_base.specs.Limits.{most_content, most_total, most_descriptors, most_names}
use Rattle.mem_files.specs.Names.{is_stripped_name}
use Rattle.mem_files.specs.World.{World, total, is_named, is_open}
use Rattle.mem_files.specs.Sound.{AreBytes}

-- the file of a descriptor exists
abbrev pub HasFile : World → OpenFile → Type 0
HasFile w Input = Unit {0}
HasFile w Stream1 = Unit {0}
HasFile w Stream2 = Unit {0}
HasFile w (File number file_offset access) = IsSome (map.get w.files number)

-- what a descriptor may stand for: the input and the streams have fixed descriptors; an open file exists, with its file offset below 2^63
abbrev pub IsHeldOpenFile : World → ℕ → OpenFile → Type 0
IsHeldOpenFile w fd Input = fd ≡ 0
IsHeldOpenFile w fd Stream1 = fd ≡ 1
IsHeldOpenFile w fd Stream2 = fd ≡ 2
IsHeldOpenFile w fd (File number file_offset access) = IsSome (map.get w.files number) × (file_offset < 2 ^ 63)

-- the limits are kept, and names, files and descriptors agree
pub record IsKept (w : World) : Type 0 where
  pub few_names : map.len w.names ≤ most_names
  pub few_open_files : map.len w.open_files ≤ most_descriptors
  pub small_stream1 : length w.stream1 ≤ most_content
  pub small_stream2 : length w.stream2 ≤ most_content
  pub small_files : (number : ℕ) (content : List ℕ) → map.get w.files number ≡ Some content → length content ≤ most_content
  pub small_total : total w ≤ most_total
  pub good_names : (name : List ℕ) (number : ℕ) → map.get w.names name ≡ Some number → IsTrue (is_stripped_name name)
  -- a name has a file, and a file at most one name
  pub held : (name : List ℕ) (number : ℕ) → map.get w.names name ≡ Some number → IsSome (map.get w.files number)
  pub named_once : (name other : List ℕ) (number : ℕ) → map.get w.names name ≡ Some number → map.get w.names other ≡ Some number → name ≡ other
  pub good_open_files : (fd : ℕ) (open_file : OpenFile) → map.get w.open_files fd ≡ Some open_file → (fd < most_descriptors) × IsHeldOpenFile w fd open_file
  -- a file has a name or a descriptor, so its number is below the most names and descriptors together
  pub used : (number : ℕ) → IsSome (map.get w.files number) → IsTrue (is_named w number || is_open w number)
  pub low_numbers : (number : ℕ) → IsSome (map.get w.files number) → number < most_names + most_descriptors

-- names, contents and streams are bytes
pub record HasBytes (w : World) : Type 0 where
  pub name_bytes : (name : List ℕ) (number : ℕ) → map.get w.names name ≡ Some number → AreBytes name
  pub file_bytes : (number : ℕ) (content : List ℕ) → map.get w.files number ≡ Some content → AreBytes content
  pub stream1_bytes : AreBytes w.stream1
  pub stream2_bytes : AreBytes w.stream2
