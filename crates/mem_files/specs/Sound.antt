-- The rules of files, which every call keeps (docs/reference/files.md, "Rules"), in two parts: what counts and ranges
-- require, and what references require.
use Rattle.std.specs.Prelude.{◌≡◌, ℕ, ◌^◌, ◌<◌, ◌≤◌, ◌||◌, List, length, Some, IsSome, IsTrue}
use Rattle.std.specs.FinMap as map
pub use Rattle.ddc_base.specs.ByteLists.{AreBytes}
use Rattle.mem_files.specs.declared.open_file.Access.{Access}
use Rattle.mem_files.specs.declared.open_file.OpenFile.{OpenFile}
use Rattle.mem_files.specs.declared.open_file.OpenFile.TheVariants.{Input, Stream1, Stream2, File}
use Rattle.ddc_base.specs.Limits.{file_number_end, most_content, most_descriptors, most_names, most_total}
use Rattle.mem_files.specs.Names.{is_stripped_name}
use Rattle.mem_files.specs.World.{World, total, is_named, is_open}

-- what a descriptor may stand for: the input and the streams have fixed descriptors, and a file offset is below 2^63
abbrev pub IsOpenFileAt : ℕ → OpenFile → Type 0
IsOpenFileAt fd Input = fd ≡ 0
IsOpenFileAt fd Stream1 = fd ≡ 1
IsOpenFileAt fd Stream2 = fd ≡ 2
IsOpenFileAt fd (File number file_offset access) = file_offset < 2 ^ 63

-- what counts and ranges require: names, contents and streams are bytes, and no limit is exceeded
pub record IsInLimits (w : World) : Type 0 where
  pub few_names : map.len w.names ≤ most_names
  pub few_open_files : map.len w.open_files ≤ most_descriptors
  pub good_names : (name : List ℕ) (number : ℕ) → map.get w.names name ≡ Some number → IsTrue (is_stripped_name name)
  pub name_bytes : (name : List ℕ) (number : ℕ) → map.get w.names name ≡ Some number → AreBytes name
  -- 5,120 is the most names and the most descriptors together
  pub low_numbers : (number : ℕ) → IsSome (map.get w.files number) → number < file_number_end
  pub file_bytes : (number : ℕ) (content : List ℕ) → map.get w.files number ≡ Some content → AreBytes content
  pub small_files : (number : ℕ) (content : List ℕ) → map.get w.files number ≡ Some content → length content ≤ most_content
  pub stream1_bytes : AreBytes w.stream1
  pub stream2_bytes : AreBytes w.stream2
  pub small_stream1 : length w.stream1 ≤ most_content
  pub small_stream2 : length w.stream2 ≤ most_content
  pub small_total : total w ≤ most_total
  pub low_open_files : (fd : ℕ) (open_file : OpenFile) → map.get w.open_files fd ≡ Some open_file → fd < most_descriptors
  pub good_open_files : (fd : ℕ) (open_file : OpenFile) → map.get w.open_files fd ≡ Some open_file → IsOpenFileAt fd open_file

-- what references require: a name has a file, a file has at most one name, an open file exists, and each file has a name or a descriptor
pub record IsWorldJoined (w : World) : Type 0 where
  pub held : (name : List ℕ) (number : ℕ) → map.get w.names name ≡ Some number → IsSome (map.get w.files number)
  pub named_once : (name other : List ℕ) (number : ℕ) → map.get w.names name ≡ Some number → map.get w.names other ≡ Some number → name ≡ other
  pub open_held : (fd number file_offset : ℕ) (access : Access) → map.get w.open_files fd ≡ Some (File number file_offset access)
      → IsSome (map.get w.files number)
  pub used : (number : ℕ) → IsSome (map.get w.files number) → IsTrue (is_named w number || is_open w number)

-- the rules of files: both parts
pub record IsSound (w : World) : Type 0 where
  pub within : IsInLimits w
  pub joined : IsWorldJoined w
