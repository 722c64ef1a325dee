-- The execution context of a program.
-- docs/reference/running.md says the same for people.
use Rattle.std.specs.Prelude.{◌≡◌, ℕ, ◌≤◌, ◌==◌, Bool, ◌||◌, nat_le, nat_lt, not, if◌then◌else◌, IsTrue, Option, Some, None, List, length, All, Result, Ok, Err, sum_by}
use Rattle.std.specs.List.{list_any}
use Rattle.std.specs.FinMap as map
use Rattle.mem_files.specs.declared.open_file.PlaceRefusal.{PlaceRefusal}
use Rattle.mem_files.specs.declared.open_file.PlaceRefusal.TheVariants.{BadName, Twice, Full, OutOfMemory}
use Rattle.ddc_base.specs.Limits.{most_content, most_heap, most_names}
use Rattle.mem_files.specs.Names.{bytes_cmp, is_file_name, is_stripped_name}
use Rattle.mem_files.specs.Sound.{AreBytes}

-- files by name
abbrev pub FileMap : Type 0
FileMap = map.FinMap bytes_cmp (List ℕ)

-- arguments, environment, files, and the largest size of the heap in bytes
pub record Setting : Type 0 where
  pub args : List (List ℕ)
  pub env : List (List ℕ)
  pub files : FileMap
  pub heap : ℕ

-- a text has no zero byte
abbrev pub is_text : List ℕ → Bool
is_text text = not (list_any (λ byte. byte == 0) text)

abbrev pub IsText : List ℕ → Type 0
IsText text = IsTrue (is_text text)

-- the bytes of all files
abbrev pub file_size : List ℕ × List ℕ → ℕ
file_size file = length file.1

abbrev pub files_size : FileMap → ℕ
files_size files = sum_by file_size (map.entries files)

-- a file of an execution context: its size is within the limit, and its name is a file name without a leading `./`
pub record IsBoxFile (file : List ℕ × List ℕ) : Type 0 where
  pub named : IsTrue (is_stripped_name file.0)
  pub name_bytes : AreBytes file.0
  pub small : length file.1 ≤ most_content
  pub content_bytes : AreBytes file.1

-- a valid execution context: texts of bytes without zero bytes, at most 4,096 files, and a heap of at most 2^30 bytes
pub record IsBox (setting : Setting) : Type 0 where
  pub args : All IsText setting.args
  pub arg_bytes : All AreBytes setting.args
  pub env : All IsText setting.env
  pub env_bytes : All AreBytes setting.env
  pub files : All IsBoxFile (map.entries setting.files)
  pub few : map.len setting.files ≤ most_names
  pub heap : setting.heap ≤ most_heap

-- why a file is not placed under its name, which has no leading `./`
abbrev pub place_refusal : FileMap → List ℕ → List ℕ → Option PlaceRefusal
place_refusal files name content =
    if not (is_file_name name) then Some BadName
    else (if map.contains_key files name then Some Twice
    else (if nat_lt most_content (length content) || nat_le most_names (map.len files) then Some Full
    else None))

-- a file is placed, or refused, or memory runs out where it would be placed. The latter two change nothing
abbrev pub PlacesIn : FileMap → List ℕ → List ℕ → Result (Unit {0}) PlaceRefusal → FileMap → Type 0
PlacesIn old name content (Ok done) new = (place_refusal old name content ≡ None) × (new ≡ map.insert old name content)
PlacesIn old name content (Err BadName) new = (place_refusal old name content ≡ Some BadName) × (new ≡ old)
PlacesIn old name content (Err Twice) new = (place_refusal old name content ≡ Some Twice) × (new ≡ old)
PlacesIn old name content (Err Full) new = (place_refusal old name content ≡ Some Full) × (new ≡ old)
PlacesIn old name content (Err OutOfMemory) new = (place_refusal old name content ≡ None) × (new ≡ old)
