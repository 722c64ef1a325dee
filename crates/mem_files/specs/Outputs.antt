-- What a program leaves in its files: all names with their contents, and one output.
use Rattle.std.specs.Prelude.{ℕ, ◌≤◌, Option, Some, List, length, map, All, IsTrue}
use Rattle.std.specs.FinMap.{entries, is_sorted}
use Rattle.ddc_base.specs.Limits.{most_content, most_names}
use Rattle.mem_files.specs.Names.{bytes_cmp, is_stripped_name}
use Rattle.mem_files.specs.World.{World, content_of}
use Rattle.mem_files.specs.Calls.{content_at}
use Rattle.mem_files.specs.Sound.{AreBytes}

-- a name with the content of its file
abbrev pub named_content : World → List ℕ × ℕ → List ℕ × List ℕ
named_content w entry = (entry.0, content_of w entry.1)

-- the names with their contents, ascending by the names' bytes
unfoldable pub left : World → List (List ℕ × List ℕ)
left w = map (named_content w) (entries w.names)

-- where an output is: the first stream, or the file at a path
pub data OutputLocation : Type 0 where
  FirstStream : OutputLocation
  AtPath : List ℕ → OutputLocation

-- the output contents; none if no file has the path
abbrev pub out : World → OutputLocation → Option (List ℕ)
out w FirstStream = Some w.stream1
out w (AtPath path) = content_at w path

-- a content: bytes, at most as many as a file or a stream may have
pub record IsContent (content : List ℕ) : Type 0 where
  pub bytes : AreBytes content
  pub small : length content ≤ most_content

-- a name and a content: a guest file name that does not begin with `./`
pub record IsLeftFile (file : List ℕ × List ℕ) : Type 0 where
  pub named : IsTrue (is_stripped_name file.0)
  pub name_bytes : AreBytes file.0
  pub content : IsContent file.1

-- what files can leave: at most 4,096 names, strictly ascending by their bytes
pub record AreLeft (files : List (List ℕ × List ℕ)) : Type 0 where
  pub few : length files ≤ most_names
  pub ascending : IsTrue (is_sorted bytes_cmp files)
  pub each : All IsLeftFile files
