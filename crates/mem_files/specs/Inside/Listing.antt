-- A `World` to which files are added one by one.
use Rattle.std.specs.Prelude.{ℕ, Option, None, Some, List}
use Rattle.std.specs.FinMap as fin
use Rattle.mem_files.specs.Names.{bytes_cmp}
use Rattle.mem_files.specs.World.{World}
use Rattle.mem_files.specs.Lists.{ListedFile}

-- one more file, under a number of its own
abbrev pub with_title : fin.FinMap bytes_cmp ℕ → Option (List ℕ) → ℕ → fin.FinMap bytes_cmp ℕ
with_title names None number = names
with_title names (Some name) number = fin.insert names name number

abbrev pub with_listed : World → ListedFile → World
with_listed w file = record w {
  names = with_title w.names file.name file.number;
  files = fin.insert w.files file.number file.content;
}
