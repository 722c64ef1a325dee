-- The files of an execution context as a list.
use Rattle.std.specs.Prelude.{◌≡◌, ℕ, ◌*◌, ◌≤◌, IsTrue, List, length, All, sum_by}
use Rattle.std.specs.FinMap as map
use Rattle.ddc_base.specs.Limits.{most_content, most_names}
use Rattle.mem_files.specs.Names.{bytes_cmp}
use Rattle.guest_run.specs.Setting.{file_size, IsBoxFile}

-- files in the order of their names, of `size` bytes together
pub record IsGiven (files : List (List ℕ × List ℕ)) (size : ℕ) : Type 0 where
  pub sorted : IsTrue (map.is_sorted bytes_cmp files)
  pub each : All IsBoxFile files
  pub few : length files ≤ most_names
  pub counted : size ≡ sum_by file_size files
  pub bounded : size ≤ most_content * length files
