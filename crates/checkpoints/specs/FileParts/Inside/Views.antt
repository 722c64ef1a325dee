-- Parts as contracts see them: three lists.
use Rattle.std.specs.Prelude.{ℕ, ◌≤◌, Option, List, map, length, All, IfSome, IsTrue, refl}
use Rattle.std.specs.Ordering.{nat_cmp}
use Rattle.std.specs.FinMap as fin
use Rattle.std.specs.Borrow.{Bor}
use Rattle.std.specs.Coded.{Coded, code_by, coded×, coded_ℕ, coded_list, coded_option}
use Rattle.mem_files.specs.declared.open_file.OpenFile.{OpenFile}
use Rattle.mem_files.specs.contracts.open_file.OpenFile as open_file
use Rattle.mem_files.specs.declared.view.FileView.{FileView}
use Rattle.mem_files.specs.Sound.{AreBytes}
use Rattle.mem_files.specs.Lists.{ListedFile, FileLists, listed, numbered_contents}

abbrev pub view_of : List FileView → List (ℕ × OpenFile) → List (Bor (List ℕ)) → FileLists
view_of files open_files streams = record { files = map listed files; open_files = open_files; streams = map (λ stream. stream.now) streams }

-- names and contents are bytes
pub record HasBytes (file : ListedFile) : Type 0 where
  pub name : IfSome file.name AreBytes
  pub content : AreBytes file.content

-- what all parts obey: numbers and descriptors ascend, there are at most two streams, and everything is bytes
pub record AreParts (lists : FileLists) : Type 0 where
  pub files_rise : IsTrue (fin.is_sorted nat_cmp (numbered_contents lists.files))
  pub open_files_rise : IsTrue (fin.is_sorted nat_cmp lists.open_files)
  pub few_streams : length lists.streams ≤ 2
  pub file_bytes : All HasBytes lists.files
  pub stream_bytes : All AreBytes lists.streams

-- lists are stored as their parts
abbrev pub file_code : Coded ListedFile
file_code =
    code_by (ℕ × (Option (List ℕ) × List ℕ)) (coded× coded_ℕ (coded× (coded_option (coded_list coded_ℕ)) (coded_list coded_ℕ)))
    (λ f. (f.number, (f.name, f.content)))
    (λ p. record { number = p.0; name = p.1.0; content = p.1.1 })
    (λ _. refl)

abbrev pub lists_code : Coded FileLists
lists_code =
    code_by (List ListedFile × (List (ℕ × OpenFile) × List (List ℕ)))
    (coded× (coded_list file_code) (coded× (coded_list (coded× coded_ℕ open_file.the_row.coded)) (coded_list (coded_list coded_ℕ))))
    (λ l. (l.files, (l.open_files, l.streams)))
    (λ p. record { files = p.0; open_files = p.1.0; streams = p.1.1 })
    (λ _. refl)
