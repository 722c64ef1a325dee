-- The conditions under which the files of a list are added one after another. No promise depends on these definitions.
use Rattle.std.specs.Prelude.{◌≡◌, ℕ, false, bytes_eq, All, Ok, List, [], ◌∷◌}
use Rattle.mem_files.specs.Calls.{placed}
use Rattle.mem_files.specs.Names.{stripped}
use Rattle.kaem_script.specs.FilesListed.{FilesListed}

-- words that name files, no two of them the same one
abbrev pub IsApart : List ℕ → List ℕ → Type 0
IsApart word other = bytes_eq (stripped word) (stripped other) ≡ false

abbrev pub AreApart : List (List ℕ) → Type 0
AreApart [] = Unit {0}
AreApart (word ∷ words) = All (IsApart word) words × AreApart words

-- no rule refuses this file
abbrev pub IsPlaced : FilesListed → List ℕ → List ℕ → Type 0
IsPlaced listed word content = (placed listed.world word content).0 ≡ Ok tt
