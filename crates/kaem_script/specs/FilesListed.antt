-- The files that a script is given. docs/reference/kaem.md says the same for people.
use Rattle.std.specs.Prelude.{◌≡◌, ℕ, ◌≤◌, List, [], ◌∷◌, ◌++◌, length, map, unwrap_or, IsSome, Result, Ok, Err, IsTrue, All}
use Rattle.std.specs.FinMap as map_of
use Rattle.mem_files.specs.World.{World}
use Rattle.mem_files.specs.Calls.{content_at, first_world, placed}
use Rattle.mem_files.specs.Names.{is_stripped_name, stripped}
use Rattle.mem_files.specs.declared.open_file.PlaceRefusal.{PlaceRefusal}
use Rattle.mem_files.specs.declared.open_file.PlaceRefusal.TheVariants.{OutOfMemory}

-- the names, without a leading `./`, in the order of the list; and the files, with which the first command starts
pub record FilesListed : Type 0 where
  pub names : List (List ℕ)
  pub world : World

-- names as files hold them
abbrev pub AreNames : List (List ℕ) → Type 0
AreNames names = All (λ name. IsTrue (is_stripped_name name)) names

-- each listed name is that of a file, and no more names are listed than there are
pub record IsList (listed : FilesListed) : Type 0 where
  pub named : AreNames listed.names
  pub there : All (λ name. IsSome (map_of.get listed.world.names name)) listed.names
  pub few : length listed.names ≤ map_of.len listed.world.names

abbrev pub no_files : FilesListed
no_files = record { names = []; world = first_world }

-- a name with the content of its file
abbrev pub named_in : World → List ℕ → List ℕ × List ℕ
named_in world name = (name, unwrap_or (content_at world name) [])

-- each name with the content of its file, in the order of the list
abbrev pub listed_files : FilesListed → List (List ℕ × List ℕ)
listed_files listed = map (named_in listed.world) listed.names

-- adding a file, which is placed as files are; a refusal leaves the list unchanged
abbrev pub Pushes : FilesListed → List ℕ → List ℕ → Result (Unit {0}) PlaceRefusal → FilesListed → Type 0
Pushes old name content (Ok done) new =
    (placed old.world name content ≡ (Ok tt, new.world)) × (new.names ≡ old.names ++ stripped name ∷ [])
Pushes old name content (Err OutOfMemory) new = new ≡ old
Pushes old name content (Err refusal) new = (placed old.world name content ≡ (Err refusal, old.world)) × (new ≡ old)
