-- How the prover stores the model of a list of files.
use Rattle.std.specs.Prelude.{ℕ, List, refl}
use Rattle.std.specs.Coded.{Coded, code_by, coded×, coded_ℕ, coded_list}
use Rattle.mem_files.specs.World.{World}
use Rattle.mem_files.specs.Inside.Codes.{world_code}
use Rattle.kaem_script.specs.FilesListed.{FilesListed}

-- a list is stored as its two parts
abbrev pub listed_code : Coded FilesListed
listed_code =
    code_by (List (List ℕ) × World) (coded× (coded_list (coded_list coded_ℕ)) world_code) (λ l. (l.names, l.world))
    (λ p. record { names = p.0; world = p.1 }) (λ _. refl)
