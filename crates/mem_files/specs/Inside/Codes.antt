-- How the prover stores a `World`. A crate that stores one names this.
use Rattle.std.specs.Prelude.{ℕ, List, refl}
use Rattle.std.specs.Ordering.{nat_cmp}
use Rattle.std.specs.FinMap as map
use Rattle.std.specs.Coded.{Coded, code_by, coded×, coded_ℕ, coded_list}
use Rattle.mem_files.specs.declared.open_file.OpenFile.{OpenFile}
use Rattle.mem_files.specs.contracts.open_file.OpenFile as open_file
use Rattle.mem_files.specs.Names.{bytes_cmp}
use Rattle.mem_files.specs.World.{World}

-- a world is stored as its parts
abbrev pub world_code : Coded World
world_code =
    code_by (map.FinMap bytes_cmp ℕ × (map.FinMap nat_cmp (List ℕ) × (map.FinMap nat_cmp OpenFile × (List ℕ × List ℕ))))
    (coded× (map.code (coded_list coded_ℕ) coded_ℕ) (coded× (map.code coded_ℕ (coded_list coded_ℕ)) (coded× (map.code coded_ℕ open_file.the_row.coded) (coded× (coded_list coded_ℕ) (coded_list coded_ℕ)))))
    (λ w. (w.names, (w.files, (w.open_files, (w.stream1, w.stream2)))))
    (λ p. record { names = p.0; files = p.1.0; open_files = p.1.1.0; stream1 = p.1.1.1.0; stream2 = p.1.1.1.1 })
    (λ _. refl)
