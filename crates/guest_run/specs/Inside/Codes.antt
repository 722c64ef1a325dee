-- How the prover stores the model of a guest, of an execution context and of its files. A crate above that stores one names it.
use Rattle.std.specs.Prelude.{ℕ, List, refl}
use Rattle.std.specs.FinMap as map
use Rattle.std.specs.Coded.{Coded, code_by, coded×, coded_ℕ, coded_list}
use Rattle.rv64_machine.specs.Hart.{HartState}
use Rattle.rv64_machine.specs.Inside.Codes.{hart_code}
use Rattle.mem_files.specs.World.{World}
use Rattle.mem_files.specs.Inside.Codes.{world_code}
use Rattle.linux_calls.specs.declared.Heap.{Heap}
use Rattle.guest_run.specs.Setting.{FileMap, Setting}
use Rattle.guest_run.specs.State.{GuestState}

abbrev pub file_map_code : Coded FileMap
file_map_code = map.code (coded_list coded_ℕ) (coded_list coded_ℕ)

-- a setting is stored as its four parts
abbrev pub setting_code : Coded Setting
setting_code =
    code_by (List (List ℕ) × (List (List ℕ) × (FileMap × ℕ)))
    (coded× (coded_list (coded_list coded_ℕ)) (coded× (coded_list (coded_list coded_ℕ)) (coded× file_map_code coded_ℕ)))
    (λ s. (s.args, (s.env, (s.files, s.heap)))) (λ p. record { args = p.0; env = p.1.0; files = p.1.1.0; heap = p.1.1.1 }) (λ _. refl)

abbrev pub heap_code : Coded Heap
heap_code =
    code_by (ℕ × (ℕ × ℕ)) (coded× coded_ℕ (coded× coded_ℕ coded_ℕ)) (λ h. (h.first, (h.now, h.limit)))
    (λ p. record { first = p.0; now = p.1.0; limit = p.1.1 }) (λ _. refl)

abbrev pub guest_code : Coded GuestState
guest_code =
    code_by (HartState × (World × (Heap × ℕ))) (coded× hart_code (coded× world_code (coded× heap_code coded_ℕ)))
    (λ g. (g.hart, (g.world, (g.heap, g.steps))))
    (λ p. record { hart = p.0; world = p.1.0; heap = p.1.1.0; steps = p.1.1.1 }) (λ _. refl)
