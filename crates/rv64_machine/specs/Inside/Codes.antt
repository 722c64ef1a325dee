-- A hart as the data that a ghost field holds.
use Rattle.std.specs.Prelude.{ℕ, List, Option, refl}
use Rattle.std.specs.Coded.{Coded, code_by, coded×, coded_ℕ, coded_list, coded_option}
use Rattle.std.specs.FinMap as map
use Rattle.paged_mem.specs.Memory.{Memory}
use Rattle.rv64_machine.specs.Hart.{HartState}

-- a state is stored as its four parts
abbrev pub hart_code : Coded HartState
hart_code =
    code_by (List ℕ × (ℕ × (Memory × Option (ℕ × ℕ))))
    (coded× (coded_list coded_ℕ) (coded× coded_ℕ (coded× (map.code coded_ℕ coded_ℕ) (coded_option (coded× coded_ℕ coded_ℕ)))))
    (λ h. (h.registers, (h.pc, (h.memory, h.reservation))))
    (λ p. record { registers = p.0; pc = p.1.0; memory = p.1.1.0; reservation = p.1.1.1 })
    (λ _. refl)
