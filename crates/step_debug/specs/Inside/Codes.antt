-- A session encoded by its parts. Rattle requires this where a contract sees it as a type of the definitions.
use Rattle.std.specs.Prelude.{ℕ, Option, List, refl}
use Rattle.std.specs.Coded.{Coded, code_by, coded×, coded_ℕ, coded_list, coded_option}
use Rattle.guest_run.specs.Setting.{Setting}
use Rattle.guest_run.specs.Inside.Codes.{setting_code}
use Rattle.guest_run.specs.State.{GuestState}
use Rattle.guest_run.specs.Inside.Codes.{guest_code}
use Rattle.step_debug.specs.Sessions.{SessionState}

abbrev pub session_code : Coded SessionState
session_code =
    code_by (List ℕ × (Setting × (ℕ × (GuestState × Option ℕ))))
    (coded× (coded_list coded_ℕ) (coded× setting_code (coded× coded_ℕ (coded× guest_code (coded_option coded_ℕ)))))
    (λ s. (s.program, (s.setting, (s.limit, (s.at, s.stop)))))
    (λ p. record { program = p.0; setting = p.1.0; limit = p.1.1.0; at = p.1.1.1.0; stop = p.1.1.1.1 })
    (λ _. refl)
