-- The start of a stage's program, or the cause why it does not start.
use Rattle.std.specs.Prelude.{◌≡◌, Result, Ok, Err}
use Rattle.guest_run.specs.State.{GuestState}
use Rattle.guest_run.specs.Start.{Refusal, Elf, ArgsTooLong, BoxTooLarge}
use Rattle.audit_rules.specs.declared.cause.StartCause.{StartCause}
use Rattle.audit_rules.specs.declared.cause.StartCause.TheVariants as start

abbrev pub Begins : Result GuestState Refusal → Result GuestState StartCause → Type 0
Begins meant (Ok guest) = meant ≡ Ok guest
Begins meant (Err (start.Elf refusal)) = meant ≡ Err (Elf refusal)
Begins meant (Err start.ArgsTooLong) = meant ≡ Err ArgsTooLong
Begins meant (Err start.BoxTooLarge) = meant ≡ Err BoxTooLarge
