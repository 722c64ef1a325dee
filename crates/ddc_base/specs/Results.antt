-- Reading in several steps: `x ← step` in a `do` block continues with the step's value, and the first error is the error of the whole.
use Rattle.std.specs.Prelude.{Bool, if◌then◌else◌, Option, None, Some, Result, Ok, Err}

infixl 10 ◌>>=◌
abbrev pub ◌>>=◌ : {A B E : Type 0} → Result A E → (A → Result B E) → Result B E
(Ok value) >>= rest = rest value
(Err error) >>= rest = Err error

-- a step whose value is not used
infixl 10 ◌>>◌
abbrev pub ◌>>◌ : {A B E : Type 0} → Result A E → Result B E → Result B E
step >> rest = step >>= λ _. rest

-- this error if there is no value
abbrev pub or_error : {A E : Type 0} → E → Option A → Result A E
or_error error None = Err error
or_error error (Some value) = Ok value

-- this error if the test fails
abbrev pub error_unless : {E : Type 0} → E → Bool → Result (Unit {0}) E
error_unless error test = if test then Ok tt else Err error
