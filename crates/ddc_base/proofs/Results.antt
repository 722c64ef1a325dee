-- What holds of the value of a reading, step by step.
use Rattle.std.proofs.Common.{◌≡◌, Bool, true, false, Option, None, Some, Result, Ok, Err, IfOk, refl, subst, if◌then◌else◌}
use Rattle.ddc_base.specs.Results.{◌>>=◌, ◌>>◌, or_error, error_unless}

-- a reading without an error has such a value. As a record: what it speaks of is found from the goal
pub record Yields {A E : Type 0} (P : A → Type 0) (reading : Result A E) : Type 0 where
  pub is : IfOk reading P

pub yields : {A E : Type 0} (P : A → Type 0) (value : A) → P value → Yields {E = E} P (Ok value)
yields P value holds = record { is = holds }

pub refuses : {A E : Type 0} (P : A → Type 0) (error : E) → Yields P (Err error)
refuses P error = record { is = tt }

pub bound : {A B E : Type 0} {P : B → Type 0} (step : Result A E) (rest : A → Result B E) → ((value : A) → step ≡ Ok value → Yields P (rest value)) → Yields P (step >>= rest)
bound (Ok value) rest each = each value refl
bound (Err error) rest each = record { is = tt }

pub tested : {B E : Type 0} {P : B → Type 0} (error : E) (test : Bool) (rest : Result B E) → (test ≡ true → Yields P rest) → Yields P (error_unless error test >> rest)
tested error true rest holds = holds refl
tested error false rest holds = record { is = tt }

pub found : {A B E : Type 0} {P : B → Type 0} (error : E) (value : Option A) (rest : A → Result B E)
    → ((some : A) → value ≡ Some some → Yields P (rest some)) → Yields P (or_error error value >>= rest)
found error (Some value) rest each = each value refl
found error None rest each = record { is = tt }

pub chosen : {A E : Type 0} {P : A → Type 0} (test : Bool) (first second : Result A E) → (test ≡ true → Yields P first) → Yields P second → Yields P (if test then first else second)
chosen true first second holds other = holds refl
chosen false first second holds other = other

-- what holds of the value of a reading holds of what it gave
pub taken : {A E : Type 0} {P : A → Type 0} (reading : Result A E) (value : A) → Yields P reading → reading ≡ Ok value → P value
taken {P = P} reading value holds is = subst (λ r. IfOk r P) is holds.is
