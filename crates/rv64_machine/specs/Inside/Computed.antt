-- The values that rows compute, taken from the table of meanings. The code splits that table in this way.
-- To read the promises, this file is not needed.
use Rattle.std.specs.Prelude.{ℕ, if◌then◌else◌}
use Rattle.rv64_table.specs.declared.Op.{Op}
use Rattle.rv64_table.specs.declared.Op.TheVariants.{Lui, Auipc}
use Rattle.rv64_table.specs.Table.{is_atomic}
use Rattle.rv64_machine.specs.declared.effect.Effect.{Effect}
use Rattle.rv64_machine.specs.declared.effect.Effect.TheVariants.{Put}
use Rattle.rv64_machine.specs.Meaning.{meaning}

-- the value that an effect sets rd to; 0 if it sets none
abbrev pub value_put : Effect → ℕ
value_put (Put value) = value
value_put _ = 0

-- the value that a row computes from a, b and i; 0 if it computes none from them alone
abbrev pub computed : Op → ℕ → ℕ → ℕ → ℕ
computed Lui a b i = 0
computed Auipc a b i = 0
computed op a b i = value_put (meaning op a b i 0)

-- the effect of an atomic row, or of a row that computes a value from a, b and i alone
abbrev pub other_effect : Op → ℕ → ℕ → ℕ → Effect
other_effect op a b i = if is_atomic op then meaning op a b i 0 else Put (computed op a b i)
