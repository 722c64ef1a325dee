-- What an atomic memory operation writes, from the number that it read and b (RISC-V Unprivileged ISA, "A", "Atomic Memory Operations").
use Rattle.std.specs.Prelude.{ℕ, ◌%◌, ◌^◌, if◌then◌else◌, nat_lt, bit_and, bit_or, bit_xor}
use Rattle.rv64_machine.specs.declared.effect.AmoOperation.{AmoOperation}
use Rattle.rv64_machine.specs.declared.effect.AmoOperation.TheVariants.{Swap, Add, Xor, And, Or, Min, Max, MinUnsigned, MaxUnsigned}
use Rattle.rv64_machine.specs.Arithmetic.{sign_extended, sum}
use Rattle.rv64_machine.specs.Meaning.{less}

-- the number whose low bits are written; minimum and maximum are taken at the width in bits, signed or not
abbrev pub amo_result : AmoOperation → ℕ → ℕ → ℕ → ℕ
amo_result Swap width old b = b
amo_result Add width old b = sum 64 old b
amo_result Xor width old b = bit_xor old b
amo_result And width old b = bit_and old b
amo_result Or width old b = bit_or old b
amo_result Min width old b = if less (sign_extended width old) (sign_extended width (b % 2 ^ width)) then old else b
amo_result Max width old b = if less (sign_extended width (b % 2 ^ width)) (sign_extended width old) then old else b
amo_result MinUnsigned width old b = if nat_lt old (b % 2 ^ width) then old else b
amo_result MaxUnsigned width old b = if nat_lt (b % 2 ^ width) old then old else b
