-- An act that goes on, and the answer to a call, leave numbers below 2 ^ 64 in the registers and the pc.
use Rattle.std.proofs.Common.{◌≡◌, ℕ, zero, suc, ◌+◌, ◌-◌, ◌*◌, ◌/◌, ◌%◌, ◌^◌, ◌<◌, ◌≤◌, ◌==◌, Bool, true, false, cond, ℤ, pos, negsuc, Option, Some, None, List, [], ◌∷◌, length, get_or, All, refl, ap, subst, arith, inl, inr}
use Rattle.std.specs.Prelude.{◌*ℤ◌, bit_and, slice_index, slice_set}
use Rattle.std.specs.Option.{option_map}
use Rattle.std.proofs.lemmas.Bool.{cases_lt}
use Rattle.std.proofs.lemmas.Nat.{and_le_l, or_lt, xor_lt}
use Rattle.std.proofs.lemmas.List.Elements.{All-get_or, All-head, All-set, All-tail}
use Rattle.std.proofs.Math.Nat.{div-le_self, mod-le, pow-suc}
use Rattle.paged_mem.specs.Memory.{Memory, IsWhole, bytes_at, maps, number_of, reads, writes}
use Rattle.paged_mem.specs.Ram.{count_of}
use Rattle.paged_mem.specs.declared.ram.Width.{Width}
use Rattle.paged_mem.specs.declared.ram.Width.TheVariants.{W1, W2, W4, W8}
use Rattle.paged_mem.proofs.Maps.{length_of_bytes_at}
use Rattle.rv64_table.specs.declared.Op.{Op}
use Rattle.rv64_table.specs.declared.Op.TheVariants.{Lui, Auipc, Jal, Jalr, Beq, Bne, Blt, Bge, Bltu, Bgeu, Lb, Lh, Lw, Ld, Lbu, Lhu, Lwu, Sb, Sh, Sw, Sd, Addi, Slti, Sltiu, Xori, Ori, Andi, Slli, Srli, Srai, Add, Sub, Sll, Slt, Sltu, Xor, Srl, Sra, Or, And, Fence, Ecall, Ebreak, Addiw, Slliw, Srliw, Sraiw, Addw, Subw, Sllw, Srlw, Sraw, Mul, Mulh, Mulhsu, Mulhu, Div, Divu, Rem, Remu, Mulw, Divw, Divuw, Remw, Remuw, Lrw, Scw, Amoswapw, Amoaddw, Amoxorw, Amoandw, Amoorw, Amominw, Amomaxw, Amominuw, Amomaxuw, Lrd, Scd, Amoswapd, Amoaddd, Amoxord, Amoandd, Amoord, Amomind, Amomaxd, Amominud, Amomaxud}
use Rattle.rv64_decode.specs.declared.Inst.{Inst}
use Rattle.rv64_machine.specs.Arithmetic.{flag, floored, high_product, quotient, quotient_unsigned, remainder, remainder_unsigned, sign_extended, wrapped}
use Rattle.rv64_machine.specs.Meaning.{meaning}
use Rattle.rv64_machine.specs.declared.effect.Effect.{Effect}
use Rattle.rv64_machine.specs.declared.effect.Effect.TheVariants.{Put, Jump, Branch, Load, LoadSigned, Store, Next, Call, Break, LoadReserved, StoreConditional, Amo}
use Rattle.rv64_machine.specs.declared.answer.Cause.TheVariants.{FetchMisaligned, StoreUnmapped}
use Rattle.rv64_machine.specs.Atomics.{amo_result}
use Rattle.rv64_machine.specs.Hart.{loads_reserved, after_conditional, stores_conditional, performs_amo, reads_aligned, is_reserved, GoesOn, Traps, HartState, HasNumbers, act, arrives, carried, effect_of, fetched, following, loads, passes, runs, with_register}
use Rattle.rv64_decode.specs.Decode.{decoded}
use Rattle.paged_mem.proofs.Wholes.{bytes_at-bytes}

mod-small : (n : ℕ) → n % 2 ^ 64 < 2 ^ 64
mod-small n = omega arith

wrapped-small : (z : ℤ) → wrapped 64 z < 2 ^ 64
wrapped-small (pos n) = mod-small n
wrapped-small (negsuc n) = omega arith

high-small : (x y : ℤ) → high_product x y < 2 ^ 64
high-small x y = wrapped-small (floored (x *ℤ y) 64)

flag-small : (t : Bool) → flag t < 2 ^ 64
flag-small true = omega arith
flag-small false = omega arith

and-small : (a b : ℕ) → a < 2 ^ 64 → bit_and a b < 2 ^ 64
and-small a b ha = omega (arith, and_le_l a b)

shift-small : (a count : ℕ) → a < 2 ^ 64 → a / 2 ^ count < 2 ^ 64
shift-small a count ha = omega (arith, div-le_self a (2 ^ count))

even-small : (n : ℕ) → n % 2 ^ 64 / 2 * 2 < 2 ^ 64
even-small n = let less = mod-small n in omega arith

either : (t : Bool) (x y : ℕ) → x < 2 ^ 64 → y < 2 ^ 64 → cond t x y < 2 ^ 64
either true x y hx hy = hx
either false x y hx hy = hy

quotient-small : (a b : ℕ) → quotient 64 a b < 2 ^ 64
quotient-small a b = either (b == 0) _ _ (omega arith) (wrapped-small _)

unsigned-quotient-small : (a b : ℕ) → a < 2 ^ 64 → quotient_unsigned 64 a b < 2 ^ 64
unsigned-quotient-small a b ha = either (b == 0) (2 ^ 64 - 1) (a / b) (omega arith) (omega (arith, div-le_self a b))

remainder-small : (a b : ℕ) → a < 2 ^ 64 → remainder 64 a b < 2 ^ 64
remainder-small a b ha = either (b == 0) a _ ha (wrapped-small _)

unsigned-remainder-small : (a b : ℕ) → a < 2 ^ 64 → remainder_unsigned a b < 2 ^ 64
unsigned-remainder-small a b ha = either (b == 0) a (a % b) ha (omega (arith, mod-le a b))

-- the numbers of an effect that registers and the pc get
abbrev IsSmall : Effect → Type 0
IsSmall (Put value) = value < 2 ^ 64
IsSmall (Jump target) = target < 2 ^ 64
IsSmall (Branch taken target) = target < 2 ^ 64
IsSmall (Load width at) = Unit {0}
IsSmall (LoadSigned width at) = Unit {0}
IsSmall (Store width at value) = Unit {0}
IsSmall Next = Unit {0}
IsSmall Call = Unit {0}
IsSmall Break = Unit {0}
IsSmall (LoadReserved width at) = Unit {0}
IsSmall (StoreConditional width at value) = Unit {0}
IsSmall (Amo operation width at value) = Unit {0}

meaning-small : (op : Op) (a b i pc : ℕ) → a < 2 ^ 64 → b < 2 ^ 64 → i < 2 ^ 64 → pc < 2 ^ 64 → IsSmall (meaning op a b i pc)
meaning-small Lui a b i pc ha hb hi hp = hi
meaning-small Auipc a b i pc ha hb hi hp = mod-small (pc + i)
meaning-small Jal a b i pc ha hb hi hp = mod-small (pc + i)
meaning-small Jalr a b i pc ha hb hi hp = even-small (a + i)
meaning-small Beq a b i pc ha hb hi hp = mod-small (pc + i)
meaning-small Bne a b i pc ha hb hi hp = mod-small (pc + i)
meaning-small Blt a b i pc ha hb hi hp = mod-small (pc + i)
meaning-small Bge a b i pc ha hb hi hp = mod-small (pc + i)
meaning-small Bltu a b i pc ha hb hi hp = mod-small (pc + i)
meaning-small Bgeu a b i pc ha hb hi hp = mod-small (pc + i)
meaning-small Lb a b i pc ha hb hi hp = tt
meaning-small Lh a b i pc ha hb hi hp = tt
meaning-small Lw a b i pc ha hb hi hp = tt
meaning-small Ld a b i pc ha hb hi hp = tt
meaning-small Lbu a b i pc ha hb hi hp = tt
meaning-small Lhu a b i pc ha hb hi hp = tt
meaning-small Lwu a b i pc ha hb hi hp = tt
meaning-small Sb a b i pc ha hb hi hp = tt
meaning-small Sh a b i pc ha hb hi hp = tt
meaning-small Sw a b i pc ha hb hi hp = tt
meaning-small Sd a b i pc ha hb hi hp = tt
meaning-small Addi a b i pc ha hb hi hp = mod-small (a + i)
meaning-small Slti a b i pc ha hb hi hp = flag-small _
meaning-small Sltiu a b i pc ha hb hi hp = flag-small _
meaning-small Xori a b i pc ha hb hi hp = xor_lt 64 a i ha hi
meaning-small Ori a b i pc ha hb hi hp = or_lt 64 a i ha hi
meaning-small Andi a b i pc ha hb hi hp = and-small a i ha
meaning-small Slli a b i pc ha hb hi hp = mod-small _
meaning-small Srli a b i pc ha hb hi hp = shift-small a _ ha
meaning-small Srai a b i pc ha hb hi hp = wrapped-small _
meaning-small Add a b i pc ha hb hi hp = mod-small (a + b)
meaning-small Sub a b i pc ha hb hi hp = wrapped-small _
meaning-small Sll a b i pc ha hb hi hp = mod-small _
meaning-small Slt a b i pc ha hb hi hp = flag-small _
meaning-small Sltu a b i pc ha hb hi hp = flag-small _
meaning-small Xor a b i pc ha hb hi hp = xor_lt 64 a b ha hb
meaning-small Srl a b i pc ha hb hi hp = shift-small a _ ha
meaning-small Sra a b i pc ha hb hi hp = wrapped-small _
meaning-small Or a b i pc ha hb hi hp = or_lt 64 a b ha hb
meaning-small And a b i pc ha hb hi hp = and-small a b ha
meaning-small Fence a b i pc ha hb hi hp = tt
meaning-small Ecall a b i pc ha hb hi hp = tt
meaning-small Ebreak a b i pc ha hb hi hp = tt
meaning-small Addiw a b i pc ha hb hi hp = wrapped-small _
meaning-small Slliw a b i pc ha hb hi hp = wrapped-small _
meaning-small Srliw a b i pc ha hb hi hp = wrapped-small _
meaning-small Sraiw a b i pc ha hb hi hp = wrapped-small _
meaning-small Addw a b i pc ha hb hi hp = wrapped-small _
meaning-small Subw a b i pc ha hb hi hp = wrapped-small _
meaning-small Sllw a b i pc ha hb hi hp = wrapped-small _
meaning-small Srlw a b i pc ha hb hi hp = wrapped-small _
meaning-small Sraw a b i pc ha hb hi hp = wrapped-small _
meaning-small Mul a b i pc ha hb hi hp = mod-small (a * b)
meaning-small Mulh a b i pc ha hb hi hp = wrapped-small _
meaning-small Mulhsu a b i pc ha hb hi hp = wrapped-small _
meaning-small Mulhu a b i pc ha hb hi hp = high-small (pos a) (pos b)
meaning-small Div a b i pc ha hb hi hp = quotient-small a b
meaning-small Divu a b i pc ha hb hi hp = unsigned-quotient-small a b ha
meaning-small Rem a b i pc ha hb hi hp = remainder-small a b ha
meaning-small Remu a b i pc ha hb hi hp = unsigned-remainder-small a b ha
meaning-small Mulw a b i pc ha hb hi hp = wrapped-small _
meaning-small Divw a b i pc ha hb hi hp = wrapped-small _
meaning-small Divuw a b i pc ha hb hi hp = wrapped-small _
meaning-small Remw a b i pc ha hb hi hp = wrapped-small _
meaning-small Remuw a b i pc ha hb hi hp = wrapped-small _
meaning-small Lrw a b i pc ha hb hi hp = tt
meaning-small Scw a b i pc ha hb hi hp = tt
meaning-small Amoswapw a b i pc ha hb hi hp = tt
meaning-small Amoaddw a b i pc ha hb hi hp = tt
meaning-small Amoxorw a b i pc ha hb hi hp = tt
meaning-small Amoandw a b i pc ha hb hi hp = tt
meaning-small Amoorw a b i pc ha hb hi hp = tt
meaning-small Amominw a b i pc ha hb hi hp = tt
meaning-small Amomaxw a b i pc ha hb hi hp = tt
meaning-small Amominuw a b i pc ha hb hi hp = tt
meaning-small Amomaxuw a b i pc ha hb hi hp = tt
meaning-small Lrd a b i pc ha hb hi hp = tt
meaning-small Scd a b i pc ha hb hi hp = tt
meaning-small Amoswapd a b i pc ha hb hi hp = tt
meaning-small Amoaddd a b i pc ha hb hi hp = tt
meaning-small Amoxord a b i pc ha hb hi hp = tt
meaning-small Amoandd a b i pc ha hb hi hp = tt
meaning-small Amoord a b i pc ha hb hi hp = tt
meaning-small Amomind a b i pc ha hb hi hp = tt
meaning-small Amomaxd a b i pc ha hb hi hp = tt
meaning-small Amominud a b i pc ha hb hi hp = tt
meaning-small Amomaxud a b i pc ha hb hi hp = tt

register-small : (registers : List ℕ) (number : ℕ) → All (λ value. value < 2 ^ 64) registers → get_or registers number 0 < 2 ^ 64
register-small registers number are = elim (cases_lt number (length registers)) [
  | inl within ↦ All-get_or (λ value. value < 2 ^ 64) registers number 0 within are
  | inr past ↦ omega (arith, past_end registers number past)
]
  where
    past_end : (xs : List ℕ) (n : ℕ) → length xs ≤ n → get_or xs n 0 ≡ 0
    past_end [] n h = refl
    past_end (x ∷ xs) zero h = absurd (omega arith)
    past_end (x ∷ xs) (suc n) h = past_end xs n (omega arith)

-- what a load reads
number_of-small : (bytes : List ℕ) → All (λ byte. byte < 256) bytes → number_of bytes + 1 ≤ 256 ^ length bytes
unfolding number_of
number_of-small [] are = omega arith
number_of-small (byte ∷ bytes) are =
    let rest = number_of-small bytes (All-tail (λ b. b < 256) byte bytes are) in
    let first = All-head (λ b. b < 256) byte bytes are in
    let power = pow-suc 256 (length bytes) in
    omega arith

width-small : (width : Width) → 256 ^ count_of width ≤ 2 ^ 64
width-small W1 = omega arith
width-small W2 = omega arith
width-small W4 = omega arith
width-small W8 = omega arith

reads-small : (m : Memory) (at value : ℕ) (width : Width) → IsWhole m → reads m at (count_of width) ≡ Some value → value < 2 ^ 64
reads-small m at value width whole e = by_bytes (bytes_at m at (count_of width)) refl e
  where
    by_bytes : (o : Option (List ℕ)) → bytes_at m at (count_of width) ≡ o → option_map number_of o ≡ Some value → value < 2 ^ 64
    by_bytes None was e = cc
    by_bytes (Some bytes) was e =
        let is : number_of bytes ≡ value = cc in
        let small = number_of-small bytes (bytes_at-bytes m at (count_of width) bytes whole was) in
        let long = ap (λ n. 256 ^ n) (length_of_bytes_at m at (count_of width) bytes was) in
        let most = width-small width in
        omega arith

extended-small : (count value : ℕ) (o : Option ℕ) → option_map (sign_extended count) o ≡ Some value → value < 2 ^ 64
extended-small count value None e = cc
extended-small count value (Some n) e = let is : sign_extended count n ≡ value = cc in subst (λ v. v < 2 ^ 64) is (wrapped-small _)

-- acts
same_state : (one other : HartState) → GoesOn one ≡ GoesOn other → one ≡ other
same_state one other e = cc

register-numbers : (hart : HartState) (number value : ℕ) → value < 2 ^ 64 → HasNumbers hart → HasNumbers (with_register hart number value)
register-numbers hart number value small is = by_test (number == 0)
  where
    by_test : (t : Bool) → HasNumbers (record hart { registers = cond t hart.registers (slice_set hart.registers number value) })
    by_test true = is
    by_test false = record { registers = All-set (λ v. v < 2 ^ 64) hart.registers number value small is.registers; pc = is.pc }

passes-numbers : (hart next : HartState) → HasNumbers hart → passes hart ≡ GoesOn next → HasNumbers next
passes-numbers hart next is goes =
    subst HasNumbers (same_state (record hart { pc = following hart }) next goes) (record { registers = is.registers; pc = mod-small (hart.pc + 4) })

arrives-numbers : (hart next : HartState) (target : ℕ) → target < 2 ^ 64 → HasNumbers hart → arrives hart target ≡ GoesOn next → HasNumbers next
arrives-numbers hart next target small is goes = by_test (target % 4 == 0) goes
  where
    by_test : (t : Bool) → cond t (GoesOn (record hart { pc = target })) (Traps (FetchMisaligned target)) ≡ GoesOn next → HasNumbers next
    by_test true e = subst HasNumbers (same_state (record hart { pc = target }) next e) (record { registers = is.registers; pc = small })
    by_test false e = cc

loads-numbers : (hart next : HartState) (rd at : ℕ) (o : Option ℕ) → ((value : ℕ) → o ≡ Some value → value < 2 ^ 64) → HasNumbers hart → loads hart rd at o ≡ GoesOn next → HasNumbers next
loads-numbers hart next rd at None small is goes = cc
loads-numbers hart next rd at (Some value) small is goes = passes-numbers (with_register hart rd value) next (register-numbers hart rd value (small value refl) is) goes

carried-numbers : (hart next : HartState) (rd : ℕ) (effect : Effect) → IsSmall effect → IsWhole hart.memory → HasNumbers hart → carried hart rd effect ≡ GoesOn next → HasNumbers next
carried-numbers hart next rd (Put value) small whole is goes = passes-numbers (with_register hart rd value) next (register-numbers hart rd value small is) goes
carried-numbers hart next rd (Jump target) small whole is goes =
    arrives-numbers (with_register hart rd (following hart)) next target small (register-numbers hart rd (following hart) (mod-small (hart.pc + 4)) is) goes
carried-numbers hart next rd (Branch true target) small whole is goes = arrives-numbers hart next target small is goes
carried-numbers hart next rd (Branch false target) small whole is goes = passes-numbers hart next is goes
carried-numbers hart next rd (Load width at) small whole is goes =
    loads-numbers hart next rd at (reads hart.memory at (count_of width)) (λ value e. reads-small hart.memory at value width whole e) is goes
carried-numbers hart next rd (LoadSigned width at) small whole is goes =
    loads-numbers hart next rd at (option_map (sign_extended (8 * count_of width)) (reads hart.memory at (count_of width)))
    (λ value e. extended-small (8 * count_of width) value (reads hart.memory at (count_of width)) e) is goes
carried-numbers hart next rd (Store width at value) small whole is goes = by_test (maps hart.memory at (count_of width)) goes
  where
    by_test : (t : Bool) → cond t (passes (record hart { memory = writes hart.memory at (count_of width) value })) (Traps (StoreUnmapped at)) ≡ GoesOn next → HasNumbers next
    by_test true e = passes-numbers (record hart { memory = writes hart.memory at (count_of width) value }) next (record { registers = is.registers; pc = is.pc }) e
    by_test false e = cc
carried-numbers hart next rd Next small whole is goes = passes-numbers hart next is goes
carried-numbers hart next rd Call small whole is goes = cc
carried-numbers hart next rd Break small whole is goes = cc
carried-numbers hart next rd (LoadReserved width at) small whole is goes = by_found (reads_aligned hart.memory at (count_of width)) goes
  where
    by_found : (o : Option ℕ) → loads_reserved hart rd (count_of width) at o ≡ GoesOn next → HasNumbers next
    by_found None e = cc
    by_found (Some value) e =
        let put = register-numbers hart rd (sign_extended (8 * count_of width) value) (wrapped-small _) is in
        passes-numbers (record (with_register hart rd (sign_extended (8 * count_of width) value)) { reservation = Some (count_of width, at) }) next
        (record { registers = put.registers; pc = put.pc }) e
carried-numbers hart next rd (StoreConditional width at value) small whole is goes = by_found (reads_aligned hart.memory at (count_of width)) goes
  where
    by_held : (held : Bool) → HasNumbers (after_conditional hart rd (count_of width) at value held)
    by_held true = let put = register-numbers hart rd 0 (omega arith) is in record { registers = put.registers; pc = put.pc }
    by_held false = let put = register-numbers hart rd 1 (omega arith) is in record { registers = put.registers; pc = put.pc }

    by_found : (o : Option ℕ) → stores_conditional hart rd (count_of width) at value o ≡ GoesOn next → HasNumbers next
    by_found None e = cc
    by_found (Some old) e =
        passes-numbers (after_conditional hart rd (count_of width) at value (is_reserved hart.reservation (count_of width) at)) next
        (by_held (is_reserved hart.reservation (count_of width) at)) e
carried-numbers hart next rd (Amo operation width at value) small whole is goes = by_found (reads_aligned hart.memory at (count_of width)) goes
  where
    by_found : (o : Option ℕ) → performs_amo hart rd operation (count_of width) at value o ≡ GoesOn next → HasNumbers next
    by_found None e = cc
    by_found (Some old) e =
        let put = register-numbers hart rd (sign_extended (8 * count_of width) old) (wrapped-small _) is in
        passes-numbers
        (record (with_register hart rd (sign_extended (8 * count_of width) old)) { memory = writes hart.memory at (count_of width) (amo_result operation (8 * count_of width) old value) }) next
        (record { registers = put.registers; pc = put.pc }) e

pub act-numbers : (hart next : HartState) → IsWhole hart.memory → HasNumbers hart → act hart ≡ GoesOn next → HasNumbers next
unfolding act
act-numbers hart next whole is goes = by_word (reads hart.memory hart.pc 4) goes
  where
    by_inst : (word : ℕ) (o : Option Inst) → runs hart word o ≡ GoesOn next → HasNumbers next
    by_inst word None e = cc
    by_inst word (Some inst) e =
        carried-numbers hart next inst.rd (effect_of hart inst)
        (meaning-small inst.op (slice_index hart.registers inst.rs1) (slice_index hart.registers inst.rs2) (wrapped 64 inst.imm) hart.pc
        (register-small hart.registers inst.rs1 is.registers) (register-small hart.registers inst.rs2 is.registers) (wrapped-small inst.imm) is.pc)
        whole is e

    by_word : (o : Option ℕ) → fetched hart o ≡ GoesOn next → HasNumbers next
    by_word None e = cc
    by_word (Some word) e = by_inst word (decoded word) e

-- the hart after a call
pub answered-numbers : (hart : HartState) (value : ℕ) → value < 2 ^ 64 → HasNumbers hart → HasNumbers (record (with_register hart 10 value) { pc = following hart; reservation = None })
answered-numbers hart value small is = let kept = register-numbers hart 10 value small is in record { registers = kept.registers; pc = mod-small (hart.pc + 4) }
