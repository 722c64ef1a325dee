-- What a hart without the atomic rows does, a hart with them does.
use Rattle.std.proofs.Common.{◌≡◌, ℕ, ◌%◌, ◌==◌, Bool, true, false, cond, Option, Some, None, refl, sym, ap, ◌∙◌}
use Rattle.std.specs.Prelude.{option_and_then}
use Rattle.paged_mem.specs.Memory.{maps, reads, writes}
use Rattle.paged_mem.specs.Ram.{count_of}
use Rattle.rv64_table.specs.Table.{is_atomic}
use Rattle.rv64_table.specs.declared.Op.{Op}
use Rattle.rv64_table.specs.declared.Op.TheVariants.{Lrw, Scw, Amoswapw, Amoaddw, Amoxorw, Amoandw, Amoorw, Amominw, Amomaxw, Amominuw, Amomaxuw, Lrd, Scd, Amoswapd, Amoaddd, Amoxord, Amoandd, Amoord, Amomind, Amomaxd, Amominud, Amomaxud}
use Rattle.rv64_decode.specs.declared.Inst.{Inst}
use Rattle.rv64_decode.specs.Decode.{decoded}
use Rattle.rv64_machine.specs.Meaning.{meaning}
use Rattle.rv64_machine.specs.declared.effect.Effect.{Effect}
use Rattle.rv64_machine.specs.declared.effect.Effect.TheVariants.{Put, Jump, Branch, Load, LoadSigned, Store, Next, Call, Break, LoadReserved, StoreConditional, Amo}
use Rattle.rv64_machine.specs.declared.answer.Cause.TheVariants.{FetchMisaligned, StoreUnmapped}
use Rattle.rv64_machine.specs.Hart.{Act, GoesOn, Calls, Traps, HartState, act, arrives, carried, effect_of, fetched, following, loads, passes, runs, with_register}
use Rattle.rv64_machine.specs.WithoutAtomics.{act_by, inst_unless_atomic, fetched_by, decoded_without_atomics, ActsWithoutAtomicsStand}

-- the effects of the rows that are not atomic
abbrev IsNotAtomic : Effect → Type 0
IsNotAtomic (LoadReserved width at) = ⊥
IsNotAtomic (StoreConditional width at value) = ⊥
IsNotAtomic (Amo operation width at value) = ⊥
IsNotAtomic _ = Unit {0}

meaning-not_atomic : (op : Op) (a b i pc : ℕ) → is_atomic op ≡ false → IsNotAtomic (meaning op a b i pc)
meaning-not_atomic Lrw a b i pc low = absurd cc
meaning-not_atomic Scw a b i pc low = absurd cc
meaning-not_atomic Amoswapw a b i pc low = absurd cc
meaning-not_atomic Amoaddw a b i pc low = absurd cc
meaning-not_atomic Amoxorw a b i pc low = absurd cc
meaning-not_atomic Amoandw a b i pc low = absurd cc
meaning-not_atomic Amoorw a b i pc low = absurd cc
meaning-not_atomic Amominw a b i pc low = absurd cc
meaning-not_atomic Amomaxw a b i pc low = absurd cc
meaning-not_atomic Amominuw a b i pc low = absurd cc
meaning-not_atomic Amomaxuw a b i pc low = absurd cc
meaning-not_atomic Lrd a b i pc low = absurd cc
meaning-not_atomic Scd a b i pc low = absurd cc
meaning-not_atomic Amoswapd a b i pc low = absurd cc
meaning-not_atomic Amoaddd a b i pc low = absurd cc
meaning-not_atomic Amoxord a b i pc low = absurd cc
meaning-not_atomic Amoandd a b i pc low = absurd cc
meaning-not_atomic Amoord a b i pc low = absurd cc
meaning-not_atomic Amomind a b i pc low = absurd cc
meaning-not_atomic Amomaxd a b i pc low = absurd cc
meaning-not_atomic Amominud a b i pc low = absurd cc
meaning-not_atomic Amomaxud a b i pc low = absurd cc
meaning-not_atomic _ a b i pc low = tt

-- ---- they leave the reservation

passes-keeps : (hart old next : HartState) → old.reservation ≡ hart.reservation → passes old ≡ GoesOn next → next.reservation ≡ hart.reservation
passes-keeps hart old next same goes = ap reservation_in (sym goes) ∙ same
  where
    reservation_in : Act → Option (ℕ × ℕ)
    reservation_in (GoesOn h) = h.reservation
    reservation_in Calls = None
    reservation_in (Traps why) = None

arrives-keeps : (hart old next : HartState) (target : ℕ) → old.reservation ≡ hart.reservation → arrives old target ≡ GoesOn next → next.reservation ≡ hart.reservation
arrives-keeps hart old next target same goes = by_test (target % 4 == 0) goes
  where
    by_test : (t : Bool) → cond t (GoesOn (record old { pc = target })) (Traps (FetchMisaligned target)) ≡ GoesOn next → next.reservation ≡ hart.reservation
    by_test true e = let is : record old { pc = target } ≡ next = cc in ap (λ (h : HartState). h.reservation) (sym is) ∙ same
    by_test false e = absurd cc

loads-keeps : (hart next : HartState) (rd at : ℕ) (o : Option ℕ) → loads hart rd at o ≡ GoesOn next → next.reservation ≡ hart.reservation
loads-keeps hart next rd at None goes = absurd cc
loads-keeps hart next rd at (Some value) goes = passes-keeps hart (with_register hart rd value) next refl goes

carried-keeps : (hart next : HartState) (rd : ℕ) (effect : Effect) → IsNotAtomic effect → carried hart rd effect ≡ GoesOn next → next.reservation ≡ hart.reservation
carried-keeps hart next rd (Put value) is goes = passes-keeps hart (with_register hart rd value) next refl goes
carried-keeps hart next rd (Jump target) is goes = arrives-keeps hart (with_register hart rd (following hart)) next target refl goes
carried-keeps hart next rd (Branch true target) is goes = arrives-keeps hart hart next target refl goes
carried-keeps hart next rd (Branch false target) is goes = passes-keeps hart hart next refl goes
carried-keeps hart next rd (Load width at) is goes = loads-keeps hart next rd at _ goes
carried-keeps hart next rd (LoadSigned width at) is goes = loads-keeps hart next rd at _ goes
carried-keeps hart next rd (Store width at value) is goes = by_test (maps hart.memory at (count_of width)) goes
  where
    by_test : (t : Bool) → cond t (passes (record hart { memory = writes hart.memory at (count_of width) value })) (Traps (StoreUnmapped at)) ≡ GoesOn next
        → next.reservation ≡ hart.reservation
    by_test true e = passes-keeps hart (record hart { memory = writes hart.memory at (count_of width) value }) next refl e
    by_test false e = absurd cc
carried-keeps hart next rd Next is goes = passes-keeps hart hart next refl goes
carried-keeps hart next rd Call is goes = absurd cc
carried-keeps hart next rd Break is goes = absurd cc
carried-keeps hart next rd (LoadReserved width at) is goes = absurd is
carried-keeps hart next rd (StoreConditional width at value) is goes = absurd is
carried-keeps hart next rd (Amo operation width at value) is goes = absurd is

-- ---- and stand

inst-goes : (hart next : HartState) (word : ℕ) (inst : Inst) → runs hart word (inst_unless_atomic inst) ≡ GoesOn next
    → (runs hart word (Some inst) ≡ GoesOn next) × (next.reservation ≡ hart.reservation)
inst-goes hart next word inst goes = by_test (is_atomic inst.op) refl goes
  where
    by_test : (t : Bool) → is_atomic inst.op ≡ t → runs hart word (cond t None (Some inst)) ≡ GoesOn next
        → (runs hart word (Some inst) ≡ GoesOn next) × (next.reservation ≡ hart.reservation)
    by_test false low e = (e, carried-keeps hart next inst.rd (effect_of hart inst) (meaning-not_atomic inst.op _ _ _ _ low) e)
    by_test true low e = absurd cc

inst-calls : (hart : HartState) (word : ℕ) (inst : Inst) → runs hart word (inst_unless_atomic inst) ≡ Calls → runs hart word (Some inst) ≡ Calls
inst-calls hart word inst calls = by_test (is_atomic inst.op) calls
  where
    by_test : (t : Bool) → runs hart word (cond t None (Some inst)) ≡ Calls → runs hart word (Some inst) ≡ Calls
    by_test true e = absurd cc
    by_test false e = e

word-goes : (hart next : HartState) (word : ℕ) (o : Option Inst) → runs hart word (option_and_then inst_unless_atomic o) ≡ GoesOn next
    → (runs hart word o ≡ GoesOn next) × (next.reservation ≡ hart.reservation)
word-goes hart next word None goes = absurd cc
word-goes hart next word (Some inst) goes = inst-goes hart next word inst goes

word-calls : (hart : HartState) (word : ℕ) (o : Option Inst) → runs hart word (option_and_then inst_unless_atomic o) ≡ Calls → runs hart word o ≡ Calls
word-calls hart word None calls = absurd cc
word-calls hart word (Some inst) calls = inst-calls hart word inst calls

pub acts-stand : (hart : HartState) → ActsWithoutAtomicsStand hart
unfolding act act_by decoded_without_atomics
acts-stand hart = record {
  all = of_all (reads hart.memory hart.pc 4);
  goes = λ next. goes_on next (reads hart.memory hart.pc 4);
  calls = calls_on (reads hart.memory hart.pc 4);
}
  where
    of_all : (o : Option ℕ) → fetched_by decoded hart o ≡ fetched hart o
    of_all None = refl
    of_all (Some word) = refl

    goes_on : (next : HartState) (o : Option ℕ) → fetched_by (λ word. option_and_then inst_unless_atomic (decoded word)) hart o ≡ GoesOn next
        → (fetched hart o ≡ GoesOn next) × (next.reservation ≡ hart.reservation)
    goes_on next None e = absurd cc
    goes_on next (Some word) e = word-goes hart next word (decoded word) e

    calls_on : (o : Option ℕ) → fetched_by (λ word. option_and_then inst_unless_atomic (decoded word)) hart o ≡ Calls → fetched hart o ≡ Calls
    calls_on None e = absurd cc
    calls_on (Some word) e = word-calls hart word (decoded word) e
