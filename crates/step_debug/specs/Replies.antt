-- The replies of a stepping session, one line each. docs/reference/step.md says the same for people.
use Rattle.std.specs.Prelude.{ℕ, Option, Some, None, List, [], ◌∷◌, ◌++◌, codes, decimal, drop, take}
use Rattle.std.specs.List.{flat_map}
use Rattle.hex.specs.Hex.{encode_lower}
use Rattle.ddc_base.specs.Lines.{line}
use Rattle.paged_mem.specs.Memory.{reads}
use Rattle.rv64_decode.specs.declared.Inst.{Inst}
use Rattle.rv64_decode.specs.Decode.{decoded}
use Rattle.rv64_decode.specs.Text.{text}
use Rattle.rv64_machine.specs.Hart.{HartState}
use Rattle.command_plan.specs.Causes.Texts.{hex_address, spaced, trap_text, call_text}
use Rattle.guest_run.specs.State.{GuestState}
use Rattle.guest_run.specs.Run.{End, Exited, Trapped, UnknownCall}

-- the text of an instruction at the pc; `?` if fewer than four bytes are mapped there or the word is illegal
abbrev pub shown_instruction : ℕ → Option Inst → List ℕ
shown_instruction pc (Some inst) = text inst pc
shown_instruction pc None = codes "?"

abbrev pub fetched_text : ℕ → Option ℕ → List ℕ
fetched_text pc (Some word) = shown_instruction pc (decoded word)
fetched_text pc None = codes "?"

-- the steps taken, the pc, and the instruction there
unfoldable pub where_line : GuestState → List ℕ
where_line guest =
    line (codes "at" ∷ decimal guest.steps ∷ hex_address guest.hart.pc
    ∷ fetched_text guest.hart.pc (reads guest.hart.memory guest.hart.pc 4) ∷ [])

-- why a run ended
abbrev pub end_text : End → List ℕ
end_text (Exited status) = spaced (codes "exited" ∷ decimal status ∷ [])
end_text (Trapped cause) = trap_text cause
end_text (UnknownCall number) = call_text number

-- the end of a run, with its cause and its step, counted from 1
unfoldable pub end_line : List ℕ → ℕ → List ℕ
end_line cause step = line (codes "end" ∷ cause ∷ codes "step" ∷ decimal step ∷ [])

-- the pc, and after it x1 to x31
unfoldable pub regs_line : HartState → List ℕ
regs_line hart = hex_address hart.pc ++ (flat_map (λ value. 32 ∷ hex_address value) (take 31 (drop 1 hart.registers)) ++ 10 ∷ [])

-- bytes of memory; `unmapped` if some are not mapped
abbrev pub mem_line : Option (List ℕ) → List ℕ
mem_line (Some bytes) = line (encode_lower bytes ∷ [])
mem_line None = line (codes "unmapped" ∷ [])

-- the line of a new break, of going back by too many steps, and of an unknown command
unfoldable pub break_line : ℕ → List ℕ
break_line address = line (codes "break" ∷ hex_address address ∷ [])

abbrev pub no_step_line : List ℕ
no_step_line = line (codes "no" ∷ codes "such" ∷ codes "step" ∷ [])

abbrev pub unknown_line : List ℕ
unknown_line = line (codes "unknown" ∷ [])
