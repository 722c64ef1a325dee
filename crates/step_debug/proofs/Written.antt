-- Text that is written piece by piece.
use Rattle.std.proofs.Common.{◌≡◌, ◌∙◌, ℕ, List, [], ◌∷◌, ◌++◌, drop, take, append_assoc, ap}
use Rattle.std.specs.List.{flat_map}
use Rattle.rv64_machine.specs.Hart.{HartState}
use Rattle.command_plan.specs.Causes.Texts.{hex_address}
use Rattle.step_debug.specs.Replies.{regs_line}

pub ruleset written = append_assoc

-- three pieces, one after the other
pub joined : (none one two three a b d : List ℕ) → none ≡ [] → one ≡ none ++ a → two ≡ one ++ b → three ≡ two ++ d → three ≡ a ++ (b ++ d)
joined none one two three a b d empty first second third =
    third ∙ ap (λ t. t ++ d) (second ∙ ap (λ t. t ++ b) (first ∙ ap (λ t. t ++ a) empty)) ∙ append_assoc a b d

pub regs_of : (hart : HartState) (pc : ℕ) (values text : List ℕ) → pc ≡ hart.pc → values ≡ take 31 (drop 1 hart.registers)
    → text ≡ hex_address pc ++ (flat_map (λ value. 32 ∷ hex_address value) values ++ 10 ∷ []) → text ≡ regs_line hart
unfolding regs_line
regs_of hart pc values text same all is = is ∙ (λ i. hex_address (same i) ++ (flat_map (λ value. 32 ∷ hex_address value) (all i) ++ 10 ∷ []))
