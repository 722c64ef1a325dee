-- Laws of words and instructions alone.
use Rattle.std.specs.Prelude.{ℕ, ◌^◌, ◌<◌, ◌≡◌, ◌↔◌, Some, IsTrue}
use Rattle.rv64_decode.specs.declared.Inst.{Inst}
use Rattle.rv64_decode.specs.Decode.{decoded}
use Rattle.rv64_decode.specs.Encode.{is_encodable}

-- a word of the instruction
pub record IsWordOf (inst : Inst) (word : ℕ) : Type 0 where
  pub below : word < 2 ^ 32
  pub decodes : decoded word ≡ Some inst

-- no two words decode to one instruction
abbrev pub HasOneWord : Type 0
HasOneWord = (inst : Inst) (v w : ℕ) → IsWordOf inst v → IsWordOf inst w → v ≡ w

-- an instruction has a word exactly if its fields are valid in its operation's form
abbrev pub HasWordInForm : Type 0
HasWordInForm = (inst : Inst) → ((word : ℕ) × IsWordOf inst word) ↔ IsTrue (is_encodable inst)
