-- Why a semantics of other languages beside machine code and M1 is a semantics. A law of an `impl` needs its grounds among the definitions.
use Rattle.std.proofs.Common.{◌≡◌, ℕ, Option, None, Some, List, sym, subst}
use Rattle.audit_rules.specs.Contents.{SourceText}
use Rattle.wheeler.specs.Inside.MacroLaws.{keeps-hex}
use Rattle.wheeler.specs.Inside.RunLaws.{HasOneRun, IsFixed, fixed-program, own-program}
use Rattle.wheeler.specs.MacroAssembly.{program_of_text}
use Rattle.wheeler.specs.Meaning.{Implements, Prescribes}
use Rattle.wheeler.specs.Values.{binary_of}
use Rattle.wheeler.specs.WithMacroCode.{MacroCodeOr, macro_code_or_by}

pub fixed-macro-or : (others : Prescribes) → IsFixed others → HasOneRun → IsFixed (MacroCodeOr others)
fixed-macro-or others fixed one-run source box output one other = by (program_of_text source) where
  by : (program : Option (List ℕ)) → macro_code_or_by program others source box output one → macro_code_or_by program others source box output other → one ≡ other
  by (Some program) first second = fixed-program program_of_text one-run source box output one other first second
  by None first second = fixed source box output one other first second

-- the program of a source implements it
pub own-macro-or : (others : Prescribes) (source : SourceText) (program : List ℕ) → program_of_text source ≡ Some program
    → Implements (MacroCodeOr others) program source
own-macro-or others source program is box step world output content valid runs leaves =
    subst (λ (o : Option (List ℕ)). macro_code_or_by o others source box output content) (sym is)
    (own-program program_of_text source program is box step world output content valid runs leaves)

pub literal-macro-or : (others : Prescribes) (source : SourceText) (program : List ℕ) → binary_of source ≡ Some program → Implements (MacroCodeOr others) program source
literal-macro-or others source program value = own-macro-or others source program (keeps-hex source program value)
