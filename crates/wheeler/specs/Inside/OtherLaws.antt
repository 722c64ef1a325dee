-- Why other languages beside machine code are a semantics. Rattle requires the grounds for a law of an `impl` among the definitions.
use Rattle.std.proofs.Common.{◌≡◌, ℕ, Option, None, Some, List, sym, subst}
use Rattle.audit_rules.specs.Contents.{SourceText}
use Rattle.wheeler.specs.Inside.AssemblyLaws.{fixed-value, literal-value}
use Rattle.wheeler.specs.Inside.RunLaws.{HasOneRun, IsFixed}
use Rattle.wheeler.specs.Meaning.{Implements, Prescribes}
use Rattle.wheeler.specs.Values.{binary_of}
use Rattle.wheeler.specs.WithMachineCode.{MachineCodeOr, machine_code_or_by}

pub fixed-or : (others : Prescribes) → IsFixed others → HasOneRun → IsFixed (MachineCodeOr others)
fixed-or others fixed one-run source box output one other = by (binary_of source) where
  by : (value : Option (List ℕ)) → machine_code_or_by value others source box output one → machine_code_or_by value others source box output other → one ≡ other
  by (Some program) first second = fixed-value one-run source box output one other first second
  by None first second = fixed source box output one other first second

pub literal-or : (others : Prescribes) (source : SourceText) (program : List ℕ) → binary_of source ≡ Some program → Implements (MachineCodeOr others) program source
literal-or others source program value box step world output content valid runs leaves =
    subst (λ (o : Option (List ℕ)). machine_code_or_by o others source box output content) (sym value)
    (literal-value source program value box step world output content valid runs leaves)
