-- Why the meaning of hex0, hex1 and hex2 sources keeps the three laws. Rattle requires the grounds for a law of an `impl` among the
-- definitions.
use Rattle.std.proofs.Common.{◌≡◌, ℕ, Some, List, ap, ◌∙◌}
use Rattle.mem_files.specs.Outputs.{OutputLocation}
use Rattle.guest_run.specs.Setting.{Setting}
use Rattle.audit_rules.specs.Contents.{SourceText}
use Rattle.wheeler.specs.Assembly.{ValueLeaves, ValueLeavesValue}
use Rattle.wheeler.specs.Inside.RunLaws.{HasOneRun, IsFixed, fixed-program, own-program}
use Rattle.wheeler.specs.Meaning.{Implements}
use Rattle.wheeler.specs.Values.{binary_of}

pub fixed-value : HasOneRun → IsFixed ValueLeaves
fixed-value = fixed-program binary_of

pub literal-value : (source : SourceText) (program : List ℕ) → binary_of source ≡ Some program → Implements ValueLeaves program source
literal-value = own-program binary_of

pub carry-value : HasOneRun → (source other : SourceText) (box : Setting) (output : OutputLocation) (program : List ℕ)
    → ValueLeaves source box output program → ValueLeavesValue source box output other → Implements ValueLeaves program other
carry-value one-run source other box output program prescribed compiles =
    literal-value other program (compiles.is_value ∙ ap Some (fixed-value one-run source box output compiles.made program compiles.leaves prescribed))
