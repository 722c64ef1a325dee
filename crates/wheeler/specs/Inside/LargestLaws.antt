-- Why the law `carry` allows the largest relation. Rattle requires the grounds for a law of an `impl` among the definitions.
use Rattle.std.specs.Prelude.{ℕ, List}
use Rattle.mem_files.specs.Outputs.{OutputLocation}
use Rattle.guest_run.specs.Setting.{Setting}
use Rattle.audit_rules.specs.Contents.{SourceText}
use Rattle.wheeler.specs.Largest.{AllImplement}
use Rattle.wheeler.specs.Meaning.{Implements, Prescribes}

pub carry-all : (prescribes : Prescribes) (source other : SourceText) (box : Setting) (output : OutputLocation) (program : List ℕ)
    → prescribes source box output program → AllImplement prescribes source box output other → Implements prescribes program other
carry-all prescribes source other box output program prescribed all = all program prescribed
