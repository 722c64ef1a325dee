use Rattle.wheeler.proofs.Largest.{what-was-made}
use Rattle.wheeler.proofs.semantics_laws.a_line_says_what_was_made.Goals as goal

pub returns-clause-made : goal.returns-clause-made
returns-clause-made g c = what-was-made g.S.Semantics.prescribes g.S.Semantics.fixed

pub returns-clause-nothing : goal.returns-clause-nothing
returns-clause-nothing g c source other box output none program prescribed = absurd (none program prescribed)
