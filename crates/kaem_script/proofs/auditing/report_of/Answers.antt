use Rattle.std.proofs.Common.{sym, subst}
use Rattle.report.specs.Reports.{IsDigest}
use Rattle.mem_files.specs.Sound.{IsSound}
use Rattle.kaem_script.proofs.WellFormed.{good-report}
use Rattle.kaem_script.proofs.auditing.report_of.Goals as goal

pub returns-clause-text : goal.returns-clause-text
returns-clause-text c =
    good-report _ c.args.list.now c.args.world.now (subst IsDigest (sym c.digest.ensures) c.requires.digest) c.show_rules.ensures (subst IsSound c.files.ensures c.show_sound.ensures) c.show_sound-2.ensures
    c.in_ok-files.ensures c.in_ok-left.ensures c.requires.each c.requires.few
