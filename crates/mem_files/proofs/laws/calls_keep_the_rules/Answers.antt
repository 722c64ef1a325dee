use Rattle.mem_files.proofs.Rules.{first-sound, placed-sound, opened-sound, closed-sound, sought-sound, skipped-sound, written-sound, removed-sound}
use Rattle.mem_files.proofs.laws.calls_keep_the_rules.Goals as goal

pub returns : goal.returns
returns c = record {
  at_start = first-sound;
  at_place = placed-sound;
  at_open = opened-sound;
  at_close = closed-sound;
  at_seek = sought-sound;
  at_skip = skipped-sound;
  at_write = written-sound;
  at_remove = removed-sound;
}
