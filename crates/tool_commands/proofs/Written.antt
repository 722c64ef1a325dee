-- Text that is written piece by piece.
use Rattle.std.proofs.Common.{append_assoc}

pub ruleset written = append_assoc
