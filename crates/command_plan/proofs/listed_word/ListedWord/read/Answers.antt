use Rattle.std.proofs.Common.{sym}
use Rattle.command_plan.proofs.Listing.{word-ascii}
use Rattle.command_plan.proofs.listed_word.ListedWord.read.Goals as goal

pub unreachable-requires : goal.unreachable-requires
unreachable-requires c = c.in-Err.ensures.cases.0 (word-ascii _ (sym c.if-not-is_listed_word.ensures))
