use Rattle.std.proofs.Common.{arith}
use Rattle.m1_lang.proofs.Expandings.{expanded-by, expansion-long, refused-definitions}
use Rattle.m1_lang.proofs.expansion.expand.Goals as goal

pub returns-then-source-gt-MOST_SOURCE : goal.returns-then-source-gt-MOST_SOURCE
returns-then-source-gt-MOST_SOURCE c = expansion-long c.args.source.now (omega arith)

pub returns-in-Err : goal.returns-in-Err
returns-in-Err c = refused-definitions c.in-Err.why c.args.source.now (omega arith) c.in-Err.ensures.tabulates

pub returns-in-Ok : goal.returns-in-Ok
returns-in-Ok c = expanded-by c.in-Ok.table c.args.source.now c.items_by.result (omega arith) c.in-Ok.ensures.tabulates c.items_by.ensures
