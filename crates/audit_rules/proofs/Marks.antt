-- The marks of contents.
use Rattle.std.proofs.Common.{ℕ, List, arith}
use Rattle.mem_files.specs.Outputs.{IsContent}
use Rattle.report.specs.declared.types.Mark.{Mark}
use Rattle.report.specs.Reports.{IsMark}
use Rattle.report.specs.Marks.{mark_of}
use Rattle.audit_rules.specs.Valid.{IsSmallMark}
use Rattle.report.proofs.Marks.{is_digest}

pub mark-small : (bytes : List ℕ) → IsContent bytes → IsSmallMark (mark_of bytes)
mark-small bytes is = record { length = (let small = is.small in omega arith); digest = is_digest bytes }

pub small-mark : (mark : Mark) → IsSmallMark mark → IsMark mark
small-mark mark is = record { length = (let small = is.length in omega arith); digest = is.digest }

pub mark-is : (bytes : List ℕ) → IsContent bytes → IsMark (mark_of bytes)
mark-is bytes is = small-mark (mark_of bytes) (mark-small bytes is)
