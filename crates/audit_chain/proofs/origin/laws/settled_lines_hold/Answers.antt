use Rattle.std.proofs.Common.{inl, inr}
use Rattle.audit_chain.proofs.Settling.{settled-or}
use Rattle.audit_chain.proofs.origin.laws.settled_lines_hold.Goals as goal

pub returns : goal.returns
returns g c knows recipe inputs report ok given is line settled = elim (settled-or recipe inputs report given is line settled) [
  | inl own ↦ inl (c.settled_lines_hold.ensures knows recipe inputs report ok given is line own)
  | inr found ↦ inr found
]
