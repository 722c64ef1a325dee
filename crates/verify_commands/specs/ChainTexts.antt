-- What `chain` prints. docs/reference/command-line.md says the same for people.
use Rattle.std.specs.Prelude.{ℕ, List, [], ◌∷◌, ◌++◌, codes, decimal, flat_map, length}
use Rattle.ddc_base.specs.Lines.{line}
use Rattle.audit_chain.specs.declared.link.Link.{Link}
use Rattle.audit_chain.specs.declared.link.ChainLine.{ChainLine}
use Rattle.audit_chain.specs.Chain.{remaining}
use Rattle.verify_commands.specs.Texts.{claim}

-- the line before what is printed of the audit of this number
unfoldable pub audit_line : ℕ → List ℕ
audit_line number = line (codes "audit" ∷ decimal number ∷ [])

-- the line with the number of true audits, whose comparisons are all equal
unfoldable pub verified_line : ℕ → List ℕ
verified_line count = line (codes "chain" ∷ decimal count ∷ codes "yes" ∷ [])

-- the line of an assumption about a program of the audit of this number
unfoldable pub remaining_line : ChainLine → List ℕ
remaining_line remains = line (codes "assumes" ∷ decimal remains.audit ∷ claim remains.line)

-- the text where all audits are true and equal: their number, and exactly the assumptions that are left
unfoldable pub chain_text : List Link → List ℕ
chain_text links = verified_line (length links) ++ flat_map remaining_line (remaining links)
