-- How a position is stored, and digests beside inputs.
use Rattle.std.specs.Prelude.{◌≡◌, ℕ, List, [], ◌∷◌, refl}
use Rattle.std.specs.Coded.{Coded, code_by, coded×, coded_list}
use Rattle.guest_run.specs.State.{GuestState}
use Rattle.guest_run.specs.Inside.Codes.{guest_code}
use Rattle.save_format.specs.declared.parts.InputPart.{InputPart}
use Rattle.audit_run.specs.Save.Saves.{digest_of}
use Rattle.audit_rules.specs.contracts.answer.Finished as finished
use Rattle.audit_rules.specs.declared.answer.Finished.{Finished}
use Rattle.audit_rules.specs.Positions.{Position, at}

-- a position is stored as its parts
abbrev pub position_code : Coded Position
position_code =
    code_by (List Finished × GuestState) (coded× (coded_list finished.the_row.coded) guest_code) (λ p. (p.done, p.at)) (λ parts. at parts.0 parts.1) (λ _. refl)

-- the digests are those of these inputs
abbrev pub AreDigests : List InputPart → List (List ℕ) → Type 0
AreDigests [] [] = Unit {0}
AreDigests [] (input ∷ inputs) = ⊥
AreDigests (part ∷ parts) [] = ⊥
AreDigests (part ∷ parts) (input ∷ inputs) = (part.digest ≡ digest_of input) × AreDigests parts inputs
