-- An audit in any pieces comes to the same as the undivided audit, and its report is accepted.
use Rattle.std.proofs.Common.{◌≡◌, ℕ, ◌+◌, false, cond, IsTrue, ◌⊎◌, inl, inr, List, [], ◌∷◌, codes, decimal, refl, sym, ap, ◌∙◌, subst, arith, All}
use Rattle.std.specs.List.{fold, sum}
use Rattle.std.proofs.lemmas.List.Elements.{All-head, All-tail}
use Rattle.ddc_base.specs.Outside.{NamedFiles}
use Rattle.report.specs.Reports.{report_text}
use Rattle.audit_rules.specs.Bench.{bench}
use Rattle.audit_rules.specs.Positions.{Position, position}
use Rattle.audit_rules.specs.Valid.{IsInputs}
use Rattle.audit_rules.specs.declared.answer.AuditAnswer.{AuditAnswer}
use Rattle.audit_rules.specs.declared.answer.AuditAnswer.TheVariants.{Completes, Fails}
use Rattle.audit_rules.specs.declared.answer.StageFault.TheVariants.{Runs, Checks}
use Rattle.command_plan.specs.declared.status.Status.{Status}
use Rattle.command_plan.specs.declared.status.Status.TheVariants.{Paused}
use Rattle.command_plan.specs.Plan.{LoadsBytes, Outcome, outcome}
use Rattle.audit_commands.specs.Audit.{audited, completed}
use Rattle.audit_commands.specs.Pause.{whole_save}
use Rattle.ddc_app.specs.Accepting.{audit, is_compared, verify}
use Rattle.ddc_app.specs.Commands.{plan_of}
use Rattle.ddc_app.specs.Pausing.{AreSame, AreWords, IsStepCount, Pieces, in_pieces, in_turn, is_paused, part, resume}
use Rattle.ddc_app.proofs.Accepting.{judges}
use Rattle.ddc_app.proofs.Beginnings.{Begun, Case, Refused, begins, part_loaded}
use Rattle.ddc_app.proofs.Loads.{set_held}
use Rattle.ddc_app.proofs.Pieces.{Ends, Settles, alike, piece_of, settles}
use Rattle.ddc_app.proofs.Resuming.{resumes_at}

-- ---- the first piece

pub first_settles : (recipe save report : List ℕ) (steps : ℕ) (files : NamedFiles) (piece whole : Outcome) (b : Begun recipe save report files steps piece whole)
    → Settles recipe save report b.c (whole_save b.c.parsed b.c.inputs) files steps piece
first_settles recipe save report steps files piece whole b =
    subst (Settles recipe save report b.c (whole_save b.c.parsed b.c.inputs) files steps) (sym b.comes)
    (settles recipe save report b.c files files b.holds refl (whole_save b.c.parsed b.c.inputs) steps (position b.c.parsed b.c.inputs steps) refl)

pub parts : (recipe save report : List ℕ) (steps : ℕ) (files : NamedFiles) → AreWords recipe save report files → IsStepCount steps
    → Pieces recipe save report files steps (part recipe save report steps files)
parts recipe save report steps files words count = by (begins recipe save report steps files words count) where
  piece : Outcome
  piece = part recipe save report steps files

  by : Refused piece (audit recipe report files) ⊎ Begun recipe save report files steps piece (audit recipe report files) → Pieces recipe save report files steps piece
  by (inl r) = inr (alike report piece (audit recipe report files) r.same)
  by (inr b) =
      piece_of recipe save report b.c files steps piece b.answers (first_settles recipe save report steps files piece (audit recipe report files) b)

-- ---- the pieces after it

-- an audit that is over does not go on
pub stays_over : (next : ℕ → NamedFiles → Outcome) (piece : Outcome) (counts : List ℕ) → is_paused piece.status ≡ false → in_turn next piece counts ≡ piece
stays_over next piece [] over = refl
stays_over next piece (steps ∷ counts) over = ap (λ b. cond b (in_turn next (next steps piece.files) counts) piece) over

-- what stands after each piece, with its steps in all, stands after all of them, if it stands after every number of steps where the audit is over,
-- and after one piece more where it pauses
module _ (next : ℕ → NamedFiles → Outcome) (Current : ℕ → Outcome → Type 0) where
  abbrev pub GoesOn : ℕ → Outcome → Type 0
  GoesOn total piece =
      ((is_paused piece.status ≡ false) × ((n : ℕ) → Current n piece))
      ⊎ ((piece.status ≡ Paused) × ((steps : ℕ) → IsStepCount steps → Current (total + steps) (next steps piece.files)))

  pub further : ((total : ℕ) (piece : Outcome) → Current total piece → GoesOn total piece) → (counts : List ℕ) → All IsStepCount counts
      → (total : ℕ) (piece : Outcome) → Current total piece → Current (fold (λ a x. a + x) total counts) (in_turn next piece counts)
  further goes [] are total piece current = current
  further goes (steps ∷ counts) are total piece current = elim (goes total piece current) [
    | inl over ↦ subst (Current (fold (λ a x. a + x) (total + steps) counts)) (sym (stays_over next piece (steps ∷ counts) over.0)) (over.1 (fold (λ a x. a + x) (total + steps) counts))
    | inr on ↦ (
        let later = next steps piece.files in
        subst (λ (s : Status). Current (fold (λ a x. a + x) (total + steps) counts) (cond (is_paused s) (in_turn next later counts) piece)) (sym on.0)
        (further goes counts (All-tail IsStepCount steps counts are) (total + steps) later (on.1 steps (All-head IsStepCount steps counts are)))
        )
  ]

module _ (recipe save report : List ℕ) (c : Case recipe save report) (first : NamedFiles) (given : IsInputs c.parsed c.inputs) where
  abbrev kept : Position → List ℕ
  kept = whole_save c.parsed c.inputs

  abbrev Stood : ℕ → Outcome → Type 0
  Stood = Settles recipe save report c kept first

  goes_on : (total : ℕ) (piece : Outcome) → Stood total piece → GoesOn (resume recipe save report) Stood total piece
  goes_on total piece (inr e) = inl (e.not_paused, λ n. inr e)
  goes_on total piece (inl p) = inr (
    p.status,
    λ steps counted.
        let comes = resumes_at recipe save report c piece.files given p.holds total p.reached p.current p.kept_held steps counted in
        subst (Stood (total + steps)) (sym comes)
        (settles recipe save report c first piece.files p.holds p.same_report kept (total + steps) (position c.parsed c.inputs (total + steps)) refl),
  )

all_settle : (recipe save report : List ℕ) (steps : ℕ) (counts : List ℕ) (files : NamedFiles) (piece whole : Outcome) → All IsStepCount (steps ∷ counts)
    → (b : Begun recipe save report files steps piece whole) → IsInputs b.c.parsed b.c.inputs
    → Settles recipe save report b.c (whole_save b.c.parsed b.c.inputs) files (sum (steps ∷ counts)) (in_turn (resume recipe save report) piece counts)
all_settle recipe save report steps counts files piece whole are b given =
    let none : steps ≡ 0 + steps = omega arith in
    further (resume recipe save report) (Settles recipe save report b.c (whole_save b.c.parsed b.c.inputs) files) (goes_on recipe save report b.c files given) counts (All-tail IsStepCount steps counts are) (0 + steps) piece
    (subst (λ n. Settles recipe save report b.c (whole_save b.c.parsed b.c.inputs) files n piece) none (first_settles recipe save report steps files piece whole b))

pub same : (recipe save report : List ℕ) (steps : ℕ) (counts : List ℕ) (files : NamedFiles) → AreWords recipe save report files → All IsStepCount (steps ∷ counts)
    → LoadsBytes (plan_of (codes "part" ∷ recipe ∷ save ∷ report ∷ decimal steps ∷ [])) files
    → Pieces recipe save report files (sum (steps ∷ counts)) (in_pieces recipe save report steps counts files)
same recipe save report steps counts files words are bytes = by (begins recipe save report steps files words (All-head IsStepCount steps counts are)) where
  piece : Outcome
  piece = part recipe save report steps files

  whole : Outcome
  whole = audit recipe report files

  by : Refused piece whole ⊎ Begun recipe save report files steps piece whole → Pieces recipe save report files (sum (steps ∷ counts)) (in_turn (resume recipe save report) piece counts)
  by (inl r) = inr (alike report (in_turn (resume recipe save report) piece counts) whole (stays_over (resume recipe save report) piece counts r.refusal.0 ∙ r.same))
  by (inr b) =
      piece_of recipe save report b.c files (sum (steps ∷ counts)) (in_turn (resume recipe save report) piece counts) b.answers
      (all_settle recipe save report steps counts files piece whole are b (part_loaded recipe save report steps files piece whole (All-head IsStepCount steps counts are) b bytes))

-- ---- its report

-- a piece that compares leaves the bench's report
pub compared : (recipe save report : List ℕ) (c : Case recipe save report) (first : NamedFiles) (piece : Outcome) → IsInputs c.parsed c.inputs → Ends recipe save report c first (bench c.parsed c.inputs) piece
    → IsTrue (is_compared piece.status) → (verify recipe report piece.files).status ≡ piece.status
unfolding completed
compared recipe save report c first piece given e over = by (bench c.parsed c.inputs) refl e.same where
  by : (answer : AuditAnswer) → bench c.parsed c.inputs ≡ answer → AreSame report piece (outcome (audited c.parsed report answer) first)
      → (verify recipe report piece.files).status ≡ piece.status
  by (Completes made) comes same =
      ap (λ (o : Outcome). o.status) (judges recipe report piece.files (record {
        two = c.words.two;
        parsed = c.parsed;
        inputs = c.inputs;
        holds = e.holds;
        apart = c.no_report;
        given = given;
        made = made;
        comes = comes;
        report_held = same.held ∙ set_held first report (report_text made);
      }))
      ∙ sym same.status
  by (Fails number (Runs cause step)) comes same = let never = sym (ap is_compared same.status) ∙ over in absurd cc
  by (Fails number (Checks cause)) comes same = let never = sym (ap is_compared same.status) ∙ over in absurd cc

pub accepted : (recipe save report : List ℕ) (steps : ℕ) (counts : List ℕ) (files : NamedFiles) → AreWords recipe save report files → All IsStepCount (steps ∷ counts)
    → LoadsBytes (plan_of (codes "part" ∷ recipe ∷ save ∷ report ∷ decimal steps ∷ [])) files
    → IsTrue (is_compared (in_pieces recipe save report steps counts files).status)
    → (verify recipe report (in_pieces recipe save report steps counts files).files).status ≡ (in_pieces recipe save report steps counts files).status
accepted recipe save report steps counts files words are bytes over = by (begins recipe save report steps files words (All-head IsStepCount steps counts are)) where
  piece : Outcome
  piece = part recipe save report steps files

  whole : Outcome
  whole = audit recipe report files

  last : Outcome
  last = in_turn (resume recipe save report) piece counts

  given : (b : Begun recipe save report files steps piece whole) → IsInputs b.c.parsed b.c.inputs
  given b = part_loaded recipe save report steps files piece whole (All-head IsStepCount steps counts are) b bytes

  settled : (b : Begun recipe save report files steps piece whole)
      → Settles recipe save report b.c (whole_save b.c.parsed b.c.inputs) files (sum (steps ∷ counts)) last → (verify recipe report last.files).status ≡ last.status
  settled b (inl p) = let never = sym (ap is_compared p.status) ∙ over in absurd cc
  settled b (inr e) =
      compared recipe save report b.c files last (given b) e over

  by : Refused piece whole ⊎ Begun recipe save report files steps piece whole → (verify recipe report last.files).status ≡ last.status
  by (inl r) =
      let never = sym r.refusal.1 ∙ ap (λ (o : Outcome). is_compared o.status) (sym (stays_over (resume recipe save report) piece counts r.refusal.0)) ∙ over in
      absurd cc
  by (inr b) = settled b (all_settle recipe save report steps counts files piece whole are b (given b))
