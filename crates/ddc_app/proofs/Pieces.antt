-- What a piece of an audit comes to, over any files that hold the recipe and its inputs.
use Rattle.std.proofs.Common.{◌≡◌, ℕ, Bool, true, false, cond, ◌⊎◌, inl, inr, Some, List, refl, sym, ap, ◌∙◌, subst}
use Rattle.std.specs.FinMap as finite
use Rattle.ddc_base.specs.Outside.{NamedFiles}
use Rattle.ddc_base.proofs.StoredFiles.{others-insert}
use Rattle.report.specs.Reports.{report_text}
use Rattle.report.specs.declared.types.CompareLine.{CompareLine}
use Rattle.audit_rules.specs.Bench.{all_equal, bench}
use Rattle.audit_rules.specs.Positions.{Position, Phase, On, Over, finish, position}
use Rattle.audit_rules.specs.declared.answer.AuditAnswer.{AuditAnswer}
use Rattle.audit_rules.specs.declared.answer.AuditAnswer.TheVariants.{Completes, Fails}
use Rattle.audit_rules.specs.declared.answer.StageFault.TheVariants.{Runs, Checks}
use Rattle.audit_rules.proofs.Closing.{may-step}
use Rattle.audit_rules.proofs.Continues.{position-bench}
use Rattle.audit_rules.proofs.Rules.{rules}
use Rattle.command_plan.specs.declared.status.Status.TheVariants.{Paused, Yes, Differs}
use Rattle.command_plan.specs.Plan.{Outcome, outcome}
use Rattle.command_plan.specs.Words.{is_one_file}
use Rattle.recipe_plan.specs.Reports.{compared_status}
use Rattle.audit_commands.specs.Audit.{audited, completed}
use Rattle.audit_commands.specs.Pause.{came_to, paused, whole_save}
use Rattle.ddc_app.specs.Accepting.{audit}
use Rattle.ddc_app.specs.Pausing.{AreSame, IsSavedAt, Pieces, is_paused}
use Rattle.ddc_app.proofs.Beginnings.{Case}
use Rattle.ddc_app.proofs.Loads.{not_equal, set_held}
use Rattle.ddc_app.proofs.Openings.{Holds, holds_again}

-- a piece pauses after so many steps, and leaves what is kept of that position
pub record Pauses (recipe save report : List ℕ) (c : Case recipe save report) (kept : Position → List ℕ) (first : NamedFiles) (total : ℕ) (piece : Outcome) : Type 0 where
  pub status : piece.status ≡ Paused
  pub holds : Holds recipe c.parsed c.inputs piece.files
  pub same_report : finite.get piece.files report ≡ finite.get first report
  pub reached : Position
  pub current : position c.parsed c.inputs total ≡ On reached
  pub kept_held : finite.get piece.files save ≡ Some (kept reached)

-- a piece comes to an answer
pub record Ends (recipe save report : List ℕ) (c : Case recipe save report) (first : NamedFiles) (answer : AuditAnswer) (piece : Outcome) : Type 0 where
  pub not_paused : is_paused piece.status ≡ false
  pub holds : Holds recipe c.parsed c.inputs piece.files
  pub same : AreSame report piece (outcome (audited c.parsed report answer) first)

abbrev pub Settles : (recipe save report : List ℕ) → Case recipe save report → (Position → List ℕ) → NamedFiles → ℕ → Outcome → Type 0
Settles recipe save report c kept first total piece =
    Pauses recipe save report c kept first total piece ⊎ Ends recipe save report c first (bench c.parsed c.inputs) piece

pub never_paused : (lines : List CompareLine) → is_paused (compared_status lines) ≡ false
never_paused lines = by (all_equal lines) where
  by : (b : Bool) → is_paused (cond b Yes Differs) ≡ false
  by true = refl
  by false = refl

other_stays : (files : NamedFiles) (save report content : List ℕ) → is_one_file save report ≡ false → finite.get (finite.insert files save content) report ≡ finite.get files report
other_stays files save report content apart =
    (others-insert files save content).others report (λ same. not_equal save report apart (sym same))

module _ (recipe save report : List ℕ) (c : Case recipe save report) (first now : NamedFiles) (h : Holds recipe c.parsed c.inputs now)
    (same : finite.get now report ≡ finite.get first report) where
  ends : (answer : AuditAnswer) → Ends recipe save report c first answer (outcome (audited c.parsed report answer) now)
  unfolding completed
  ends (Completes made) =
      let text : List ℕ = report_text made in
      record {
        not_paused = never_paused made.compare;
        holds = holds_again recipe c.parsed c.inputs now h report text c.words.recipe_report c.no_report;
        same = record { status = refl; text = refl; held = set_held now report text ∙ sym (set_held first report text) };
      }
  ends (Fails number (Runs cause step)) = record { not_paused = refl; holds = h; same = record { status = refl; text = refl; held = same } }
  ends (Fails number (Checks cause)) = record { not_paused = refl; holds = h; same = record { status = refl; text = refl; held = same } }

  pub settles : (kept : Position → List ℕ) (total : ℕ) (current : Phase) → position c.parsed c.inputs total ≡ current
      → Settles recipe save report c kept first total (outcome (came_to c.parsed kept save report current) now)
  unfolding paused
  settles kept total (On reached) current =
      let text : List ℕ = kept reached in
      inl (record {
        status = refl;
        holds = holds_again recipe c.parsed c.inputs now h save text c.words.recipe_save c.no_save;
        same_report = other_stays now save report text c.words.save_report ∙ same;
        reached = reached;
        current = current;
        kept_held = set_held now save text;
      })
  settles kept total (Over answer) current =
      let benched : bench c.parsed c.inputs ≡ answer =
      sym (position-bench c.parsed (may-step c.parsed (rules c.parsed c.is)) c.inputs total) ∙ ap (finish c.parsed c.inputs) current in
      inr (subst (λ (a : AuditAnswer). Ends recipe save report c first a (outcome (audited c.parsed report answer) now)) (sym benched) (ends answer))

-- what comes to the same outcome
pub alike : (report : List ℕ) (piece whole : Outcome) → piece ≡ whole → AreSame report piece whole
alike report piece whole same =
    record { status = ap (λ (o : Outcome). o.status) same; text = ap (λ (o : Outcome). o.text) same; held = ap (λ (o : Outcome). finite.get o.files report) same }

-- what pauses and what was settled, in the words of the laws
pub saved_of : (recipe save report : List ℕ) (c : Case recipe save report) (first : NamedFiles) (total : ℕ) (piece : Outcome)
    → Pauses recipe save report c (whole_save c.parsed c.inputs) first total piece → IsSavedAt recipe save piece.files total
saved_of recipe save report c first total piece p = record {
  bytes = p.holds.bytes;
  recipe_held = p.holds.recipe_held;
  parsed = c.parsed;
  recipe_reads = p.holds.reads;
  inputs = c.inputs;
  inputs_held = p.holds.inputs_held;
  position = p.reached;
  current = p.current;
  save_held = p.kept_held;
}

pub piece_of : (recipe save report : List ℕ) (c : Case recipe save report) (first : NamedFiles) (total : ℕ) (piece : Outcome)
    → audit recipe report first ≡ outcome (audited c.parsed report (bench c.parsed c.inputs)) first
    → Settles recipe save report c (whole_save c.parsed c.inputs) first total piece → Pieces recipe save report first total piece
piece_of recipe save report c first total piece answers (inl p) = inl (p.status, saved_of recipe save report c first total piece p)
piece_of recipe save report c first total piece answers (inr e) = inr (subst (AreSame report piece) (sym answers) e.same)
