-- An audit by differences comes to the same as the undivided audit, and its report is accepted.
use Rattle.std.proofs.Common.{◌≡◌, ℕ, ◌+◌, false, cond, IsTrue, ◌⊎◌, inl, inr, List, [], ◌∷◌, codes, decimal, refl, sym, ap, ◌∙◌, subst, arith, All}
use Rattle.std.specs.List.{fold}
use Rattle.std.proofs.lemmas.List.Elements.{All-head, All-tail}
use Rattle.ddc_base.specs.Outside.{NamedFiles}
use Rattle.audit_rules.specs.Bench.{bench}
use Rattle.audit_rules.specs.Positions.{Position, On, position}
use Rattle.audit_rules.specs.Valid.{IsInputs}
use Rattle.command_plan.specs.declared.status.Status.{Status}
use Rattle.command_plan.specs.declared.status.Status.TheVariants.{Paused}
use Rattle.command_plan.specs.Plan.{LoadsBytes, Outcome, outcome}
use Rattle.audit_commands.specs.Audit.{audited}
use Rattle.audit_commands.specs.Pause.{whole_save}
use Rattle.ddc_app.specs.Accepting.{audit, is_compared, verify}
use Rattle.ddc_app.specs.Commands.{plan_of}
use Rattle.ddc_app.specs.Differences.{AreDeltaWords, AreKept, Differences, IsSavedRelative, after_save, delta_resume, delta_start, in_differences}
use Rattle.ddc_app.specs.Pausing.{AreSame, IsStepCount, in_turn, is_paused, part}
use Rattle.ddc_app.proofs.Beginnings.{Begun, Case, Refused, begins, four_of, part_loaded, three_apart}
use Rattle.ddc_app.proofs.Relative.{After, IsBaseHeld, kept_relative, kept_of, resume_leaves_base, resumes_at, start_leaves_base, starts_at}
use Rattle.ddc_app.proofs.Pausing.{GoesOn, compared, first_settles, further}
use Rattle.ddc_app.proofs.Pieces.{Ends, Settles, alike, saved_of, settles}

-- ---- the pieces after the whole save

module _ (recipe base patch report : List ℕ) (b : After recipe base patch report) (first : NamedFiles) where
  -- so many steps in all are after a piece, and the base is held
  abbrev Stood : ℕ → Outcome → Type 0
  Stood total piece = Settles recipe patch report b.c (kept_relative recipe base patch report b) first total piece × IsBaseHeld recipe base patch report b piece.files

  goes_on : (total : ℕ) (piece : Outcome) → Stood total piece → GoesOn (delta_resume recipe base patch report) Stood total piece
  goes_on total piece (inr e, held) = inl (e.not_paused, λ n. (inr e, held))
  goes_on total piece (inl p, held) = inr (
    p.status,
    λ steps counted.
        let comes = resumes_at recipe base patch report b piece.files p.holds held steps counted total p.reached p.current p.kept_held in (
          subst (Settles recipe patch report b.c (kept_relative recipe base patch report b) first (total + steps)) (sym comes)
              (settles recipe patch report b.c first piece.files p.holds p.same_report (kept_relative recipe base patch report b) (total + steps)
              (position b.c.parsed b.c.inputs (total + steps)) refl),
          resume_leaves_base recipe base patch report b steps piece.files held,
        ),
  )

-- ---- all of them

module _ (recipe base patch report : List ℕ) (steps : ℕ) (files : NamedFiles) (words : AreDeltaWords recipe base patch report files)
    (counted : IsStepCount steps) (bytes : LoadsBytes (plan_of (codes "part" ∷ recipe ∷ base ∷ report ∷ decimal steps ∷ [])) files) where
  abbrev piece : Outcome
  piece = part recipe base report steps files

  abbrev whole : Outcome
  whole = audit recipe report files

  -- the audit is over, and nothing is kept under this name any more
  record Finished (last : Outcome) : Type 0 where
    name : List ℕ
    c : Case recipe name report
    given : IsInputs c.parsed c.inputs
    answers : whole ≡ outcome (audited c.parsed report (bench c.parsed c.inputs)) files
    ends : Ends recipe name report c files (bench c.parsed c.inputs) last

  abbrev Current : List ℕ → Outcome → Type 0
  Current counts last = ((last.status ≡ Paused) × AreKept recipe base patch last.files steps counts) ⊎ Finished last

  abbrev Begins : Type 0
  Begins = Begun recipe base report files steps piece whole

  abbrev given : (b : Begins) → IsInputs b.c.parsed b.c.inputs
  given b = part_loaded recipe base report steps files piece whole counted b bytes

  finished : (b : Begins) (last : Outcome) → Ends recipe base report b.c files (bench b.c.parsed b.c.inputs) last → Finished last
  finished b last e = record { name = base; c = b.c; given = given b; answers = b.answers; ends = e }

  abbrev following : (b : Begins) (reached : Position) → position b.c.parsed b.c.inputs steps ≡ On reached → After recipe base patch report
  following b reached current = record {
    four = four_of recipe base patch report words.with_base.three words.with_patch.three words.apart;
    c = record {
      words = three_apart recipe patch report words.with_patch.three;
      parsed = b.c.parsed;
      inputs = b.c.inputs;
      is = b.c.is;
      no_report = b.c.no_report;
      no_save = words.with_patch.apart b.holds.bytes b.c.parsed b.holds.recipe_held b.holds.reads;
    };
    no_base = b.c.no_save;
    given = given b;
    first = steps;
    reached = reached;
    current = current;
  }

  -- what was settled by differences
  told : (b : Begins) (reached : Position) (current : position b.c.parsed b.c.inputs steps ≡ On reached) (second : ℕ) (counts : List ℕ) (last : Outcome)
      → Stood recipe base patch report (following b reached current) files (fold (λ a x. a + x) (steps + second) counts) last → Current (second ∷ counts) last
  told b reached current second counts last (inl p, held) =
      let none : steps ≡ 0 + steps = omega arith in
      inl (p.status, subst (λ n. AreKeptAfter n) none (kept_of recipe base patch report (following b reached current) files (fold (λ a x. a + x) (steps + second) counts) last held p)) where
        AreKeptAfter : ℕ → Type 0
        AreKeptAfter n = IsSavedRelative recipe base patch last.files steps (fold (λ a x. a + x) (n + second) counts)
  told b reached current second counts last (inr e, held) =
      inr (record { name = patch; c = (following b reached current).c; given = (following b reached current).given; answers = b.answers; ends = e })

  by_pieces : (b : Begins) (counts : List ℕ) → All IsStepCount counts → Settles recipe base report b.c (whole_save b.c.parsed b.c.inputs) files steps piece
      → Current counts (after_save recipe base patch report piece counts)
  by_pieces b [] are (inl p) = inl (p.status, saved_of recipe base report b.c files steps piece p)
  by_pieces b [] are (inr e) = inr (finished b piece e)
  by_pieces b (second ∷ counts) are (inr e) =
      subst (λ paused. Current (second ∷ counts) (cond paused (in_turn (delta_resume recipe base patch report) (delta_start recipe base patch report second piece.files) counts) piece))
      (sym e.not_paused) (inr (finished b piece e))
  by_pieces b (second ∷ counts) are (inl p) =
      let from : After recipe base patch report = following b p.reached p.current in
      let next : Outcome = delta_start recipe base patch report second piece.files in
      let comes = starts_at recipe base patch report from piece.files p.holds p.kept_held second (All-head IsStepCount second counts are) in
      let settled : Settles recipe patch report from.c (kept_relative recipe base patch report from) files (steps + second) next =
      subst (Settles recipe patch report from.c (kept_relative recipe base patch report from) files (steps + second)) (sym comes)
      (settles recipe patch report from.c files piece.files p.holds p.same_report (kept_relative recipe base patch report from) (steps + second)
      (position b.c.parsed b.c.inputs (steps + second)) refl) in
      let stood = further (delta_resume recipe base patch report) (Stood recipe base patch report from files) (goes_on recipe base patch report from files) counts (All-tail IsStepCount second counts are) (steps + second) next
      (settled, start_leaves_base recipe base patch report from second piece.files p.kept_held) in
      subst (λ (s : Status). Current (second ∷ counts) (cond (is_paused s) (in_turn (delta_resume recipe base patch report) next counts) piece)) (sym p.status)
      (told b p.reached p.current second counts (in_turn (delta_resume recipe base patch report) next counts) stood)

  -- a piece that is refused is not followed
  refused_stays : (counts : List ℕ) → is_paused piece.status ≡ false → after_save recipe base patch report piece counts ≡ piece
  refused_stays [] over = refl
  refused_stays (second ∷ counts) over =
      ap (λ b. cond b (in_turn (delta_resume recipe base patch report) (delta_start recipe base patch report second piece.files) counts) piece) over

  -- both are refused alike
  abbrev Refuses : Outcome → Type 0
  Refuses last = (last ≡ whole) × (is_compared whole.status ≡ false)

  current : (counts : List ℕ) → All IsStepCount (steps ∷ counts) → Refused piece whole ⊎ Begins
      → Refuses (after_save recipe base patch report piece counts) ⊎ Current counts (after_save recipe base patch report piece counts)
  current counts are (inl r) = inl (refused_stays counts r.refusal.0 ∙ r.same, ap (λ (o : Outcome). is_compared o.status) (sym r.same) ∙ r.refusal.1)
  current counts are (inr b) = inr (by_pieces b counts (All-tail IsStepCount steps counts are) (first_settles recipe base report steps files piece whole b))

  came : (counts : List ℕ) → All IsStepCount (steps ∷ counts)
      → Refuses (after_save recipe base patch report piece counts) ⊎ Current counts (after_save recipe base patch report piece counts)
  came counts are = current counts are (begins recipe base report steps files words.with_base counted)

  pub same : (counts : List ℕ) → All IsStepCount (steps ∷ counts)
      → Differences recipe base patch report files steps counts (in_differences recipe base patch report steps counts files)
  same counts are = by (came counts are) where
    last : Outcome
    last = after_save recipe base patch report piece counts

    by : Refuses last ⊎ Current counts last → Differences recipe base patch report files steps counts last
    by (inl is) = inr (alike report last whole is.0)
    by (inr (inl kept)) = inl kept
    by (inr (inr f)) = inr (subst (AreSame report last) (sym f.answers) f.ends.same)

  -- the report of one that is over is accepted
  pub accepted : (counts : List ℕ) → All IsStepCount (steps ∷ counts) → IsTrue (is_compared (in_differences recipe base patch report steps counts files).status)
      → (verify recipe report (in_differences recipe base patch report steps counts files).files).status ≡ (in_differences recipe base patch report steps counts files).status
  accepted counts are over = by (came counts are) where
    last : Outcome
    last = after_save recipe base patch report piece counts

    by : Refuses last ⊎ Current counts last → (verify recipe report last.files).status ≡ last.status
    by (inl is) = let never = sym is.1 ∙ ap (λ (o : Outcome). is_compared o.status) (sym is.0) ∙ over in absurd cc
    by (inr (inl kept)) = let never = sym (ap is_compared kept.0) ∙ over in absurd cc
    by (inr (inr f)) = compared recipe f.name report f.c files last f.given f.ends over
