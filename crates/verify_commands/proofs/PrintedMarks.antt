-- Equal texts have equal marks.
use Rattle.std.proofs.Common.{◌≡◌, ℕ, Option, None, Some, List, [], ◌∷◌, ◌++◌, length, codes, refl, sym, ap, ◌∙◌, subst, arith, All, append_assoc}
use Rattle.std.specs.Prelude.{IfSome, option_map}
use Rattle.std.proofs.lemmas.List.Elements.{All-cons, All-nil}
use Rattle.ddc_base.specs.Lines.{line}
use Rattle.recipe.specs.declared.contents.RecipeContents.{RecipeContents}
use Rattle.recipe.specs.Kept.{IsRecipe}
use Rattle.report.specs.declared.line.ReportLine.{ReportLine}
use Rattle.report.specs.declared.line.ReportLine.TheVariants.{Made}
use Rattle.report.specs.declared.types.Mark.{Mark}
use Rattle.report.specs.declared.types.Report.{Report}
use Rattle.report.specs.Inside.LineByLine.{next_line}
use Rattle.report.specs.Inside.LinesRead.{line_of}
use Rattle.report.specs.Lines.{line_words, mark_words}
use Rattle.report.specs.Marks.{mark_of}
use Rattle.report.specs.Reports.{IsMark}
use Rattle.report.proofs.LineTexts.{next_again}
use Rattle.report.proofs.Marks.{is_mark}
use Rattle.audit_rules.specs.declared.answer.AuditAnswer.TheVariants.{Completes}
use Rattle.audit_rules.specs.Bench.{bench}
use Rattle.audit_rules.specs.Contents.{content}
use Rattle.audit_rules.specs.Valid.{IsInputs}
use Rattle.audit_rules.proofs.GivenBoxes.{content-is}
use Rattle.wheeler.specs.AllContents.{all_contents}
use Rattle.wheeler.proofs.Gathering.{reached}
use Rattle.audit_chain.specs.Provenance.{SameMark, SameMarks, mark_named, programs}
use Rattle.audit_chain.specs.Rests.Basis.{layouts, texts}
use Rattle.audit_chain.proofs.OriginLemmas.Marked.{content-held, held, mark-held, or_nothing}
use Rattle.verify_commands.specs.Provenance.{believed_text, marked_line, marked_text, met_text, origin_text, mark_words_of}

-- what stands after an equal front
cancel : (prefix x y : List ℕ) → prefix ++ x ≡ prefix ++ y → x ≡ y
cancel [] x y is = is
cancel (byte ∷ prefix) x y is = cancel prefix x y (ap rest is) where
  rest : List ℕ → List ℕ
  rest [] = []
  rest (b ∷ bs) = bs

-- the first three of four, one by one
one-by-one : (t p l rest : List ℕ) → t ++ p ++ l ++ rest ≡ t ++ (p ++ (l ++ rest))
one-by-one t p l rest = append_assoc (t ++ p) l rest ∙ append_assoc t p (l ++ rest)

-- a mark, at the end of a line, and what stands after it
peel-mark : (a b : Mark) → IsMark a → IsMark b → (x y : List ℕ) → line (mark_words a) ++ x ≡ line (mark_words b) ++ y → (a ≡ b) × (x ≡ y)
peel-mark a b is_a is_b x y is = (ap mark_in both, ap rest_in both) where
  made : line (line_words (Made a)) ++ x ≡ line (line_words (Made b)) ++ y
  made = ap (λ (t : List ℕ). codes "made" ++ 32 ∷ t) is

  both : ◌≡◌ {A = Option (ReportLine × List ℕ)} (Some (Made a, x)) (Some (Made b, y))
  both = sym (next_again (Made a) x is_a) ∙ ap (next_line line_of) made ∙ next_again (Made b) y is_b

  mark_in : Option (ReportLine × List ℕ) → Mark
  mark_in (Some (Made m, t)) = m
  mark_in _ = a

  rest_in : Option (ReportLine × List ℕ) → List ℕ
  rest_in (Some (l, t)) = t
  rest_in None = []

-- a name and what is marked of it
peel-words : (name : List ℕ) (a b : Option Mark) → IfSome a IsMark → IfSome b IsMark → (x y : List ℕ)
    → line (name ∷ mark_words_of a) ++ x ≡ line (name ∷ mark_words_of b) ++ y → (a ≡ b) × (x ≡ y)
peel-words name None None is_a is_b x y is =
    (refl, cancel (10 ∷ []) x y (cancel name (10 ∷ x) (10 ∷ y) (sym (append_assoc name (10 ∷ []) x) ∙ is ∙ append_assoc name (10 ∷ []) y)))
peel-words name None (Some b) is_a is_b x y is =
    let other : 10 ∷ x ≡ 32 ∷ line (mark_words b) ++ y =
    cancel name (10 ∷ x) (32 ∷ line (mark_words b) ++ y) (sym (append_assoc name (10 ∷ []) x) ∙ is ∙ append_assoc name (32 ∷ line (mark_words b)) y) in
    absurd cc
peel-words name (Some a) None is_a is_b x y is =
    let other : 32 ∷ line (mark_words a) ++ x ≡ 10 ∷ y =
    cancel name (32 ∷ line (mark_words a) ++ x) (10 ∷ y) (sym (append_assoc name (32 ∷ line (mark_words a)) x) ∙ is ∙ append_assoc name (10 ∷ []) y) in
    absurd cc
peel-words name (Some a) (Some b) is_a is_b x y is =
    let after = cancel name (32 ∷ line (mark_words a) ++ x) (32 ∷ line (mark_words b) ++ y)
    (sym (append_assoc name (32 ∷ line (mark_words a)) x) ∙ is ∙ append_assoc name (32 ∷ line (mark_words b)) y) in
    let both = peel-mark a b is_a is_b x y (cancel (32 ∷ []) (line (mark_words a) ++ x) (line (mark_words b) ++ y) after) in
    (ap Some both.0, both.1)

module _ (recipe : RecipeContents) (report other : Report) (mine : (name : List ℕ) → IfSome (mark_named recipe report name) IsMark)
    (theirs : (name : List ℕ) → IfSome (mark_named recipe other name) IsMark) where
  peel-line : (what name x y : List ℕ) → marked_line recipe report what name ++ x ≡ marked_line recipe other what name ++ y
      → SameMark recipe report other name × (x ≡ y)
  peel-line what name x y is =
      let a : List ℕ = line (name ∷ mark_words_of (mark_named recipe report name)) in
      let b : List ℕ = line (name ∷ mark_words_of (mark_named recipe other name)) in
      let after : 32 ∷ (a ++ x) ≡ 32 ∷ (b ++ y) =
      cancel what (32 ∷ (a ++ x)) (32 ∷ (b ++ y)) (sym (append_assoc what (32 ∷ a) x) ∙ is ∙ append_assoc what (32 ∷ b) y) in
      peel-words name (mark_named recipe report name) (mark_named recipe other name) (mine name) (theirs name) x y (cancel (32 ∷ []) (a ++ x) (b ++ y) after)

  -- a line for each name
  peel-lines : (what : List ℕ) (names : List (List ℕ)) (x y : List ℕ) → marked_text recipe report what names ++ x ≡ marked_text recipe other what names ++ y
      → All (SameMark recipe report other) names × (x ≡ y)
  peel-lines what [] x y is = (All-nil (SameMark recipe report other), is)
  peel-lines what (name ∷ names) x y is =
      let first = peel-line what name (marked_text recipe report what names ++ x) (marked_text recipe other what names ++ y)
      (sym (append_assoc (marked_line recipe report what name) (marked_text recipe report what names) x) ∙ is
      ∙ append_assoc (marked_line recipe other what name) (marked_text recipe other what names) y) in
      let rest = peel-lines what names x y first.1 in
      (All-cons (SameMark recipe report other) name names first.0 rest.0, rest.1)

  -- what stands from each kind of line on
  abbrev rest_of : List (List ℕ) → Report → List ℕ → List ℕ
  rest_of i r name = believed_text recipe i r name ++ met_text recipe r name

  abbrev from_layout : List (List ℕ) → Report → List ℕ → List ℕ
  from_layout i r name = marked_text recipe r (codes "layout") (layouts recipe name) ++ rest_of i r name

  abbrev from_program : List (List ℕ) → Report → List ℕ → List ℕ
  from_program i r name = marked_text recipe r (codes "program") (programs recipe name) ++ from_layout i r name

  pub peel-text : (inputs others : List (List ℕ)) (name : List ℕ) → origin_text recipe inputs report name ≡ origin_text recipe others other name
      → SameMarks recipe report other name
  unfolding origin_text
  peel-text inputs others name printed =
      let parts : (i : List (List ℕ)) (r : Report) → origin_text recipe i r name ≡ marked_text recipe r (codes "text") (texts recipe name) ++ from_program i r name =
      λ i r. one-by-one (marked_text recipe r (codes "text") (texts recipe name)) (marked_text recipe r (codes "program") (programs recipe name))
      (marked_text recipe r (codes "layout") (layouts recipe name)) (rest_of i r name) in
      let is = sym (parts inputs report) ∙ printed ∙ parts others other in
      let one = peel-lines (codes "text") (texts recipe name) (from_program inputs report name) (from_program others other name) is in
      let two = peel-lines (codes "program") (programs recipe name) (from_layout inputs report name) (from_layout others other name) one.1 in
      let three = peel-lines (codes "layout") (layouts recipe name) (rest_of inputs report name) (rest_of others other name) two.1 in
      record { read = one.0; run = two.0; laid = three.0 }

-- what is held is short, so that its mark is one
has-mark : (recipe : RecipeContents) (inputs : List (List ℕ)) (report : Report) → IsRecipe recipe → IsInputs recipe inputs → bench recipe inputs ≡ Completes report
    → (name : List ℕ) → IfSome (mark_named recipe report name) IsMark
has-mark recipe inputs report ok given is name =
    subst (λ o. IfSome o IsMark) (sym (mark-held recipe inputs report name given is)) (by (held recipe (all_contents recipe inputs) name) refl) where
      by : (o : Option (List ℕ)) → held recipe (all_contents recipe inputs) name ≡ o → IfSome (option_map mark_of o) IsMark
      by None at = tt
      by (Some bytes) at =
          let small = (content-is recipe (all_contents recipe inputs) name (reached recipe inputs report ok given is).are).small in
          let same : length (content recipe (all_contents recipe inputs) name) ≡ length bytes =
          ap length (content-held recipe (all_contents recipe inputs) name ∙ ap or_nothing at) in
          is_mark bytes (omega (arith, small, same))

pub printed-marks : (recipe : RecipeContents) (inputs others : List (List ℕ)) (report other : Report) → IsRecipe recipe → IsInputs recipe inputs → IsInputs recipe others
    → bench recipe inputs ≡ Completes report → bench recipe others ≡ Completes other → (name : List ℕ)
    → origin_text recipe inputs report name ≡ origin_text recipe others other name → SameMarks recipe report other name
printed-marks recipe inputs others report other ok one two is was name printed =
    peel-text recipe report other (has-mark recipe inputs report ok one is) (has-mark recipe others other ok two was) inputs others name printed
