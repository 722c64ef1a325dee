-- What has to be known of the lines of a text and of its reader, so that it is read as what it is.
use Rattle.std.proofs.Common.{◌≡◌, ℕ, List, [], ◌∷◌, ◌++◌, Option, Some, None, Result, refl, sym, ap, subst, ◌∙◌, append_assoc}
use Rattle.std.specs.Prelude.{All}
use Rattle.std.proofs.lemmas.List.{append-nil}
use Rattle.ddc_base.specs.Lines.{line as line_text}
use Rattle.report.specs.Inside.Cuts.{◌>>=◌, cut_at}
use Rattle.report.specs.Inside.LineByLine.{Reader, next_line, read_all}
use Rattle.report.specs.Texts.{Texts}
use Rattle.report.proofs.Cuts.{Without, cut_at-joined, cut_at-takes, bind_some, same_some}

-- ---- a line with its LF

feed : (words : List (List ℕ)) (text rest : List ℕ) → line_text words ≡ text ++ 10 ∷ [] → line_text words ++ rest ≡ text ++ 10 ∷ rest
feed words text rest encoded = ap (λ (t : List ℕ). t ++ rest) encoded ∙ append_assoc text (10 ∷ []) rest

pub line_is_next : {L : Type 0} (line_of : List ℕ → Option L) (words : List (List ℕ)) (text rest : List ℕ) (l : L)
    → line_text words ≡ text ++ 10 ∷ [] → Without 10 text → line_of text ≡ Some l → next_line line_of (line_text words ++ rest) ≡ Some (l, rest)
unfolding next_line
line_is_next line_of words text rest l encoded no_feed again = rw (feed words text rest encoded, cut_at-joined 10 text rest no_feed, again) refl

pub next_is_line : {L : Type 0} (line_of : List ℕ → Option L) (words : L → List (List ℕ)) (IsLine : L → Type 0)
    → ((text : List ℕ) (l : L) → line_of text ≡ Some l → IsLine l × (line_text (words l) ≡ text ++ 10 ∷ []))
    → (bytes : List ℕ) (l : L) (rest : List ℕ) → next_line line_of bytes ≡ Some (l, rest) → IsLine l × (bytes ≡ line_text (words l) ++ rest)
unfolding next_line
next_is_line {L = L} line_of words IsLine takes bytes l rest e =
    let x = bind_some (cut_at 10 bytes) (λ cut. line_of cut.0 >>= λ line. Some (line, cut.1)) (l, rest) e in
    let y = bind_some (line_of x.0.0) (λ line. Some (line, x.0.1)) (l, rest) x.2 in
    let found = takes x.0.0 y.0 y.1 in
    let P = λ (z : L × List ℕ). IsLine z.0 × (bytes ≡ line_text (words z.0) ++ z.1) in
    subst P (same_some (y.0, x.0.1) (l, rest) y.2)
    (found.0, cut_at-takes 10 bytes x.0.0 x.0.1 x.1 ∙ sym (feed (words y.0) x.0.0 x.0.1 found.1))

-- ---- the lines of a text, one after the other

-- the state after the lines
abbrev pub runs : {L S : Type 0} → (S → L → Option S) → S → List L → Option S
runs step state [] = Some state
runs step state (line ∷ lines) = step state line >>= λ next. runs step next lines

pub runs-append : {L S : Type 0} (step : S → L → Option S) (state : S) (prefix more : List L) → runs step state (prefix ++ more) ≡ (runs step state prefix >>= λ next. runs step next more)
runs-append step state [] more = refl
runs-append {S = S} step state (line ∷ prefix) more = on (step state line) (λ s. runs-append step s prefix more)
  where
    on : (next : Option S) → ((s : S) → runs step s (prefix ++ more) ≡ (runs step s prefix >>= λ t. runs step t more))
        → (next >>= λ s. runs step s (prefix ++ more)) ≡ ((next >>= λ s. runs step s prefix) >>= λ t. runs step t more)
    on None h = refl
    on (Some s) h = h s

-- two runs, one after the other
pub runs_then : {L S : Type 0} (step : S → L → Option S) (s t : S) (prefix more : List L) → runs step s prefix ≡ Some t → runs step s (prefix ++ more) ≡ runs step t more
runs_then {S = S} step s t prefix more first = runs-append step s prefix more ∙ ap (λ (next : Option S). next >>= λ u. runs step u more) first

-- ---- lines that begin a report

pub record Finishes {L R : Type 0} (Is : R → Type 0) (lines : R → List L) (so_far : List L) : Type 0 where
  pub report : R
  pub is : Is report
  pub more : List L
  pub split : lines report ≡ so_far ++ more

-- by one more line
pub finishes_by : {L R : Type 0} {Is : R → Type 0} {lines : R → List L} (before : List L) (l : L) (after : List L) → after ≡ before ++ l ∷ []
    → Finishes Is lines after → Finishes Is lines before
finishes_by {L = L} before l after grown f = record {
  report = f.report;
  is = f.is;
  more = l ∷ f.more;
  split = f.split ∙ ap (λ (ls : List L). ls ++ f.more) grown ∙ append_assoc before (l ∷ []) f.more;
}

pub finished_by : {L R : Type 0} {Is : R → Type 0} {lines : R → List L} (so_far : List L) (report : R) → Is report → lines report ≡ so_far → Finishes Is lines so_far
finished_by so_far report is all = record { report = report; is = is; more = []; split = all ∙ sym (append-nil so_far) }

-- ---- the rules

pub record Rules {L S R : Type 0} (reader : Reader L S R) : Type 1 where
  pub texts : Texts L R
  -- the function that reads
  pub read : List ℕ → Result R ℕ
  pub reads : (bytes : List ℕ) → read bytes ≡ read_all reader bytes
  -- which lines are spelled one way
  pub IsLine : L → Type 0
  pub again : (l : L) (rest : List ℕ) → IsLine l → next_line reader.line_of (line_text (texts.words l) ++ rest) ≡ Some (l, rest)
  pub takes : (bytes : List ℕ) (l : L) (rest : List ℕ) → next_line reader.line_of bytes ≡ Some (l, rest) → IsLine l × (bytes ≡ line_text (texts.words l) ++ rest)
  pub fits : (report : R) → texts.Is report → All IsLine (texts.lines report)
  -- the lines that a state has taken, and what it keeps
  pub so_far : S → List L
  pub Good : S → Type 0
  pub none_yet : so_far reader.start ≡ []
  pub good_start : Good reader.start
  pub grows : (s : S) (l : L) (t : S) → Good s → reader.step s l ≡ Some t → so_far t ≡ so_far s ++ l ∷ []
  pub keeps : (s : S) (l : L) (t : S) → Good s → IsLine l → reader.step s l ≡ Some t → Good t
  pub finished : (s : S) → Good s → Finishes texts.Is texts.lines (so_far s)
  -- the state at a report's end
  pub end : R → S
  pub ended : (report : R) → reader.ended (end report) ≡ Some report
  pub runs_to_end : (report : R) → texts.Is report → runs reader.step reader.start (texts.lines report) ≡ Some (end report)
  pub whole : (s : S) (report : R) → Good s → reader.ended s ≡ Some report → texts.Is report × (so_far s ≡ texts.lines report)
  pub unended : (s : S) → ((report : R) → s ≡ end report → ⊥) → reader.ended s ≡ None
