-- The first lines of a report are taken, and what is taken begins a report, whatever the lines are.
use Rattle.std.proofs.Common.{◌≡◌, ℕ, zero, suc, ◌+◌, ◌-◌, ◌≤◌, List, [], ◌∷◌, ◌++◌, length, take, drop, Option, Some, None, refl, sym, ap, subst, ◌∙◌, append_assoc, arith, length-append, inl, inr}
use Rattle.std.specs.Prelude.{All}
use Rattle.std.proofs.lemmas.Bool.{cases_lt}
use Rattle.std.proofs.lemmas.List.{append-nil, take-append-drop, take_at, length-take}
use Rattle.std.proofs.lemmas.List.Elements.{All-head, All-tail, All-take}
use Rattle.ddc_base.specs.Lines.{line as line_text}
use Rattle.report.specs.Inside.Cuts.{◌>>=◌}
use Rattle.report.specs.Inside.LineByLine.{Reader, next_line, one_more, after}
use Rattle.report.specs.Texts.{BeginsText, IsFirstFault, text_of_lines}
use Rattle.report.proofs.Cuts.{bind_some, same_some}
use Rattle.report.proofs.LineByLine.Rules.{Rules, runs, runs-append}
use Rattle.report.proofs.LineByLine.Turns.{no_more}

-- ---- from the front

abbrev from : {L S R : Type 0} → Reader L S R → ℕ → S × List ℕ → Option (S × List ℕ)
from reader zero x = Some x
from reader (suc n) x = one_more reader x >>= from reader n

from_more : {L S R : Type 0} (reader : Reader L S R) (n : ℕ) (x : S × List ℕ) → from reader (suc n) x ≡ (from reader n x >>= one_more reader)
from_more {S = S} reader zero x = at_end (one_more reader x)
  where
    at_end : (o : Option (S × List ℕ)) → (o >>= λ y. Some y) ≡ o
    at_end None = refl
    at_end (Some y) = refl
from_more {S = S} reader (suc n) x = on (one_more reader x) (λ y. from_more reader n y)
  where
    on : (o : Option (S × List ℕ)) → ((y : S × List ℕ) → from reader (suc n) y ≡ (from reader n y >>= one_more reader))
        → (o >>= from reader (suc n)) ≡ ((o >>= from reader n) >>= one_more reader)
    on None h = refl
    on (Some y) h = h y

after_from : {L S R : Type 0} (reader : Reader L S R) (n : ℕ) (bytes : List ℕ) → after reader n bytes ≡ from reader n (reader.start, bytes)
unfolding after
after_from reader zero bytes = refl
after_from {S = S} reader (suc n) bytes = ap (λ (o : Option (S × List ℕ)). o >>= one_more reader) (after_from reader n bytes) ∙ sym (from_more reader n (reader.start, bytes))

one_line : {L S R : Type 0} {reader : Reader L S R} (rules : Rules reader) (s : S) (l : L) (t : S) (rest : List ℕ)
    → rules.IsLine l → reader.step s l ≡ Some t → one_more reader (s, line_text (rules.texts.words l) ++ rest) ≡ Some (t, rest)
unfolding one_more
one_line rules s l t rest fits stepped = rw (rules.again l rest fits, stepped) refl

run_from : {L S R : Type 0} {reader : Reader L S R} (rules : Rules reader) (ls : List L) (s t : S) (rest : List ℕ)
    → All rules.IsLine ls → runs reader.step s ls ≡ Some t → from reader (length ls) (s, text_of_lines rules.texts.words ls ++ rest) ≡ Some (t, rest)
run_from {S = S} rules [] s t rest each e = ap (λ (o : Option S). o >>= λ u. Some (u, rest)) e
run_from {S = S} {reader = reader} rules (l ∷ ls) s t rest each e =
    let parts = bind_some (reader.step s l) (λ u. runs reader.step u ls) t e in
    let here = line_text (rules.texts.words l) in
    let later = text_of_lines rules.texts.words ls in
    let one : one_more reader (s, (here ++ later) ++ rest) ≡ Some (parts.0, later ++ rest) =
    ap (λ (bytes : List ℕ). one_more reader (s, bytes)) (append_assoc here later rest) ∙ one_line rules s l parts.0 (later ++ rest) (All-head rules.IsLine l ls each) parts.1 in
    ap (λ (o : Option (S × List ℕ)). o >>= from reader (length ls)) one ∙ run_from rules ls parts.0 t rest (All-tail rules.IsLine l ls each) parts.2

-- where the lines begin a report, they are taken
begun : {L S R : Type 0} {reader : Reader L S R} (rules : Rules reader) (n : ℕ) (bytes : List ℕ) → BeginsText rules.texts n bytes
    → (x : S × List ℕ) × (after reader n bytes ≡ Some x)
begun {S = S} {reader = reader} rules n bytes begins =
    let lines = rules.texts.lines begins.report in
    let run = runs reader.step in
    let end = rules.end begins.report in
    let whole : run reader.start (take n lines ++ drop n lines) ≡ Some end = ap (run reader.start) (take-append-drop n lines) ∙ rules.runs_to_end begins.report begins.is in
    let parts = bind_some (run reader.start (take n lines)) (λ s. run s (drop n lines)) end (sym (runs-append reader.step reader.start (take n lines) (drop n lines)) ∙ whole) in
    let long : length (take n lines) ≡ n = omega (arith, length-take n lines, begins.within) in
    let taken = run_from rules (take n lines) reader.start parts.0 begins.rest (All-take rules.IsLine n lines (rules.fits begins.report begins.is)) parts.1 in (
      (parts.0, begins.rest),
      after_from reader n bytes ∙ ap (λ (k : ℕ). from reader k (reader.start, bytes)) (sym long)
          ∙ ap (λ (b : List ℕ). from reader (length (take n lines)) (reader.start, b)) begins.text ∙ taken,
    )

-- ---- what is taken

text_of-push : {L : Type 0} (words : L → List (List ℕ)) (ls : List L) (l : L) → text_of_lines words (ls ++ l ∷ []) ≡ text_of_lines words ls ++ line_text (words l)
text_of-push words [] l = append-nil (line_text (words l))
text_of-push words (first ∷ ls) l =
    ap (λ (t : List ℕ). line_text (words first) ++ t) (text_of-push words ls l) ∙ sym (append_assoc (line_text (words first)) (text_of_lines words ls) (line_text (words l)))

pub record Taken {L S R : Type 0} {reader : Reader L S R} (rules : Rules reader) (n : ℕ) (bytes : List ℕ) (s : S) (rest : List ℕ) : Type 0 where
  pub good : rules.Good s
  pub text : bytes ≡ text_of_lines rules.texts.words (rules.so_far s) ++ rest
  pub long : length (rules.so_far s) ≡ n

taken_none : {L S R : Type 0} {reader : Reader L S R} (rules : Rules reader) (bytes : List ℕ) → Taken rules 0 bytes reader.start bytes
taken_none {L = L} rules bytes = record {
  good = rules.good_start;
  text = ap (λ (ls : List L). text_of_lines rules.texts.words ls ++ bytes) (sym rules.none_yet);
  long = ap length rules.none_yet;
}

pub taken : {L S R : Type 0} {reader : Reader L S R} (rules : Rules reader) (n : ℕ) (bytes : List ℕ) (x : S × List ℕ) → after reader n bytes ≡ Some x → Taken rules n bytes x.0 x.1
unfolding after one_more
taken {S = S} {reader = reader} rules zero bytes x e =
    subst (λ (y : S × List ℕ). Taken rules 0 bytes y.0 y.1) (same_some (reader.start, bytes) x e) (taken_none rules bytes)
taken {L = L} {S = S} {reader = reader} rules (suc n) bytes x e =
    let a = bind_some (after reader n bytes) (one_more reader) x e in
    let b = bind_some (next_line reader.line_of a.0.1) (λ next. reader.step a.0.0 next.0 >>= λ state. Some (state, next.1)) x a.2 in
    let d = bind_some (reader.step a.0.0 b.0.0) (λ state. Some (state, b.0.1)) x b.2 in
    let before = taken rules n bytes a.0 a.1 in
    let line = rules.takes a.0.1 b.0.0 b.0.1 b.1 in
    let grown = rules.grows a.0.0 b.0.0 d.0 before.good d.1 in
    let text = text_of_lines rules.texts.words in
    let here = line_text (rules.texts.words b.0.0) in
    subst (λ (y : S × List ℕ). Taken rules (suc n) bytes y.0 y.1) (same_some (d.0, b.0.1) x d.2) (record {
      good = rules.keeps a.0.0 b.0.0 d.0 before.good line.0 d.1;
      text = before.text ∙ ap (λ (t : List ℕ). text (rules.so_far a.0.0) ++ t) line.1
          ∙ sym (append_assoc (text (rules.so_far a.0.0)) here b.0.1)
          ∙ ap (λ (t : List ℕ). t ++ b.0.1) (sym (text_of-push rules.texts.words (rules.so_far a.0.0) b.0.0) ∙ ap text (sym grown));
      long = omega (arith, ap length grown, length-append (rules.so_far a.0.0) (b.0.0 ∷ []), before.long);
    })

-- what is taken begins a report
begins : {L S R : Type 0} {reader : Reader L S R} (rules : Rules reader) (n : ℕ) (bytes : List ℕ) (x : S × List ℕ) → after reader n bytes ≡ Some x → BeginsText rules.texts n bytes
begins {L = L} rules n bytes x e =
    let t = taken rules n bytes x e in
    let f = rules.finished x.0 t.good in
    let prefix : take n (rules.texts.lines f.report) ≡ rules.so_far x.0 = ap (take n) f.split ∙ take_at (rules.so_far x.0) f.more n t.long in
    record {
      report = f.report;
      is = f.is;
      rest = x.1;
      within = omega (arith, ap length f.split, length-append (rules.so_far x.0) f.more, t.long);
      text = t.text ∙ ap (λ (ls : List L). text_of_lines rules.texts.words ls ++ x.1) (sym prefix);
    }

-- ---- the first line that begins no report

earlier : {L S R : Type 0} (reader : Reader L S R) (n k : ℕ) (bytes : List ℕ) (x : S × List ℕ) → after reader (k + n) bytes ≡ Some x → (y : S × List ℕ) × (after reader n bytes ≡ Some y)
unfolding after
earlier reader n zero bytes x e =
    let up : 0 + n ≡ n = omega arith in
    (x, ap (λ (m : ℕ). after reader m bytes) (sym up) ∙ e)
earlier reader n (suc k) bytes x e =
    let up : suc k + n ≡ suc (k + n) = omega arith in
    let a = bind_some (after reader (k + n) bytes) (one_more reader) x (ap (λ (m : ℕ). after reader m bytes) (sym up) ∙ e) in
    earlier reader n k bytes a.0 a.1

-- no report goes on with one line more
pub record Last {L S R : Type 0} (reader : Reader L S R) (bytes : List ℕ) (n : ℕ) (at : S × List ℕ) : Type 0 where
  pub there : after reader n bytes ≡ Some at
  pub none : one_more reader at ≡ None

-- nothing is after one line more
past_last : {L S R : Type 0} (reader : Reader L S R) (bytes : List ℕ) (n : ℕ) (at : S × List ℕ) → Last reader bytes n at → after reader (suc n) bytes ≡ None
unfolding after
past_last {S = S} reader bytes n at last = ap (λ (o : Option (S × List ℕ)). o >>= one_more reader) last.there ∙ last.none

none_some : {A : Type 0} {G : Type 0} (o : Option A) (x : A) → o ≡ None → o ≡ Some x → G
none_some o x none some = let both : None ≡ Some x = sym none ∙ some in absurd cc

pub first_fault : {L S R : Type 0} {reader : Reader L S R} (rules : Rules reader) (n : ℕ) (bytes : List ℕ) (at : S × List ℕ) → Last reader bytes n at → IsFirstFault rules.texts (n + 1) bytes
first_fault {reader = reader} rules n bytes at last = record {
  not_here = λ here.
      (let up : n + 1 ≡ suc n = omega arith in
      let some = begun rules (n + 1) bytes here in
      none_some (after reader (n + 1) bytes) some.0 (ap (λ (m : ℕ). after reader m bytes) up ∙ past_last reader bytes n at last) some.1);
  before = λ m less.
      (let gap : (n - m) + m ≡ n = omega arith in
      let some = earlier reader m (n - m) bytes at (ap (λ (k : ℕ). after reader k bytes) gap ∙ last.there) in
      begins rules m bytes some.0 some.1);
}

no_further : {L S R : Type 0} (reader : Reader L S R) (n m : ℕ) (bytes : List ℕ) (x y : S × List ℕ) → Last reader bytes n x → after reader m bytes ≡ Some y → m ≤ n
no_further reader n m bytes x y last there =
    elim (cases_lt n m) [
      | inl more ↦
          let gap : (m - suc n) + suc n ≡ m = omega arith in
          let some = earlier reader (suc n) (m - suc n) bytes y (ap (λ (k : ℕ). after reader k bytes) gap ∙ there) in
          none_some (after reader (suc n) bytes) some.0 (past_last reader bytes n x last) some.1
      | inr few ↦ few
    ]

-- lines that go on as far as they can end in one place
pub one_last : {L S R : Type 0} (reader : Reader L S R) (n m : ℕ) (bytes : List ℕ) (x y : S × List ℕ) → Last reader bytes n x → Last reader bytes m y → (n ≡ m) × (x ≡ y)
one_last reader n m bytes x y first second =
    let same : n ≡ m = omega (arith, no_further reader n m bytes x y first second.there, no_further reader m n bytes y x second first.there) in
    (same, same_some x y (sym first.there ∙ ap (λ (k : ℕ). after reader k bytes) same ∙ second.there))

-- ---- a whole report

pub whole : {L S R : Type 0} {reader : Reader L S R} (rules : Rules reader) (n : ℕ) (bytes : List ℕ) (s : S) (report : R)
    → after reader n bytes ≡ Some (s, []) → reader.ended s ≡ Some report → rules.texts.Is report × (bytes ≡ text_of_lines rules.texts.words (rules.texts.lines report))
whole {L = L} rules n bytes s report e ends =
    let t = taken rules n bytes (s, []) e in
    let w = rules.whole s report t.good ends in
    (w.0, t.text ∙ append-nil (text_of_lines rules.texts.words (rules.so_far s)) ∙ ap (text_of_lines rules.texts.words) w.1)

-- a report's text goes on to its end, and no further
pub text_last : {L S R : Type 0} {reader : Reader L S R} (rules : Rules reader) (bytes : List ℕ) (report : R) → rules.texts.Is report → bytes ≡ text_of_lines rules.texts.words (rules.texts.lines report)
    → Last reader bytes (length (rules.texts.lines report)) (rules.end report, [])
text_last {reader = reader} rules bytes report is text =
    let lines = rules.texts.lines report in
    record {
      there = after_from reader (length lines) bytes
          ∙ ap (λ (b : List ℕ). from reader (length lines) (reader.start, b)) (text ∙ sym (append-nil (text_of_lines rules.texts.words lines)))
          ∙ run_from rules lines reader.start (rules.end report) [] (rules.fits report is) (rules.runs_to_end report is);
      none = no_more reader (rules.end report);
    }
