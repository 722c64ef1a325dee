-- One line more, whatever the lines are.
use Rattle.std.proofs.Common.{◌≡◌, ℕ, suc, ◌+◌, ◌==◌, Bool, true, false, List, [], length, Option, Some, None, refl, ap, ◌∙◌, arith}
use Rattle.report.specs.Inside.Cuts.{◌>>=◌, cut_at}
use Rattle.report.specs.Inside.LineByLine.{Reader, next_line, one_more, after, HasRead, Stops}

pub has_read_first : {L S R : Type 0} (reader : Reader L S R) (bytes : List ℕ) → HasRead reader bytes 0 reader.start bytes
unfolding after
has_read_first reader bytes = record { there = refl }

pub after_more : {L S R : Type 0} (reader : Reader L S R) (n : ℕ) (bytes : List ℕ) → after reader (n + 1) bytes ≡ after reader n bytes >>= one_more reader
unfolding after
after_more reader n bytes =
    let up : n + 1 ≡ suc n = omega arith in
    ap (λ (k : ℕ). after reader k bytes) up

pub has_read_more : {L S R : Type 0} (reader : Reader L S R) (bytes : List ℕ) (n : ℕ) (state : S) (rest : List ℕ) (line : L) (left : List ℕ) (next : S)
    → HasRead reader bytes n state rest → Some (line, left) ≡ next_line reader.line_of rest → Some next ≡ reader.step state line → HasRead reader bytes (n + 1) next left
unfolding one_more
has_read_more {S = S} reader bytes n state rest line left next has_read read stepped =
    let one : one_more reader (state, rest) ≡ Some (next, left) = rw (← read, ← stepped) refl in
    record { there = after_more reader n bytes ∙ ap (λ (x : Option (S × List ℕ)). x >>= one_more reader) has_read.there ∙ one }

-- bytes of which some are left are not none
some_left : (rest : List ℕ) (empty : Bool) → empty ≡ (length rest == 0) → empty ≡ false → rest ≡ [] → ⊥
some_left rest empty is not_empty none =
    let e : empty ≡ true = is ∙ ap (λ (r : List ℕ). length r == 0) none in
    absurd cc

pub stops_at_line : {L S R : Type 0} (reader : Reader L S R) (bytes : List ℕ) (n : ℕ) (state : S) (rest : List ℕ) (empty : Bool)
    → empty ≡ (length rest == 0) → empty ≡ false → HasRead reader bytes n state rest → None ≡ next_line reader.line_of rest → Stops reader bytes (n + 1)
unfolding one_more
stops_at_line reader bytes n state rest empty is not_empty has_read read = record {
  before = n;
  is = refl;
  state = state;
  rest = rest;
  there = has_read.there;
  none = rw (← read) refl;
  left = λ none. some_left rest empty is not_empty none;
}

pub stops_at_step : {L S R : Type 0} (reader : Reader L S R) (bytes : List ℕ) (n : ℕ) (state : S) (rest : List ℕ) (empty : Bool) (line : L) (left : List ℕ) (next : Option S)
    → empty ≡ (length rest == 0) → empty ≡ false → HasRead reader bytes n state rest → Some (line, left) ≡ next_line reader.line_of rest → next ≡ reader.step state line
    → ((state : S) → next ≡ Some state → ⊥)
    → Stops reader bytes (n + 1)
unfolding one_more
stops_at_step reader bytes n state rest empty line left (Some next) is not_empty has_read read stepped no_next = absurd (no_next next refl)
stops_at_step reader bytes n state rest empty line left None is not_empty has_read read stepped no_next = record {
  before = n;
  is = refl;
  state = state;
  rest = rest;
  there = has_read.there;
  none = rw (← read, ← stepped) refl;
  left = λ none. some_left rest empty is not_empty none;
}

pub no_more : {L S R : Type 0} (reader : Reader L S R) (state : S) → one_more reader (state, []) ≡ None
unfolding one_more next_line cut_at
no_more reader state = refl
