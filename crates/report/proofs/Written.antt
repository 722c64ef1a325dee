-- Text that is written piece by piece, and lists whose elements are written one by one.
use Rattle.std.proofs.Common.{◌≡◌, ℕ, ◌+◌, ◌<◌, List, [], ◌∷◌, ◌++◌, length, drop, get_or, sym, ap, ◌∙◌, append_assoc}
use Rattle.std.proofs.lemmas.Grind.{flat_map-append}
use Rattle.std.proofs.lemmas.List.{append-nil, drop_more, get_or_default}
use Rattle.ddc_base.specs.Lines.{line as line_text}
use Rattle.report.specs.Texts.{text_of_lines}

pub ruleset written = append_assoc

-- what was written, and what is left to write, make up the whole
pub record Writes {X L : Type 0} (words : L → List (List ℕ)) (lines : List X → List L) (old : List ℕ) (xs : List X) (i : ℕ) (out : List ℕ) : Type 0 where
  pub so_far : out ++ text_of_lines words (lines (drop i xs)) ≡ old ++ text_of_lines words (lines xs)

pub writes_more : {X L : Type 0} (words : L → List (List ℕ)) (lines : List X → List L) (one : X → List L) → ((x : X) (xs : List X) → lines (x ∷ xs) ≡ one x ++ lines xs)
    → (old : List ℕ) (xs : List X) (i : ℕ) (x : X) (out more : List ℕ)
    → i < length xs → x ≡ get_or xs i x → Writes words lines old xs i out → more ≡ out ++ text_of_lines words (one x) → Writes words lines old xs (i + 1) more
writes_more words lines one adds old xs i x out more within is writes grown =
    let text = text_of_lines words in
    let rest = drop (i + 1) xs in
    let prefix : drop i xs ≡ x ∷ rest = drop_more xs i x within ∙ ap (λ y. y ∷ rest) (sym is) in
    let split : text (lines (drop i xs)) ≡ text (one x) ++ text (lines rest) =
    ap (λ ys. text (lines ys)) prefix ∙ ap text (adds x rest) ∙ flat_map-append (λ l. line_text (words l)) (one x) (lines rest) in
    record {
      so_far = ap (λ (t : List ℕ). t ++ text (lines rest)) grown ∙ append_assoc out (text (one x)) (text (lines rest))
          ∙ ap (λ (t : List ℕ). out ++ t) (sym split) ∙ writes.so_far;
    }

-- the same, by the element's index
pub writes_next : {X L : Type 0} (words : L → List (List ℕ)) (lines : List X → List L) (one : X → List L) → ((x : X) (xs : List X) → lines (x ∷ xs) ≡ one x ++ lines xs)
    → (old : List ℕ) (xs : List X) (i : ℕ) (d : X) (out more : List ℕ)
    → i < length xs → Writes words lines old xs i out → more ≡ out ++ text_of_lines words (one (get_or xs i d)) → Writes words lines old xs (i + 1) more
writes_next words lines one adds old xs i d out more within writes grown =
    writes_more words lines one adds old xs i (get_or xs i d) out more within (get_or_default xs i d (get_or xs i d) within) writes grown

pub writes_all : {X L : Type 0} (words : L → List (List ℕ)) (lines : List X → List L) → lines [] ≡ []
    → (old : List ℕ) (xs : List X) (i : ℕ) (out : List ℕ) → drop i xs ≡ [] → Writes words lines old xs i out → out ≡ old ++ text_of_lines words (lines xs)
writes_all words lines empty old xs i out none writes =
    sym (append-nil out) ∙ ap (λ (t : List ℕ). out ++ t) (sym (ap (λ ys. text_of_lines words (lines ys)) none ∙ ap (text_of_lines words) empty)) ∙ writes.so_far

-- the text of one line
pub one_line : {L : Type 0} (words : L → List (List ℕ)) (l : L) → text_of_lines words (l ∷ []) ≡ line_text (words l)
one_line words l = append-nil (line_text (words l))
