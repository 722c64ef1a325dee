-- Files that are written one after the other.
use Rattle.std.proofs.Common.{◌≡◌, ℕ, suc, ◌+◌, ◌<◌, List, [], ◌∷◌, ◌++◌, length, get_or, take, drop, map, sym, ap, ◌∙◌, append_assoc, arith, drop-cons}
use Rattle.std.specs.List.{flat_map}
use Rattle.std.proofs.lemmas.List.{append-nil, map_push, take_more}
use Rattle.std.proofs.lemmas.List.Concat.{flat_map-cons}

pub head_or_at : {T : Type 0} (xs : List T) (i : ℕ) (d : T) → i < length xs → drop i xs ≡ get_or xs i d ∷ drop (i + 1) xs
head_or_at xs i d lt =
    let next : suc i ≡ i + 1 = omega arith in
    drop-cons xs i d lt ∙ ap (λ (n : ℕ). get_or xs i d ∷ drop n xs) next

flat_push : {A : Type 0} (text : A → List ℕ) (xs : List A) (x : A) → flat_map text (xs ++ x ∷ []) ≡ flat_map text xs ++ text x
flat_push text [] x = flat_map-cons text x [] ∙ append-nil (text x)
flat_push text (y ∷ ys) x =
    flat_map-cons text y (ys ++ x ∷ []) ∙ ap (λ (v : List ℕ). text y ++ v) (flat_push text ys x)
    ∙ sym (append_assoc (text y) (flat_map text ys) (text x)) ∙ ap (λ (v : List ℕ). v ++ text x) (sym (flat_map-cons text y ys))

pub flat_more : {A T : Type 0} (text : A → List ℕ) (view : T → A) (xs : List T) (i : ℕ) (d : T) → i < length xs
    → flat_map text (map view (take (i + 1) xs)) ≡ flat_map text (map view (take i xs)) ++ text (view (get_or xs i d))
flat_more text view xs i d lt =
    ap (λ v. flat_map text (map view v)) (take_more xs i d lt) ∙ ap (flat_map text) (map_push view (take i xs) (get_or xs i d)) ∙ flat_push text (map view (take i xs)) (view (get_or xs i d))

-- an item more of a text that has a count before it
pub text_more : (old count before item now out : List ℕ) → now ≡ out ++ item → out ≡ old ++ (count ++ before) → now ≡ old ++ (count ++ (before ++ item))
text_more old count before item now out e is =
    e ∙ ap (λ (v : List ℕ). v ++ item) is ∙ append_assoc old (count ++ before) item ∙ ap (λ (v : List ℕ). old ++ v) (append_assoc count before item)
