-- A text cut at its first byte of a kind, and joined again.
use Rattle.std.proofs.Common.{◌≡◌, ℕ, ◌+◌, ◌<◌, ◌==◌, Bool, true, false, cond, ltb, eq-eqb, List, [], ◌∷◌, ◌++◌, length, get_or, take, drop, Option, Some, None, option_map, refl, sym, ap, ◌∙◌, append_assoc, arith, length-append}
use Rattle.std.specs.List.{AllByRecursion, position, position_or_len}
use Rattle.std.proofs.lemmas.List.{take_at, drop_at, take-append-drop, drop_more}
use Rattle.std.proofs.lemmas.List.Quantifiers.{position-Some}
use Rattle.std.proofs.lemmas.Bool.Decides.{Decides-ltb, Decides-eqb}
use Rattle.report.specs.Inside.Cuts.{◌>>=◌, cut_at}

-- the text has no such byte
abbrev pub Without : ℕ → List ℕ → Type 0
Without byte text = AllByRecursion (λ b. (b == byte) ≡ false) text

pub Without-append : (byte : ℕ) (a b : List ℕ) → Without byte a → Without byte b → Without byte (a ++ b)
Without-append byte [] b h k = k
Without-append byte (x ∷ a) b h k = (h.0, Without-append byte a b h.1 k)

end_at : (byte : ℕ) (text rest : List ℕ) → Without byte text → position_or_len (λ b. b == byte) (text ++ byte ∷ rest) ≡ length text
end_at byte [] rest h = rw (eq-eqb byte byte refl) refl
end_at byte (b ∷ text) rest h = rw (h.0, end_at byte text rest h.1) (omega arith)

-- a text is cut where it was joined
pub cut_at-joined : (byte : ℕ) (text rest : List ℕ) → Without byte text → cut_at byte (text ++ byte ∷ rest) ≡ Some (text, rest)
unfolding cut_at
cut_at-joined byte text rest h =
    let inside : ltb (length text) (length (text ++ byte ∷ rest)) ≡ true = (Decides-ltb (length text) (length (text ++ byte ∷ rest))).1 (omega (arith, length-append text (byte ∷ rest))) in
    let after : drop (length text + 1) (text ++ byte ∷ rest) ≡ rest =
    ap (λ (t : List ℕ). drop (length text + 1) t) (sym (append_assoc text (byte ∷ []) rest)) ∙ drop_at (text ++ byte ∷ []) rest (length text + 1) (length-append text (byte ∷ [])) in
    rw (end_at byte text rest h, inside, take_at text (byte ∷ rest) (length text) refl, after) refl

found : (b : Bool) (at : ℕ) (f : ℕ → List ℕ × List ℕ) (x : List ℕ × List ℕ) → option_map f (cond b (Some at) None) ≡ Some x → (b ≡ true) × (f at ≡ x)
found true at f x e = (refl, cc)
found false at f x e = absurd cc

-- what was cut is joined again
pub cut_at-takes : (byte : ℕ) (bytes text rest : List ℕ) → cut_at byte bytes ≡ Some (text, rest) → bytes ≡ text ++ byte ∷ rest
unfolding cut_at
cut_at-takes byte bytes text rest e =
    let at = position_or_len (λ b. b == byte) bytes in
    let f : ℕ → List ℕ × List ℕ = λ k. (take k bytes, drop (k + 1) bytes) in
    let cut = found (ltb at (length bytes)) at f (text, rest) e in
    let below : at < length bytes = (Decides-ltb at (length bytes)).0 cut.0 in
    let prefix : take at bytes ≡ text = ap (λ (x : List ℕ × List ℕ). x.0) cut.1 in
    let back : drop (at + 1) bytes ≡ rest = ap (λ (x : List ℕ × List ℕ). x.1) cut.1 in
    let there : position (λ b. b == byte) bytes ≡ Some at = rw cut.0 refl in
    let here : get_or bytes at 0 ≡ byte = (Decides-eqb (get_or bytes at 0) byte).0 (position-Some (λ b. b == byte) bytes at 0 there).1 in
    sym (take-append-drop at bytes) ∙ ap (λ (t : List ℕ). t ++ drop at bytes) prefix
    ∙ ap (λ (t : List ℕ). text ++ t) (drop_more bytes at 0 below ∙ ap (λ (b : ℕ). b ∷ drop (at + 1) bytes) here ∙ ap (λ (t : List ℕ). byte ∷ t) back)

-- ---- steps that may give nothing

pub bind_some : {A B : Type 0} (o : Option A) (f : A → Option B) (y : B) → (o >>= f) ≡ Some y → (x : A) × (o ≡ Some x) × (f x ≡ Some y)
bind_some (Some x) f y e = (x, refl, e)
bind_some None f y e = absurd cc

pub if_some : {A : Type 0} (b : Bool) (x : Option A) (y : A) → cond b x None ≡ Some y → (b ≡ true) × (x ≡ Some y)
if_some true x y e = (refl, e)
if_some false x y e = absurd cc

pub same_some : {A : Type 0} (x y : A) → Some x ≡ Some y → x ≡ y
same_some x y e = cc
