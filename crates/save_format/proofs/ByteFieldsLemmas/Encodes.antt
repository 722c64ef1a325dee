-- A reader and a spelling that fit each other, and how they are put together.
use Rattle.std.proofs.Common.{◌≡◌, ◌⊎◌, ℕ, zero, suc, ◌+◌, ◌^◌, ◌<◌, ◌≤◌, Bool, true, false, cond, ltb, nat_le, eqb, List, [], ◌∷◌, ◌++◌, length, get_or, take, drop, Result, Ok, Err, refl, sym, ap, subst, ◌∙◌, append_assoc, arith, inl, inr}
use Rattle.std.specs.Prelude.{IsOk}
use Rattle.std.specs.List.{flat_map}
use Rattle.std.specs.Int.{Width, w16, w32, w64, byte_len, from_le_bytes, to_le_bytes}
use Rattle.std.proofs.lemmas.Bool.{cases_lt, ltb-false, le-ltb, leb-true, le-leb, eqb-true}
use Rattle.std.proofs.lemmas.List.{append-nil, take_at, drop_at, take-append-drop, length-append, length-take, get_or-drop, get_or-take, get_or_past, nil_from_length}
use Rattle.std.proofs.lemmas.List.Concat.{flat_map-cons}
use Rattle.std.proofs.lemmas.Nat.{le_bytes_2, le_bytes_4, le_bytes_8, from_le_bytes-to_le_bytes_2, from_le_bytes-to_le_bytes_4, from_le_bytes-to_le_bytes_8}
use Rattle.std.specs.Prelude.{◌||◌}
use Rattle.std.specs.Str.{bytes_eq}
use Rattle.std.specs.Cmp.Lexicographic.{same_text, nat_list_eq_equiv}
use Rattle.save_format.specs.declared.byte_fields.form.TextForm.{TextForm}
use Rattle.save_format.specs.declared.byte_fields.form.TextForm.TheVariants.{First, Second}
use Rattle.save_format.specs.ByteFields.Reader.{Read, begun, begun_in, Reader, read_onward, ◌>>=◌, done, number_of_width, byte, bytes, tested, that, blob, several, alike, counted, ended, at_offset, whole, u32, u32_from, u64}
use Rattle.save_format.specs.ByteFields.Spelling.{number_text, blob_text, list_text, InTurn, Alike, Counted, IsBlob}

-- each is a byte
abbrev pub AreBytes : List ℕ → Type 0
AreBytes xs = (i : ℕ) → get_or xs i 0 < 256

AreBytes-drop : (n : ℕ) (xs : List ℕ) → AreBytes xs → AreBytes (drop n xs)
AreBytes-drop n xs h i = rw get_or-drop (h (n + i))

AreBytes-take : (n : ℕ) (xs : List ℕ) → AreBytes xs → AreBytes (take n xs)
AreBytes-take n xs h i =
    elim (cases_lt i n) [
      | inl lt ↦ rw (get_or-take n xs i 0 lt) (h i)
      | inr le ↦ rw (get_or_past (take n xs) i 0 (omega (arith, length-take n xs))) (omega arith)
    ]

-- what a reader took from the front
pub record Takes (remaining text rest : List ℕ) : Type 0 where
  pub parts : remaining ≡ text ++ rest
  pub rest_fits : AreBytes rest

-- what is read is spelled so, what is spelled so is read, whatever follows, and a wrong field begins within what was left
pub record Encodes {A : Type 0} (field : Reader A) (text : A → List ℕ) (Fits : A → Type 0) : Type 0 where
  pub takes : (remaining : List ℕ) (x : A) (rest : List ℕ) → AreBytes remaining → field remaining ≡ Ok (x, rest) → Takes remaining (text x) rest × Fits x
  pub again : (x : A) (rest : List ℕ) → Fits x → field (text x ++ rest) ≡ Ok (x, rest)
  pub within : (remaining : List ℕ) (at : ℕ) → AreBytes remaining → field remaining ≡ Err at → at ≤ length remaining

abbrev read_so : {A : Type 0} → A → List ℕ → Read A
read_so x rest = Ok (x, rest)

abbrev wrong_at : {A : Type 0} → ℕ → Read A
wrong_at at = Err at

pub same_value : {A : Type 0} (x y : A) (a b : List ℕ) → read_so x a ≡ read_so y b → x ≡ y
same_value {A} x y a b e = let p : ◌≡◌ {A = A × List ℕ} (x, a) (y, b) = cc in ap (λ (q : A × List ℕ). q.0) p

pub same_rest : {A : Type 0} (x y : A) (a b : List ℕ) → read_so x a ≡ read_so y b → a ≡ b
same_rest {A} x y a b e = let p : ◌≡◌ {A = A × List ℕ} (x, a) (y, b) = cc in ap (λ (q : A × List ℕ). q.1) p

onward_ok : {A B : Type 0} (r : Read A) (next : A → Reader B) (y : B) (rest : List ℕ) → read_onward r next ≡ Ok (y, rest) → (x : A) × (remaining : List ℕ) × (r ≡ Ok (x, remaining)) × (next x remaining ≡ Ok (y, rest))
onward_ok (Ok x) next y rest e = (x.0, x.1, refl, e)
onward_ok (Err at) next y rest e = absurd cc

-- two fields in a row go wrong in the first or in the second
stops : {A B : Type 0} (r : Read A) (next : A → Reader B) (at : ℕ) → read_onward r next ≡ Err at → (r ≡ Err at) ⊎ ((x : A) × (rest : List ℕ) × (r ≡ Ok (x, rest)) × (next x rest ≡ Err at))
stops (Ok x) next at e = inr (x.0, x.1, refl, e)
stops {A} (Err remaining) next at e = let same : remaining ≡ at = cc in inl (ap (wrong_at {A = A}) same)

shorter : (remaining text rest : List ℕ) → Takes remaining text rest → length rest ≤ length remaining
shorter remaining text rest t = omega (arith, ap length t.parts, length-append text rest)

-- nothing is known of the fields before
abbrev pub Nothing : {A : Type 0} → A → Type 0
Nothing x = Unit {0}

-- a field that the value has as a part, and then the others, where K is known of the fields before it
pub then : {A B : Type 0} {field : Reader A} {text : A → List ℕ} {F : A → Type 0} {next : A → Reader B} {t : B → List ℕ} {G K : B → Type 0} (part : B → A)
    → Encodes field text F → ((x : A) → F x → Encodes (next x) t (λ y. (K y × (x ≡ part y)) × G y)) → Encodes (field >>= next) (λ y. text (part y) ++ t y) (λ y. K y × (F (part y) × G y))
then {A} {B} {field} {text} {F} {next} {t} {G} {K} part first others = record {
  takes = λ remaining y rest fits e.
      let a = onward_ok (field remaining) next y rest e in
      let p = first.takes remaining a.0 a.1 fits a.2 in
      let q = (others a.0 p.1).takes a.1 y rest p.0.rest_fits a.3 in
      let known = q.1.0 in
      let same : a.0 ≡ part y = known.1 in
      let whole : remaining ≡ (text a.0 ++ t y) ++ rest = p.0.parts ∙ ap (λ (w : List ℕ). text a.0 ++ w) q.0.parts ∙ sym (append_assoc (text a.0) (t y) rest) in
      (record { parts = subst (λ (x : A). remaining ≡ (text x ++ t y) ++ rest) same whole; rest_fits = q.0.rest_fits }, (known.0, (subst F same p.1, q.1.1)));
  again = λ y rest fits.
      let regrouped : (text (part y) ++ t y) ++ rest ≡ text (part y) ++ (t y ++ rest) = append_assoc (text (part y)) (t y) rest in
      ap (λ (w : List ℕ). read_onward (field w) next) regrouped
      ∙ ap (λ (r : Read A). read_onward r next) (first.again (part y) (t y ++ rest) fits.1.0)
      ∙ (others (part y) fits.1.0).again y rest ((fits.0, refl), fits.1.1);
  within = λ remaining at fits e.
      elim (stops (field remaining) next at e) [
        | inl f ↦ first.within remaining at fits f
        | inr a ↦ (let p = first.takes remaining a.0 a.1 fits a.2 in
            let q : at ≤ length a.1 = (others a.0 p.1).within a.1 at p.0.rest_fits a.3 in
            omega (arith, shorter remaining (text a.0) a.1 p.0))
      ];
}

-- all fields are read
pub all_read : {B : Type 0} {K : B → Type 0} (r : B) → ((y : B) → K y → r ≡ y) → K r → Encodes (done r) (λ y. []) (λ y. K y × Unit {0})
all_read {B} {K} r only known = record {
  takes = λ remaining y rest fits e.
      let is : remaining ≡ rest = same_rest r y remaining rest e in
      (record { parts = is; rest_fits = subst AreBytes is fits }, (subst K (same_value r y remaining rest e) known, tt));
  again = λ y rest fits. ap (λ (v : B). read_so v rest) (only y fits.0);
  within = λ remaining at fits e. absurd cc;
}

-- the same under another name of what fits, and of the text
pub encodes : {A : Type 0} {field : Reader A} {text other : A → List ℕ} {F G : A → Type 0} → Encodes field text F → ((x : A) → F x → text x ≡ other x) → ((x : A) → F x → G x) → ((x : A) → G x → F x) → Encodes field other G
encodes {A} {field} {text} {other} {F} {G} s same to back = record {
  takes = λ remaining x rest fits e.
      let p = s.takes remaining x rest fits e in
      (record { parts = p.0.parts ∙ ap (λ (w : List ℕ). w ++ rest) (same x p.1); rest_fits = p.0.rest_fits }, to x p.1);
  again = λ x rest fits. ap (λ (w : List ℕ). field (w ++ rest)) (sym (same x (back x fits))) ∙ s.again x rest (back x fits);
  within = λ remaining at fits e. s.within remaining at fits e;
}

-- ---- single fields

abbrev guarded : {A : Type 0} → Bool → ℕ → A → List ℕ → Read A
guarded b at x rest = cond b (Err at) (Ok (x, rest))

guard_ok : {A : Type 0} (b : Bool) (at : ℕ) (x y : A) (a rest : List ℕ) → guarded b at x a ≡ read_so y rest → (b ≡ false) × (x ≡ y) × (a ≡ rest)
guard_ok true at x y a rest e = absurd cc
guard_ok false at x y a rest e = (refl, same_value x y a rest e, same_rest x y a rest e)

guard_stops : {A : Type 0} (b : Bool) (at stop : ℕ) (x : A) (a : List ℕ) → guarded b at x a ≡ Err stop → at ≡ stop
guard_stops true at stop x a e = cc
guard_stops false at stop x a e = absurd cc

pub record IsWide (w : Width) (limit : ℕ) : Type 0 where
  pub len : (n : ℕ) → length (to_le_bytes w n) ≡ byte_len w
  pub back : (xs : List ℕ) → length xs ≡ byte_len w → AreBytes xs → to_le_bytes w (from_le_bytes w xs) ≡ xs
  pub again : (n : ℕ) → n < limit → from_le_bytes w (to_le_bytes w n) ≡ n
  pub below : (xs : List ℕ) → AreBytes xs → from_le_bytes w xs < limit

pub wide16 : IsWide w16 (2 ^ 16)
wide16 = record {
  len = λ n. refl;
  back = λ xs len fits. le_bytes_2 xs _ len fits refl;
  again = λ n lt. from_le_bytes-to_le_bytes_2 n lt;
  below = λ xs fits. omega (arith, fits 0, fits 1);
}

pub wide32 : IsWide w32 (2 ^ 32)
wide32 = record {
  len = λ n. refl;
  back = λ xs len fits. le_bytes_4 xs _ len fits refl;
  again = λ n lt. from_le_bytes-to_le_bytes_4 n lt;
  below = λ xs fits. omega (arith, fits 0, fits 1, fits 2, fits 3);
}

pub wide64 : IsWide w64 (2 ^ 64)
wide64 = record {
  len = λ n. refl;
  back = λ xs len fits. le_bytes_8 xs _ len fits refl;
  again = λ n lt. from_le_bytes-to_le_bytes_8 n lt;
  below = λ xs fits. omega (arith, fits 0, fits 1, fits 2, fits 3, fits 4, fits 5, fits 6, fits 7);
}

pub encodes_number : (w : Width) (limit : ℕ) → IsWide w limit → Encodes (number_of_width w) (number_text w) (λ n. n < limit)
unfolding number_of_width number_text
encodes_number w limit wide = record {
  takes = λ remaining n rest fits e.
      let g = guard_ok (ltb (length remaining) (byte_len w)) (length remaining) (from_le_bytes w (take (byte_len w) remaining)) n (drop (byte_len w) remaining) rest e in
      let long : byte_len w ≤ length remaining = ltb-false _ _ g.0 in
      let prefix : to_le_bytes w (from_le_bytes w (take (byte_len w) remaining)) ≡ take (byte_len w) remaining = wide.back (take (byte_len w) remaining) (omega (arith, length-take (byte_len w) remaining)) (AreBytes-take (byte_len w) remaining fits) in
      let whole : remaining ≡ to_le_bytes w (from_le_bytes w (take (byte_len w) remaining)) ++ drop (byte_len w) remaining = rw prefix (sym (take-append-drop (byte_len w) remaining)) in (
        record { parts = subst (λ (k : ℕ). remaining ≡ to_le_bytes w k ++ rest) g.1 (subst (λ (r : List ℕ). remaining ≡ to_le_bytes w (from_le_bytes w (take (byte_len w) remaining)) ++ r) g.2 whole); rest_fits = subst AreBytes g.2 (AreBytes-drop (byte_len w) remaining fits) },
        subst (λ (k : ℕ). k < limit) g.1 (wide.below (take (byte_len w) remaining) (AreBytes-take (byte_len w) remaining fits)),
      );
  again = λ n rest lt.
      let len = wide.len n in
      let long : ltb (length (to_le_bytes w n ++ rest)) (byte_len w) ≡ false = le-ltb _ _ (omega (arith, length-append (to_le_bytes w n) rest)) in
      rw (long, take_at (to_le_bytes w n) rest (byte_len w) len, drop_at (to_le_bytes w n) rest (byte_len w) len, wide.again n lt) refl;
  within = λ remaining at fits e. omega (arith, guard_stops (ltb (length remaining) (byte_len w)) (length remaining) at (from_le_bytes w (take (byte_len w) remaining)) (drop (byte_len w) remaining) e);
}

pub record IsCut (count : ℕ) (xs : List ℕ) : Type 0 where
  pub long : length xs ≡ count

pub encodes_bytes : (count : ℕ) → Encodes (bytes count) (λ xs. xs) (IsCut count)
unfolding bytes
encodes_bytes count = record {
  takes = λ remaining xs rest fits e.
      let g = guard_ok (ltb (length remaining) count) (length remaining) (take count remaining) xs (drop count remaining) rest e in
      let long : count ≤ length remaining = ltb-false _ _ g.0 in
      let whole : remaining ≡ take count remaining ++ drop count remaining = sym (take-append-drop count remaining) in
      let cut : IsCut count (take count remaining) = record { long = omega (arith, length-take count remaining) } in (
        record { parts = subst (λ (k : List ℕ). remaining ≡ k ++ rest) g.1 (subst (λ (r : List ℕ). remaining ≡ take count remaining ++ r) g.2 whole); rest_fits = subst AreBytes g.2 (AreBytes-drop count remaining fits) },
        subst (IsCut count) g.1 cut,
      );
  again = λ xs rest cut.
      let len : length xs ≡ count = cut.long in
      let long : ltb (length (xs ++ rest)) count ≡ false = le-ltb _ _ (omega (arith, length-append xs rest)) in
      rw (long, take_at xs rest count len, drop_at xs rest count len) refl;
  within = λ remaining at fits e. omega (arith, guard_stops (ltb (length remaining) count) (length remaining) at (take count remaining) (drop count remaining) e);
}

pub encodes_byte : Encodes byte (λ b. b ∷ []) (λ b. b < 256)
unfolding byte
encodes_byte = record {
  takes = took;
  again = λ b rest lt.
      let long : ltb (length (b ∷ rest)) 1 ≡ false = le-ltb _ _ (omega arith) in
      rw long refl;
  within = λ remaining at fits e. omega (arith, guard_stops (ltb (length remaining) 1) (length remaining) at (get_or remaining 0 0) (drop 1 remaining) e);
}
  where
    took : (remaining : List ℕ) (b : ℕ) (rest : List ℕ) → AreBytes remaining → byte remaining ≡ Ok (b, rest) → Takes remaining (b ∷ []) rest × (b < 256)
    took [] b rest fits e = absurd cc
    took (x ∷ xs) b rest fits e =
        let g = guard_ok (ltb (length (x ∷ xs)) 1) (length (x ∷ xs)) x b xs rest e in
        (record { parts = ap (λ (k : ℕ). k ∷ xs) g.1 ∙ ap (λ (k : List ℕ). b ∷ k) g.2; rest_fits = subst AreBytes g.2 (λ i. fits (suc i)) }, subst (λ (k : ℕ). k < 256) g.1 (fits 0))

-- a field that meets a test
pub encodes_that : {A : Type 0} {field : Reader A} {text : A → List ℕ} {F : A → Type 0} (test : A → Bool) → Encodes field text F → Encodes (that test field) text (λ x. F x × (test x ≡ true))
encodes_that {A} {field} {text} {F} test s = record {
  takes = λ remaining x rest fits e.
      let g = passed (field remaining) (length remaining) x rest e in
      let p = s.takes remaining x rest fits g.0 in
      (p.0, (p.1, g.1));
  again = λ x rest fits. ap (λ (r : Read A). tested test r (length (text x ++ rest))) (s.again x rest fits.0) ∙ holds x rest (length (text x ++ rest)) (test x) fits.1;
  within = λ remaining at fits e. elim (refused (field remaining) (length remaining) at e) [ inl f ↦ s.within remaining at fits f | inr f ↦ omega (arith, f) ];
}
  where
    refused_by : (b : Bool) (x : A × List ℕ) (at stop : ℕ) → cond b (Ok x) (Err at) ≡ wrong_at {A = A} stop → at ≡ stop
    refused_by true x at stop e = absurd cc
    refused_by false x at stop e = cc

    refused : (r : Read A) (at stop : ℕ) → tested test r at ≡ Err stop → (r ≡ Err stop) ⊎ (at ≡ stop)
    refused (Ok x) at stop e = inr (refused_by (test x.0) x at stop e)
    refused (Err remaining) at stop e = inl e

    passed_by : (b : Bool) (x : A) (a : List ℕ) (at : ℕ) (y : A) (rest : List ℕ) → test x ≡ b → cond b (Ok (x, a)) (Err at) ≡ read_so y rest → (read_so x a ≡ read_so y rest) × (test y ≡ true)
    passed_by true x a at y rest was e = (e, ap test (sym (same_value x y a rest e)) ∙ was)
    passed_by false x a at y rest was e = absurd cc

    passed : (r : Read A) (at : ℕ) (y : A) (rest : List ℕ) → tested test r at ≡ Ok (y, rest) → (r ≡ Ok (y, rest)) × (test y ≡ true)
    passed (Ok x) at y rest e = passed_by (test x.0) x.0 x.1 at y rest refl e
    passed (Err remaining) at y rest e = absurd cc

    holds : (x : A) (rest : List ℕ) (at : ℕ) (b : Bool) → b ≡ true → cond b (read_so x rest) (Err at) ≡ Ok (x, rest)
    holds x rest at b e = rw e refl

-- a length and so many bytes
pub encodes_blob : (w : Width) (limit : ℕ) → IsWide w limit → Encodes (blob w) (blob_text w) (IsBlob limit)
unfolding blob
encodes_blob w limit wide =
    encodes (
    then {G = Nothing} {K = Nothing} (λ (xs : List ℕ). length xs) (encodes_number w limit wide) (λ count f.
    encodes (encodes_bytes count) (λ xs g. refl) (λ xs g. ((tt, sym g.long), tt)) (λ xs g. record { long = sym g.0.1 })))
    (λ xs f. refl) (λ xs f. record { short = f.1.0 }) (λ xs f. (tt, (f.short, tt)))

second : {A : Type 0} (r : Read (List A)) (x : A) (size at : ℕ) → (r ≡ Err at → at ≤ size) → read_onward r (λ ys. done (x ∷ ys)) ≡ Err at → at ≤ size
second (Ok ys) x size at within e = absurd cc
second {A} (Err remaining) x size at within e = let same : remaining ≡ at = cc in within (ap (wrong_at {A = List A}) same)

-- so many items in turn
pub encodes_several : {A S : Type 0} {item : S → Reader A} {text : A → List ℕ} {F : S → A → Type 0} (next : A → S) → ((s : S) → Encodes (item s) text (F s))
    → (count : ℕ) (s : S) → Encodes (several item next s count) (flat_map text) (λ xs. (length xs ≡ count) × InTurn F next s xs)
unfolding several
encodes_several {A} {S} {item} {text} {F} next each zero s = record {
  takes = λ remaining xs rest fits e.
      let is : [] ≡ xs = same_value [] xs remaining rest e in
      let after : remaining ≡ rest = same_rest [] xs remaining rest e in
      subst (λ (ys : List A). Takes remaining (flat_map text ys) rest × ((length ys ≡ 0) × InTurn F next s ys)) is (record { parts = after; rest_fits = subst AreBytes after fits }, (refl, tt));
  again = none;
  within = λ remaining at fits e. absurd cc;
}
  where
    none : (xs : List A) (rest : List ℕ) → (length xs ≡ 0) × InTurn F next s xs → several item next s 0 (flat_map text xs ++ rest) ≡ Ok (xs, rest)
    none [] rest fits = refl
    none (x ∷ xs) rest fits = absurd (omega (arith, fits.0))
encodes_several {A} {S} {item} {text} {F} next each (suc count) s = record {
  takes = λ remaining xs rest fits e.
      let a = onward_ok (item s remaining) (λ x. several item next (next x) count >>= λ ys. done (x ∷ ys)) xs rest e in
      let b = onward_ok (several item next (next a.0) count a.1) (λ ys. done (a.0 ∷ ys)) xs rest a.3 in
      let p = (each s).takes remaining a.0 a.1 fits a.2 in
      let q = (encodes_several next each count (next a.0)).takes a.1 b.0 b.1 p.0.rest_fits b.2 in
      let is : a.0 ∷ b.0 ≡ xs = same_value (a.0 ∷ b.0) xs b.1 rest b.3 in
      let after : b.1 ≡ rest = same_rest (a.0 ∷ b.0) xs b.1 rest b.3 in
      let whole : remaining ≡ flat_map text (a.0 ∷ b.0) ++ b.1 = p.0.parts ∙ ap (λ (v : List ℕ). text a.0 ++ v) q.0.parts ∙ sym (append_assoc (text a.0) (flat_map text b.0) b.1) ∙ ap (λ (v : List ℕ). v ++ b.1) (sym (flat_map-cons text a.0 b.0)) in
      subst (λ (ys : List A). Takes remaining (flat_map text ys) rest × ((length ys ≡ suc count) × InTurn F next s ys)) is
      (record { parts = subst (λ (r : List ℕ). remaining ≡ flat_map text (a.0 ∷ b.0) ++ r) after whole; rest_fits = subst AreBytes after q.0.rest_fits }, (ap suc q.1.0, (p.1, q.1.1)));
  again = some (λ s. (encodes_several next each count s).again);
  within = λ remaining at fits e.
      elim (stops (item s remaining) (λ x. several item next (next x) count >>= λ ys. done (x ∷ ys)) at e) [
        | inl f ↦ (each s).within remaining at fits f
        | inr a ↦ (let p = (each s).takes remaining a.0 a.1 fits a.2 in
            let q : at ≤ length a.1 = second (several item next (next a.0) count a.1) a.0 (length a.1) at ((encodes_several next each count (next a.0)).within a.1 at p.0.rest_fits) a.3 in
            omega (arith, shorter remaining (text a.0) a.1 p.0))
      ];
}
  where
    some : ((s : S) (xs : List A) (rest : List ℕ) → (length xs ≡ count) × InTurn F next s xs → several item next s count (flat_map text xs ++ rest) ≡ Ok (xs, rest)) → (xs : List A) (rest : List ℕ) → (length xs ≡ suc count) × InTurn F next s xs → several item next s (suc count) (flat_map text xs ++ rest) ≡ Ok (xs, rest)
    some later [] rest fits = absurd (omega (arith, fits.0))
    some later (x ∷ xs) rest fits =
        let regrouped : flat_map text (x ∷ xs) ++ rest ≡ text x ++ (flat_map text xs ++ rest) = ap (λ (v : List ℕ). v ++ rest) (flat_map-cons text x xs) ∙ append_assoc (text x) (flat_map text xs) rest in
        let tail : several item next (next x) count (flat_map text xs ++ rest) ≡ Ok (xs, rest) = later (next x) xs rest (omega (arith, fits.0), fits.1.1) in
        ap (several item next s (suc count)) regrouped
        ∙ rw ((each s).again x (flat_map text xs ++ rest) fits.1.0, tail) refl

pub encodes_counted : {A S : Type 0} {item : S → Reader A} {text : A → List ℕ} {F : S → A → Type 0} (next : A → S) → ((s : S) → Encodes (item s) text (F s))
    → (s : S) → Encodes (counted item next s) (list_text text) (Counted F next s)
encodes_counted {A} {S} {item} {text} {F} next each s =
    encodes (
    then {K = Nothing} (λ (xs : List A). length xs) (encodes_number w32 (2 ^ 32) wide32) (λ count f.
    encodes (encodes_several next each count s) (λ xs g. refl) (λ xs g. ((tt, sym g.0), g.1)) (λ xs g. (sym g.0.1, g.1))))
    (λ xs f. refl) (λ xs f. f.1) (λ xs f. (tt, f))

-- items that are read each by itself
pub encodes_alike : {A : Type 0} {item : Reader A} {text : A → List ℕ} {F : A → Type 0} → Encodes item text F → (count : ℕ)
    → Encodes (alike item count) (flat_map text) (λ xs. (length xs ≡ count) × Alike F xs)
encodes_alike {A} {item} {text} {F} each count = encodes_several (λ x. tt) (λ before. each) count tt

pub encodes_u32 : Encodes u32 (number_text w32) (λ n. n < 2 ^ 32)
encodes_u32 = encodes_number w32 (2 ^ 32) wide32

pub encodes_u64 : Encodes u64 (number_text w64) (λ n. n < 2 ^ 64)
encodes_u64 = encodes_number w64 (2 ^ 64) wide64

pub encodes_blob16 : Encodes (blob w16) (blob_text w16) (IsBlob (2 ^ 16))
encodes_blob16 = encodes_blob w16 (2 ^ 16) wide16

pub encodes_blob32 : Encodes (blob w32) (blob_text w32) (IsBlob (2 ^ 32))
encodes_blob32 = encodes_blob w32 (2 ^ 32) wide32

pub record IsFrom (least n : ℕ) : Type 0 where
  pub below : n < 2 ^ 32
  pub from : least ≤ n

pub encodes_from : (least : ℕ) → Encodes (u32_from least) (number_text w32) (IsFrom least)
encodes_from least = encodes (encodes_that (λ n. nat_le least n) encodes_u32) (λ n f. refl) (λ n f. record { below = f.0; from = leb-true _ _ f.1 }) (λ n f. (f.below, le-leb _ _ f.from))

-- the bytes that begin a text
pub encodes_begun : (magic : List ℕ) → length magic ≡ 8 → Encodes (begun magic) (λ (u : Unit {0}). magic) Nothing
encodes_begun magic long =
    encodes (
    then {K = Nothing} (λ (u : Unit {0}). magic) (encodes_that (bytes_eq magic) (encodes_bytes 8)) (λ found f.
    all_read tt (λ u k. refl) (tt, sym (same_text magic found (sym f.1)))))
    (λ u f. append-nil magic)
    (λ u f. tt)
    (λ u f. (tt, ((record { long = long }, same_bytes magic), tt)))
  where
    same_bytes : (xs : List ℕ) → bytes_eq xs xs ≡ true
    same_bytes xs = nat_list_eq_equiv.refl xs

-- ---- a text of two forms

-- what is read is spelled so in one of the forms, what is spelled so in a form is read, whatever follows, and a wrong field begins within what was left
pub record EncodesForms {A : Type 0} (field : Reader A) (text : TextForm → A → List ℕ) (Fits : TextForm → A → Type 0) : Type 0 where
  pub takes : (remaining : List ℕ) (x : A) (rest : List ℕ) → AreBytes remaining → field remaining ≡ Ok (x, rest) → (form : TextForm) × Takes remaining (text form x) rest × Fits form x
  pub again : (form : TextForm) (x : A) (rest : List ℕ) → Fits form x → field (text form x ++ rest) ≡ Ok (x, rest)
  pub within : (remaining : List ℕ) (at : ℕ) → AreBytes remaining → field remaining ≡ Err at → at ≤ length remaining

-- a text of one form, as one whose forms do not differ
pub one_form : {A : Type 0} {field : Reader A} {text : A → List ℕ} {F : A → Type 0} → Encodes field text F → EncodesForms field (λ form. text) (λ form. F)
one_form s = record {
  takes = λ remaining x rest fits e. let p = s.takes remaining x rest fits e in (First, p.0, p.1);
  again = λ form. s.again;
  within = s.within;
}

-- the bytes that begin a text of one of two forms
pub encodes_begun_in : (magic : TextForm → List ℕ) → ((form : TextForm) → length (magic form) ≡ 8) → bytes_eq (magic First) (magic Second) ≡ false → Encodes (begun_in (magic First) (magic Second)) magic Nothing
encodes_begun_in magic long differ =
    encodes (
    then {K = Nothing} magic (encodes_that (λ found. bytes_eq (magic First) found || bytes_eq (magic Second) found) (encodes_bytes 8)) (λ found f.
    all_read (cond (bytes_eq (magic First) found) First Second) (λ form k. form_again form found k.1) (tt, found_is found (bytes_eq (magic First) found) (bytes_eq (magic Second) found) refl refl f.1)))
    (λ form f. append-nil (magic form))
    (λ form f. tt)
    (λ form f. (tt, ((record { long = long form }, is_one form), tt)))
  where
    found_is : (found : List ℕ) (b c : Bool) → bytes_eq (magic First) found ≡ b → bytes_eq (magic Second) found ≡ c → (b || c) ≡ true → found ≡ magic (cond b First Second)
    found_is found true c e f g = sym (same_text (magic First) found (sym e))
    found_is found false true e f g = sym (same_text (magic Second) found (sym f))
    found_is found false false e f g = absurd cc

    same : (xs : List ℕ) → bytes_eq xs xs ≡ true
    same xs = nat_list_eq_equiv.refl xs

    form_again : (form : TextForm) (found : List ℕ) → found ≡ magic form → cond (bytes_eq (magic First) found) First Second ≡ form
    form_again First found e = ap (λ (xs : List ℕ). cond (bytes_eq (magic First) xs) First Second) e ∙ ap (λ b. cond b First Second) (same (magic First))
    form_again Second found e = ap (λ (xs : List ℕ). cond (bytes_eq (magic First) xs) First Second) e ∙ ap (λ b. cond b First Second) differ

    is_one : (form : TextForm) → (bytes_eq (magic First) (magic form) || bytes_eq (magic Second) (magic form)) ≡ true
    is_one First = rw (same (magic First)) refl
    is_one Second = rw (differ, same (magic Second)) refl

-- the bytes that begin it, and then what its form has
pub by_form : {A : Type 0} {begin : Reader TextForm} {magic : TextForm → List ℕ} {field : TextForm → Reader A} {text : TextForm → A → List ℕ} {F : TextForm → A → Type 0}
    → Encodes begin magic Nothing → ((form : TextForm) → Encodes (field form) (text form) (F form)) → EncodesForms (begin >>= field) (λ form x. magic form ++ text form x) F
by_form {A} {begin} {magic} {field} {text} {F} first each = record {
  takes = λ remaining x rest fits e.
      let a = onward_ok (begin remaining) field x rest e in
      let p = first.takes remaining a.0 a.1 fits a.2 in
      let q = (each a.0).takes a.1 x rest p.0.rest_fits a.3 in
      let whole : remaining ≡ (magic a.0 ++ text a.0 x) ++ rest = p.0.parts ∙ ap (λ (w : List ℕ). magic a.0 ++ w) q.0.parts ∙ sym (append_assoc (magic a.0) (text a.0 x) rest) in
      (a.0, record { parts = whole; rest_fits = q.0.rest_fits }, q.1);
  again = λ form x rest fits.
      ap (λ (w : List ℕ). read_onward (begin w) field) (append_assoc (magic form) (text form x) rest)
      ∙ ap (λ (r : Read TextForm). read_onward r field) (first.again form (text form x ++ rest) tt)
      ∙ (each form).again x rest fits;
  within = λ remaining at fits e.
      elim (stops (begin remaining) field at e) [
        | inl f ↦ first.within remaining at fits f
        | inr a ↦ (let p = first.takes remaining a.0 a.1 fits a.2 in
            let q : at ≤ length a.1 = (each a.0).within a.1 at p.0.rest_fits a.3 in
            omega (arith, shorter remaining (magic a.0) a.1 p.0))
      ];
}

-- ---- a whole text

abbrev pub only_if : {A : Type 0} → Bool → A → ℕ → Result A ℕ
only_if b x at = cond b (Ok x) (Err at)

abbrev pub ok_of : {A : Type 0} → A → Result A ℕ
ok_of x = Ok x

abbrev pub stop_of : {A : Type 0} → ℕ → Result A ℕ
stop_of at = Err at

pub all_taken : {A : Type 0} (size : ℕ) (r : Read A) (x : A) → at_offset size (ended r) ≡ Ok x → r ≡ Ok (x, [])
all_taken size (Err at) x e = absurd cc
all_taken {A} size (Ok (y, remaining)) x e = closing (eqb (length remaining) 0) refl e
  where
    closing : (b : Bool) → eqb (length remaining) 0 ≡ b → at_offset size (only_if b y (length remaining)) ≡ ok_of x → ◌≡◌ {A = Read A} (Ok (y, remaining)) (Ok (x, []))
    closing true was e =
        let none : remaining ≡ [] = nil_from_length remaining (eqb-true _ _ was) in
        let same : y ≡ x = cc in
        λ i. Ok (same i, none i)
    closing false was e = absurd cc

-- what a whole text says is spelled so in one of the forms
pub whole_takes : {A : Type 0} {field : Reader A} {text : TextForm → A → List ℕ} {F : TextForm → A → Type 0} → EncodesForms field text F → (bytes : List ℕ) (x : A) → AreBytes bytes → whole field bytes ≡ Ok x
    → (form : TextForm) × F form x × (bytes ≡ text form x)
whole_takes {A} {field} {text} s bytes x fits e =
    let p = s.takes bytes x [] fits (all_taken (length bytes) (field bytes) x e) in
    (p.0, p.2, p.1.parts ∙ append-nil (text p.0 x))

-- what is spelled so is a whole text
pub whole_again : {A : Type 0} {field : Reader A} {text : TextForm → A → List ℕ} {F : TextForm → A → Type 0} → EncodesForms field text F → (form : TextForm) (x : A) → F form x → whole field (text form x) ≡ Ok x
whole_again {A} {field} {text} s form x fits =
    let read : field (text form x) ≡ Ok (x, []) = ap field (sym (append-nil (text form x))) ∙ s.again form x [] fits in
    rw read refl

-- what is left after a text is no longer than what was left before it
pub rest_within : {A : Type 0} {field : Reader A} {text : TextForm → A → List ℕ} {F : TextForm → A → Type 0} → EncodesForms field text F → (bytes : List ℕ) (x : A) (rest : List ℕ) → AreBytes bytes → field bytes ≡ Ok (x, rest)
    → length rest ≤ length bytes
rest_within {A} {field} {text} s bytes x rest fits e = let p = s.takes bytes x rest fits e in shorter bytes (text p.0 x) rest p.1

-- ---- texts whose form holds

-- what is read at the front of a text whose form holds is what the text says
pub formed_so : {A : Type 0} (field : Reader A) (text : List ℕ) (x : A) (rest : List ℕ) → IsOk (whole field text) → field text ≡ Ok (x, rest) → whole field text ≡ Ok x
formed_so {A} field text x rest formed is = rw is (by (eqb (length rest) 0) (rw is at formed))
  where
    by : (b : Bool) → IsOk (at_offset {A = A} (length text) (cond b (Ok x) (Err (length rest)))) → at_offset (length text) (cond b (Ok x) (Err (length rest))) ≡ Ok x
    by true formed = refl
    by false formed = cc
