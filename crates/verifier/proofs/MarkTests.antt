-- The tests of the parts say when what a report says is so.
use Rattle.std.proofs.Common.{◌≡◌, ℕ, ◌==◌, ◌&&◌, Bool, true, Option, None, Some, List, [], ◌∷◌, length, map, refl, sym, ap, ◌∙◌}
use Rattle.std.specs.Bool.{Decides}
use Rattle.std.specs.Prelude.{bytes_eq, is_none}
use Rattle.std.proofs.lemmas.Bool.{and_parts, and_from, eqb-true, eq-eqb}
use Rattle.std.proofs.lemmas.Slice.Eq.{bytes_eq-Decides}
use Rattle.sha2.specs.Sha256.{sha256}
use Rattle.ddc_base.specs.Difference.{first_difference}
use Rattle.ddc_base.proofs.Differences.{first_difference-same}
use Rattle.ddc_base.specs.declared.languages.Language.{Language}
use Rattle.ddc_base.specs.declared.languages.Language.TheVariants.{Hex0, Hex1, Hex2, M1}
use Rattle.mem_files.specs.World.{World}
use Rattle.mem_files.specs.Outputs.{left}
use Rattle.report.specs.declared.types.Compared.{Compared}
use Rattle.report.specs.declared.types.Compared.TheVariants.{Equal, Differs}
use Rattle.report.specs.declared.types.LeftLine.{LeftLine}
use Rattle.report.specs.declared.types.Mark.{Mark}
use Rattle.report.specs.declared.types.StageLine.{StageLine}
use Rattle.audit_rules.specs.SourceCheck.Checks.{differs}
use Rattle.audit_rules.specs.Bench.{compared, compared_at}
use Rattle.report.specs.Marks.{mark_of}
use Rattle.audit_rules.specs.Stages.{marked_left}
use Rattle.report.specs.Marks.{is_mark_of}
use Rattle.verifier.specs.Faults.{has_left, is_at, names_left, same_language, says}
use Rattle.verifier.proofs.Rightness.{no-difference}

pub both : {P Q : Type 0} (a b : Bool) → Decides a P → Decides b Q → Decides (a && b) (P × Q)
both a b p q = (λ t. let parts = and_parts a b t in (p.0 parts.0, q.0 parts.1), λ h. and_from a b (p.1 h.0) (q.1 h.1))

changed : {P Q : Type 0} (a : Bool) → Decides a P → (P → Q) → (Q → P) → Decides a Q
changed a p to from = (λ t. to (p.0 t), λ q. p.1 (from q))

number-Decides : (x y : ℕ) → Decides (x == y) (x ≡ y)
number-Decides x y = (eqb-true x y, eq-eqb x y)

pub mark-Decides : (mark : Mark) (bytes : List ℕ) → Decides (is_mark_of mark bytes) (mark ≡ mark_of bytes)
unfolding is_mark_of
mark-Decides mark bytes =
    changed (mark.length == length bytes && bytes_eq mark.digest.0 (sha256 bytes))
    (both (mark.length == length bytes) (bytes_eq mark.digest.0 (sha256 bytes)) (number-Decides mark.length (length bytes)) (bytes_eq-Decides mark.digest.0 (sha256 bytes)))
    (λ h. λ i. record { length = h.0 i; digest = record { 0 = h.1 i } })
    (λ e. (ap (λ (m : Mark). m.length) e, ap (λ (m : Mark). m.digest.0) e))

-- the first elements, and the rests, of equal lists
pub heads : {A : Type 0} (x y : A) (xs ys : List A) → x ∷ xs ≡ y ∷ ys → (x ≡ y) × (xs ≡ ys)
heads {A = A} x y xs ys e = (ap (first x) e, ap rest e) where
  first : A → List A → A
  first d [] = d
  first d (z ∷ zs) = z

  rest : List A → List A
  rest [] = []
  rest (z ∷ zs) = zs

left-names-Decides : (lines : List LeftLine) (files : List (List ℕ × List ℕ)) → Decides (names_left lines files) (lines ≡ map marked_left files)
left-names-Decides [] [] = (λ t. refl, λ e. refl)
left-names-Decides [] (file ∷ files) = (λ t. absurd cc, λ e. absurd cc)
left-names-Decides (line ∷ lines) [] = (λ t. absurd cc, λ e. absurd cc)
left-names-Decides (line ∷ lines) (file ∷ files) =
    changed (bytes_eq line.name file.0 && is_mark_of line.mark file.1 && names_left lines files)
    (both (bytes_eq line.name file.0 && is_mark_of line.mark file.1) (names_left lines files)
    (both (bytes_eq line.name file.0) (is_mark_of line.mark file.1) (bytes_eq-Decides line.name file.0) (mark-Decides line.mark file.1)) (left-names-Decides lines files))
    (λ h. λ i. record { name = h.0.0 i; mark = h.0.1 i } ∷ h.1 i)
    (λ e. let p = heads line (marked_left file) lines (map marked_left files) e in ((ap (λ (l : LeftLine). l.name) p.0, ap (λ (l : LeftLine). l.mark) p.0), p.1))

-- what a run left is what a stage's line says
pub record Leaves (line : StageLine) (world : World) : Type 0 where
  pub stream1 : line.stream1 ≡ mark_of world.stream1
  pub stream2 : line.stream2 ≡ mark_of world.stream2
  pub files : line.left ≡ map marked_left (left world)

pub left-Decides : (line : StageLine) (world : World) → Decides (has_left line world) (Leaves line world)
unfolding has_left
left-Decides line world =
    changed (is_mark_of line.stream1 world.stream1 && is_mark_of line.stream2 world.stream2 && names_left line.left (left world))
    (both (is_mark_of line.stream1 world.stream1 && is_mark_of line.stream2 world.stream2) (names_left line.left (left world))
    (both (is_mark_of line.stream1 world.stream1) (is_mark_of line.stream2 world.stream2) (mark-Decides line.stream1 world.stream1) (mark-Decides line.stream2 world.stream2))
    (left-names-Decides line.left (left world)))
    (λ h. record { stream1 = h.0.0; stream2 = h.0.1; files = h.1 })
    (λ l. ((l.stream1, l.stream2), l.files))

pub language-Decides : (a b : Option Language) → Decides (same_language a b) (a ≡ b)
language-Decides None None = (λ t. refl, λ e. refl)
language-Decides (Some Hex0) (Some Hex0) = (λ t. refl, λ e. refl)
language-Decides (Some Hex1) (Some Hex1) = (λ t. refl, λ e. refl)
language-Decides (Some Hex2) (Some Hex2) = (λ t. refl, λ e. refl)
language-Decides (Some M1) (Some M1) = (λ t. refl, λ e. refl)
language-Decides _ _ = (λ t. absurd cc, λ e. absurd cc)

-- lists without a difference are equal
none-equal : (a b : List ℕ) → first_difference a b ≡ None → a ≡ b
none-equal a b none = (bytes_eq-Decides a b).0 (sym (no-difference a b) ∙ ap (λ o. is_none (differs o)) none)

pub compared-Decides : (line : Compared) (made binary : List ℕ) → Decides (says line made binary) (compared made binary ≡ line)
compared-Decides (Equal count) made binary =
    changed (bytes_eq made binary && count == length made)
    (both (bytes_eq made binary) (count == length made) (bytes_eq-Decides made binary) (number-Decides count (length made)))
    (λ h. ap (λ o. compared_at o made binary) (ap (first_difference made) (sym h.0) ∙ first_difference-same made) ∙ ap Equal (sym h.1))
    (λ e. by_difference (first_difference made binary) refl e) where
      count_of : ℕ → Compared → ℕ
      count_of d (Equal n) = n
      count_of d (Differs x y z) = d

      by_difference : (o : Option ℕ) → first_difference made binary ≡ o → compared_at o made binary ≡ Equal count → (made ≡ binary) × (count ≡ length made)
      by_difference None none e = (none-equal made binary none, sym (ap (count_of (length made)) e))
      by_difference (Some n) some e = absurd cc
compared-Decides (Differs offset ours theirs) made binary = (
  λ t.
      let parts = and_parts (is_at offset (first_difference made binary) && ours == length made) (theirs == length binary) t in
      let prefix = and_parts (is_at offset (first_difference made binary)) (ours == length made) parts.0 in
      to (first_difference made binary) prefix.0 (eqb-true ours (length made) prefix.1) (eqb-true theirs (length binary) parts.1),
  λ e. from (first_difference made binary) e,
) where
  to : (o : Option ℕ) → is_at offset o ≡ true → ours ≡ length made → theirs ≡ length binary → compared_at o made binary ≡ Differs offset ours theirs
  to None at a b = absurd cc
  to (Some n) at a b = λ i. Differs (sym (eqb-true offset n at) i) (sym a i) (sym b i)

  first : Compared → ℕ
  first (Equal n) = n
  first (Differs x y z) = x

  second : Compared → ℕ
  second (Equal n) = n
  second (Differs x y z) = y

  third : Compared → ℕ
  third (Equal n) = n
  third (Differs x y z) = z

  from : (o : Option ℕ) → compared_at o made binary ≡ Differs offset ours theirs → (is_at offset o && ours == length made && theirs == length binary) ≡ true
  from None e = absurd cc
  from (Some n) e =
      and_from (offset == n && ours == length made) (theirs == length binary)
      (and_from (offset == n) (ours == length made) (eq-eqb offset n (sym (ap first e))) (eq-eqb ours (length made) (sym (ap second e))))
      (eq-eqb theirs (length binary) (sym (ap third e)))
