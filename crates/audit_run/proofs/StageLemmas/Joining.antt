-- Files that are joined one by one.
use Rattle.std.proofs.Common.{◌≡◌, ℕ, zero, suc, ◌+◌, ◌<◌, ◌≤◌, List, [], ◌∷◌, ◌++◌, length, map, take, get_or, append_assoc, sym, ap, ◌∙◌, arith}
use Rattle.audit_rules.specs.SourceCheck.Checks.{joined_files}

-- what a file more is put after
joined-push : (files : List (List ℕ)) (file : List ℕ) → 1 ≤ length files → joined_files (files ++ file ∷ []) ≡ (joined_files files ++ 10 ∷ []) ++ file
joined-push [] file some = absurd (omega (arith, some))
joined-push (a ∷ []) file some = sym (append_assoc a (10 ∷ []) file)
joined-push (a ∷ (b ∷ files)) file some =
    ap (λ rest. a ++ 10 ∷ rest) (joined-push (b ∷ files) file (omega arith))
    ∙ sym (append_assoc a (10 ∷ (joined_files (b ∷ files) ++ 10 ∷ [])) file)
    ∙ ap (λ prefix. prefix ++ file) (sym (append_assoc a (10 ∷ joined_files (b ∷ files)) (10 ∷ [])))

module _ (content : List ℕ → List ℕ) where
  -- the contents of the first so many names, and one more
  mapped-take : (names : List (List ℕ)) (index : ℕ) (name : List ℕ) → index < length names → name ≡ get_or names index name
      → map content (take (suc index) names) ≡ map content (take index names) ++ content name ∷ []
  mapped-take [] index name less is = absurd (omega (arith, less))
  mapped-take (x ∷ names) zero name less is = ap (λ n. content n ∷ []) (sym is)
  mapped-take (x ∷ names) (suc index) name less is = ap (λ rest. content x ∷ rest) (mapped-take names index name (omega (arith, less)) is)

  some-taken : (names : List (List ℕ)) (index : ℕ) → 1 ≤ index → index < length names → 1 ≤ length (map content (take index names))
  some-taken [] index some less = absurd (omega (arith, less))
  some-taken (x ∷ names) zero some less = absurd (omega (arith, some))
  some-taken (x ∷ names) (suc index) some less = omega arith

  pub joined-more : (names : List (List ℕ)) (index : ℕ) (name : List ℕ) → 1 ≤ index → index < length names → name ≡ get_or names index name
      → joined_files (map content (take (index + 1) names)) ≡ (joined_files (map content (take index names)) ++ 10 ∷ []) ++ content name
  joined-more names index name some less is =
      let next : index + 1 ≡ suc index = omega arith in
      ap (λ n. joined_files (map content (take n names))) next
      ∙ ap joined_files (mapped-take names index name less is)
      ∙ joined-push (map content (take index names)) (content name) (some-taken names index some less)

  pub joined-first : (names : List (List ℕ)) (index : ℕ) (name : List ℕ) → index ≡ 0 → index < length names → name ≡ get_or names index name
      → joined_files (map content (take (index + 1) names)) ≡ joined_files (map content (take index names)) ++ content name
  joined-first names index name first less is =
      let next : index + 1 ≡ suc index = omega arith in
      ap (λ n. joined_files (map content (take n names))) next
      ∙ ap joined_files (mapped-take names index name less is)
      ∙ ap (λ n. joined_files (map content (take n names) ++ content name ∷ [])) first
      ∙ ap (λ n. joined_files (map content (take n names)) ++ content name) (sym first)
