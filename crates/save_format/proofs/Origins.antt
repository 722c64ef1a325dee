-- Of which recipe and inputs a save's text is, read at its front.
use Rattle.std.proofs.Common.{◌≡◌, ℕ, zero, suc, List, [], ◌∷◌, length, Ok, Err, refl, sym, ap, subst, ◌∙◌}
use Rattle.ddc_base.specs.declared.digests.Digest.{Digest}
use Rattle.save_format.specs.ByteFields.Reader.{Read, begun_in, counted, done, several, u32}
use Rattle.save_format.specs.SaveText.{SaveText, digest_at, fields_at, origin_at, save_at, save_magic, saved_stage_at}
use Rattle.save_format.specs.StateText.StateText.{state_in}
use Rattle.save_format.specs.declared.byte_fields.form.TextForm.{TextForm}
use Rattle.save_format.specs.declared.byte_fields.form.TextForm.TheVariants.{First, Second}
use Rattle.save_format.proofs.StateTextLemmas.Mapped.{onward, same_rest, same_value}

-- so many digests
abbrev pub digests_at : ℕ → List ℕ → Read (List Digest)
digests_at count remaining = several (λ (any : ℕ). digest_at) (λ input. 0) 0 count remaining

pub none_at : (remaining rest : List ℕ) (digests : List Digest) → digests_at 0 remaining ≡ Ok (digests, rest) → digests ≡ []
unfolding several
none_at remaining rest digests e = sym (same_value [] digests remaining rest e)

pub one_at : (count : ℕ) (remaining following rest : List ℕ) (first : Digest) (digests : List Digest) → digest_at remaining ≡ Ok (first, following) → digests_at (suc count) remaining ≡ Ok (digests, rest)
    → (more : List Digest) × (digests_at count following ≡ Ok (more, rest)) × (digests ≡ first ∷ more)
unfolding several
one_at count remaining following rest first digests is e =
    let on = onward (digests_at count following) (λ more. done (first ∷ more)) digests rest (rw is at e) in
    let after_is : on.1 ≡ rest = same_rest (first ∷ on.0) digests on.1 rest on.3 in
    (on.0, subst (λ (l : List ℕ). digests_at count following ≡ Ok (on.0, l)) after_is on.2, sym (same_value (first ∷ on.0) digests on.1 rest on.3))

pub wrong_at : (count at : ℕ) (remaining rest : List ℕ) (digests : List Digest) → digest_at remaining ≡ Err at → digests_at (suc count) remaining ≡ Ok (digests, rest) → ⊥
unfolding several
wrong_at count at remaining rest digests is e =
    let none : ◌≡◌ {A = Read (List Digest)} (Err at) (Ok (digests, rest)) = rw is at e in
    cc

pub as_many : (count : ℕ) (remaining rest : List ℕ) (digests : List Digest) → digests_at count remaining ≡ Ok (digests, rest) → length digests ≡ count
unfolding several
as_many zero remaining rest digests e = let none : digests ≡ [] = none_at remaining rest digests e in ap length none
as_many (suc count) remaining rest digests e =
    let on = onward (digest_at remaining) _ digests rest e in
    let one = one_at count remaining on.1 rest on.0 digests on.2 e in
    ap length one.2 ∙ ap suc (as_many count on.1 rest one.0 one.1)

-- of which recipe a save is, and its inputs' digests after that
pub record OriginOf (remaining : List ℕ) (save : SaveText) : Type 0 where
  pub count : ℕ
  pub following : List ℕ
  pub after : List ℕ
  pub parsed : origin_at remaining ≡ Ok ((save.recipe, count), following)
  pub inputs : digests_at count following ≡ Ok (save.inputs, after)

origin_read : (remaining a b c : List ℕ) (form : TextForm) (recipe : Digest) (count : ℕ) → begun_in (save_magic First) (save_magic Second) remaining ≡ Ok (form, a) → digest_at a ≡ Ok (recipe, b) → u32 b ≡ Ok (count, c)
    → origin_at remaining ≡ Ok ((recipe, count), c)
unfolding origin_at
origin_read remaining a b c form recipe count first second third = rw (first, second, third) refl

pub origin_there : (remaining : List ℕ) (save : SaveText) (rest : List ℕ) → save_at remaining ≡ Ok (save, rest) → OriginOf remaining save
unfolding save_at fields_at
origin_there remaining save rest e =
    let f = onward (begun_in (save_magic First) (save_magic Second) remaining) fields_at save rest e in
    let d = onward (digest_at f.1) _ save rest f.3 in
    let i = onward (counted (λ (any : ℕ). digest_at) (λ input. 0) 0 d.1) _ save rest d.3 in
    let n = onward (u32 d.1) (λ count remaining. digests_at count remaining) i.0 i.1 i.2 in
    let s = onward (counted {S = ℕ} saved_stage_at (λ stage. 0) 0 i.1) _ save rest i.3 in
    let t = onward (state_in f.0 s.1) _ save rest s.3 in
    let is = same_value (record { recipe = d.0; inputs = i.0; stages = s.0; state = t.0 }) save t.1 rest t.3 in
    subst (OriginOf remaining) is (
    record {
      count = n.0;
      following = n.1;
      after = i.1;
      parsed = origin_read remaining f.1 d.1 n.1 f.0 d.0 n.0 f.2 d.2 n.2;
      inputs = n.3;
    }
    )
