-- The names that are digested for a table's key.
use Rattle.std.proofs.Common.{◌≡◌, ℕ, true, false, true≢false, List, [], ◌∷◌, ◌++◌, append-nil, append_assoc, refl, sym, ap, subst, ◌∙◌}
use Rattle.std.specs.Hash.DefaultHasher as sip
use Rattle.std.specs.declared.hash.DefaultHasher.{DefaultHasher}
use Rattle.sha2.specs.Hashers.{Holds256}
use Rattle.sha2.specs.Sha256.{sha256}
use Rattle.ddc_base.specs.NameTables.{begun_with, framed}
use Rattle.hex_langs.specs.declared.name_keys.KeyNames.{KeyNames}
use Rattle.hex_langs.specs.NameKeys.{are_none, begun_by, message_of, Took}

message-more : (names : List (List ℕ)) (name : List ℕ) → message_of (names ++ name ∷ []) ≡ message_of names ++ framed name
message-more [] name = append-nil (framed name)
message-more (first ∷ names) name =
    ap (λ (l : List ℕ). framed first ++ l) (message-more names name) ∙ sym (append_assoc (framed first) (message_of names) (framed name))

some-more : (names : List (List ℕ)) (name : List ℕ) → false ≡ are_none (names ++ name ∷ [])
some-more [] name = refl
some-more (first ∷ names) name = refl

-- one name more
pub took-more : (new : KeyNames) (names : List (List ℕ)) (name : List ℕ) → Holds256 new.digest.taken (message_of names ++ framed name) → new.are_none ≡ false
    → Took new (names ++ name ∷ [])
took-more new names name held some = record {
  digest = subst (Holds256 new.digest.taken) (sym (message-more names name)) held;
  none = some ∙ some-more names name;
}

-- the key of no names, and of some
pub begun-none : (names : List (List ℕ)) (begun : DefaultHasher) → true ≡ are_none names → begun ≡ sip.initial → begun ≡ begun_by names
begun-none [] begun none is = is
begun-none (name ∷ names) begun none is = absurd (true≢false none)

pub begun-some : (names : List (List ℕ)) (begun : DefaultHasher) → false ≡ are_none names → begun ≡ begun_with (sha256 (message_of names)) → begun ≡ begun_by names
begun-some [] begun some is = absurd (true≢false (sym some))
begun-some (name ∷ names) begun some is = is
