-- A language's refusal is the check's answer.
use Rattle.std.proofs.Common.{◌≡◌, ℕ, Option, Some, Result, Ok, Err, IsErr, IfOk, List, refl, sym, ap, ◌∙◌, subst}
use Rattle.std.proofs.lemmas.Bool.{false≢true}
use Rattle.ddc_base.specs.declared.byte_list.OutOfMemory.{OutOfMemory}
use Rattle.hex_langs.specs.Items.Reading.{ReadsItems}
use Rattle.hex_langs.specs.declared.items.item.Item.{Item}
use Rattle.hex_langs.specs.declared.items.reader.HexRefusal.{HexRefusal}
use Rattle.hex_langs.specs.declared.items.reader.HexRefusal.TheVariants as hex
use Rattle.hex_langs.specs.Link.Link.{Links}
use Rattle.hex_langs.specs.Link.Values.{linked}
use Rattle.m1_lang.specs.declared.refusal.M1Refusal.{M1Refusal}
use Rattle.m1_lang.specs.declared.refusal.M1Refusal.TheVariants as m1
use Rattle.m1_lang.specs.Expansion.{Expands}
use Rattle.audit_rules.specs.declared.source_check.cause.CheckCause.{CheckCause}
use Rattle.audit_rules.specs.declared.source_check.cause.CheckCause.TheVariants as cause
use Rattle.audit_rules.specs.SourceCheck.Checks.{checked, hex_value, items_against, m1_value}
use Rattle.audit_run.specs.Check.Inside.Refusing.{RefusesHex, RefusesM1}

abbrev Answer : Type 0
Answer = Result (Option CheckCause) OutOfMemory

no-answer : (P : Option CheckCause → Type 0) (result : Answer) → IsErr result → IfOk result P
no-answer P (Ok x) is = absurd (false≢true is)
no-answer P (Err e) is = tt

answer-is : (meant : Option CheckCause) (result : Answer) → result ≡ Ok meant → IfOk result (λ found. found ≡ meant)
answer-is meant result is = subst (λ (r : Answer). IfOk r (λ found. found ≡ meant)) (sym is) refl

pub read-refused : (base : ℕ) (made : List ℕ) (meant : Result (List Item) HexRefusal) (refusal : HexRefusal) (result : Answer)
    → ReadsItems meant (Err refusal) → RefusesHex (λ why. Some (cause.Hex why)) refusal result → IfOk result (λ found. found ≡ checked (hex_value (linked base meant)) made)
read-refused base made meant hex.OutOfMemory result is refused = no-answer _ result refused
read-refused base made meant _ result is refused = answer-is (checked (hex_value (linked base meant)) made) result (refused ∙ ap (λ m. Ok (checked (hex_value (linked base m)) made)) (sym is))

pub link-refused : (made : List ℕ) (meant : Result (List ℕ) HexRefusal) (refusal : HexRefusal) (result : Answer)
    → Links (Err refusal) meant → RefusesHex (λ why. Some (cause.Hex why)) refusal result → IfOk result (λ found. found ≡ checked (hex_value meant) made)
link-refused made meant hex.OutOfMemory result is refused = no-answer _ result refused
link-refused made meant _ result is refused = answer-is (checked (hex_value meant) made) result (refused ∙ ap (λ m. Ok (checked (hex_value m) made)) is)

pub found-refused : (items : List Item) (meant : Result (List Item) HexRefusal) (refusal : HexRefusal) (result : Answer)
    → ReadsItems meant (Err refusal) → RefusesHex (λ why. Some (cause.NotItems why)) refusal result → IfOk result (λ found. found ≡ items_against items meant)
found-refused items meant hex.OutOfMemory result is refused = no-answer _ result refused
found-refused items meant _ result is refused = answer-is (items_against items meant) result (refused ∙ ap (λ m. Ok (items_against items m)) (sym is))

pub m1-refused : (made : List ℕ) (meant : Result (List Item) M1Refusal) (refusal : M1Refusal) (result : Answer)
    → Expands meant (Err refusal) → RefusesM1 (λ why. Some (cause.M1 why)) refusal result → IfOk result (λ found. found ≡ checked (m1_value meant) made)
m1-refused made meant m1.OutOfMemory result is refused = no-answer _ result refused
m1-refused made meant _ result is refused = answer-is (checked (m1_value meant) made) result (refused ∙ ap (λ m. Ok (checked (m1_value m) made)) (sym is))
