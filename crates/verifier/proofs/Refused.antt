-- A language's refusal is the answer that the artefact is not right.
use Rattle.std.proofs.Common.{◌≡◌, ℕ, Bool, Result, Ok, Err, IsErr, IfOk, List, refl, sym, ap, ◌∙◌, subst}
use Rattle.std.specs.Prelude.{is_none}
use Rattle.std.proofs.lemmas.Bool.{false≢true}
use Rattle.ddc_base.specs.declared.byte_list.OutOfMemory.{OutOfMemory}
use Rattle.hex_langs.specs.Items.Reading.{ReadsItems}
use Rattle.hex_langs.specs.declared.items.item.Item.{Item}
use Rattle.hex_langs.specs.declared.items.reader.HexRefusal.{HexRefusal}
use Rattle.hex_langs.specs.declared.items.reader.HexRefusal.TheVariants as hex
use Rattle.hex_langs.specs.Link.Link.{Links}
use Rattle.hex_langs.specs.Link.Values.{linked}
use Rattle.m1_lang.specs.declared.refusal.M1Refusal.{M1Refusal}
use Rattle.m1_lang.specs.declared.refusal.M1Refusal.TheVariants as m1
use Rattle.m1_lang.specs.Expansion.{Expands}
use Rattle.audit_rules.specs.SourceCheck.Checks.{checked, hex_value, items_against, m1_value}
use Rattle.verifier.specs.Inside.Refusing.{RefusesHex, RefusesM1}

abbrev Answer : Type 0
Answer = Result Bool OutOfMemory

no-answer : (P : Bool → Type 0) (result : Answer) → IsErr result → IfOk result P
no-answer P (Ok x) is = absurd (false≢true is)
no-answer P (Err e) is = tt

answer-is : (meant : Bool) (result : Answer) → result ≡ Ok meant → IfOk result (λ right. right ≡ meant)
answer-is meant result is = subst (λ (r : Answer). IfOk r (λ right. right ≡ meant)) (sym is) refl

pub read-refused : (base : ℕ) (made : List ℕ) (meant : Result (List Item) HexRefusal) (refusal : HexRefusal) (result : Answer)
    → ReadsItems meant (Err refusal) → RefusesHex refusal result → IfOk result (λ right. right ≡ is_none (checked (hex_value (linked base meant)) made))
read-refused base made meant hex.OutOfMemory result is refused = no-answer _ result refused
read-refused base made meant _ result is refused =
    answer-is (is_none (checked (hex_value (linked base meant)) made)) result (refused ∙ ap (λ m. Ok (is_none (checked (hex_value (linked base m)) made))) (sym is))

pub link-refused : (made : List ℕ) (meant : Result (List ℕ) HexRefusal) (refusal : HexRefusal) (result : Answer)
    → Links (Err refusal) meant → RefusesHex refusal result → IfOk result (λ right. right ≡ is_none (checked (hex_value meant) made))
link-refused made meant hex.OutOfMemory result is refused = no-answer _ result refused
link-refused made meant _ result is refused = answer-is (is_none (checked (hex_value meant) made)) result (refused ∙ ap (λ m. Ok (is_none (checked (hex_value m) made))) is)

pub found-refused : (items : List Item) (meant : Result (List Item) HexRefusal) (refusal : HexRefusal) (result : Answer)
    → ReadsItems meant (Err refusal) → RefusesHex refusal result → IfOk result (λ right. right ≡ is_none (items_against items meant))
found-refused items meant hex.OutOfMemory result is refused = no-answer _ result refused
found-refused items meant _ result is refused = answer-is (is_none (items_against items meant)) result (refused ∙ ap (λ m. Ok (is_none (items_against items m))) (sym is))

pub m1-refused : (made : List ℕ) (meant : Result (List Item) M1Refusal) (refusal : M1Refusal) (result : Answer)
    → Expands meant (Err refusal) → RefusesM1 refusal result → IfOk result (λ right. right ≡ is_none (checked (m1_value meant) made))
m1-refused made meant m1.OutOfMemory result is refused = no-answer _ result refused
m1-refused made meant _ result is refused = answer-is (is_none (checked (m1_value meant) made)) result (refused ∙ ap (λ m. Ok (is_none (checked (m1_value m) made))) (sym is))
