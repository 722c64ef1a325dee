-- The first refusal of joined lists of rules.
use Rattle.std.proofs.Common.{◌≡◌, ℕ, Bool, true, false, cond, List, [], ◌∷◌, ◌++◌, Option, Some, None, Err, length, refl, sym, ap, ◌∙◌}
use Rattle.elf_load.specs.declared.refusal.ElfRefusal.{ElfRefusal}
use Rattle.elf_load.specs.Fields.{e_entry}
use Rattle.elf_load.specs.declared.Segment.{Segment}
use Rattle.elf_load.specs.declared.Image.{Image}
use Rattle.elf_load.specs.Segments.{segments_of, break_after}
use Rattle.elf_load.specs.Image.{Rule, first_refusal, header_rules, table_rules, placing_rules, entry_rules, rules, accepted_image, refused_or, image_of}

-- where none of the first rules fits, the later ones decide
pub judged_later : (rules later : List Rule) → first_refusal rules ≡ None → first_refusal (rules ++ later) ≡ first_refusal later
judged_later [] later none = refl
judged_later (rule ∷ rules) later none =
    let tail : first_refusal rules ≡ None → first_refusal (rules ++ later) ≡ first_refusal later = judged_later rules later in
    let cases : (b : Bool) → cond b (Some rule.1) (first_refusal rules) ≡ None
    → cond b (Some rule.1) (first_refusal (rules ++ later)) ≡ first_refusal later =
    λ b. elim b as (λ v. cond v (Some rule.1) (first_refusal rules) ≡ None
    → cond v (Some rule.1) (first_refusal (rules ++ later)) ≡ first_refusal later) [
      | true ↦ (λ is. cc)
      | false ↦ (λ is. tail is)
    ] in
    cases rule.0 none

-- where one of the first rules fits, it decides
pub judged_first : (rules later : List Rule) (refusal : ElfRefusal) → first_refusal rules ≡ Some refusal
    → first_refusal (rules ++ later) ≡ Some refusal
judged_first [] later refusal some = cc
judged_first (rule ∷ rules) later refusal some =
    let tail : first_refusal rules ≡ Some refusal → first_refusal (rules ++ later) ≡ Some refusal = judged_first rules later refusal in
    let cases : (b : Bool) → cond b (Some rule.1) (first_refusal rules) ≡ Some refusal
    → cond b (Some rule.1) (first_refusal (rules ++ later)) ≡ Some refusal =
    λ b. elim b as (λ v. cond v (Some rule.1) (first_refusal rules) ≡ Some refusal
    → cond v (Some rule.1) (first_refusal (rules ++ later)) ≡ Some refusal) [
      | true ↦ (λ is. is)
      | false ↦ (λ is. tail is)
    ] in
    cases rule.0 some

-- where one of four lists of rules decides
pub decided_first : (a b c d : List Rule) (refusal : ElfRefusal) → first_refusal a ≡ Some refusal
    → first_refusal (a ++ b ++ c ++ d) ≡ Some refusal
decided_first a b c d refusal some =
    judged_first ((a ++ b) ++ c) d refusal (judged_first (a ++ b) c refusal (judged_first a b refusal some))

pub decided_second : (a b c d : List Rule) (refusal : ElfRefusal) → first_refusal a ≡ None → first_refusal b ≡ Some refusal
    → first_refusal (a ++ b ++ c ++ d) ≡ Some refusal
decided_second a b c d refusal none some =
    judged_first ((a ++ b) ++ c) d refusal (judged_first (a ++ b) c refusal (judged_later a b none ∙ some))

pub decided_third : (a b c d : List Rule) (refusal : ElfRefusal) → first_refusal a ≡ None → first_refusal b ≡ None
    → first_refusal c ≡ Some refusal → first_refusal (a ++ b ++ c ++ d) ≡ Some refusal
decided_third a b c d refusal none none' some =
    judged_first ((a ++ b) ++ c) d refusal (judged_later (a ++ b) c (judged_later a b none ∙ none') ∙ some)

pub decided_last : (a b c d : List Rule) (answer : Option ElfRefusal) → first_refusal a ≡ None → first_refusal b ≡ None
    → first_refusal c ≡ None → first_refusal d ≡ answer → first_refusal (a ++ b ++ c ++ d) ≡ answer
decided_last a b c d answer none none' none'' is =
    judged_later ((a ++ b) ++ c) d (judged_later (a ++ b) c (judged_later a b none ∙ none') ∙ none'') ∙ is

-- the answer, by the group of rules that decides
refused : (file : List ℕ) (answer : Option ElfRefusal) → first_refusal (rules file) ≡ answer
    → refused_or answer (accepted_image file) ≡ image_of file
unfolding image_of
refused file answer is = ap (λ o. refused_or o (accepted_image file)) (sym is)

pub by_header : (file : List ℕ) (refusal : ElfRefusal) → first_refusal (header_rules file) ≡ Some refusal → Err refusal ≡ image_of file
by_header file refusal some =
    refused file (Some refusal)
    (decided_first (header_rules file) (table_rules file) (placing_rules (length file) (segments_of file)) (entry_rules (e_entry file) (segments_of file))
    refusal some)

pub by_table : (file : List ℕ) (refusal : ElfRefusal) → first_refusal (header_rules file) ≡ None
    → first_refusal (table_rules file) ≡ Some refusal → Err refusal ≡ image_of file
by_table file refusal none some =
    refused file (Some refusal)
    (decided_second (header_rules file) (table_rules file) (placing_rules (length file) (segments_of file)) (entry_rules (e_entry file) (segments_of file))
    refusal none some)

pub by_placing : (file : List ℕ) (refusal : ElfRefusal) (segments : List Segment) → segments ≡ segments_of file
    → first_refusal (header_rules file) ≡ None → first_refusal (table_rules file) ≡ None
    → first_refusal (placing_rules (length file) segments) ≡ Some refusal → Err refusal ≡ image_of file
by_placing file refusal segments are none none' some =
    refused file (Some refusal)
    (decided_third (header_rules file) (table_rules file) (placing_rules (length file) (segments_of file)) (entry_rules (e_entry file) (segments_of file))
    refusal none none' (ap (λ list. first_refusal (placing_rules (length file) list)) (sym are) ∙ some))

pub by_entry : (file : List ℕ) (answer : Option ElfRefusal) → first_refusal (header_rules file) ≡ None → first_refusal (table_rules file) ≡ None
    → first_refusal (placing_rules (length file) (segments_of file)) ≡ None
    → first_refusal (entry_rules (e_entry file) (segments_of file)) ≡ answer → refused_or answer (accepted_image file) ≡ image_of file
by_entry file answer none none' none'' is =
    refused file answer
    (decided_last (header_rules file) (table_rules file) (placing_rules (length file) (segments_of file)) (entry_rules (e_entry file) (segments_of file))
    answer none none' none'' is)

-- an image of these parts is the accepted one
pub same_image : (file : List ℕ) (image : Image) → image.entry ≡ e_entry file → image.segments.items ≡ segments_of file
    → image.first_break ≡ break_after (segments_of file) → image ≡ accepted_image file
same_image file image entry items break =
    λ i. record { entry = entry i; segments = record { items = items i }; first_break = break i }
