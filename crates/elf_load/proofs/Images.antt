-- An image that no rule refuses is sound.
use Rattle.std.proofs.Common.{◌≡◌, ℕ, Bool, true, false, cond, List, [], ◌∷◌, ◌++◌, length, Option, Some, None, Ok, refl, subst}
use Rattle.elf_load.specs.declared.Image.{Image}
use Rattle.elf_load.specs.declared.refusal.ElfRefusal.{ElfRefusal}
use Rattle.elf_load.specs.Fields.{e_entry}
use Rattle.elf_load.specs.Segments.{segments_of}
use Rattle.elf_load.specs.Image.{Rule, accepted_image, entry_rules, first_refusal, header_rules, image_of, placing_rules, refused_or, rules, table_rules, IsLoadable}
use Rattle.elf_load.proofs.Soundness.{sound}

parts : (one other : List Rule) → first_refusal (one ++ other) ≡ None → (first_refusal one ≡ None) × (first_refusal other ≡ None)
parts [] other e = (refl, e)
parts (rule ∷ rest) other e = by_test rule.0 (parts rest other) e
  where
    by_test : (t : Bool) → (first_refusal (rest ++ other) ≡ None → (first_refusal rest ≡ None) × (first_refusal other ≡ None))
        → cond t (Some rule.1) (first_refusal (rest ++ other)) ≡ None → (cond t (Some rule.1) (first_refusal rest) ≡ None) × (first_refusal other ≡ None)
    by_test true more e = cc
    by_test false more e = more e

pub image-sound : (file : List ℕ) (image : Image) → image_of file ≡ Ok image → IsLoadable (length file) image
unfolding image_of
image-sound file image e = by_refusal (first_refusal (rules file)) refl e
  where
    by_refusal : (o : Option ElfRefusal) → first_refusal (rules file) ≡ o → refused_or o (accepted_image file) ≡ Ok image → IsLoadable (length file) image
    by_refusal (Some refusal) was e = cc
    by_refusal None was e =
        let entry = parts (header_rules file ++ table_rules file ++ placing_rules (length file) (segments_of file)) (entry_rules (e_entry file) (segments_of file)) was in
        let placing = parts (header_rules file ++ table_rules file) (placing_rules (length file) (segments_of file)) entry.0 in
        let table = parts (header_rules file) (table_rules file) placing.0 in
        let same : accepted_image file ≡ image = cc in
        subst (IsLoadable (length file)) same (sound file (length file) table.1 placing.1 entry.1)
