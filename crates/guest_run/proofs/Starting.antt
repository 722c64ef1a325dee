-- The answers of a start, by the rule that decides.
use Rattle.std.proofs.Common.{◌≡◌, ℕ, ◌<◌, ◌≤◌, Bool, true, false, cond, List, Result, Ok, Err, refl, sym, ap, ◌∙◌, arith}
use Rattle.std.specs.Prelude.{nat_le, nat_lt}
use Rattle.std.proofs.lemmas.Bool.Decides.{nat_tests}
use Rattle.ddc_base.specs.Limits.{most_texts, most_total}
use Rattle.elf_load.specs.declared.Image.{Image}
use Rattle.elf_load.specs.declared.refusal.ElfRefusal.{ElfRefusal}
use Rattle.elf_load.specs.Image.{image_of}
use Rattle.guest_run.specs.Stack.{start_size}
use Rattle.guest_run.specs.Setting.{files_size, Setting}
use Rattle.guest_run.specs.State.{GuestState}
use Rattle.guest_run.specs.Start.{Refusal, Elf, ArgsTooLong, BoxTooLarge, start_of, start_state, started}

pub no_program : (program : List ℕ) (setting : Setting) (refusal : ElfRefusal) → image_of program ≡ Err refusal
    → start_of program setting ≡ Err (Elf refusal)
unfolding start_of
no_program program setting refusal is = ap (started program setting) is

-- the later rules, by their tests
abbrev pub judge : Bool → Bool → GuestState → Result GuestState Refusal
judge long large state = cond long (Err ArgsTooLong) (cond large (Err BoxTooLarge) (Ok state))

judged_by : (program : List ℕ) (setting : Setting) (image : Image) → image_of program ≡ Ok image
    → start_of program setting
    ≡ judge (nat_lt most_texts (start_size setting.args setting.env)) (nat_lt most_total (files_size setting.files)) (start_state program setting image)
unfolding start_of
judged_by program setting image is = ap (started program setting) is

pub args_too_long : (program : List ℕ) (setting : Setting) (image : Image) → image_of program ≡ Ok image
    → nat_le (start_size setting.args setting.env) most_texts ≡ false → start_of program setting ≡ Err ArgsTooLong
args_too_long program setting image is long =
    judged_by program setting image is
    ∙ ap (λ b. judge b (nat_lt most_total (files_size setting.files)) (start_state program setting image)) (above (start_size setting.args setting.env) long)
  where
    above : (n : ℕ) → nat_le n most_texts ≡ false → nat_lt most_texts n ≡ true
    above n h = grind (arith, nat_tests)

not_above : (n : ℕ) → n ≤ most_texts → nat_lt most_texts n ≡ false
not_above n h = grind (arith, nat_tests)

pub box_too_large : (program : List ℕ) (setting : Setting) (image : Image) → image_of program ≡ Ok image
    → start_size setting.args setting.env ≤ most_texts → most_total < files_size setting.files → start_of program setting ≡ Err BoxTooLarge
box_too_large program setting image is fits large =
    judged_by program setting image is
    ∙ (λ i. judge (not_above (start_size setting.args setting.env) fits i) (above (files_size setting.files) large i) (start_state program setting image))
  where
    above : (n : ℕ) → most_total < n → nat_lt most_total n ≡ true
    above n h = grind (arith, nat_tests)

pub starts : (program : List ℕ) (setting : Setting) (image : Image) → image_of program ≡ Ok image
    → start_size setting.args setting.env ≤ most_texts → files_size setting.files ≤ most_total
    → start_of program setting ≡ Ok (start_state program setting image)
starts program setting image is fits small =
    judged_by program setting image is
    ∙ (λ i. judge (not_above (start_size setting.args setting.env) fits i) (below (files_size setting.files) small i) (start_state program setting image))
  where
    below : (n : ℕ) → n ≤ most_total → nat_lt most_total n ≡ false
    below n h = grind (arith, nat_tests)

pub fits_if : (n : ℕ) → nat_le n most_texts ≡ true → n ≤ most_texts
fits_if n h = grind (arith, nat_tests)

pub steps_at_start : (program : List ℕ) (setting : Setting) (image : Image) → (start_state program setting image).steps ≡ 0
unfolding start_state
steps_at_start program setting image = refl

-- a program that starts has taken no step
pub starts_are : (program : List ℕ) (setting : Setting) (start : GuestState) → start_of program setting ≡ Ok start → start.steps ≡ 0
unfolding start_of start_state
starts_are program setting start is = by_image (image_of program) is
  where
    by_tests : (long large : Bool) (state : GuestState) → state.steps ≡ 0 → judge long large state ≡ Ok start → start.steps ≡ 0
    by_tests true large state none e = cc
    by_tests false true state none e = cc
    by_tests false false state none e = let same : state ≡ start = cc in sym (ap (λ (g : GuestState). g.steps) same) ∙ none

    by_image : (r : Result Image ElfRefusal) → started program setting r ≡ Ok start → start.steps ≡ 0
    by_image (Err refusal) e = cc
    by_image (Ok image) e = by_tests (nat_lt most_texts (start_size setting.args setting.env)) (nat_lt most_total (files_size setting.files)) (start_state program setting image) refl e
