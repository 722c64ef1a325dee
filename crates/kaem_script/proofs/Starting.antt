-- A command's start: its files are put in afterwards, and it is refused only where its file is no program.
use Rattle.std.proofs.Common.{◌≡◌, ℕ, ◌*◌, ◌≤◌, false, List, [], ◌∷◌, length, sum_by, None, Some, Result, Ok, Err, refl, sym, ap, ◌∙◌, subst, arith, All, IsTrue, length-append}
use Rattle.std.specs.Prelude.{nat_lt, IsOk}
use Rattle.std.specs.List.{fold}
use Rattle.std.specs.FinMap as fin
use Rattle.std.specs.Cmp.Lexicographic.{nat_list_cmp_total}
use Rattle.std.proofs.lemmas.Bool.Decides.{nat_tests}
use Rattle.std.proofs.lemmas.List.Elements.{All-head, All-tail}
use Rattle.elf_load.specs.declared.Image.{Image}
use Rattle.elf_load.specs.declared.refusal.ElfRefusal.{ElfRefusal}
use Rattle.elf_load.specs.Image.{image_of}
use Rattle.mem_files.specs.Calls.{content_at, first_world}
use Rattle.ddc_base.specs.Limits.{most_texts, most_total}
use Rattle.mem_files.specs.Names.{bytes_cmp, is_stripped_name}
use Rattle.mem_files.specs.Outputs.{left}
use Rattle.mem_files.specs.Sound.{IsSound}
use Rattle.mem_files.specs.World.{World}
use Rattle.mem_files.proofs.Directory.{bytes_cmp-IsAntisymmetric}
use Rattle.mem_files.proofs.Leftovers.{left-are, left-small}
use Rattle.mem_files.proofs.ListRules.{entries_risen}
use Rattle.guest_run.specs.Setting.{Setting, file_size, files_size}
use Rattle.guest_run.specs.Stack.{ended_texts, start_size, zero_ended}
use Rattle.guest_run.specs.Start.{Elf, Refusal, start_of, start_state, start_world, started, with_given}
use Rattle.guest_run.specs.State.{GuestState}
use Rattle.guest_run.specs.Run.{first_end}
use Rattle.guest_run.proofs.GivenLists.{good_name}
use Rattle.kaem_script.specs.declared.cause.CommandCause.TheVariants as cause
use Rattle.kaem_script.specs.Fold.{command_box, by_first_end, by_program, by_started, command, program_name}
use Rattle.kaem_script.specs.Inside.Commands.{renewed, texts_of}
use Rattle.kaem_script.specs.Kept.{IsCommand, IsWord}
use Rattle.kaem_script.specs.Leaving.{command_left, left_by_program, left_by_start, end_of_run}
use Rattle.kaem_script.specs.Wants.{HasProgram}

-- ---- the texts of a command fit

text-size : (words : List (List ℕ)) → All IsWord words → length (ended_texts words) ≤ 256 * length words
text-size [] each = omega arith
text-size (word ∷ words) each =
    let first = (All-head IsWord word words each).short in
    let rest = text-size words (All-tail IsWord word words each) in
    let long = length-append word (0 ∷ []) in
    let all = length-append (zero_ended word) (ended_texts words) in
    omega (arith, first, rest, long, all)

pub texts-fit : (words : List (List ℕ)) → IsCommand words → start_size words [] ≤ most_texts
texts-fit words is =
    let size = text-size words is.line.each in
    let few = is.line.few in
    omega (arith, size, few)

-- ---- the files of a world fit

pub entries-left : (w : World) → IsSound w → fin.entries (fin.from_entries {R = bytes_cmp} (left w)) ≡ left w
entries-left w sound = entries_risen nat_list_cmp_total bytes_cmp-IsAntisymmetric (left w) (left-are w sound).ascending

pub files-fit : (w : World) → IsSound w → files_size (fin.from_entries (left w)) ≤ most_total
files-fit w sound = subst (λ (es : List (List ℕ × List ℕ)). sum_by file_size es ≤ most_total) (sym (entries-left w sound)) (left-small w sound)

no-files : files_size fin.empty ≡ 0
no-files = ap (sum_by file_size) (none (fin.entries fin.empty) (sym (fin.len-entries fin.empty) ∙ fin.len-empty bytes_cmp (List ℕ)))
  where
    none : (es : List (List ℕ × List ℕ)) → length es ≡ 0 → es ≡ []
    none [] e = refl
    none (x ∷ es) e = absurd (omega arith)

-- what fits passes its test
passes : (most size : ℕ) → size ≤ most → nat_lt most size ≡ false
passes most size fits = grind (arith, nat_tests)

-- a setting that fits
record Fits (setting : Setting) : Type 0 where
  texts : nat_lt most_texts (start_size setting.args setting.env) ≡ false
  files : nat_lt most_total (files_size setting.files) ≡ false

texts-of-fit : (words : List (List ℕ)) → IsCommand words → Fits (texts_of words)
texts-of-fit words is = record {
  texts = passes most_texts (start_size words []) (texts-fit words is);
  files = passes most_total (files_size fin.empty) (omega (arith, no-files));
}

box-fits : (w : World) (words : List (List ℕ)) → IsSound w → IsCommand words → Fits (command_box w words)
unfolding command_box
box-fits w words sound is = record {
  texts = passes most_texts (start_size words []) (texts-fit words is);
  files = passes most_total (files_size (fin.from_entries (left w))) (files-fit w sound);
}

-- where the setting fits, the image alone decides
abbrev by_image : List ℕ → Setting → Result Image ElfRefusal → Result GuestState Refusal
by_image program setting (Err refusal) = Err (Elf refusal)
by_image program setting (Ok image) = Ok (start_state program setting image)

starts-by-image : (program : List ℕ) (setting : Setting) → Fits setting → start_of program setting ≡ by_image program setting (image_of program)
unfolding start_of
starts-by-image program setting fits = at (image_of program)
  where
    at : (image : Result Image ElfRefusal) → started program setting image ≡ by_image program setting image
    at (Err refusal) = refl
    at (Ok image) = rw (fits.texts, fits.files) refl

refused-by-image : (program : List ℕ) (setting : Setting) (refusal : Refusal) → Fits setting → start_of program setting ≡ Err refusal
    → (fault : ElfRefusal) × (refusal ≡ Elf fault)
refused-by-image program setting refusal fits is = at (image_of program) (sym (starts-by-image program setting fits) ∙ is)
  where
    at : (image : Result Image ElfRefusal) → by_image program setting image ≡ Err refusal → (fault : ElfRefusal) × (refusal ≡ Elf fault)
    at (Err fault) here = (fault, cc)
    at (Ok image) here = absurd cc

-- a command's start is refused where its file is no program, and for no other cause
pub only-elf : (program : List ℕ) (w : World) (words : List (List ℕ)) (refusal : Refusal) → IsSound w → IsCommand words
    → start_of program (command_box w words) ≡ Err refusal → (fault : ElfRefusal) × (refusal ≡ Elf fault)
only-elf program w words refusal sound is refused = refused-by-image program (command_box w words) refusal (box-fits w words sound is) refused

-- a program with an image starts
pub loaded-starts : (program : List ℕ) (words : List (List ℕ)) (image : Image) (refusal : Refusal) → IsCommand words → image_of program ≡ Ok image
    → start_of program (texts_of words) ≡ Err refusal → ⊥
loaded-starts program words image refusal is loads refused =
    let here : ◌≡◌ {A = Result GuestState Refusal} (Ok (start_state program (texts_of words) image)) (Err refusal) =
    ap (by_image program (texts_of words)) (sym loads) ∙ (sym (starts-by-image program (texts_of words) (texts-of-fit words is)) ∙ refused) in
    absurd cc

-- ---- the files are put in after the start

world-of-box : (w : World) → IsSound w → start_world (fin.from_entries (left w)) ≡ renewed w
unfolding start_world renewed
world-of-box w sound = ap (fold with_given first_world) (entries-left w sound)

state-of-box : (program : List ℕ) (w : World) (words : List (List ℕ)) (image : Image) → IsSound w
    → start_state program (command_box w words) image ≡ record (start_state program (texts_of words) image) { world = renewed w }
unfolding start_state command_box
state-of-box program w words image sound = λ i. record (start_state program (texts_of words) image) { world = world-of-box w sound i }

pub starts : (program : List ℕ) (w : World) (words : List (List ℕ)) (guest : GuestState) → IsSound w → IsCommand words
    → start_of program (texts_of words) ≡ Ok guest → start_of program (command_box w words) ≡ Ok (record guest { world = renewed w })
starts program w words guest sound is without =
    starts-by-image program (command_box w words) (box-fits w words sound is)
    ∙ at (image_of program) (sym (starts-by-image program (texts_of words) (texts-of-fit words is)) ∙ without)
  where
    at : (image : Result Image ElfRefusal) → by_image program (texts_of words) image ≡ Ok guest
        → by_image program (command_box w words) image ≡ Ok (record guest { world = renewed w })
    at (Err fault) here = absurd cc
    at (Ok image) here =
        let same : start_state program (texts_of words) image ≡ guest = cc in
        ap Ok (state-of-box program w words image sound ∙ ap (λ (g : GuestState). record g { world = renewed w }) same)

-- ---- a command, by its start

pub program-named : (words : List (List ℕ)) → IsCommand words → IsTrue (is_stripped_name (program_name words))
program-named [] is = absurd (let some = is.some in omega arith)
program-named (word ∷ words) is = good_name word is.line.named

pub command-starts : (most : ℕ) (w : World) (words : List (List ℕ)) (program : List ℕ) (guest : GuestState) → IsSound w → IsCommand words
    → content_at w (program_name words) ≡ Some program → start_of program (texts_of words) ≡ Ok guest
    → command most w words ≡ by_first_end most (first_end (record guest { world = renewed w }) most)
unfolding command
command-starts most w words program guest sound is there without =
    ap (by_program most w words) there ∙ ap (by_started most) (starts program w words guest sound is without)

pub command-refused : (most : ℕ) (w : World) (words : List (List ℕ)) (program : List ℕ) (fault : ElfRefusal) → IsSound w → IsCommand words
    → content_at w (program_name words) ≡ Some program → image_of program ≡ Err fault → command most w words ≡ Err (cause.Elf fault, 0)
unfolding command
command-refused most w words program fault sound is there refused =
    ap (by_program most w words) there
    ∙ ap (by_started most) (starts-by-image program (command_box w words) (box-fits w words sound is) ∙ ap (by_image program (command_box w words)) refused)

pub has-program : (w : World) (words : List (List ℕ)) (program : List ℕ) (image : Image) → IsSound w → IsCommand words
    → content_at w (program_name words) ≡ Some program → ◌≡◌ {A = Result Image ElfRefusal} (Ok image) (image_of program) → HasProgram w words
has-program w words program image sound is there loads =
    let begun : start_of program (command_box w words) ≡ Ok (start_state program (command_box w words) image) =
    starts-by-image program (command_box w words) (box-fits w words sound is) ∙ ap (by_image program (command_box w words)) (sym loads) in
    record { program = program; there = there; starts = subst IsOk (sym begun) refl }

pub command-without : (most : ℕ) (w : World) (words : List (List ℕ)) → content_at w (program_name words) ≡ None → command most w words ≡ Err (cause.NoProgram, 0)
unfolding command
command-without most w words none = ap (by_program most w words) none

-- ---- what it leaves

pub left-starts : (most number : ℕ) (w : World) (words : List (List ℕ)) (program : List ℕ) (guest : GuestState) → IsSound w → IsCommand words
    → content_at w (program_name words) ≡ Some program → start_of program (texts_of words) ≡ Ok guest
    → command_left most number w words ≡ Ok (end_of_run (record guest { world = renewed w }) most)
unfolding command_left
left-starts most number w words program guest sound is there without =
    ap (left_by_program most number w words) there ∙ ap (left_by_start most number) (starts program w words guest sound is without)

pub left-refused : (most number : ℕ) (w : World) (words : List (List ℕ)) (program : List ℕ) (fault : ElfRefusal) → IsSound w → IsCommand words
    → content_at w (program_name words) ≡ Some program → image_of program ≡ Err fault → command_left most number w words ≡ Err (number, cause.Elf fault, 0)
unfolding command_left
left-refused most number w words program fault sound is there refused =
    ap (left_by_program most number w words) there
    ∙ ap (left_by_start most number) (starts-by-image program (command_box w words) (box-fits w words sound is) ∙ ap (by_image program (command_box w words)) refused)
