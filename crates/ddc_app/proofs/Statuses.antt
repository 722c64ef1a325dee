-- The statuses of each command are among those that `help` prints of it.
use Rattle.std.proofs.Common.{◌≡◌, ℕ, ◌+◌, ◌/◌, ◌%◌, ◌^◌, ◌<◌, ◌≤◌, ◌||◌, Bool, IsTrue, List, [], ◌∷◌, ◌++◌, bytes_eq, codes, decimal, refl, ap, arith, ◌∙◌, lit<}
use Rattle.std.specs.List.{list_any}
use Rattle.std.proofs.lemmas.Fmt.{decimal_digit, decimal_step}
use Rattle.ddc_base.specs.Outside.{NamedFiles}
use Rattle.command_plan.specs.Answered.{exit_status}
use Rattle.command_plan.specs.Plan.{outcome}
use Rattle.command_plan.specs.declared.status.Status.{Status}
use Rattle.command_plan.specs.declared.status.Status.TheVariants.{Yes, Refuted, Usage, Differs, RecipeRefused, ReportRefused, RunFailed, CheckFailed, Paused, SaveRefused, FileRefused, ShelfFault, OutFault, OutOfMemory, TooManySegments, ScriptRefused, ListRefused}
use Rattle.ddc_app.specs.Commands.{plan_of}
use Rattle.ddc_app.specs.Help.{command_name, command_statuses}
use Rattle.ddc_app.specs.Statuses.{HasReadRecipe, is_answer_of, is_common, printed_words}
use Rattle.ddc_app.specs.declared.command_word.CommandWord.{CommandWord}
use Rattle.ddc_app.specs.declared.command_word.CommandWord.TheVariants as command
use Rattle.ddc_app.proofs.EndsAs.{EndsAs}
use Rattle.ddc_app.proofs.EndsOfCommands.{asm_ends, audit_ends, chain_ends, cut_ends, delta_resume_ends, delta_start_ends, demo_ends, ends_ends, help_ends, hex0_ends, judge_ends, kaem_ends, kaem_left_ends, kaem_verify_ends, left_ends, list_ends, part_ends, rests_ends, resume_ends, run_ends, segment_ends, show_ends, step_ends, version_ends, where_ends}
use Rattle.verify_commands.specs.declared.explanation.Explanation.TheVariants.{Assumptions, Provenance}

-- ---- the numbers of statuses, as they are printed

numeral : Status → List ℕ
numeral Yes = codes "0"
numeral Refuted = codes "1"
numeral Usage = codes "2"
numeral Differs = codes "3"
numeral RecipeRefused = codes "4"
numeral ReportRefused = codes "5"
numeral RunFailed = codes "6"
numeral CheckFailed = codes "7"
numeral Paused = codes "8"
numeral SaveRefused = codes "9"
numeral FileRefused = codes "10"
numeral ShelfFault = codes "11"
numeral OutFault = codes "12"
numeral OutOfMemory = codes "13"
numeral TooManySegments = codes "14"
numeral ScriptRefused = codes "15"
numeral ListRefused = codes "16"

two_digits : (n : ℕ) → 10 ≤ n → n < 2 ^ 64 → n / 10 < 10 → decimal n ≡ (48 + n / 10) ∷ (48 + n % 10) ∷ []
two_digits n low high ten = decimal_step n low high ∙ ap (λ leading. leading ++ (48 + n % 10) ∷ []) (decimal_digit (n / 10) ten)

printed : (status : Status) → decimal (exit_status status) ≡ numeral status
unfolding numeral
printed Yes = decimal_digit 0 (lit< tt)
printed Refuted = decimal_digit 1 (lit< tt)
printed Usage = decimal_digit 2 (lit< tt)
printed Differs = decimal_digit 3 (lit< tt)
printed RecipeRefused = decimal_digit 4 (lit< tt)
printed ReportRefused = decimal_digit 5 (lit< tt)
printed RunFailed = decimal_digit 6 (lit< tt)
printed CheckFailed = decimal_digit 7 (lit< tt)
printed Paused = decimal_digit 8 (lit< tt)
printed SaveRefused = decimal_digit 9 (lit< tt)
printed FileRefused = two_digits 10 (omega arith) (lit< tt) (lit< tt)
printed ShelfFault = two_digits 11 (omega arith) (lit< tt) (lit< tt)
printed OutFault = two_digits 12 (omega arith) (lit< tt) (lit< tt)
printed OutOfMemory = two_digits 13 (omega arith) (lit< tt) (lit< tt)
printed TooManySegments = two_digits 14 (omega arith) (lit< tt) (lit< tt)
printed ScriptRefused = two_digits 15 (omega arith) (lit< tt) (lit< tt)
printed ListRefused = two_digits 16 (omega arith) (lit< tt) (lit< tt)

-- the same test, which computes
has : CommandWord → Status → Bool
has one status = is_common status || list_any (λ word. bytes_eq word (numeral status)) (printed_words one)

has_is : (one : CommandWord) (status : Status) → is_answer_of one status ≡ has one status
unfolding has
has_is one status = ap (λ number. is_common status || list_any (λ word. bytes_eq word number) (printed_words one)) (printed status)

-- ---- each command

ends_as : (one : CommandWord) (words : List (List ℕ)) → HasReadRecipe one → EndsAs (has one) (plan_of (command_name one ∷ words))
unfolding command_statuses has numeral
ends_as command.Hex0 words reads = hex0_ends (has command.Hex0) refl refl refl refl words
ends_as command.Asm words reads = asm_ends (has command.Asm) refl refl refl refl words
ends_as command.Where words reads = where_ends (has command.Where) refl refl refl refl words
ends_as command.List words reads = list_ends (has command.List) refl refl refl words
ends_as command.Run words reads = run_ends (has command.Run) refl refl refl refl words
ends_as command.Audit words reads = audit_ends (has command.Audit) refl refl refl refl refl refl refl words
ends_as command.Part words reads = part_ends (has command.Part) refl refl refl refl refl refl refl refl words
ends_as command.Resume words reads = resume_ends (has command.Resume) refl refl refl refl refl refl refl refl refl words
ends_as command.DeltaStart words reads = delta_start_ends (has command.DeltaStart) refl refl refl refl refl refl refl refl refl words
ends_as command.DeltaResume words reads = delta_resume_ends (has command.DeltaResume) refl refl refl refl refl refl refl refl refl words
ends_as command.Show words reads = show_ends (has command.Show) refl refl refl refl words
ends_as command.Verify words reads = judge_ends (has command.Verify) refl refl refl refl refl refl refl Assumptions words
ends_as command.Provenance words reads = judge_ends (has command.Provenance) refl refl refl refl refl refl refl Provenance words
ends_as command.Chain words reads = chain_ends (has command.Chain) refl refl refl refl refl refl refl refl words
ends_as command.Rests words reads = rests_ends (has command.Rests) refl refl refl refl words
ends_as command.Step words reads = step_ends (has command.Step) refl refl refl refl refl refl words
ends_as command.Left words reads = left_ends (has command.Left) refl refl refl refl refl refl words
ends_as command.Cut words reads = cut_ends (has command.Cut) refl refl refl refl refl refl refl words
ends_as command.Segment words reads = segment_ends (has command.Segment) refl refl refl refl words
ends_as command.Ends words reads = ends_ends (has command.Ends) refl refl refl refl refl refl refl words
ends_as command.Kaem words reads = kaem_ends (has command.Kaem) refl refl refl refl refl refl words
ends_as command.KaemVerify words reads = kaem_verify_ends (has command.KaemVerify) refl refl refl refl refl refl refl words
ends_as command.KaemLeft words reads = kaem_left_ends (has command.KaemLeft) refl refl refl refl refl refl words
ends_as command.Demo words reads = demo_ends (has command.Demo) refl refl refl refl refl refl reads.0 reads.1 words
ends_as command.Help words reads = help_ends (has command.Help) refl refl refl words
ends_as command.Version words reads = version_ends (has command.Version) refl refl refl words

pub answers_so : (one : CommandWord) (words : List (List ℕ)) (files : NamedFiles) → HasReadRecipe one
    → IsTrue (is_answer_of one (outcome (plan_of (command_name one ∷ words)) files).status)
answers_so one words files reads =
    has_is one (outcome (plan_of (command_name one ∷ words)) files).status ∙ (ends_as one words reads).ends files
