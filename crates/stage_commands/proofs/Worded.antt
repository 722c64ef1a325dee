-- The plans of the commands on one stage, over words that were read.
use Rattle.std.proofs.Common.{◌≡◌, ℕ, ◌&&◌, Bool, true, false, Option, None, Some, List, [], ◌∷◌, refl}
use Rattle.std.specs.Prelude.{if◌then◌else◌}
use Rattle.command_plan.specs.Plan.{Plan}
use Rattle.command_plan.specs.Words.{are_two_files, as_steps, has_no_zero_byte, is_file_word, or_usage, usage}
use Rattle.stage_commands.specs.Cut.{cut_files, cut_plan}
use Rattle.stage_commands.specs.Ends.{ends_files, ends_plan}
use Rattle.stage_commands.specs.Inside.Words.{cut_of, cut_words, ends_of, ends_words, left_of, left_words, named_left, target_of, segment_words, stage_words}
use Rattle.stage_commands.specs.Left.{are_left_words, left_files, left_plan}
use Rattle.tool_commands.specs.GuestFiles.{is_left_word}
use Rattle.stage_commands.specs.Names.{as_states, is_prefix}
use Rattle.stage_commands.specs.Segment.{segment_files, segment_plan}
use Rattle.stage_commands.specs.Step.{step_plan, step_stage}
use Rattle.stage_commands.specs.declared.words.CutWords.{CutWords}
use Rattle.stage_commands.specs.declared.words.EndsWords.{EndsWords}
use Rattle.stage_commands.specs.declared.words.LeftWords.{LeftWords}
use Rattle.stage_commands.specs.declared.words.StageWords.{StageWords}

-- ---- `segment`

abbrev pub over_segment : List ℕ × List ℕ → Plan
over_segment files = segment_files files.0 files.1

stretch : (from to : List ℕ) (apart : Bool) → (if apart then segment_files from to else usage) ≡ or_usage (if apart then Some (from, to) else None) over_segment
stretch from to true = refl
stretch from to false = refl

pub segments : (words : List (List ℕ)) → segment_plan words ≡ or_usage (segment_words words) over_segment
segments (from ∷ to ∷ []) = stretch from to (are_two_files from to)
segments _ = refl

-- ---- `step`

abbrev pub over_stage : StageWords → Plan
over_stage w = step_stage w.recipe w.stage

placed : (recipe stage : List ℕ) (is_file clear : Bool)
    → (if is_file && clear then step_stage recipe stage else usage)
    ≡ or_usage (target_of (if is_file then Some recipe else None) (if clear then Some stage else None)) over_stage
placed recipe stage true true = refl
placed recipe stage true false = refl
placed recipe stage false clear = refl

pub steps : (words : List (List ℕ)) → step_plan words ≡ or_usage (stage_words words) over_stage
steps (recipe ∷ name ∷ []) = placed recipe name (is_file_word recipe) (has_no_zero_byte name)
steps _ = refl

-- ---- `left`

abbrev pub over_left : LeftWords → Plan
over_left w = left_files w.target.recipe w.target.stage w.wanted.file w.wanted.out

left : (recipe stage file out : List ℕ) (apart clear names : Bool)
    → (if apart && clear && names then left_files recipe stage file out else usage)
    ≡ or_usage (left_of (if apart then Some (recipe, out) else None) (if clear then Some stage else None) (if names then Some file else None)) over_left
left recipe stage file out true true true = refl
left recipe stage file out true true false = refl
left recipe stage file out true false names = refl
left recipe stage file out false clear names = refl

pub lefts : (words : List (List ℕ)) → left_plan words ≡ or_usage (left_words words) over_left
unfolding are_left_words named_left
lefts (recipe ∷ stage ∷ file ∷ out ∷ []) = left recipe stage file out (are_two_files recipe out) (has_no_zero_byte stage) (is_left_word file)
lefts _ = refl

-- ---- `cut`

abbrev pub over_cut : CutWords → Plan
over_cut w = cut_files w.target.recipe w.target.stage w.spacing.every w.spacing.prefix

cut : (recipe stage prefix : List ℕ) (every : Option ℕ) (is_file clear begins : Bool)
    → or_usage every (λ steps. if is_file && clear && begins then cut_files recipe stage steps prefix else usage)
    ≡ or_usage (cut_of every (target_of (if is_file then Some recipe else None) (if clear then Some stage else None)) (if begins then Some prefix else None)) over_cut
cut recipe stage prefix None is_file clear begins = refl
cut recipe stage prefix (Some every) true true true = refl
cut recipe stage prefix (Some every) true true false = refl
cut recipe stage prefix (Some every) true false begins = refl
cut recipe stage prefix (Some every) false clear begins = refl

pub cuts : (words : List (List ℕ)) → cut_plan words ≡ or_usage (cut_words words) over_cut
cuts (recipe ∷ stage ∷ every ∷ prefix ∷ []) = cut recipe stage prefix (as_steps every) (is_file_word recipe) (has_no_zero_byte stage) (is_prefix prefix)
cuts _ = refl

-- ---- `ends`

abbrev pub over_ends : EndsWords → Plan
over_ends w = ends_files w.target.recipe w.target.stage w.prefix w.states

ended : (recipe stage prefix : List ℕ) (count : Option ℕ) (is_file clear begins : Bool)
    → or_usage count (λ states. if is_file && clear && begins then ends_files recipe stage prefix states else usage)
    ≡ or_usage (ends_of count (target_of (if is_file then Some recipe else None) (if clear then Some stage else None)) (if begins then Some prefix else None)) over_ends
ended recipe stage prefix None is_file clear begins = refl
ended recipe stage prefix (Some count) true true true = refl
ended recipe stage prefix (Some count) true true false = refl
ended recipe stage prefix (Some count) true false begins = refl
ended recipe stage prefix (Some count) false clear begins = refl

pub ends_come : (words : List (List ℕ)) → ends_plan words ≡ or_usage (ends_words words) over_ends
ends_come (recipe ∷ stage ∷ prefix ∷ count ∷ []) = ended recipe stage prefix (as_states count) (is_file_word recipe) (has_no_zero_byte stage) (is_prefix prefix)
ends_come _ = refl
