-- The arguments of the commands on one stage, one type for each set of them.
use Rattle.std.specs.Prelude.{ℕ, Option, None, Some, List, [], ◌∷◌, if◌then◌else◌}
use Rattle.command_plan.specs.Words.{as_file_name, as_steps, as_two_files, has_no_zero_byte}
use Rattle.tool_commands.specs.GuestFiles.{as_guest_file}
use Rattle.stage_commands.specs.Names.{as_states, is_prefix}
use Rattle.stage_commands.specs.declared.words.StageWords.{StageWords}
use Rattle.stage_commands.specs.declared.words.LeftWords.{LeftWords}
use Rattle.stage_commands.specs.declared.words.CutWords.{CutWords}
use Rattle.stage_commands.specs.declared.words.EndsWords.{EndsWords}

-- a word as STAGE and as PREFIX, where it is valid
abbrev pub as_stage_word : List ℕ → Option (List ℕ)
as_stage_word word = if has_no_zero_byte word then Some word else None

abbrev pub as_prefix : List ℕ → Option (List ℕ)
as_prefix word = if is_prefix word then Some word else None

-- the words `FROM TO`
abbrev pub segment_words : List (List ℕ) → Option (List ℕ × List ℕ)
segment_words (from ∷ to ∷ []) = as_two_files from to
segment_words _ = None

-- the words `RECIPE STAGE`
abbrev pub target_of : Option (List ℕ) → Option (List ℕ) → Option StageWords
target_of (Some recipe) (Some stage) = Some (record { recipe = recipe; stage = stage })
target_of _ _ = None

abbrev pub named_stage : List ℕ → List ℕ → Option StageWords
named_stage recipe stage = target_of (as_file_name recipe) (as_stage_word stage)

abbrev pub stage_words : List (List ℕ) → Option StageWords
stage_words (recipe ∷ stage ∷ []) = named_stage recipe stage
stage_words _ = None

-- the words `RECIPE STAGE FILE OUT`
abbrev pub left_of : Option (List ℕ × List ℕ) → Option (List ℕ) → Option (List ℕ) → Option LeftWords
left_of (Some files) (Some stage) (Some file) =
    Some (record { target = record { recipe = files.0; stage = stage }; wanted = record { file = file; out = files.1 } })
left_of _ _ _ = None

unfoldable pub named_left : List ℕ → List ℕ → List ℕ → List ℕ → Option LeftWords
named_left recipe stage file out = left_of (as_two_files recipe out) (as_stage_word stage) (as_guest_file file)

abbrev pub left_words : List (List ℕ) → Option LeftWords
left_words (recipe ∷ stage ∷ file ∷ out ∷ []) = named_left recipe stage file out
left_words _ = None

-- the words `RECIPE STAGE EVERY PREFIX`
abbrev pub cut_of : Option ℕ → Option StageWords → Option (List ℕ) → Option CutWords
cut_of (Some every) (Some target) (Some prefix) = Some (record { target = target; spacing = record { every = every; prefix = prefix } })
cut_of _ _ _ = None

abbrev pub cut_words : List (List ℕ) → Option CutWords
cut_words (recipe ∷ stage ∷ every ∷ prefix ∷ []) = cut_of (as_steps every) (named_stage recipe stage) (as_prefix prefix)
cut_words _ = None

-- the words `RECIPE STAGE PREFIX COUNT`
abbrev pub ends_of : Option ℕ → Option StageWords → Option (List ℕ) → Option EndsWords
ends_of (Some count) (Some target) (Some prefix) = Some (record { target = target; prefix = prefix; states = count })
ends_of _ _ _ = None

abbrev pub ends_words : List (List ℕ) → Option EndsWords
ends_words (recipe ∷ stage ∷ prefix ∷ count ∷ []) = ends_of (as_states count) (named_stage recipe stage) (as_prefix prefix)
ends_words _ = None
