-- The host's standard input as contracts see it: nothing but what has failed.
use Rattle.std.specs.Prelude.{ℕ, false, []}
use Rattle.prompt.specs.Prompts.{PromptState}

abbrev pub untold_prompt : ℕ → PromptState
untold_prompt faults = record { tells = false; unread = []; faults = faults }
