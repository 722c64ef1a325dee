use Rattle.std.proofs.Common.{ℕ, List, map}
use Rattle.std.specs.Borrow.{Bor}
use Rattle.command_plan.proofs.Obtaining.{ends_before, ends_with, goes_on_with, on_words}
use Rattle.command_plan.proofs.Performing.{says}
use Rattle.stage_commands.specs.Segment.{segment_files}
use Rattle.stage_commands.proofs.Worded.{over_segment, segments}
use Rattle.stage_commands.proofs.segment.perform.Goals as goal

pub returns-in_default : goal.returns-in_default
returns-in_default g c = on_words over_segment (segments (map (λ (word : Bor (List ℕ)). word.now) c.args.words.now)) c.in_default.ensures (says _ _ _ c.usage.ensures)

pub returns-in_err-former : goal.returns-in_err-former
unfolding segment_files
returns-in_err-former g c =
    on_words over_segment (segments (map (λ (word : Bor (List ℕ)). word.now) c.args.words.now)) c.in-Some.ensures
    (ends_with c.from_residual.ensures.1 (ends_before c.in_err-former.ensures.obtained))

pub returns-in_err-latter : goal.returns-in_err-latter
unfolding segment_files
returns-in_err-latter g c =
    on_words over_segment (segments (map (λ (word : Bor (List ℕ)). word.now) c.args.words.now)) c.in-Some.ensures
    (ends_with c.from_residual-in_err-latter.ensures.1 (goes_on_with c.in_ok-former.ensures.obtained (ends_before c.in_err-latter.ensures.obtained)))

pub returns : goal.returns
unfolding segment_files
returns g c =
    on_words over_segment (segments (map (λ (word : Bor (List ℕ)). word.now) c.args.words.now)) c.in-Some.ensures
    (goes_on_with c.in_ok-former.ensures.obtained
    (goes_on_with c.in_ok-latter.ensures.obtained (says _ _ _ (rw (c.as_slice.ensures, c.as_slice-2.ensures) at c.tell.ensures))))
