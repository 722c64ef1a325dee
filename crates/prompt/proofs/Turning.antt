-- A turn of a conversation, from what the prompt gave and what became of its line.
use Rattle.std.proofs.Common.{◌≡◌, ◌≢◌, ◌∙◌, ℕ, suc, Bool, true, false, inr, Some, Result, Ok, Err, List, [], ◌∷◌, ap, sym, refl}
use Rattle.std.specs.Bool.{OnTrue}
use Rattle.ddc_base.specs.declared.outside.PutFail.{PutFail}
use Rattle.ddc_base.specs.declared.outside.PutFail.TheVariants as putting
use Rattle.ddc_base.specs.Outside.{SinkState}
use Rattle.prompt.specs.declared.asking.Asked.{Asked}
use Rattle.prompt.specs.declared.asking.Asked.TheVariants.{Line, TooLong, End}
use Rattle.prompt.specs.Prompts.{PromptState, after_line, asked_of, unread_after}
use Rattle.prompt.specs.Talks.{Talk, led_by, heard, hears, replied, replies, talk}
use Rattle.prompt.specs.Inside.Turns.{Replies, Turns}

-- what holds where it is told
on_told : {P Q : Type 0} (tells : Bool) → OnTrue tells P → (P → Q) → OnTrue tells Q
on_told true p f = f p
on_told false p f = tt

some-reply : (reply : List ℕ) (rest : Talk) → reply ≢ [] → replied reply rest ≡ replies reply ∷ rest
some-reply [] rest some = absurd (some refl)
some-reply (byte ∷ reply) rest some = refl

module _ {S : Type 0} (answered : S → List ℕ → List ℕ × S) (state next : S) (before after : SinkState) (old new : PromptState) where
  -- the talk's first turn
  first : (asked : Asked) (lines : ℕ) → asked ≡ asked_of old.unread
      → talk answered state (suc lines) old.unread ≡ hears (unread_after old.unread) ∷ led_by answered (λ s. talk answered s lines (unread_after old.unread)) state (heard asked)
  unfolding talk
  first asked lines is = ap (λ a. hears (unread_after old.unread) ∷ led_by answered (λ s. talk answered s lines (unread_after old.unread)) state (heard a)) (sym is)

  -- a line that was heard, and its reply
  led : (asked : Asked) (line reply : List ℕ) (lines : ℕ) → heard asked ≡ Some line → asked ≡ asked_of old.unread → answered state line ≡ (reply, next)
      → talk answered state (suc lines) old.unread ≡ hears (unread_after old.unread) ∷ replied reply (talk answered next lines (unread_after old.unread))
  led asked line reply lines is told reply_is =
      let on : S → Talk = λ s. talk answered s lines (unread_after old.unread) in
      let next_left : List ℕ = unread_after old.unread in
      first asked lines told ∙ ap (λ h. hears next_left ∷ led_by answered on state h) is ∙ ap (λ a. hears next_left ∷ replied a.0 (on a.1)) reply_is

  of_line : (asked : Asked) (line : List ℕ) (result : Result Bool PutFail) → heard asked ≡ Some line → OnTrue old.tells (asked ≡ asked_of old.unread) → new ≡ after_line old
      → Replies answered state line next before after result → Turns answered state next before after old new result
  of_line asked line (Ok true) is told leaves r = record {
    by_result = (
      leaves,
      r.by_result.0,
      r.by_result.3,
      on_told old.tells told (λ t lines. led asked line r.by_result.0 lines is t r.by_result.2 ∙ ap (λ t. hears (unread_after old.unread) ∷ t) (some-reply r.by_result.0 (talk answered next lines (unread_after old.unread)) r.by_result.1)),
    );
  }
  of_line asked line (Ok false) is told leaves r = record {
    by_result = (leaves, r.by_result.1, on_told old.tells told (λ t lines. led asked line [] lines is t r.by_result.0));
  }
  of_line asked line (Err putting.Failed) is told leaves r = record {
    by_result = inr (
      leaves,
      r.by_result.0,
      r.by_result.3,
      on_told old.tells told (λ t lines. (
        talk answered next lines (unread_after old.unread),
        led asked line r.by_result.0 lines is t r.by_result.2 ∙ ap (λ t. hears (unread_after old.unread) ∷ t) (some-reply r.by_result.0 (talk answered next lines (unread_after old.unread)) r.by_result.1),
      )),
    );
  }
  of_line asked line (Err putting.OutOfMemory) is told leaves r = record { by_result = (leaves, r.by_result) }

  pub of_short : (line : List ℕ) (result : Result Bool PutFail) → OnTrue old.tells (Line line ≡ asked_of old.unread) → new ≡ after_line old → Replies answered state line next before after result
      → Turns answered state next before after old new result
  of_short line result told leaves r = of_line (Line line) line result refl told leaves r

  pub of_long : (result : Result Bool PutFail) → OnTrue old.tells (TooLong ≡ asked_of old.unread) → new ≡ after_line old → Replies answered state [] next before after result
      → Turns answered state next before after old new result
  of_long result told leaves r = of_line TooLong [] result refl told leaves r

-- nothing was left
pub of_end : {S : Type 0} (answered : S → List ℕ → List ℕ × S) (state : S) (before : SinkState) (old new : PromptState) (asked : Asked) → asked ≡ End → OnTrue old.tells (asked ≡ asked_of old.unread) → new ≡ after_line old
    → Turns answered state state before before old new (Ok false)
of_end answered state before old new asked is told leaves = record {
  by_result = (leaves, refl, on_told old.tells told (λ t lines. first answered state state before before old new End lines (sym is ∙ t)));
}

pub ruleset turning = (of_short, of_long, of_end)
