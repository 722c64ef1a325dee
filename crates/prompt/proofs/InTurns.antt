-- A conversation, from its turns.
use Rattle.std.proofs.Common.{◌≡◌, ◌∙◌, ℕ, zero, suc, Bool, true, false, IsTrue, inl, inr, Ok, Err, List, [], ◌∷◌, ◌++◌, append_assoc, append-nil, ap, subst, sym, refl}
use Rattle.std.specs.Bool.{OnTrue}
use Rattle.ddc_base.specs.declared.outside.PutFail.{PutFail}
use Rattle.ddc_base.specs.declared.outside.PutFail.TheVariants as putting
use Rattle.ddc_base.specs.Outside.{SinkState, after_piece}
use Rattle.prompt.specs.Prompts.{PromptState, after_line, asked_of, unread_after}
use Rattle.prompt.specs.Converses.{Converses, Exchanged, after_pieces, after_talk}
use Rattle.prompt.specs.Talks.{Talk, hears, replies, heard, led_by, unread_following, pieces_of, talk}
use Rattle.prompt.specs.Inside.Turns.{GoesOn, Turns}

-- what is said of a prompt that tells
both : {P Q R : Type 0} (tells : Bool) → OnTrue tells P → OnTrue tells Q → (IsTrue tells → P → Q → R) → OnTrue tells R
both true p q f = f refl p q
both false p q f = tt

told_of : {P Q : Type 0} (tells : Bool) → OnTrue tells P → (IsTrue tells → P → Q) → OnTrue tells Q
told_of true p f = f refl p
told_of false p f = tt

always : {P : Type 0} (tells : Bool) → P → OnTrue tells P
always true p = p
always false p = tt

moved : (P : Type 0) (tells other : Bool) → tells ≡ other → OnTrue tells P → OnTrue other P
moved P tells other is p = subst (λ b. OnTrue b P) is p

-- ---- exchanges, one list after the other

put-more : (done more : Talk) (sink : SinkState) → after_pieces (pieces_of more) (after_pieces (pieces_of done) sink) ≡ after_pieces (pieces_of (done ++ more)) sink
put-more [] more sink = refl
put-more (hears unread ∷ done) more sink = put-more done more sink
put-more (replies piece ∷ done) more sink = put-more done more (after_piece piece sink)

following-more : (done more : Talk) (unread : List ℕ) → unread_following more (unread_following done unread) ≡ unread_following (done ++ more) unread
following-more [] more unread = refl
following-more (hears now ∷ done) more unread = following-more done more now
following-more (replies piece ∷ done) more unread = following-more done more unread

asked-more : (done more : Talk) (tells : Bool) (unread : List ℕ) (faults : ℕ)
    → after_talk more (after_talk done (record { tells = tells; unread = unread; faults = faults })) ≡ after_talk (done ++ more) (record { tells = tells; unread = unread; faults = faults })
asked-more done more true unread faults = ap (λ l. record { tells = true; unread = l; faults = faults }) (following-more done more unread)
asked-more done more false unread faults = refl

and_more : (done more : Talk) (before mid after : SinkState) (old at new : PromptState) → Exchanged done before mid old at → Exchanged more mid after at new → Exchanged (done ++ more) before after old new
and_more done more before mid after old at new first second = record {
  put = second.put ∙ ap (after_pieces (pieces_of more)) first.put ∙ put-more done more before;
  asked = second.asked ∙ ap (after_talk more) first.asked ∙ asked-more done more old.tells old.unread old.faults;
}

-- after a line that was asked for
unread-told : (old new : PromptState) → IsTrue old.tells → new ≡ after_line old → new.unread ≡ unread_after old.unread
unread-told old new told is = ap (λ p. p.unread) is ∙ rw told refl

starts : {S : Type 0} (answered : S → List ℕ → List ℕ × S) (state : S) (lines : ℕ) (unread : List ℕ)
    → talk answered state (suc lines) unread ≡ hears (unread_after unread) ∷ led_by answered (λ next. talk answered next lines (unread_after unread)) state (heard (asked_of unread))
unfolding talk
starts answered state lines unread = refl

module _ {S : Type 0} (answered : S → List ℕ → List ℕ × S) (state : S) (lines : ℕ) (before : SinkState) (old : PromptState) where
  -- nothing was said yet
  pub begins : (unread : ℕ) → unread ≡ lines → GoesOn answered state state lines unread before before old old
  begins unread is = record {
    done = [];
    held = record { put = refl; asked = unasked old.tells old.unread old.faults };
    told = always old.tells (ap (λ n. talk answered state n old.unread) (sym is));
  } where
    unasked : (tells : Bool) (unread : List ℕ) (faults : ℕ) → record { tells = tells; unread = unread; faults = faults } ≡ after_talk [] (record { tells = tells; unread = unread; faults = faults })
    unasked true unread faults = refl
    unasked false unread faults = refl

  module _ (now next : S) (here unread : ℕ) (is : here ≡ suc unread) (mid after : SinkState) (at new : PromptState) where
    there : GoesOn answered state now lines here before mid old at → GoesOn answered state now lines (suc unread) before mid old at
    there g = subst (λ n. GoesOn answered state now lines n before mid old at) is g

    tells-stay : (g : GoesOn answered state now lines (suc unread) before mid old at) → at.tells ≡ old.tells
    tells-stay g = ap (λ p. p.tells) g.held.asked

    -- one more turn
    turned : GoesOn answered state now lines here before mid old at → Turns answered now next mid after at new (Ok true) → GoesOn answered state next lines unread before after old new
    turned at_here t = (let g = there at_here in let turn : Talk = hears (unread_after at.unread) ∷ replies t.by_result.1 ∷ [] in record {
      done = g.done ++ turn;
      held = and_more g.done turn before mid after old at new g.held (record { put = t.by_result.2; asked = t.by_result.0 });
      told = both old.tells g.told (moved _ at.tells old.tells (tells-stay g) t.by_result.3) (λ told whole one.
          whole
          ∙ ap (λ t. g.done ++ t) (one unread)
          ∙ sym (append_assoc g.done turn (talk answered next unread (unread_after at.unread)))
          ∙ ap (λ l. (g.done ++ turn) ++ talk answered next unread l) (sym (unread-told at new (tells-stay g ∙ told) t.by_result.0)));
    })

    -- the last turn
    ended : GoesOn answered state now lines here before mid old at → Turns answered now next mid after at new (Ok false) → Converses (talk answered state lines) before after old new (Ok tt)
    ended at_here t = (let g = there at_here in let turn : Talk = hears (unread_after at.unread) ∷ [] in record {
      by_result = record {
        done = g.done ++ turn;
        held = and_more g.done turn before mid after old at new g.held (record { put = t.by_result.1; asked = t.by_result.0 });
        told = both old.tells g.told (moved _ at.tells old.tells (tells-stay g) t.by_result.2) (λ told whole one. whole ∙ ap (λ t. g.done ++ t) (one unread));
      };
    })

    -- a turn that was cut
    cut : (fail : PutFail) → GoesOn answered state now lines (suc unread) before mid old at → Turns answered now next mid after at new (Err fail)
        → Converses (talk answered state lines) before after old new (Err fail)
    cut putting.OutOfMemory g t = (let turn : Talk = hears (unread_after at.unread) ∷ [] in let rest : Talk = led_by answered (λ s. talk answered s unread (unread_after at.unread)) now (heard (asked_of at.unread)) in record {
      by_result = record {
        done = g.done ++ turn;
        held = and_more g.done turn before mid after old at new g.held (record { put = t.by_result.1; asked = t.by_result.0 });
        told = told_of old.tells g.told (λ told whole. (
          rest,
          whole ∙ ap (λ t. g.done ++ t) (starts answered now unread at.unread) ∙ sym (append_assoc g.done turn rest),
        ));
      };
    })
    cut putting.Failed g t = elim t.by_result as (λ _. Converses (talk answered state lines) before after old new (Err putting.Failed)) [
      | inl asked ↦ record {
        by_result = inl (record {
          done = g.done;
          between = at;
          held = record { put = asked.1 ∙ g.held.put; asked = g.held.asked };
          line = asked.0;
          told = told_of old.tells g.told (λ told whole. (
            unread_after at.unread,
            led_by answered (λ s. talk answered s unread (unread_after at.unread)) now (heard (asked_of at.unread)),
            whole ∙ ap (λ t. g.done ++ t) (starts answered now unread at.unread),
          ));
        });
      }
      | inr put ↦ (let turn : Talk = hears (unread_after at.unread) ∷ [] in record {
        by_result = inr (record {
          done = g.done ++ turn;
          between = mid;
          held = and_more g.done turn before mid mid old at new g.held (record { put = refl; asked = put.0 });
          piece = put.1;
          put = put.2;
          told = both old.tells g.told (moved _ at.tells old.tells (tells-stay g) put.3) (λ told whole one. (
            (one unread).0,
            whole ∙ ap (λ t. g.done ++ t) (one unread).1 ∙ sym (append_assoc g.done turn (replies put.1 ∷ (one unread).0)),
          ));
        });
      })
    ]

    pub cut_at : (fail : PutFail) → GoesOn answered state now lines here before mid old at → Turns answered now next mid after at new (Err fail)
        → Converses (talk answered state lines) before after old new (Err fail)
    cut_at fail g t = cut fail (there g) t

    -- the same, where a test says which
    pub turned_at : (goes : Bool) → goes ≡ true → GoesOn answered state now lines here before mid old at → Turns answered now next mid after at new (Ok goes)
        → GoesOn answered state next lines unread before after old new
    turned_at goes is g t = turned g (subst (λ b. Turns answered now next mid after at new (Ok b)) is t)

    pub ended_at : (goes : Bool) → goes ≡ false → GoesOn answered state now lines here before mid old at → Turns answered now next mid after at new (Ok goes)
        → Converses (talk answered state lines) before after old new (Ok tt)
    ended_at goes is g t = ended g (subst (λ b. Turns answered now next mid after at new (Ok b)) is t)

  -- so many lines were answered
  pub all : (now : S) (unread : ℕ) → unread ≡ zero → (after : SinkState) (new : PromptState) → GoesOn answered state now lines unread before after old new → Converses (talk answered state lines) before after old new (Ok tt)
  unfolding talk
  all now unread none after new at_left = (let g : GoesOn answered state now lines zero before after old new = subst (λ n. GoesOn answered state now lines n before after old new) none at_left in record {
    by_result = record {
      done = g.done;
      held = g.held;
      told = told_of old.tells g.told (λ told whole. whole ∙ append-nil g.done);
    };
  })
