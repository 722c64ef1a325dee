use Rattle.std.proofs.Common.{◌+◌, ◌≤◌, get_or, arith, ap, refl, subst, sym, ◌∙◌, take_all}
use Rattle.std.proofs.lemmas.List.Sums.{fold_more}
use Rattle.tool_commands.specs.declared.offsets.Spot.{Spot}
use Rattle.tool_commands.specs.Offsets.{after_byte, spot_after}
use Rattle.tool_commands.proofs.OffsetSteps.{column-few, line-few}
use Rattle.tool_commands.proofs.offsets.spot_after.Goals as goal

pub loop-byte-init : goal.loop-byte-init
loop-byte-init c = record { is = refl; line = omega arith; column = omega arith }

pub after-spot-requires-clause-line : goal.after-spot-requires-clause-line
after-spot-requires-clause-line c = let few = c.loop-byte.invariant.line in omega (arith, few)

pub after-spot-requires-clause-column : goal.after-spot-requires-clause-column
after-spot-requires-clause-column c = let few = c.loop-byte.invariant.column in omega (arith, few)

pub loop-byte-preserved : goal.loop-byte-preserved
loop-byte-preserved c =
    let prefix = c.args.prefix.now in
    let at = c.loop-byte.byte-index in
    let byte = get_or prefix at 0 in
    record {
      is = c.after-spot.ensures ∙ ap (λ spot. after_byte spot byte) c.loop-byte.invariant.is
          ∙ sym (fold_more after_byte (record { line = 1; column = 1 }) prefix at 0 c.loop-byte-test.true);
      line = subst (λ (spot : Spot). spot.line ≤ at + 1 + 1) (sym c.after-spot.ensures) (line-few c.loop-byte.spot byte (at + 1) c.loop-byte.invariant.line);
      column = subst (λ (spot : Spot). spot.column ≤ at + 1 + 1) (sym c.after-spot.ensures) (column-few c.loop-byte.spot byte (at + 1) c.loop-byte.invariant.column);
    }

pub returns : goal.returns
returns c = c.loop-byte.invariant.is ∙ ap spot_after (take_all c.loop-byte.byte-index c.args.prefix.now (omega arith))
