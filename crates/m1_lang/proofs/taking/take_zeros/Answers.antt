use Rattle.std.proofs.Common.{◌+◌, ◌-◌, subst, arith, map, replicate, List, ℕ, Ok, Err}
use Rattle.hex_langs.specs.declared.items.token.Token.TheVariants.{Byte}
use Rattle.m1_lang.proofs.Takings.{Remaining, remaining-more, remaining-refused, takes-one, zeros-more}
use Rattle.m1_lang.proofs.taking.take_zeros.Goals as goal

pub returns-in-Err-clause-takes : goal.returns-in-Err-clause-takes
returns-in-Err-clause-takes c =
    let count = c.args.count in
    let done = c.loop-i.i in
    let so_far = subst (λ (l : List ℕ). Remaining c.args.word (map Byte (replicate count 0)) c.args.items.now c.loop-i.word (map Byte l) c.loop-i.items)
    (zeros-more count done (omega arith)) c.loop-i.invariant.so_far in
    remaining-refused c.in-Err.halt c.args.word c.loop-i.word (map Byte (replicate count 0)) (map Byte (replicate (count - (done + 1)) 0)) (Byte 0)
    c.args.items.now c.loop-i.items c.take_byte.new.items so_far
    (λ at. takes-one (Err c.in-Err.halt) c.loop-i.word at (Byte 0) c.loop-i.items c.take_byte.new.items c.loop-i.invariant.few (c.in-Err.ensures.takes at))

pub loop-i-preserved : goal.loop-i-preserved
loop-i-preserved c =
    let count = c.args.count in
    let done = c.loop-i.i in
    let so_far = subst (λ (l : List ℕ). Remaining c.args.word (map Byte (replicate count 0)) c.args.items.now c.loop-i.word (map Byte l) c.loop-i.items)
    (zeros-more count done (omega arith)) c.loop-i.invariant.so_far in
    record {
      so_far = remaining-more c.args.word c.loop-i.word c.in-Ok.next (map Byte (replicate count 0)) (map Byte (replicate (count - (done + 1)) 0)) (Byte 0)
          c.args.items.now c.loop-i.items c.take_byte.new.items so_far
          (λ at. takes-one (Ok c.in-Ok.next) c.loop-i.word at (Byte 0) c.loop-i.items c.take_byte.new.items c.loop-i.invariant.few (c.in-Ok.ensures.takes at));
      few = c.in-Ok.ensures.few;
    }
