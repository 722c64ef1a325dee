use Rattle.std.proofs.Common.{refl}
use Rattle.guest_run.proofs.Texts.{assembled}
use Rattle.guest_run.proofs.stack.stack_of.Goals as goal

pub returns : goal.returns
returns c =
    let args = c.joined_size-args_size.ensures in
    let env = c.joined_size.ensures in (
      rw (args, env) refl,
      assembled c.args.args.now c.args.env.now _ _ _ _ _ _ _ _ _ _ args env c.new-bytes.ensures.items
          c.in_ok-put_word.ensures c.in_ok-put_addresses.ensures c.in_ok-put_word-2.ensures c.in_ok-put_addresses-2.ensures
          c.in_ok-put_zeros.ensures c.in_ok-put_texts.ensures c.in_ok-put_texts-2.ensures,
    )
