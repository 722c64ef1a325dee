use Rattle.std.proofs.Common.{false, refl}
use Rattle.hex_langs.specs.declared.name_keys.KeyNames.{KeyNames}
use Rattle.hex_langs.specs.NameKeys.{message_of}
use Rattle.hex_langs.proofs.KeyNamings.{took-more}
use Rattle.hex_langs.proofs.name_keys.KeyNames.add.Goals as goal

pub returns : goal.returns
returns c =
    let new : KeyNames = record { digest = c.add.new.self; are_none = false } in
    λ names took. took-more new names c.args.name.now (c.add.ensures (message_of names) took.digest) refl
