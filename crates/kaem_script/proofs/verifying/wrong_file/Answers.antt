use Rattle.std.proofs.Common.{arith, subst}
use Rattle.mem_files.specs.Sound.{IsSound}
use Rattle.kaem_script.proofs.verifying.wrong_file.Goals as goal

pub wrong_name-requires : goal.wrong_name-requires
wrong_name-requires c =
    let sound = subst IsSound c.files.ensures c.show_sound.ensures in
    let names = c.show_rules.ensures.few in
    let most = sound.within.few_names in
    omega (arith, names, most)
