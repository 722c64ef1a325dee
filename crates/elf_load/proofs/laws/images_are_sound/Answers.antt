use Rattle.elf_load.proofs.Images.{image-sound}
use Rattle.elf_load.proofs.laws.images_are_sound.Goals as goal

pub returns : goal.returns
returns c = image-sound
