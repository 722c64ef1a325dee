-- What one check of the loader passes to the next.
use Rattle.std.specs.Prelude.{◌≡◌, ◌≤◌, ℕ, ◌+◌, ◌*◌, List, length, Some, None, Result, MatchResult}
use Rattle.ddc_base.specs.Limits.{most_address}
use Rattle.elf_load.specs.declared.Segment.{Segment}
use Rattle.elf_load.specs.declared.refusal.ElfRefusal.{ElfRefusal}
use Rattle.elf_load.specs.Fields.{e_phoff, e_phnum}
use Rattle.elf_load.specs.Image.{Rule, first_refusal}
use Rattle.elf_load.specs.Segments.{segment_end}

-- the file contains an ELF header and the header table that it names
pub record HoldsTable (file : List ℕ) : Type 0 where
  pub header : 64 ≤ length file
  pub table : e_phoff file + 56 * e_phnum file ≤ length file

-- a check returns `Ok` if no rule of its list applies, and otherwise the first refusal
abbrev pub Judges : {T : Type 0} → List Rule → Result T ElfRefusal → Type 0
Judges list answer =
    MatchResult answer (λ _. first_refusal list ≡ None) (λ refusal. first_refusal list ≡ Some refusal)

-- the segment ends at most at 2^37
abbrev pub IsLow : Segment → Type 0
IsLow segment = segment_end segment ≤ most_address
