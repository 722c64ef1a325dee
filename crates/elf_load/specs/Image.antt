-- The image of a file: its first refusal, or what is to be placed in memory.
-- docs/reference/loader.md is the page for readers.
use Rattle.std.specs.Prelude.{◌≡◌, ◌≤◌, ◌<◌, ℕ, ◌+◌, ◌*◌, ◌%◌, ◌==◌, Bool, ◌&&◌, ◌||◌, not, cond, nat_eq, nat_lt, List, [], ◌∷◌, ◌++◌, length, Option, Some, None, Result, Ok, Err, All, AllPairs, Any, sum_by, true}
use Rattle.std.specs.List.{list_any, starts_with}
use Rattle.ddc_base.specs.Limits.{most_address, most_loaded}
use Rattle.elf_load.specs.declared.Segment.{Segment}
use Rattle.elf_load.specs.declared.Image.{Image}
use Rattle.elf_load.specs.declared.refusal.ElfRefusal.{ElfRefusal}
use Rattle.elf_load.specs.declared.refusal.ElfRefusal.TheVariants.{Short, Magic, Class, Machine, Kind, HeaderRange, Interpreter, NoLoad, TooMany, SegmentRange, Overlap, EntryOutside}
use Rattle.elf_load.specs.Fields.{elf_magic, ei_class, ei_data, e_type, e_machine, e_entry, e_phoff, e_phentsize, e_phnum, headers}
use Rattle.elf_load.specs.Segments.{is_interpreter, segments_of, is_out_of_range, paged_size, page_end, any_share, holds_address, break_after, IsPlaced, AreApart}

-- a rule: if its test is true, its refusal applies
abbrev pub Rule : Type 0
Rule = Bool × ElfRefusal

-- the refusal of the first rule that applies
abbrev pub first_refusal : List Rule → Option ElfRefusal
first_refusal [] = None
first_refusal (rule ∷ rest) = cond rule.0 (Some rule.1) (first_refusal rest)

-- the file is ELF-64, little-endian, an executable for RISC-V, and contains its header table
unfoldable pub header_rules : List ℕ → List Rule
header_rules file =
    (nat_lt (length file) 64, Short)
    ∷ (not (starts_with nat_eq file elf_magic), Magic)
    ∷ (not (ei_class file == 2 && ei_data file == 1), Class)
    ∷ (not (e_machine file == 243), Machine)
    ∷ (not (e_type file == 2), Kind)
    ∷ (not (e_phentsize file == 56) || nat_lt (length file) (e_phoff file + 56 * e_phnum file), HeaderRange)
    ∷ []

-- the file requests no interpreter, and has 1 to 16 segments
unfoldable pub table_rules : List ℕ → List Rule
table_rules file =
    (list_any (is_interpreter file) (headers file), Interpreter)
    ∷ (length (segments_of file) == 0, NoLoad)
    ∷ (nat_lt 16 (length (segments_of file)), TooMany)
    ∷ []

-- each segment is in range in a file of `size` bytes, all of them together are within the limit, and no two share a page
unfoldable pub placing_rules : ℕ → List Segment → List Rule
placing_rules size segments =
    (list_any (is_out_of_range size) segments || nat_lt most_loaded (sum_by paged_size segments), SegmentRange)
    ∷ (any_share segments, Overlap)
    ∷ []

-- the entry is the address of an instruction in a segment
unfoldable pub entry_rules : ℕ → List Segment → List Rule
entry_rules entry segments =
    (not (entry % 4 == 0 && list_any (holds_address entry) segments), EntryOutside)
    ∷ []

-- all rules, in the order in which they are tried
abbrev pub rules : List ℕ → List Rule
rules file =
    header_rules file ++ table_rules file
    ++ placing_rules (length file) (segments_of file) ++ entry_rules (e_entry file) (segments_of file)

-- entry, segments and first break of a file that no rule refuses
abbrev pub accepted_image : List ℕ → Image
accepted_image file = record {
  entry = e_entry file;
  segments = record { items = segments_of file };
  first_break = break_after (segments_of file);
}

-- the refusal, or otherwise the image
abbrev pub refused_or : Option ElfRefusal → Image → Result Image ElfRefusal
refused_or (Some refusal) image = Err refusal
refused_or None image = Ok image

-- the first refusal, or otherwise entry, segments and first break
unfoldable pub image_of : List ℕ → Result Image ElfRefusal
image_of file = refused_or (first_refusal (rules file)) (accepted_image file)

-- the properties of every accepted image of a file of `size` bytes
pub record IsLoadable (size : ℕ) (image : Image) : Type 0 where
  pub some : 0 < length image.segments.items
  pub few : length image.segments.items ≤ 16
  pub placed : All (IsPlaced size) image.segments.items
  pub apart : AllPairs AreApart image.segments.items
  pub together : sum_by paged_size image.segments.items ≤ most_loaded
  pub entry_aligned : image.entry % 4 ≡ 0
  pub entry_inside : Any (λ segment. holds_address image.entry segment ≡ true) image.segments.items
  pub break_aligned : image.first_break % 4096 ≡ 0
  pub break_above : All (λ segment. page_end segment ≤ image.first_break) image.segments.items
  pub break_low : image.first_break ≤ most_address
