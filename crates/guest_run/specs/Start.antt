-- The state in which a program starts, or why it does not start.
-- docs/reference/running.md says the same for people.
use Rattle.std.specs.Prelude.{◌≡◌, ℕ, nat_lt, if◌then◌else◌, None, Result, Ok, Err, IsOk, List, replicate, slice_set}
use Rattle.std.specs.List.{fold}
use Rattle.std.specs.FinMap as map
use Rattle.mem_files.specs.World.{World}
use Rattle.mem_files.specs.Calls.{first_world, with_file}
use Rattle.ddc_base.specs.Limits.{most_texts, most_total}
use Rattle.elf_load.specs.declared.Image.{Image}
use Rattle.elf_load.specs.declared.refusal.ElfRefusal.{ElfRefusal}
use Rattle.elf_load.specs.Image.{image_of}
use Rattle.guest_run.specs.declared.guest.StartRefusal.{StartRefusal}
use Rattle.guest_run.specs.declared.guest.StartRefusal.TheVariants as answer
use Rattle.guest_run.specs.Stack.{stack_bytes, stack_pointer, start_size}
use Rattle.guest_run.specs.Placed.{with_segments, with_stack}
use Rattle.guest_run.specs.Setting.{FileMap, Setting, files_size}
use Rattle.guest_run.specs.State.{GuestState}

-- the files of a guest at its start: each gets the lowest unused number, in the order of their names' bytes
abbrev pub with_given : World → List ℕ × List ℕ → World
with_given world given = with_file world given.0 given.1

unfoldable pub start_world : FileMap → World
start_world files = fold with_given first_world (map.entries files)

-- the state of a program with this image: x2 is the stack pointer, all other registers are 0, the pc is the entry
unfoldable pub start_state : List ℕ → Setting → Image → GuestState
start_state program setting image = record {
  hart = record {
    registers = slice_set (replicate 32 0) 2 (stack_pointer setting.args setting.env);
    pc = image.entry;
    memory = with_stack (with_segments program image.segments.items)
        (stack_pointer setting.args setting.env) (stack_bytes setting.args setting.env);
    reservation = None;
  };
  world = start_world setting.files;
  heap = record { first = image.first_break; now = image.first_break; limit = setting.heap };
  steps = 0;
}

-- why a program does not start
pub data Refusal : Type 0 where
  Elf : ElfRefusal → Refusal
  ArgsTooLong : Refusal
  BoxTooLarge : Refusal

-- the first refusal, in the order of the checks, or else the state. 131,072 bytes are ARG_MAX of Linux (uapi/linux/limits.h)
abbrev pub started : List ℕ → Setting → Result Image ElfRefusal → Result GuestState Refusal
started program setting (Err refusal) = Err (Elf refusal)
started program setting (Ok image) =
    if nat_lt most_texts (start_size setting.args setting.env) then Err ArgsTooLong
    else (if nat_lt most_total (files_size setting.files) then Err BoxTooLarge
    else Ok (start_state program setting image))

unfoldable pub start_of : List ℕ → Setting → Result GuestState Refusal
start_of program setting = started program setting (image_of program)

-- the answer of a start: the state or its refusal, or out of memory where it would have started
abbrev pub Starts : Result GuestState Refusal → Result GuestState StartRefusal → Type 0
Starts meant (Ok guest) = meant ≡ Ok guest
Starts meant (Err (answer.Elf refusal)) = meant ≡ Err (Elf refusal)
Starts meant (Err answer.ArgsTooLong) = meant ≡ Err ArgsTooLong
Starts meant (Err answer.BoxTooLarge) = meant ≡ Err BoxTooLarge
Starts meant (Err answer.OutOfMemory) = IsOk meant
