-- FILE of the commands `left` and `kaem-left`: a stream, or a file of the guest. docs/reference/command-line.md says the same for people.
use Rattle.std.specs.Prelude.{ℕ, ◌==◌, nat_lt, Bool, ◌&&◌, ◌||◌, not, Option, None, Some, List, bytes_eq, codes, if◌then◌else◌}
use Rattle.std.specs.List.{list_any}
use Rattle.mem_files.specs.Calls.{content_at}
use Rattle.mem_files.specs.Names.{is_stripped_name, stripped}
use Rattle.mem_files.specs.World.{World}

-- the bytes left at FILE: `1` and `2` are the streams, any other word without its leading `./` is a file's name
unfoldable pub bytes_left_at : World → List ℕ → Option (List ℕ)
bytes_left_at files file =
    if bytes_eq file (codes "1") then Some files.stream1
    else (if bytes_eq file (codes "2") then Some files.stream2
    else content_at files (stripped file))

-- a word can be printed in one line if no byte of it is a control character of ASCII
unfoldable pub is_control : ℕ → Bool
is_control byte = nat_lt byte 32 || byte == 127

abbrev pub fits_one_line : List ℕ → Bool
fits_one_line word = not (list_any is_control word)

-- FILE: a guest's file name, with or without leading `./`, that fits one line
unfoldable pub is_left_word : List ℕ → Bool
is_left_word file = is_stripped_name (stripped file) && fits_one_line file

abbrev pub as_guest_file : List ℕ → Option (List ℕ)
as_guest_file word = if is_left_word word then Some word else None
