-- What each call returns, and the files after it: the first rule that applies decides (docs/reference/files.md, "Calls").
-- An error leaves the files unchanged.
use Rattle.std.specs.Prelude.{ℕ, ◌+◌, ◌-◌, ◌^◌, ℤ, pos, negsuc, ◌+ℤ◌, Bool, true, ◌&&◌, ◌||◌, not, ◌==◌, nat_lt, nat_le, if◌then◌else◌, Option, Some, None, option_and_then, Result, Ok, Err, List, [], ◌∷◌, ◌++◌, length, take, drop, replicate, bit_and, find}
use Rattle.std.specs.Ordering.{is_lt}
use Rattle.std.specs.FinMap as map
use Rattle.mem_files.specs.declared.open_file.OpenFile.{OpenFile}
use Rattle.mem_files.specs.declared.open_file.OpenFile.TheVariants.{Input, Stream1, Stream2, File}
use Rattle.mem_files.specs.declared.open_file.Access.{Access}
use Rattle.mem_files.specs.declared.open_file.Mode.{Mode}
use Rattle.mem_files.specs.declared.open_file.Mode.TheVariants.{Read, Write, ReadWrite}
use Rattle.mem_files.specs.declared.open_file.PlaceRefusal.{PlaceRefusal}
use Rattle.mem_files.specs.declared.open_file.PlaceRefusal.TheVariants.{BadName, Twice, Full}
use Rattle.mem_files.specs.Linux.{enoent, ebadf, eexist, einval, emfile, efbig, enospc, espipe, o_accmode, o_rdonly, o_wronly, o_creat, o_excl, o_trunc, o_append, seek_set, seek_cur, seek_end}
use Rattle.ddc_base.specs.Limits.{most_content, most_total, most_descriptors, most_names}
use Rattle.mem_files.specs.Access.{is_read, is_written}
use Rattle.mem_files.specs.Names.{bytes_cmp, stripped, is_file_name}
use Rattle.mem_files.specs.World.{World, content_of, total, is_named, is_open, lowest_unused}

-- is this bit of the flags set?
abbrev pub has : ℕ → ℕ → Bool
has flags bit = not (bit_and flags bit == 0)

-- no files and no descriptors
abbrev pub bare_world : World
bare_world = record { names = map.empty; files = map.empty; open_files = map.empty; stream1 = []; stream2 = [] }

-- at the start: descriptor 0 is the empty input, 1 and 2 are the streams
abbrev pub first_world : World
first_world = record {
  names = map.empty;
  files = map.empty;
  open_files = map.from_entries ((0, Input) ∷ (1, Stream1) ∷ (2, Stream2) ∷ []);
  stream1 = [];
  stream2 = [];
}

-- a new file under the lowest unused number
abbrev pub with_file : World → List ℕ → List ℕ → World
with_file w name content = record w {
  names = map.insert w.names name (lowest_unused w.files);
  files = map.insert w.files (lowest_unused w.files) content;
}

-- `place`: would a file of `len` bytes exceed a limit?
abbrev pub is_full : World → ℕ → Bool
is_full w len = nat_lt most_content len || nat_lt most_total (total w + len) || nat_le most_names (map.len w.names)

-- a file under a name without `./`
abbrev pub placed_as : World → List ℕ → List ℕ → Result (Unit {0}) PlaceRefusal × World
placed_as w name content =
    if not (is_file_name name) then (Err BadName, w)
    else (if map.contains_key w.names name then (Err Twice, w)
    else (if is_full w (length content) then (Err Full, w)
    else (Ok tt, with_file w name content)))

-- `place`
abbrev pub placed : World → List ℕ → List ℕ → Result (Unit {0}) PlaceRefusal × World
placed w name content = placed_as w (stripped name) content

-- a file with neither a name nor a descriptor is dropped
abbrev pub without_unused : World → ℕ → World
without_unused w number =
    if is_named w number || is_open w number then w else record w { files = map.remove w.files number }

-- `remove`, by the number of the file with the name
abbrev pub removed_at : World → List ℕ → Option ℕ → Result (Unit {0}) ℕ × World
removed_at w name None = (Err enoent, w)
removed_at w name (Some number) = (Ok tt, without_unused (record w { names = map.remove w.names name }) number)

-- `remove`
abbrev pub removed : World → List ℕ → Result (Unit {0}) ℕ × World
removed w name = removed_at w name (map.get w.names name)

-- the file of a closed descriptor is dropped if no name and no other descriptor has it
abbrev pub released : World → OpenFile → World
released w Input = w
released w Stream1 = w
released w Stream2 = w
released w (File number file_offset access) = without_unused w number

-- `close`, by the open file of the descriptor
abbrev pub closed_at : World → ℕ → Option OpenFile → Result (Unit {0}) ℕ × World
closed_at w fd None = (Err ebadf, w)
closed_at w fd (Some open_file) = (Ok tt, released (record w { open_files = map.remove w.open_files fd }) open_file)

-- `close`
abbrev pub closed : World → ℕ → Result (Unit {0}) ℕ × World
closed w fd = closed_at w fd (map.get w.open_files fd)

-- how a file is used, from the flags of openat(2)
abbrev pub mode_of : ℕ → Mode
mode_of access = if access == o_rdonly then Read else (if access == o_wronly then Write else ReadWrite)

abbrev pub access_of : ℕ → Access
access_of flags = record { mode = mode_of (bit_and flags o_accmode); appends = has flags o_append }

-- the lowest unused descriptor gets the file, with file offset 0
abbrev pub with_descriptor : World → ℕ → ℕ → Result ℕ ℕ × World
with_descriptor w number flags =
    (Ok (lowest_unused w.open_files), record w { open_files = map.insert w.open_files (lowest_unused w.open_files) (File number 0 (access_of flags)) })

-- o_trunc empties a file that exists
abbrev pub emptied_if : Bool → World → ℕ → World
emptied_if truncate w number = if truncate then record w { files = map.insert w.files number [] } else w

-- `open_name`, by the number of the file with the name
abbrev pub opened_at : World → List ℕ → ℕ → Option ℕ → Result ℕ ℕ × World
opened_at w name flags (Some number) =
    if has flags o_creat && has flags o_excl then (Err eexist, w)
    else with_descriptor (emptied_if (has flags o_trunc) w number) number flags
opened_at w name flags None =
    if not (has flags o_creat) then (Err enoent, w)
    else (if nat_le most_names (map.len w.names) then (Err enospc, w)
    else with_descriptor (with_file w name []) (lowest_unused w.files) flags)

-- `open_name`
abbrev pub opened : World → List ℕ → ℕ → Result ℕ ℕ × World
opened w name flags =
    if bit_and flags o_accmode == o_accmode then (Err einval, w)
    else (if nat_le most_descriptors (map.len w.open_files) then (Err emfile, w)
    else opened_at w name flags (map.get w.names name))

-- the base that an offset is added to: 0, the file offset or the length
abbrev pub seek_base : ℕ → ℕ → ℕ → Option ℕ
seek_base whence file_offset len =
    if whence == seek_set then Some 0
    else (if whence == seek_cur then Some file_offset
    else (if whence == seek_end then Some len
    else None))

-- a file offset is from 0 to 2^63 - 1
abbrev pub as_file_offset : ℤ → Option ℕ
as_file_offset (pos n) = if nat_lt n (2 ^ 63) then Some n else None
as_file_offset (negsuc n) = None

-- `seek`, by the new file offset
abbrev pub with_file_offset : World → ℕ → ℕ → Access → Option ℕ → Result ℕ ℕ × World
with_file_offset w fd number access None = (Err einval, w)
with_file_offset w fd number access (Some file_offset) = (Ok file_offset, record w { open_files = map.insert w.open_files fd (File number file_offset access) })

-- `seek`, by the open file of the descriptor
abbrev pub sought_at : World → ℕ → ℤ → ℕ → Option OpenFile → Result ℕ ℕ × World
sought_at w fd offset whence None = (Err ebadf, w)
sought_at w fd offset whence (Some Input) = (Err espipe, w)
sought_at w fd offset whence (Some Stream1) = (Err espipe, w)
sought_at w fd offset whence (Some Stream2) = (Err espipe, w)
sought_at w fd offset whence (Some (File number file_offset access)) =
    with_file_offset w fd number access
    (option_and_then (λ base. as_file_offset (pos base +ℤ offset)) (seek_base whence file_offset (length (content_of w number))))

-- `seek`
abbrev pub sought : World → ℕ → ℤ → ℕ → Result ℕ ℕ × World
sought w fd offset whence = sought_at w fd offset whence (map.get w.open_files fd)

-- `ready`, by the open file of the descriptor: at most `count` bytes from the file offset on
abbrev pub ready_at : World → ℕ → Option OpenFile → Result (List ℕ) ℕ
ready_at w count None = Err ebadf
ready_at w count (Some Input) = Ok []
ready_at w count (Some Stream1) = Err ebadf
ready_at w count (Some Stream2) = Err ebadf
ready_at w count (Some (File number file_offset access)) =
    if is_read access then Ok (take count (drop file_offset (content_of w number))) else Err ebadf

-- `ready`
abbrev pub ready : World → ℕ → ℕ → Result (List ℕ) ℕ
ready w fd count = ready_at w count (map.get w.open_files fd)

-- `skip`, by the open file of the descriptor: the file offset increases by `count`
abbrev pub skipped_at : World → ℕ → ℕ → Option OpenFile → World
skipped_at w fd count None = w
skipped_at w fd count (Some Input) = w
skipped_at w fd count (Some Stream1) = w
skipped_at w fd count (Some Stream2) = w
skipped_at w fd count (Some (File number file_offset access)) =
    record w { open_files = map.insert w.open_files fd (File number (file_offset + count) access) }

-- `skip`
abbrev pub skipped : World → ℕ → ℕ → World
skipped w fd count = skipped_at w fd count (map.get w.open_files fd)

-- the offset of a write: the end of a file that appends, otherwise the file offset
abbrev pub write_file_offset : Access → ℕ → ℕ → ℕ
write_file_offset access end file_offset = if access.appends then end else file_offset

-- where a write goes: how many bytes are there now, and the offset of the first byte that is written
abbrev pub write_offset : World → Option OpenFile → Option (ℕ × ℕ)
write_offset w None = None
write_offset w (Some Input) = None
write_offset w (Some Stream1) = Some (length w.stream1, length w.stream1)
write_offset w (Some Stream2) = Some (length w.stream2, length w.stream2)
write_offset w (Some (File number file_offset access)) =
    if is_written access
    then Some (length (content_of w number), write_file_offset access (length (content_of w number)) file_offset)
    else None

-- `fits`, by where the write goes: the error that refuses a write of `count` bytes
abbrev pub fits_at : World → ℕ → Option (ℕ × ℕ) → Result (Unit {0}) ℕ
fits_at w count None = Err ebadf
fits_at w count (Some (len, offset)) =
    if count == 0 then Ok tt
    else (if nat_lt most_content (offset + count) then Err efbig
    else (if nat_lt most_total (total w + (offset + count - len)) then Err enospc
    else Ok tt))

-- `fits`
abbrev pub fits : World → ℕ → ℕ → Result (Unit {0}) ℕ
fits w fd count = fits_at w count (write_offset w (map.get w.open_files fd))

-- the bytes of a file after `bytes` were written at the byte offset `offset`; a gap before it is zeros
abbrev pub written_over : List ℕ → ℕ → List ℕ → List ℕ
written_over old offset bytes = take offset old ++ replicate (offset - length old) 0 ++ bytes ++ drop (offset + length bytes) old

-- a file after a write at an offset, with the file offset at the end of the write
abbrev pub with_content : World → ℕ → ℕ → Access → List ℕ → ℕ → World
with_content w fd number access bytes offset = record w {
  files = map.insert w.files number (written_over (content_of w number) offset bytes);
  open_files = map.insert w.open_files fd (File number (offset + length bytes) access);
}

-- bytes that fit are written, by the open file of the descriptor
abbrev pub filled : World → ℕ → List ℕ → Option OpenFile → World
filled w fd bytes None = w
filled w fd bytes (Some Input) = w
filled w fd bytes (Some Stream1) = record w { stream1 = w.stream1 ++ bytes }
filled w fd bytes (Some Stream2) = record w { stream2 = w.stream2 ++ bytes }
filled w fd bytes (Some (File number file_offset access)) =
    with_content w fd number access bytes (write_file_offset access (length (content_of w number)) file_offset)

-- `write`, by the error that refuses it: a write of no bytes changes nothing
abbrev pub written_if : World → ℕ → List ℕ → Result (Unit {0}) ℕ → Result (Unit {0}) ℕ × World
written_if w fd bytes (Err errno) = (Err errno, w)
written_if w fd bytes (Ok done) = (Ok done, (if length bytes == 0 then w else filled w fd bytes (map.get w.open_files fd)))

-- `write`
abbrev pub written : World → ℕ → List ℕ → Result (Unit {0}) ℕ × World
written w fd bytes = written_if w fd bytes (fits w fd (length bytes))

-- `content`: the bytes of the file that has the name
abbrev pub content_at : World → List ℕ → Option (List ℕ)
content_at w name = option_and_then (map.get w.files) (map.get w.names name)

-- `stream`: what was written to stream 1, or 2
abbrev pub stream : World → ℕ → List ℕ
stream w which = if which == 1 then w.stream1 else w.stream2

-- does a name follow the given one? Every name does if none is given
abbrev pub is_after : Option (List ℕ) → List ℕ → Bool
is_after None name = true
is_after (Some given) name = is_lt (bytes_cmp given name)

-- `name_after`: the first name after the given one, in byte order; without a given name, the first of all
abbrev pub name_after : World → Option (List ℕ) → Option (List ℕ)
name_after w given = find (is_after given) (map.keys w.names)

-- `take_content`, by the number of the file with the name: the file becomes empty
abbrev pub drained_at : World → Option ℕ → World
drained_at w None = w
drained_at w (Some number) = record w { files = map.insert w.files number [] }

-- `take_content`
abbrev pub drained : World → List ℕ → World
drained w name = drained_at w (map.get w.names name)
