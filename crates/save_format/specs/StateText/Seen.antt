-- The code's values as the definitions see them.
use Rattle.std.specs.Prelude.{◌≡◌, ℕ, map, option_map, IsOk, Result, Ok, Err}
use Rattle.std.specs.Option.{option_copied}
use Rattle.mem_files.specs.Lists.{ListedFile}
use Rattle.mem_files.specs.declared.open_file.OpenFile.{OpenFile}
use Rattle.paged_mem.specs.Ram.{count_of}
use Rattle.save_format.specs.declared.state_text.parts.Page as page
use Rattle.save_format.specs.declared.state_text.parts.File as file
use Rattle.save_format.specs.declared.state_text.parts.NumberedDescriptor.{NumberedDescriptor}
use Rattle.save_format.specs.declared.state_text.parts.StateParts.{StateParts}
use Rattle.save_format.specs.declared.state_text.parts.Reserved.{Reserved}
use Rattle.save_format.specs.declared.state_text.reading.TextRefusal.{TextRefusal}
use Rattle.save_format.specs.declared.state_text.reading.TextRefusal.TheVariants.{Form, OutOfMemory}
use Rattle.save_format.specs.StateText.StateText.{PageText, StateText}

abbrev pub reserved_view : Reserved → ℕ × ℕ
reserved_view r = (count_of r.width, r.at)

abbrev pub page_view : page.Page → PageText
page_view p = record { number = p.number; bytes = p.bytes.now }

abbrev pub file_view : file.File → ListedFile
file_view f = record { number = f.number; name = option_copied f.name; content = f.content.now }

abbrev pub descriptor_view : NumberedDescriptor → ℕ × OpenFile
descriptor_view d = (d.fd, d.open_file)

abbrev pub state_view : StateParts → StateText
state_view p = record {
  steps = p.steps;
  pc = p.pc;
  registers = p.registers;
  reservation = option_map reserved_view p.reservation;
  heap = p.heap;
  runs = p.runs.items;
  pages = map page_view p.pages.items;
  files = map file_view p.files.items;
  descriptors = map descriptor_view p.descriptors.items;
  stream1 = p.stream1.now;
  stream2 = p.stream2.now;
}

-- the result agrees with reading the text; memory runs out only if the text is well-formed
abbrev pub ReadsStateText : Result StateParts TextRefusal → Result StateText ℕ → Type 0
ReadsStateText (Ok p) read = read ≡ Ok (state_view p)
ReadsStateText (Err (Form offset)) read = read ≡ Err offset
ReadsStateText (Err OutOfMemory) read = IsOk read
