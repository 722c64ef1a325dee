-- The limits, which this project chose. Each number stands here once, with its unit (docs/limits.md).
use Rattle.std.specs.Prelude.{ℕ, ◌^◌}

-- ---- files of a guest (docs/reference/files.md, "Limits")

-- bytes of a name, as Linux's NAME_MAX (include/uapi/linux/limits.h)
abbrev pub most_name : ℕ
most_name = 255

-- names in one file system
abbrev pub most_names : ℕ
most_names = 4096

-- open descriptors, including 0, 1 and 2
abbrev pub most_descriptors : ℕ
most_descriptors = 1024

-- the end of file numbers, exclusive: each file has a name or an open descriptor
abbrev pub file_number_end : ℕ
file_number_end = 5120

-- bytes of a file or a stream, and so of an input: 2^28
abbrev pub most_content : ℕ
most_content = 268435456

-- bytes of all files and both streams of one file system: 2^29
abbrev pub most_total : ℕ
most_total = 536870912

-- ---- a program that runs (docs/reference/running.md)

-- instructions of a run. The limits of 256 stages together are below 2^64
abbrev pub most_steps : ℕ
most_steps = 2 ^ 48

-- the end of a guest's addresses, exclusive
abbrev pub address_end : ℕ
address_end = 2 ^ 38

-- the end of page numbers, exclusive: a page has 4,096 bytes
abbrev pub page_number_end : ℕ
page_number_end = 2 ^ 26

-- the highest end of a segment of a program, and the highest base address of a source
abbrev pub most_address : ℕ
most_address = 2 ^ 37

-- bytes of the pages of all segments of a program: 2^28
abbrev pub most_loaded : ℕ
most_loaded = 268435456

-- bytes of the stack: 2^23
abbrev pub stack_size : ℕ
stack_size = 8388608

-- bytes of arguments and environment with their addresses on the stack: 2^17
abbrev pub most_texts : ℕ
most_texts = 131072

-- bytes of a heap
abbrev pub most_heap : ℕ
most_heap = 2 ^ 30

-- bytes of the heap where nothing names another size: 2^29
abbrev pub usual_heap : ℕ
usual_heap = 536870912

-- pages outside the heap: those of the largest program and of the stack
abbrev pub most_pages_apart : ℕ
most_pages_apart = 67584

-- pages of a guest: those outside the heap and those of the largest heap
abbrev pub most_pages : ℕ
most_pages = 329_728

-- ---- sources in hex1, hex2 and M1

-- bytes of a source: 2^26
abbrev pub most_source : ℕ
most_source = 67108864

-- items of a source: 2^25
abbrev pub most_items : ℕ
most_items = 33554432

-- ---- an audit (docs/reference/recipe.md)

-- bytes of a recipe: 2^20
abbrev pub most_recipe : ℕ
most_recipe = 1_048_576

-- bytes of all inputs: 2^30
abbrev pub most_inputs : ℕ
most_inputs = 1_073_741_824

-- bytes of all artefacts: 2^30
abbrev pub most_artefacts : ℕ
most_artefacts = 1_073_741_824

-- bytes of a report: 2^30. Each that `ddc` writes is shorter
abbrev pub most_report : ℕ
most_report = 1_073_741_824

-- bytes of a save or a patch, and of a state: 2^32. Each that `ddc` writes is shorter
abbrev pub most_save : ℕ
most_save = 4_294_967_296

abbrev pub most_state : ℕ
most_state = 4_294_967_296

-- ---- other files of commands

-- bytes of a list of names: 2^20
abbrev pub most_list : ℕ
most_list = 1_048_576

-- bytes of a file that `list` prints: 2^24
abbrev pub most_listed : ℕ
most_listed = 16_777_216

-- bytes that `demo` generates: 2^24
abbrev pub most_demo : ℕ
most_demo = 16_777_216

-- audits of a chain
abbrev pub most_audits : ℕ
most_audits = 64

-- states of a run cut into segments
abbrev pub most_states : ℕ
most_states = 1000

-- lines of a session
abbrev pub most_lines : ℕ
most_lines = 65_536

-- ---- scripts (docs/reference/kaem.md)

-- bytes of a script: 2^20
abbrev pub most_script : ℕ
most_script = 1_048_576

-- words of a command
abbrev pub most_words : ℕ
most_words = 64

-- commands of a script
abbrev pub most_commands : ℕ
most_commands = 4096

-- files listed for a script
abbrev pub most_files : ℕ
most_files = 4_096
