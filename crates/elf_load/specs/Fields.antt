-- The fields of an ELF file that the loader reads: little-endian, at the offsets and of the widths of the 64-bit format.
-- Public source: System V Application Binary Interface (gABI), chapter 4 "Object Files", and chapter 5 "Program Loading
-- and Dynamic Linking". docs/reference/loader.md is the page for readers.
use Rattle.std.specs.Prelude.{ℕ, zero, suc, ◌+◌, List, [], ◌∷◌, drop}
use Rattle.byteorder.specs.Endian.{little_number}

-- the number in the `width` bytes at `offset`
unfoldable pub field : List ℕ → ℕ → ℕ → ℕ
field file offset width = little_number width (drop offset file)

-- gABI, "ELF Identification": the first four bytes of every ELF file, 7F and the letters ELF
abbrev pub elf_magic : List ℕ
elf_magic = 0x7f ∷ 0x45 ∷ 0x4c ∷ 0x46 ∷ []

-- gABI, "ELF Identification": EI_CLASS and EI_DATA
abbrev pub ei_class : List ℕ → ℕ
ei_class file = field file 4 1

abbrev pub ei_data : List ℕ → ℕ
ei_data file = field file 5 1

-- gABI, "ELF Header"
abbrev pub e_type : List ℕ → ℕ
e_type file = field file 16 2

abbrev pub e_machine : List ℕ → ℕ
e_machine file = field file 18 2

abbrev pub e_entry : List ℕ → ℕ
e_entry file = field file 24 8

abbrev pub e_phoff : List ℕ → ℕ
e_phoff file = field file 32 8

abbrev pub e_phentsize : List ℕ → ℕ
e_phentsize file = field file 54 2

abbrev pub e_phnum : List ℕ → ℕ
e_phnum file = field file 56 2

-- gABI, "Program Header": the fields of the program header that begins at the offset `header`
abbrev pub p_type : List ℕ → ℕ → ℕ
p_type file header = field file header 4

abbrev pub p_offset : List ℕ → ℕ → ℕ
p_offset file header = field file (header + 8) 8

abbrev pub p_vaddr : List ℕ → ℕ → ℕ
p_vaddr file header = field file (header + 16) 8

abbrev pub p_filesz : List ℕ → ℕ → ℕ
p_filesz file header = field file (header + 32) 8

abbrev pub p_memsz : List ℕ → ℕ → ℕ
p_memsz file header = field file (header + 40) 8

-- the offsets of `count` program headers of 56 bytes each; the first one begins at `first`
unfoldable pub offsets_from : ℕ → ℕ → List ℕ
offsets_from first zero = []
offsets_from first (suc count) = first ∷ offsets_from (first + 56) count

-- the offsets of the file's program headers, in the order of the header table
abbrev pub headers : List ℕ → List ℕ
headers file = offsets_from (e_phoff file) (e_phnum file)
