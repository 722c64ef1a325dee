-- The rules of lists as tests.
use Rattle.std.specs.Prelude.{ℕ, ◌+◌, ◌^◌, Bool, true, false, not, ◌&&◌, ◌==◌, nat_le, nat_lt, Option, None, Some, List, [], ◌∷◌, length, sum_by}
use Rattle.std.specs.List.{list_all, list_any}
use Rattle.std.specs.Str.{bytes_eq}
use Rattle.std.specs.Borrow.{Bor}
use Rattle.mem_files.specs.declared.view.FileView.{FileView}
use Rattle.mem_files.specs.declared.open_file.OpenFile.{OpenFile}
use Rattle.mem_files.specs.declared.open_file.OpenFile.TheVariants.{Input, Stream1, Stream2, File}
use Rattle.ddc_base.specs.Limits.{file_number_end, most_content, most_descriptors, most_names, most_total}
use Rattle.mem_files.specs.Names.{is_stripped_name}
use Rattle.mem_files.specs.Lists.{ListedFile, FileLists, named, is_listed, is_used}

abbrev pub is_good_name : Option (List ℕ) → Bool
is_good_name None = true
is_good_name (Some name) = is_stripped_name name

abbrev pub is_good_file : ListedFile → Bool
is_good_file file = nat_lt file.number file_number_end && is_good_name file.name && nat_le (length file.content) most_content

abbrev pub is_open_file_at : ℕ → OpenFile → Bool
is_open_file_at fd Input = fd == 0
is_open_file_at fd Stream1 = fd == 1
is_open_file_at fd Stream2 = fd == 2
is_open_file_at fd (File number file_offset access) = nat_lt file_offset (2 ^ 63)

abbrev pub is_good_open_file : ℕ × OpenFile → Bool
is_good_open_file held = nat_lt held.0 most_descriptors && is_open_file_at held.0 held.1

abbrev pub is_called : List ℕ → Option (List ℕ) → Bool
is_called name None = false
is_called name (Some other) = bytes_eq name other

-- whether one of these files has this name; `false` without a name
abbrev pub is_taken : Option (List ℕ) → List ListedFile → Bool
is_taken None files = false
is_taken (Some name) files = list_any (λ file. is_called name file.name) files

-- whether the names are distinct
abbrev pub have_own_names : List ListedFile → Bool
have_own_names [] = true
have_own_names (file ∷ files) = not (is_taken file.name files) && have_own_names files

-- the size of a borrowed content, in bytes
abbrev pub content_size : FileView → ℕ
content_size file = length file.content.now

abbrev pub stream_size : Bor (List ℕ) → ℕ
stream_size stream = length stream.now

abbrev pub size : FileLists → ℕ
size lists = sum_by length lists.streams + sum_by (λ file. length file.content) lists.files

-- whether counts and ranges of these lists are right
unfoldable pub in_range : FileLists → Bool
in_range lists =
    list_all is_good_file lists.files && list_all is_good_open_file lists.open_files && list_all (λ stream. nat_le (length stream) most_content) lists.streams
    && nat_le (length (named lists.files)) most_names && nat_le (size lists) most_total && have_own_names lists.files

-- whether references are right
unfoldable pub are_joined : FileLists → Bool
are_joined lists = list_all (λ held. is_listed lists.files held.1) lists.open_files && list_all (is_used lists.open_files) lists.files
