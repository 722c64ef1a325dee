-- The rules of files and what each `Files` keeps are the same, and each call keeps both.
use Rattle.std.proofs.Common.{◌≡◌, ℕ, ◌+◌, ◌-◌, ◌<◌, nat_le, bit_and, Bool, true, false, cond, not, ◌&&◌, ◌||◌, eqb, ℤ, inl, inr, List, [], ◌∷◌, ◌++◌, length, take, drop, replicate, Option, Some, None, Result, Ok, Err, IsOkAnd, IsTrue, unwrap_or, if◌then◌else◌, refl, sym, ◌∙◌, subst, arith}
use Rattle.std.proofs.lemmas.List.Elements.{All-append, All-drop, All-nil, All-replicate, All-take}
use Rattle.std.proofs.lemmas.Option.{none-some}
use Rattle.std.specs.Ordering.{nat_cmp}
use Rattle.std.specs.FinMap as fin
use Rattle.mem_files.specs.declared.open_file.Access.{Access}
use Rattle.mem_files.specs.declared.open_file.OpenFile.{OpenFile}
use Rattle.mem_files.specs.declared.open_file.OpenFile.TheVariants.{Input, Stream1, Stream2, File}
use Rattle.mem_files.specs.declared.open_file.PlaceRefusal.{PlaceRefusal}
use Rattle.mem_files.specs.declared.open_file.PlaceRefusal.TheVariants.{BadName, Twice, Full}
use Rattle.mem_files.specs.Linux.{o_accmode, o_creat, o_excl, o_trunc, einval, emfile, eexist, enoent, enospc}
use Rattle.ddc_base.specs.Limits.{most_descriptors, most_names}
use Rattle.mem_files.specs.Names.{is_stripped_name, is_file_name, stripped}
use Rattle.mem_files.specs.World.{World, content_of, is_named, is_open, lowest_unused}
use Rattle.mem_files.specs.Calls.{first_world, with_file, with_descriptor, has, written_over, opened, opened_at, emptied_if, with_file_offset, sought, sought_at, ready, skipped, skipped_at, fits, write_file_offset, filled, written, written_if, placed, is_full, without_unused, closed, closed_at, removed, removed_at, drained, drained_at}
use Rattle.mem_files.specs.Sound.{AreBytes, IsOpenFileAt, IsSound}
use Rattle.mem_files.specs.Inside.Kept.{IsHeldOpenFile, IsKept, HasBytes}
use Rattle.mem_files.proofs.Entries.{insert_cases, name_insert_cases, remove_cases, name_remove_cases}
use Rattle.mem_files.proofs.Keeping.{closed-kept, removed-kept}
use Rattle.mem_files.proofs.KeepingCalls.{first-kept, opened-kept, placed-kept, set_content-kept, skipped-kept, sought-kept, written-kept}

pub kept_of : (w : World) → IsSound w → IsKept w
kept_of w s = record {
  few_names = s.within.few_names;
  few_open_files = s.within.few_open_files;
  small_stream1 = s.within.small_stream1;
  small_stream2 = s.within.small_stream2;
  small_files = s.within.small_files;
  small_total = s.within.small_total;
  good_names = s.within.good_names;
  held = s.joined.held;
  named_once = s.joined.named_once;
  good_open_files = λ fd open_file e. (s.within.low_open_files fd open_file e, at_open_file fd open_file e (s.within.good_open_files fd open_file e));
  used = s.joined.used;
  low_numbers = λ number h. s.within.low_numbers number h;
}
  where
    at_open_file : (fd : ℕ) (open_file : OpenFile) → fin.get w.open_files fd ≡ Some open_file → IsOpenFileAt fd open_file → IsHeldOpenFile w fd open_file
    at_open_file fd Input e h = h
    at_open_file fd Stream1 e h = h
    at_open_file fd Stream2 e h = h
    at_open_file fd (File number file_offset access) e h = (s.joined.open_held fd number file_offset access e, h)

pub bytes_of : (w : World) → IsSound w → HasBytes w
bytes_of w s = record {
  name_bytes = s.within.name_bytes;
  file_bytes = s.within.file_bytes;
  stream1_bytes = s.within.stream1_bytes;
  stream2_bytes = s.within.stream2_bytes;
}

pub sound_of : (w : World) → IsKept w → HasBytes w → IsSound w
sound_of w k b = record {
  within = record {
    few_names = k.few_names;
    few_open_files = k.few_open_files;
    good_names = k.good_names;
    name_bytes = b.name_bytes;
    low_numbers = λ number h. k.low_numbers number h;
    file_bytes = b.file_bytes;
    small_files = k.small_files;
    stream1_bytes = b.stream1_bytes;
    stream2_bytes = b.stream2_bytes;
    small_stream1 = k.small_stream1;
    small_stream2 = k.small_stream2;
    small_total = k.small_total;
    low_open_files = λ fd open_file e. (k.good_open_files fd open_file e).0;
    good_open_files = λ fd open_file e. alone fd open_file (k.good_open_files fd open_file e).1;
  };
  joined = record {
    held = k.held;
    named_once = k.named_once;
    open_held = λ fd number file_offset access e. (k.good_open_files fd (File number file_offset access) e).1.0;
    used = k.used;
  };
}
  where
    alone : (fd : ℕ) (open_file : OpenFile) → IsHeldOpenFile w fd open_file → IsOpenFileAt fd open_file
    alone fd Input h = h
    alone fd Stream1 h = h
    alone fd Stream2 h = h
    alone fd (File number file_offset access) h = h.1

-- bytes, change by change
no_bytes_at_all : AreBytes []
no_bytes_at_all = All-nil (λ byte. byte < 256)

pub content_bytes : (w : World) (number : ℕ) → HasBytes w → AreBytes (content_of w number)
content_bytes w number b = elim (fin.get w.files number) as (λ o. fin.get w.files number ≡ o → AreBytes (unwrap_or o [])) [
  | None ↦ λ _. no_bytes_at_all
  | Some content ↦ λ e. b.file_bytes number content e
] refl

set_file-bytes : (w : World) (number : ℕ) (content : List ℕ) → HasBytes w → AreBytes content → HasBytes (record w { files = fin.insert w.files number content })
set_file-bytes w number content b new = record {
  name_bytes = b.name_bytes;
  file_bytes = λ n bytes e. elim (insert_cases w.files number content n bytes e) as (λ _. AreBytes bytes) [
    | inl same ↦ subst AreBytes same.1 new
    | inr other ↦ b.file_bytes n bytes other.1
  ];
  stream1_bytes = b.stream1_bytes;
  stream2_bytes = b.stream2_bytes;
}

with_file-bytes : (w : World) (name content : List ℕ) → HasBytes w → AreBytes name → AreBytes content → HasBytes (with_file w name content)
with_file-bytes w name content b good new =
    let filed = set_file-bytes w (lowest_unused w.files) content b new in
    record {
      name_bytes = λ other n e. elim (name_insert_cases w.names name (lowest_unused w.files) other n e) as (λ _. AreBytes other) [
        | inl same ↦ subst AreBytes (sym same.0) good
        | inr before ↦ b.name_bytes other n before.1
      ];
      file_bytes = filed.file_bytes;
      stream1_bytes = b.stream1_bytes;
      stream2_bytes = b.stream2_bytes;
    }

without_unused-bytes : (w : World) (number : ℕ) → HasBytes w → HasBytes (without_unused w number)
without_unused-bytes w number b = elim (is_named w number || is_open w number) as (λ t. HasBytes (cond t w (record w { files = fin.remove w.files number }))) [
  | true ↦ b
  | false ↦ record {
    name_bytes = b.name_bytes;
    file_bytes = λ n content e. b.file_bytes n content (remove_cases w.files number n content e).1;
    stream1_bytes = b.stream1_bytes;
    stream2_bytes = b.stream2_bytes;
  }
]

-- other descriptors
open_files-bytes : (w : World) (open_files : fin.FinMap nat_cmp OpenFile) → HasBytes w → HasBytes (record w { open_files = open_files })
open_files-bytes w open_files b = record { name_bytes = b.name_bytes; file_bytes = b.file_bytes; stream1_bytes = b.stream1_bytes; stream2_bytes = b.stream2_bytes }

written_over-bytes : (old : List ℕ) (offset : ℕ) (bytes : List ℕ) → AreBytes old → AreBytes bytes → AreBytes (written_over old offset bytes)
written_over-bytes old offset bytes o b =
    let P : ℕ → Type 0 = λ byte. byte < 256 in
    All-append P (take offset old ++ replicate (offset - length old) 0 ++ bytes) (drop (offset + length bytes) old)
    (All-append P (take offset old ++ replicate (offset - length old) 0) bytes (All-append P (take offset old) (replicate (offset - length old) 0) (All-take P offset old o) (All-replicate P (offset - length old) 0 (omega arith))) b)
    (All-drop P (offset + length bytes) old o)

first-bytes : HasBytes first_world
first-bytes = record {
  name_bytes = λ name n e. absurd (none-some n (sym (fin.get-empty _ name) ∙ e));
  file_bytes = λ n content e. absurd (none-some content (sym (fin.get-empty nat_cmp n) ∙ e));
  stream1_bytes = no_bytes_at_all;
  stream2_bytes = no_bytes_at_all;
}

-- a stripped name is a part of the name
pub stripped-bytes : (name : List ℕ) → AreBytes name → AreBytes (stripped name)
stripped-bytes [] b = b
stripped-bytes (a ∷ []) b = b
stripped-bytes (a ∷ (c ∷ rest)) b = elim (eqb a 46 && eqb c 47) as (λ t. AreBytes (cond t (stripped rest) (a ∷ (c ∷ rest)))) [
  | true ↦ stripped-bytes rest (All-drop (λ byte. byte < 256) 2 (a ∷ (c ∷ rest)) b)
  | false ↦ b
]

abbrev Placing : Type 0
Placing = Result (Unit {0}) PlaceRefusal × World

placed-bytes : (w : World) (name content : List ℕ) → HasBytes w → AreBytes name → AreBytes content → HasBytes (placed w name content).1
placed-bytes w name content b good new =
    let rest : List ℕ = stripped name in
    elim (is_file_name rest) as (λ t. HasBytes (cond {A = Placing} (not t) (Err BadName, w) (if fin.contains_key w.names rest then (Err Twice, w) else (if is_full w (length content) then (Err Full, w) else (Ok tt, with_file w rest content)))).1) [
      | false ↦ b
      | true ↦ elim (fin.contains_key w.names rest) as (λ t. HasBytes (cond {A = Placing} t (Err Twice, w) (if is_full w (length content) then (Err Full, w) else (Ok tt, with_file w rest content))).1) [
        | true ↦ b
        | false ↦ elim (is_full w (length content)) as (λ t. HasBytes (cond {A = Placing} t (Err Full, w) (Ok tt, with_file w rest content)).1) [
          | true ↦ b
          | false ↦ with_file-bytes w rest content b (stripped-bytes name good) new
        ]
      ]
    ]

opened-bytes : (w : World) (name : List ℕ) (flags : ℕ) → HasBytes w → AreBytes name → HasBytes (opened w name flags).1
opened-bytes w name flags b good =
    elim (eqb (bit_and flags o_accmode) o_accmode) as (λ t. HasBytes (cond {A = Result ℕ ℕ × World} t (Err einval, w) (if nat_le most_descriptors (fin.len w.open_files) then (Err emfile, w) else opened_at w name flags (fin.get w.names name))).1) [
      | true ↦ b
      | false ↦ elim (nat_le most_descriptors (fin.len w.open_files)) as (λ t. HasBytes (cond {A = Result ℕ ℕ × World} t (Err emfile, w) (opened_at w name flags (fin.get w.names name))).1) [
        | true ↦ b
        | false ↦ at_name (fin.get w.names name)
      ]
    ]
  where
    emptied : (number : ℕ) → (t : Bool) → HasBytes (emptied_if t w number)
    emptied number true = set_file-bytes w number [] b no_bytes_at_all
    emptied number false = b

    at_name : (o : Option ℕ) → HasBytes (opened_at w name flags o).1
    at_name (Some number) = elim (has flags o_creat && has flags o_excl) as (λ t. HasBytes (cond {A = Result ℕ ℕ × World} t (Err eexist, w) (with_descriptor (emptied_if (has flags o_trunc) w number) number flags)).1) [
      | true ↦ b
      | false ↦ open_files-bytes (emptied_if (has flags o_trunc) w number) _ (emptied number (has flags o_trunc))
    ]
    at_name None = elim (not (has flags o_creat)) as (λ t. HasBytes (cond {A = Result ℕ ℕ × World} t (Err enoent, w) (if nat_le most_names (fin.len w.names) then (Err enospc, w) else with_descriptor (with_file w name []) (lowest_unused w.files) flags)).1) [
      | true ↦ b
      | false ↦ elim (nat_le most_names (fin.len w.names)) as (λ t. HasBytes (cond {A = Result ℕ ℕ × World} t (Err enospc, w) (with_descriptor (with_file w name []) (lowest_unused w.files) flags)).1) [
        | true ↦ b
        | false ↦ open_files-bytes (with_file w name []) _ (with_file-bytes w name [] b good no_bytes_at_all)
      ]
    ]

closed-bytes : (w : World) (fd : ℕ) → HasBytes w → HasBytes (closed w fd).1
closed-bytes w fd b = at_open_file (fin.get w.open_files fd)
  where
    at_open_file : (o : Option OpenFile) → HasBytes (closed_at w fd o).1
    at_open_file None = b
    at_open_file (Some Input) = open_files-bytes w _ b
    at_open_file (Some Stream1) = open_files-bytes w _ b
    at_open_file (Some Stream2) = open_files-bytes w _ b
    at_open_file (Some (File number file_offset access)) = without_unused-bytes _ number (open_files-bytes w _ b)

removed-bytes : (w : World) (name : List ℕ) → HasBytes w → HasBytes (removed w name).1
removed-bytes w name b = at_name (fin.get w.names name)
  where
    at_name : (o : Option ℕ) → HasBytes (removed_at w name o).1
    at_name None = b
    at_name (Some number) = without_unused-bytes _ number (record {
      name_bytes = λ other n e. b.name_bytes other n (name_remove_cases w.names name other n e).1;
      file_bytes = b.file_bytes;
      stream1_bytes = b.stream1_bytes;
      stream2_bytes = b.stream2_bytes;
    })

sought-bytes : (w : World) (fd : ℕ) (offset : ℤ) (whence : ℕ) → HasBytes w → HasBytes (sought w fd offset whence).1
sought-bytes w fd offset whence b = at_open_file (fin.get w.open_files fd)
  where
    at_file_offset : (number : ℕ) (access : Access) (o : Option ℕ) → HasBytes (with_file_offset w fd number access o).1
    at_file_offset number access None = b
    at_file_offset number access (Some to) = open_files-bytes w _ b

    at_open_file : (o : Option OpenFile) → HasBytes (sought_at w fd offset whence o).1
    at_open_file None = b
    at_open_file (Some Input) = b
    at_open_file (Some Stream1) = b
    at_open_file (Some Stream2) = b
    at_open_file (Some (File number file_offset access)) = at_file_offset number access _

skipped-bytes : (w : World) (fd count : ℕ) → HasBytes w → HasBytes (skipped w fd count)
skipped-bytes w fd count b = at_open_file (fin.get w.open_files fd)
  where
    at_open_file : (o : Option OpenFile) → HasBytes (skipped_at w fd count o)
    at_open_file None = b
    at_open_file (Some Input) = b
    at_open_file (Some Stream1) = b
    at_open_file (Some Stream2) = b
    at_open_file (Some (File number file_offset access)) = open_files-bytes w _ b

filled-bytes : (w : World) (fd : ℕ) (bytes : List ℕ) → HasBytes w → AreBytes bytes → HasBytes (filled w fd bytes (fin.get w.open_files fd))
filled-bytes w fd bytes b new = at_open_file (fin.get w.open_files fd)
  where
    at_open_file : (o : Option OpenFile) → HasBytes (filled w fd bytes o)
    at_open_file None = b
    at_open_file (Some Input) = b
    at_open_file (Some Stream1) = record { name_bytes = b.name_bytes; file_bytes = b.file_bytes; stream1_bytes = All-append (λ byte. byte < 256) w.stream1 bytes b.stream1_bytes new; stream2_bytes = b.stream2_bytes }
    at_open_file (Some Stream2) = record { name_bytes = b.name_bytes; file_bytes = b.file_bytes; stream1_bytes = b.stream1_bytes; stream2_bytes = All-append (λ byte. byte < 256) w.stream2 bytes b.stream2_bytes new }
    at_open_file (Some (File number file_offset access)) =
        open_files-bytes _ _ (set_file-bytes w number _ b (written_over-bytes (content_of w number) (write_file_offset access (length (content_of w number)) file_offset) bytes (content_bytes w number b) new))

written-bytes : (w : World) (fd : ℕ) (bytes : List ℕ) → HasBytes w → AreBytes bytes → HasBytes (written w fd bytes).1
written-bytes w fd bytes b new = at_fit (fits w fd (length bytes))
  where
    at_fit : (r : Result (Unit {0}) ℕ) → HasBytes (written_if w fd bytes r).1
    at_fit (Err errno) = b
    at_fit (Ok done) = elim (eqb (length bytes) 0) as (λ t. HasBytes (cond t w (filled w fd bytes (fin.get w.open_files fd)))) [
      | true ↦ b
      | false ↦ filled-bytes w fd bytes b new
    ]

-- each call keeps the rules
pub first-sound : IsSound first_world
first-sound = sound_of first_world first-kept first-bytes

pub placed-sound : (w : World) (name content : List ℕ) → IsSound w → AreBytes name → AreBytes content → IsSound (placed w name content).1
placed-sound w name content s good new = sound_of _ (placed-kept w name content (kept_of w s)) (placed-bytes w name content (bytes_of w s) good new)

pub opened-sound : (w : World) (name : List ℕ) (flags : ℕ) → IsSound w → IsTrue (is_stripped_name name) → AreBytes name → IsSound (opened w name flags).1
opened-sound w name flags s is good = sound_of _ (opened-kept w name flags (kept_of w s) is) (opened-bytes w name flags (bytes_of w s) good)

pub closed-sound : (w : World) (fd : ℕ) → IsSound w → IsSound (closed w fd).1
closed-sound w fd s = sound_of _ (closed-kept w fd (kept_of w s)) (closed-bytes w fd (bytes_of w s))

pub removed-sound : (w : World) (name : List ℕ) → IsSound w → IsSound (removed w name).1
removed-sound w name s = sound_of _ (removed-kept w name (kept_of w s)) (removed-bytes w name (bytes_of w s))

pub sought-sound : (w : World) (fd : ℕ) (offset : ℤ) (whence : ℕ) → IsSound w → IsSound (sought w fd offset whence).1
sought-sound w fd offset whence s = sound_of _ (sought-kept w fd offset whence (kept_of w s)) (sought-bytes w fd offset whence (bytes_of w s))

pub skipped-sound : (w : World) (fd count : ℕ) → IsSound w → IsOkAnd (ready w fd count) (λ bytes. length bytes ≡ count) → IsSound (skipped w fd count)
skipped-sound w fd count s read = sound_of _ (skipped-kept w fd count (kept_of w s) read) (skipped-bytes w fd count (bytes_of w s))

pub written-sound : (w : World) (fd : ℕ) (bytes : List ℕ) → IsSound w → AreBytes bytes → IsSound (written w fd bytes).1
written-sound w fd bytes s new = sound_of _ (written-kept w fd bytes (kept_of w s)) (written-bytes w fd bytes (bytes_of w s) new)

pub drained-sound : (w : World) (name : List ℕ) → IsSound w → IsSound (drained w name)
drained-sound w name s = at_name (fin.get w.names name) refl
  where
    at_name : (o : Option ℕ) → fin.get w.names name ≡ o → IsSound (drained_at w o)
    at_name None is = s
    at_name (Some number) is =
        sound_of _ (set_content-kept w number [] (kept_of w s) (s.joined.held name number is) (omega arith) (omega (arith, s.within.small_total)))
        (set_file-bytes w number [] (bytes_of w s) no_bytes_at_all)
