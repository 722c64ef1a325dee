-- Each call that adds or writes keeps the limits, and keeps names, files and descriptors fitting together.
use Rattle.std.proofs.Common.{◌≡◌, ◌≢◌, ℕ, ◌+◌, ◌-◌, ◌^◌, ◌<◌, ◌≤◌, Bool, true, false, cond, not, ◌||◌, ◌&&◌, ◌==◌, eqb, nat_lt, nat_le, inl, inr, List, [], ◌∷◌, ◌++◌, length, Option, Some, None, Result, Ok, Err, IsOkAnd, take, drop, IsSome, is_some, IsTrue, unwrap_or, bit_and, ℤ, pos, negsuc, ◌+ℤ◌, option_and_then, if◌then◌else◌, refl, sym, ap, ◌∙◌, subst, arith, eq-eqb, eqb-true}
use Rattle.std.proofs.lemmas.List.{length-append, length-take, length-drop}
use Rattle.std.proofs.lemmas.Bool.{false≢true}
use Rattle.std.proofs.lemmas.Bool.Decides.{nat_tests}
use Rattle.std.proofs.lemmas.Option.{none-some, same_Some}
use Rattle.std.specs.Ordering.{nat_cmp}
use Rattle.std.specs.Cmp.{nat_cmp_total}
use Rattle.std.specs.Cmp.Lexicographic.{nat_list_cmp_total}
use Rattle.std.specs.FinMap as fin
use Rattle.mem_files.specs.declared.open_file.Access.{Access}
use Rattle.mem_files.specs.declared.open_file.OpenFile.{OpenFile}
use Rattle.mem_files.specs.declared.open_file.OpenFile.TheVariants.{Input, Stream1, Stream2, File}
use Rattle.ddc_base.specs.Limits.{most_descriptors, most_names, most_content, most_total}
use Rattle.mem_files.specs.Linux.{o_accmode, o_creat, o_excl, o_trunc, einval, emfile, eexist, enoent, enospc, ebadf, efbig, seek_set, seek_cur, seek_end}
use Rattle.mem_files.specs.Access.{is_read, is_written}
use Rattle.mem_files.specs.Names.{bytes_cmp, is_stripped_name, is_file_name, stripped, begins_with_dot_slash}
use Rattle.mem_files.specs.declared.open_file.PlaceRefusal.{PlaceRefusal}
use Rattle.mem_files.specs.declared.open_file.PlaceRefusal.TheVariants.{BadName, Twice, Full}
use Rattle.mem_files.proofs.First.{three, no_bytes}
use borrow.Author.Tests.{ltb-false, leb-false}
use Rattle.mem_files.specs.World.{World, total, content_of, is_of, is_named, is_open, lowest_unused}
use Rattle.mem_files.specs.Calls.{first_world, with_file, with_descriptor, access_of, has, with_content, written_over, opened, opened_at, emptied_if, seek_base, as_file_offset, with_file_offset, sought, sought_at, ready, ready_at, skipped, skipped_at, fits, fits_at, write_offset, write_file_offset, filled, written, written_if, placed, is_full}
use Rattle.mem_files.specs.Inside.Kept.{HasFile, IsHeldOpenFile, IsKept}
use Rattle.mem_files.proofs.Totals.{total-insert}
use Rattle.mem_files.proofs.Maps.{get-lowest_unused, lowest_unused-le-len}
use Rattle.mem_files.proofs.Entries.{is_some_of, here, there, insert_cases, insert_some, name_here, name_there, name_insert_cases}
use Rattle.mem_files.proofs.Overwrites.{length-written_over}
use Rattle.mem_files.proofs.Keeping.{or_left, or_right, or_cases, named_by, open_by, name_of, open_file_of, by_eq, open_file_kept, lowest_number-le, neither}

-- a file has other bytes
pub set_content-kept : (w : World) (number : ℕ) (content : List ℕ) → IsKept w → IsSome (fin.get w.files number) → length content ≤ most_content → total w + length content ≤ most_total + length (content_of w number)
    → IsKept (record w { files = fin.insert w.files number content })
set_content-kept w number content s held small capacity =
    let v : World = record w { files = fin.insert w.files number content } in
    let old : (n : ℕ) → IsSome (fin.get v.files n) → IsSome (fin.get w.files n) =
    λ n h. by_eq n number (λ e. subst (λ k. IsSome (fin.get w.files k)) (sym e) held) (λ ne. sym (ap is_some (there w.files number content n ne)) ∙ h) in
    record {
      few_names = s.few_names;
      few_open_files = s.few_open_files;
      small_stream1 = s.small_stream1;
      small_stream2 = s.small_stream2;
      small_files = λ n bytes e. elim (insert_cases w.files number content n bytes e) as (λ _. length bytes ≤ most_content) [
        | inl same ↦ subst (λ (l : List ℕ). length l ≤ most_content) same.1 small
        | inr other ↦ s.small_files n bytes other.1
      ];
      small_total = omega (arith, total-insert w number content, s.small_total);
      good_names = s.good_names;
      held = λ name n e. insert_some w.files number content n (s.held name n e);
      named_once = s.named_once;
      good_open_files = λ fd open_file e. ((s.good_open_files fd open_file e).0, open_file_kept w v fd open_file (λ n of h. insert_some w.files number content n h) (s.good_open_files fd open_file e).1);
      used = λ n h. s.used n (old n h);
      low_numbers = λ n h. s.low_numbers n (old n h);
    }

-- a new file under the lowest unused number
pub with_file-kept : (w : World) (name content : List ℕ) → IsKept w → IsTrue (is_stripped_name name) → fin.get w.names name ≡ None → fin.len w.names < most_names → lowest_unused w.files < most_names + most_descriptors
    → length content ≤ most_content → total w + length content ≤ most_total → IsKept (with_file w name content)
with_file-kept w name content s good absent few low small capacity =
    let number : ℕ = lowest_unused w.files in
    let free : fin.get w.files number ≡ None = get-lowest_unused w.files in
    let v : World = with_file w name content in
    let vacant : (n : ℕ) → IsSome (fin.get w.files n) → n ≢ number = λ n h e. false≢true (sym (ap is_some (ap (fin.get w.files) e ∙ free)) ∙ h) in
    record {
      few_names = omega (arith, fin.len-insert nat_list_cmp_total w.names name number ∙ ap (λ b. cond b (fin.len w.names) (fin.len w.names + 1)) (ap is_some absent));
      few_open_files = s.few_open_files;
      small_stream1 = s.small_stream1;
      small_stream2 = s.small_stream2;
      small_files = λ n bytes e. elim (insert_cases w.files number content n bytes e) as (λ _. length bytes ≤ most_content) [
        | inl same ↦ subst (λ (l : List ℕ). length l ≤ most_content) same.1 small
        | inr other ↦ s.small_files n bytes other.1
      ];
      small_total = omega (arith, total-insert w number content, ap (λ o. length (unwrap_or o [])) free);
      good_names = λ other n e. elim (name_insert_cases w.names name number other n e) as (λ _. IsTrue (is_stripped_name other)) [
        | inl same ↦ subst (λ (l : List ℕ). IsTrue (is_stripped_name l)) (sym same.0) good
        | inr before ↦ s.good_names other n before.1
      ];
      held = λ other n e. elim (name_insert_cases w.names name number other n e) as (λ _. IsSome (fin.get v.files n)) [
        | inl same ↦ is_some_of content (ap (fin.get v.files) (sym same.1) ∙ here w.files number content)
        | inr before ↦ insert_some w.files number content n (s.held other n before.1)
      ];
      named_once = λ one other n e f. elim (name_insert_cases w.names name number one n e) as (λ _. one ≡ other) [
        | inl first ↦ elim (name_insert_cases w.names name number other n f) as (λ _. one ≡ other) [
          | inl second ↦ first.0 ∙ sym second.0
          | inr second ↦ absurd (vacant n (s.held other n second.1) (sym first.1))
        ]
        | inr first ↦ elim (name_insert_cases w.names name number other n f) as (λ _. one ≡ other) [
          | inl second ↦ absurd (vacant n (s.held one n first.1) (sym second.1))
          | inr second ↦ s.named_once one other n first.1 second.1
        ]
      ];
      good_open_files = λ fd open_file e. ((s.good_open_files fd open_file e).0, open_file_kept w v fd open_file (λ n of h. insert_some w.files number content n h) (s.good_open_files fd open_file e).1);
      used = λ n h. by_eq n number
          (λ e. or_left _ (is_open v n) (named_by v name n (name_here w.names name number ∙ ap (λ k. Some k) (sym e))))
          (λ ne. or_cases (is_named w n) (is_open w n) (s.used n (sym (ap is_some (there w.files number content n ne)) ∙ h))
          (λ named. or_left _ (is_open v n) (let by = name_of w n named in
          named_by v by.0 n (name_there w.names name number by.0 (λ k. none-some n (sym absent ∙ ap (fin.get w.names) (sym k) ∙ by.1)) ∙ by.1)))
          (λ opened_by. or_right (is_named v n) _ opened_by));
      low_numbers = λ n h. by_eq n number (λ e. omega arith) (λ ne. s.low_numbers n (sym (ap is_some (there w.files number content n ne)) ∙ h));
    }

-- the lowest unused descriptor stands for a file
pub with_descriptor-kept : (w : World) (number flags : ℕ) → IsKept w → IsSome (fin.get w.files number) → fin.len w.open_files < most_descriptors → IsKept (with_descriptor w number flags).1
with_descriptor-kept w number flags s held few =
    let fd : ℕ = lowest_unused w.open_files in
    let free : fin.get w.open_files fd ≡ None = get-lowest_unused w.open_files in
    let new : OpenFile = File number 0 (access_of flags) in
    let v : World = record w { open_files = fin.insert w.open_files fd new } in
    record {
      few_names = s.few_names;
      few_open_files = omega (arith, fin.len-insert nat_cmp_total w.open_files fd new ∙ ap (λ b. cond b (fin.len w.open_files) (fin.len w.open_files + 1)) (ap is_some free));
      small_stream1 = s.small_stream1;
      small_stream2 = s.small_stream2;
      small_files = s.small_files;
      small_total = s.small_total;
      good_names = s.good_names;
      held = s.held;
      named_once = s.named_once;
      good_open_files = λ other open_file e. elim (insert_cases w.open_files fd new other open_file e) as (λ _. (other < most_descriptors) × IsHeldOpenFile v other open_file) [
        | inl same ↦ subst (λ (x : OpenFile). (other < most_descriptors) × IsHeldOpenFile v other x) same.1 (omega (arith, lowest_unused-le-len w.open_files), (held, omega arith))
        | inr before ↦ ((s.good_open_files other open_file before.1).0, open_file_kept w v other open_file (λ n of h. h) (s.good_open_files other open_file before.1).1)
      ];
      used = λ n h. or_cases (is_named w n) (is_open w n) (s.used n h)
          (λ named. or_left (is_named w n) _ named)
          (λ opened_by. or_right (is_named w n) _ (let by = open_file_of w n opened_by in
          open_by v by.0 by.1 n (there w.open_files fd new by.0 (λ k. none-some by.1 (sym free ∙ ap (fin.get w.open_files) (sym k) ∙ by.2)) ∙ by.2) by.3));
      low_numbers = s.low_numbers;
    }

-- a file offset moves
pub set_file_offset-kept : (w : World) (fd number file_offset : ℕ) (access : Access) (to : ℕ) → IsKept w → fin.get w.open_files fd ≡ Some (File number file_offset access) → to < 2 ^ 63 → IsKept (record w { open_files = fin.insert w.open_files fd (File number to access) })
set_file_offset-kept w fd number file_offset access to s at small =
    let new : OpenFile = File number to access in
    let v : World = record w { open_files = fin.insert w.open_files fd new } in
    let good : (fd < most_descriptors) × IsHeldOpenFile w fd (File number file_offset access) = s.good_open_files fd (File number file_offset access) at in
    record {
      few_names = s.few_names;
      few_open_files = omega (arith, fin.len-insert nat_cmp_total w.open_files fd new ∙ ap (λ b. cond b (fin.len w.open_files) (fin.len w.open_files + 1)) (ap is_some at), s.few_open_files);
      small_stream1 = s.small_stream1;
      small_stream2 = s.small_stream2;
      small_files = s.small_files;
      small_total = s.small_total;
      good_names = s.good_names;
      held = s.held;
      named_once = s.named_once;
      good_open_files = λ other open_file e. elim (insert_cases w.open_files fd new other open_file e) as (λ _. (other < most_descriptors) × IsHeldOpenFile v other open_file) [
        | inl same ↦ subst (λ (x : OpenFile). (other < most_descriptors) × IsHeldOpenFile v other x) same.1 (omega (arith, good.0), (good.1.0, small))
        | inr before ↦ ((s.good_open_files other open_file before.1).0, open_file_kept w v other open_file (λ n of h. h) (s.good_open_files other open_file before.1).1)
      ];
      used = λ n h. or_cases (is_named w n) (is_open w n) (s.used n h)
          (λ named. or_left (is_named w n) _ named)
          (λ opened_by. or_right (is_named w n) _ (let by = open_file_of w n opened_by in by_eq by.0 fd
          (λ k. open_by v fd new n (here w.open_files fd new) (ap (is_of n) (same_Some (File number file_offset access) by.1 (sym at ∙ ap (fin.get w.open_files) (sym k) ∙ by.2)) ∙ by.3))
          (λ ne. open_by v by.0 by.1 n (there w.open_files fd new by.0 ne ∙ by.2) by.3)));
      low_numbers = s.low_numbers;
    }

-- bytes more in a stream
pub stream1-kept : (w : World) (bytes : List ℕ) → IsKept w → length w.stream1 + length bytes ≤ most_content → total w + length bytes ≤ most_total → IsKept (record w { stream1 = w.stream1 ++ bytes })
stream1-kept w bytes s small capacity = record {
  few_names = s.few_names;
  few_open_files = s.few_open_files;
  small_stream1 = omega (arith, length-append w.stream1 bytes);
  small_stream2 = s.small_stream2;
  small_files = s.small_files;
  small_total = omega (arith, length-append w.stream1 bytes);
  good_names = s.good_names;
  held = s.held;
  named_once = s.named_once;
  good_open_files = λ fd open_file e. ((s.good_open_files fd open_file e).0, open_file_kept w (record w { stream1 = w.stream1 ++ bytes }) fd open_file (λ n of h. h) (s.good_open_files fd open_file e).1);
  used = s.used;
  low_numbers = s.low_numbers;
}

pub stream2-kept : (w : World) (bytes : List ℕ) → IsKept w → length w.stream2 + length bytes ≤ most_content → total w + length bytes ≤ most_total → IsKept (record w { stream2 = w.stream2 ++ bytes })
stream2-kept w bytes s small capacity = record {
  few_names = s.few_names;
  few_open_files = s.few_open_files;
  small_stream1 = s.small_stream1;
  small_stream2 = omega (arith, length-append w.stream2 bytes);
  small_files = s.small_files;
  small_total = omega (arith, length-append w.stream2 bytes);
  good_names = s.good_names;
  held = s.held;
  named_once = s.named_once;
  good_open_files = λ fd open_file e. ((s.good_open_files fd open_file e).0, open_file_kept w (record w { stream2 = w.stream2 ++ bytes }) fd open_file (λ n of h. h) (s.good_open_files fd open_file e).1);
  used = s.used;
  low_numbers = s.low_numbers;
}

-- a file has few bytes
pub content_small : (w : World) (number : ℕ) → IsKept w → length (content_of w number) ≤ most_content
content_small w number s = elim (fin.get w.files number) as (λ o. fin.get w.files number ≡ o → length (unwrap_or o []) ≤ most_content) [
  | None ↦ λ _. omega arith
  | Some content ↦ λ e. s.small_files number content e
] refl

-- a write to an open file
pub with_content-kept : (w : World) (fd number file_offset : ℕ) (access : Access) (bytes : List ℕ) (offset : ℕ) → IsKept w → fin.get w.open_files fd ≡ Some (File number file_offset access) → offset + length bytes ≤ most_content
    → total w + (offset + length bytes - length (content_of w number)) ≤ most_total → IsKept (with_content w fd number access bytes offset)
with_content-kept w fd number file_offset access bytes offset s at small capacity =
    let held : IsSome (fin.get w.files number) = (s.good_open_files fd (File number file_offset access) at).1.0 in
    let old = content_small w number s in
    let after : World = record w { files = fin.insert w.files number (written_over (content_of w number) offset bytes) } in
    let long = length-written_over (content_of w number) offset bytes in
    set_file_offset-kept after fd number file_offset access (offset + length bytes)
    (set_content-kept w number (written_over (content_of w number) offset bytes) s held (omega (arith, old)) (omega (arith, s.small_total))) at (omega arith)

-- no files, and three descriptors
pub first-kept : IsKept first_world
first-kept = record {
  few_names = omega (arith, fin.len-empty bytes_cmp ℕ);
  few_open_files = omega (arith, three);
  small_stream1 = omega arith;
  small_stream2 = omega arith;
  small_files = λ n content e. absurd (none-some content (sym (fin.get-empty nat_cmp n) ∙ e));
  small_total = omega (arith, no_bytes);
  good_names = λ name n e. absurd (none-some n (sym (fin.get-empty bytes_cmp name) ∙ e));
  held = λ name n e. absurd (none-some n (sym (fin.get-empty bytes_cmp name) ∙ e));
  named_once = λ name other n e f. absurd (none-some n (sym (fin.get-empty bytes_cmp name) ∙ e));
  good_open_files = λ fd open_file e.
      let at : ((number : ℕ) (s : OpenFile) → fd ≡ number → number < 3 → IsHeldOpenFile first_world number s → s ≡ open_file → (fd < most_descriptors) × IsHeldOpenFile first_world fd open_file) =
      λ number s k few good same. (omega arith, subst (λ (x : OpenFile). IsHeldOpenFile first_world fd x) same (subst (λ n. IsHeldOpenFile first_world n s) (sym k) good)) in
      elim (insert_cases (fin.insert (fin.insert fin.empty 2 Stream2) 1 Stream1) 0 Input fd open_file e) as (λ _. (fd < most_descriptors) × IsHeldOpenFile first_world fd open_file) [
        | inl zero_th ↦ at 0 Input zero_th.0 (omega arith) refl zero_th.1
        | inr more ↦ elim (insert_cases (fin.insert fin.empty 2 Stream2) 1 Stream1 fd open_file more.1) as (λ _. (fd < most_descriptors) × IsHeldOpenFile first_world fd open_file) [
          | inl first ↦ at 1 Stream1 first.0 (omega arith) refl first.1
          | inr again ↦ elim (insert_cases fin.empty 2 Stream2 fd open_file again.1) as (λ _. (fd < most_descriptors) × IsHeldOpenFile first_world fd open_file) [
            | inl second ↦ at 2 Stream2 second.0 (omega arith) refl second.1
            | inr none ↦ absurd (none-some open_file (sym (fin.get-empty nat_cmp fd) ∙ none.1))
          ]
        ]
      ];
  used = λ n h. absurd (false≢true (sym (ap is_some (fin.get-empty nat_cmp n)) ∙ h));
  low_numbers = λ n h. absurd (false≢true (sym (ap is_some (fin.get-empty nat_cmp n)) ∙ h));
}

-- each call
pub opened-kept : (w : World) (name : List ℕ) (flags : ℕ) → IsKept w → IsTrue (is_stripped_name name) → IsKept (opened w name flags).1
opened-kept w name flags s good =
    elim (eqb (bit_and flags o_accmode) o_accmode) as (λ b. IsKept (cond b (Err einval, w) (if nat_le most_descriptors (fin.len w.open_files) then (Err emfile, w) else opened_at w name flags (fin.get w.names name))).1) [
      | true ↦ s
      | false ↦ elim (nat_le most_descriptors (fin.len w.open_files)) as (λ b. nat_le most_descriptors (fin.len w.open_files) ≡ b → IsKept (cond b (Err emfile, w) (opened_at w name flags (fin.get w.names name))).1) [
        | true ↦ λ _. s
        | false ↦ λ e. at_name (let few : fin.len w.open_files < most_descriptors = (grind (arith, nat_tests)) in few) (fin.get w.names name) refl
      ] refl
    ]
  where
    emptied : (number : ℕ) → IsSome (fin.get w.files number) → (b : Bool) → IsKept (emptied_if b w number) × IsSome (fin.get (emptied_if b w number).files number) × (fin.len (emptied_if b w number).open_files ≡ fin.len w.open_files)
    emptied number held true = (set_content-kept w number [] s held (omega arith) (omega (arith, s.small_total)), insert_some w.files number [] number held, refl)
    emptied number held false = (s, held, refl)

    at_name : fin.len w.open_files < most_descriptors → (o : Option ℕ) → fin.get w.names name ≡ o → IsKept (opened_at w name flags o).1
    at_name few (Some number) e =
        elim (has flags o_creat && has flags o_excl) as (λ b. IsKept (cond b (Err eexist, w) (with_descriptor (emptied_if (has flags o_trunc) w number) number flags)).1) [
          | true ↦ s
          | false ↦ let there = emptied number (s.held name number e) (has flags o_trunc) in with_descriptor-kept (emptied_if (has flags o_trunc) w number) number flags there.0 there.1 (omega (arith, there.2))
        ]
    at_name few None e =
        elim (not (has flags o_creat)) as (λ b. IsKept (cond b (Err enoent, w) (if nat_le most_names (fin.len w.names) then (Err enospc, w) else with_descriptor (with_file w name []) (lowest_unused w.files) flags)).1) [
          | true ↦ s
          | false ↦ elim (nat_le most_names (fin.len w.names)) as (λ b. nat_le most_names (fin.len w.names) ≡ b → IsKept (cond b (Err enospc, w) (with_descriptor (with_file w name []) (lowest_unused w.files) flags)).1) [
            | true ↦ λ _. s
            | false ↦ λ n.
                let names : fin.len w.names < most_names = (grind (arith, nat_tests)) in
                with_descriptor-kept (with_file w name []) (lowest_unused w.files) flags
                (with_file-kept w name [] s good e names (omega (arith, lowest_number-le w s)) (omega arith) (omega (arith, s.small_total)))
                (is_some_of [] (here w.files (lowest_unused w.files) [])) few
          ] refl
        ]

pub sought-kept : (w : World) (fd : ℕ) (offset : ℤ) (whence : ℕ) → IsKept w → IsKept (sought w fd offset whence).1
sought-kept w fd offset whence s = at_open_file (fin.get w.open_files fd) refl
  where
    small : (z : ℤ) (to : ℕ) → as_file_offset z ≡ Some to → to < 2 ^ 63
    small (negsuc n) to e = absurd (none-some to e)
    small (pos n) to e = elim (nat_lt n (2 ^ 63)) as (λ b. nat_lt n (2 ^ 63) ≡ b → cond b (Some n) None ≡ Some to → to < 2 ^ 63) [
      | true ↦ λ t f. let same = same_Some n to f in let less : n < 2 ^ 63 = (grind (arith, nat_tests)) in omega arith
      | false ↦ λ _ f. absurd (none-some to f)
    ] refl e

    at_file_offset : (number file_offset : ℕ) (access : Access) → fin.get w.open_files fd ≡ Some (File number file_offset access) → (o : Option ℕ) → ((to : ℕ) → o ≡ Some to → to < 2 ^ 63) → IsKept (with_file_offset w fd number access o).1
    at_file_offset number file_offset access at None h = s
    at_file_offset number file_offset access at (Some to) h = set_file_offset-kept w fd number file_offset access to s at (h to refl)

    from_base : (o : Option ℕ) (to : ℕ) → option_and_then (λ base. as_file_offset (pos base +ℤ offset)) o ≡ Some to → to < 2 ^ 63
    from_base None to e = absurd (none-some to e)
    from_base (Some base) to e = small (pos base +ℤ offset) to e

    at_open_file : (o : Option OpenFile) → fin.get w.open_files fd ≡ o → IsKept (sought_at w fd offset whence o).1
    at_open_file None e = s
    at_open_file (Some Input) e = s
    at_open_file (Some Stream1) e = s
    at_open_file (Some Stream2) e = s
    at_open_file (Some (File number file_offset access)) e = at_file_offset number file_offset access e _ (from_base (seek_base whence file_offset (length (content_of w number))))

-- a file offset that rises by what was read
skip_small : (content : List ℕ) (file_offset count : ℕ) → length (take count (drop file_offset content)) ≡ count → length content ≤ most_content → file_offset < 2 ^ 63 → file_offset + count < 2 ^ 63
skip_small content file_offset count read few small = omega (arith, length-take count (drop file_offset content), length-drop file_offset content)

pub skipped-kept : (w : World) (fd count : ℕ) → IsKept w → IsOkAnd (ready w fd count) (λ bytes. length bytes ≡ count) → IsKept (skipped w fd count)
skipped-kept w fd count s read = at_open_file (fin.get w.open_files fd) refl read
  where
    at_open_file : (o : Option OpenFile) → fin.get w.open_files fd ≡ o → IsOkAnd (ready_at w count o) (λ bytes. length bytes ≡ count) → IsKept (skipped_at w fd count o)
    at_open_file None e h = s
    at_open_file (Some Input) e h = s
    at_open_file (Some Stream1) e h = s
    at_open_file (Some Stream2) e h = s
    at_open_file (Some (File number file_offset access)) e h = set_file_offset-kept w fd number file_offset access (file_offset + count) s e (
        elim (is_read access) as (λ b. IsOkAnd (cond b (Ok (take count (drop file_offset (content_of w number)))) (Err ebadf)) (λ bytes. length bytes ≡ count) → file_offset + count < 2 ^ 63) [
          | true ↦ λ l. skip_small (content_of w number) file_offset count l (content_small w number s) (s.good_open_files fd (File number file_offset access) e).1.1
          | false ↦ λ l. absurd l
        ] h)

-- what fits stays within the limits
pub within_limits : (w : World) (count len offset : ℕ) (done : Unit {0}) → fits_at w count (Some (len, offset)) ≡ Ok done → count ≢ 0 → (offset + count ≤ most_content) × (total w + (offset + count - len) ≤ most_total)
within_limits w count len offset done e some =
    elim (eqb count 0) as (λ b. eqb count 0 ≡ b → cond b (Ok tt) (if nat_lt most_content (offset + count) then Err efbig else (if nat_lt most_total (total w + (offset + count - len)) then Err enospc else Ok tt)) ≡ Ok done
    → (offset + count ≤ most_content) × (total w + (offset + count - len) ≤ most_total)) [
      | true ↦ λ zero_count _. absurd (some (eqb-true count 0 zero_count))
      | false ↦ λ _ f. elim (nat_lt most_content (offset + count)) as (λ b. nat_lt most_content (offset + count) ≡ b → cond b (Err efbig) (if nat_lt most_total (total w + (offset + count - len)) then Err enospc else Ok tt) ≡ Ok done
          → (offset + count ≤ most_content) × (total w + (offset + count - len) ≤ most_total)) [
            | true ↦ λ _ g. absurd (cc)
            | false ↦ λ small g. elim (nat_lt most_total (total w + (offset + count - len))) as (λ b. nat_lt most_total (total w + (offset + count - len)) ≡ b → cond b (Err enospc) (Ok tt) ≡ Ok done
                → (offset + count ≤ most_content) × (total w + (offset + count - len) ≤ most_total)) [
                  | true ↦ λ _ h. absurd (cc)
                  | false ↦ λ capacity _. (omega (arith, ltb-false most_content (offset + count) small), omega (arith, ltb-false most_total (total w + (offset + count - len)) capacity))
                ] refl g
          ] refl f
    ] refl e

-- where a write to a file fits
pub file_limits : (w : World) (fd number file_offset : ℕ) (access : Access) (count : ℕ) (done : Unit {0}) → fin.get w.open_files fd ≡ Some (File number file_offset access) → fits w fd count ≡ Ok done → count ≢ 0
    → (write_file_offset access (length (content_of w number)) file_offset + count ≤ most_content) × (total w + (write_file_offset access (length (content_of w number)) file_offset + count - length (content_of w number)) ≤ most_total)
file_limits w fd number file_offset access count done at fit some =
    let offset : ℕ = write_file_offset access (length (content_of w number)) file_offset in
    elim (is_written access) as (λ b. fits_at w count (cond b (Some (length (content_of w number), offset)) None) ≡ Ok done → (offset + count ≤ most_content) × (total w + (offset + count - length (content_of w number)) ≤ most_total)) [
      | true ↦ λ g. within_limits w count (length (content_of w number)) offset done g some
      | false ↦ λ g. absurd (cc)
    ] (ap (λ o. fits_at w count (write_offset w o)) (sym at) ∙ fit)

pub filled-kept : (w : World) (fd : ℕ) (bytes : List ℕ) (done : Unit {0}) → IsKept w → fits w fd (length bytes) ≡ Ok done → length bytes ≢ 0 → IsKept (filled w fd bytes (fin.get w.open_files fd))
filled-kept w fd bytes done s fit some = at_open_file (fin.get w.open_files fd) refl fit
  where
    at_open_file : (o : Option OpenFile) → fin.get w.open_files fd ≡ o → fits_at w (length bytes) (write_offset w o) ≡ Ok done → IsKept (filled w fd bytes o)
    at_open_file None e f = s
    at_open_file (Some Input) e f = s
    at_open_file (Some Stream1) e f = let l = within_limits w (length bytes) (length w.stream1) (length w.stream1) done f some in stream1-kept w bytes s (omega (arith, l.0)) (omega (arith, l.1))
    at_open_file (Some Stream2) e f = let l = within_limits w (length bytes) (length w.stream2) (length w.stream2) done f some in stream2-kept w bytes s (omega (arith, l.0)) (omega (arith, l.1))
    at_open_file (Some (File number file_offset access)) e f =
        let l = file_limits w fd number file_offset access (length bytes) done e fit some in
        with_content-kept w fd number file_offset access bytes (write_file_offset access (length (content_of w number)) file_offset) s e l.0 l.1

pub written-kept : (w : World) (fd : ℕ) (bytes : List ℕ) → IsKept w → IsKept (written w fd bytes).1
written-kept w fd bytes s = at_fit (fits w fd (length bytes)) refl
  where
    at_fit : (r : Result (Unit {0}) ℕ) → fits w fd (length bytes) ≡ r → IsKept (written_if w fd bytes r).1
    at_fit (Err errno) e = s
    at_fit (Ok done) e = elim (eqb (length bytes) 0) as (λ b. eqb (length bytes) 0 ≡ b → IsKept (cond b w (filled w fd bytes (fin.get w.open_files fd)))) [
      | true ↦ λ _. s
      | false ↦ λ f. filled-kept w fd bytes done s e (λ zero_len. false≢true (sym f ∙ eq-eqb (length bytes) 0 zero_len))
    ] refl

-- where a new file passes no limit
pub not_full : (w : World) (len : ℕ) → is_full w len ≡ false → (len ≤ most_content) × (total w + len ≤ most_total) × (fin.len w.names < most_names)
not_full w len capacity =
    let first = neither (nat_lt most_content len || nat_lt most_total (total w + len)) (nat_le most_names (fin.len w.names)) capacity in
    let second = neither (nat_lt most_content len) (nat_lt most_total (total w + len)) first.0 in
    (omega (arith, ltb-false most_content len second.0), omega (arith, ltb-false most_total (total w + len) second.1), omega (arith, leb-false most_names (fin.len w.names) first.1))

-- a stripped name doesn't begin with `./`
pub stripped-is : (name : List ℕ) → begins_with_dot_slash (stripped name) ≡ false
stripped-is [] = refl
stripped-is (a ∷ []) = refl
stripped-is (a ∷ (b ∷ rest)) = elim (eqb a 46 && eqb b 47) as (λ t. (eqb a 46 && eqb b 47) ≡ t → begins_with_dot_slash (cond t (stripped rest) (a ∷ (b ∷ rest))) ≡ false) [
  | true ↦ λ _. stripped-is rest
  | false ↦ λ f. f
] refl

abbrev Placing : Type 0
Placing = Result (Unit {0}) PlaceRefusal × World

pub placed-kept : (w : World) (name content : List ℕ) → IsKept w → IsKept (placed w name content).1
placed-kept w name content s =
    let rest : List ℕ = stripped name in
    elim (is_file_name rest) as (λ b. is_file_name rest ≡ b → IsKept (cond {A = Placing} (not b) (Err BadName, w) (if fin.contains_key w.names rest then (Err Twice, w) else (if is_full w (length content) then (Err Full, w) else (Ok tt, with_file w rest content)))).1) [
      | false ↦ λ _. s
      | true ↦ λ good. elim (fin.get w.names rest) as (λ o. fin.get w.names rest ≡ o → IsKept (cond {A = Placing} (is_some o) (Err Twice, w) (if is_full w (length content) then (Err Full, w) else (Ok tt, with_file w rest content))).1) [
        | Some number ↦ λ _. s
        | None ↦ λ absent. elim (is_full w (length content)) as (λ b. is_full w (length content) ≡ b → IsKept (cond {A = Placing} b (Err Full, w) (Ok tt, with_file w rest content)).1) [
          | true ↦ λ _. s
          | false ↦ λ capacity. let l = not_full w (length content) capacity in
              with_file-kept w rest content s (good_name good) absent l.2 (omega (arith, lowest_number-le w s, s.few_open_files, l.2)) l.0 l.1
        ] refl
      ] refl
    ] refl
  where
    good_name : is_file_name (stripped name) ≡ true → IsTrue (is_stripped_name (stripped name))
    good_name h = ap (λ b. b && not (begins_with_dot_slash (stripped name))) h ∙ ap not (stripped-is name)

-- a descriptor's file stays when the descriptor goes
pub has_file : (w : World) (fd : ℕ) (open_file : OpenFile) → IsKept w → Some open_file ≡ fin.get w.open_files fd → HasFile (record w { open_files = fin.remove w.open_files fd }) open_file
has_file w fd Input s e = tt
has_file w fd Stream1 s e = tt
has_file w fd Stream2 s e = tt
has_file w fd (File number file_offset access) s e = (s.good_open_files fd (File number file_offset access) (sym e)).1.0

-- what an offset counts from
pub base_small : (whence file_offset len base : ℕ) → file_offset < 2 ^ 63 → len < 2 ^ 63 → Some base ≡ seek_base whence file_offset len → base < 2 ^ 63
base_small whence file_offset len base c l e =
    elim (eqb whence seek_set) as (λ b. Some base ≡ cond b (Some 0) (if whence == seek_cur then Some file_offset else (if whence == seek_end then Some len else None)) → base < 2 ^ 63) [
      | true ↦ λ f. omega (arith, same_Some base 0 f)
      | false ↦ λ f. elim (eqb whence seek_cur) as (λ b. Some base ≡ cond b (Some file_offset) (if whence == seek_end then Some len else None) → base < 2 ^ 63) [
        | true ↦ λ g. omega (arith, same_Some base file_offset g)
        | false ↦ λ g. elim (eqb whence seek_end) as (λ b. Some base ≡ cond b (Some len) None → base < 2 ^ 63) [
          | true ↦ λ h. omega (arith, same_Some base len h)
          | false ↦ λ h. absurd (none-some base (sym h))
        ] g
      ] f
    ] e
