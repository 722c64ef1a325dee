-- The bare table, and the first three descriptors.
use Rattle.std.proofs.Common.{◌≡◌, ℕ, ◌+◌, sum_by, map, Bool, false, List, [], ◌∷◌, length, get_or, replicate, None, Some, refl, sym, ap, ◌∙◌, arith, rules}
use Rattle.std.proofs.lemmas.Option.{none-some}
use Rattle.std.specs.Ordering.{nat_cmp}
use Rattle.std.specs.FinMap as fin
use Rattle.std.proofs.lemmas.List.{length-replicate}
use Rattle.mem_files.specs.declared.open_file.OpenFile.{OpenFile}
use Rattle.mem_files.specs.declared.open_file.OpenFile.TheVariants.{Input, Stream1, Stream2}
use Rattle.mem_files.specs.Names.{bytes_cmp}
use Rattle.mem_files.specs.Calls.{bare_world, first_world}
use Rattle.mem_files.specs.Inside.Cells.{map_of}
use Rattle.mem_files.specs.World.{total}
use Rattle.mem_files.specs.Inside.FileTable.{Parts, world_of, IsConsistent}
use Rattle.mem_files.proofs.Tournament.{unmarked}
use Rattle.mem_files.proofs.Directory.{same_name_map}

abbrev pub bare_parts : List Bool → List Bool → Parts
bare_parts used_files used_open_files = record {
  names = [];
  files = [];
  used_files = used_files;
  open_files = [];
  used_open_files = used_open_files;
  open_file_count = 0;
  open_counts = [];
  stream1 = [];
  stream2 = [];
  total = 0;
}

names_empty : ◌≡◌ {A = fin.FinMap bytes_cmp ℕ} (fin.from_sorted []) fin.empty
names_empty = same_name_map _ _ (λ q. fin.get-from_sorted bytes_cmp [] q tt ∙ sym (fin.get-empty bytes_cmp q))

pub bare_parts-world : (used_files used_open_files : List Bool) → world_of (bare_parts used_files used_open_files) ≡ bare_world
bare_parts-world used_files used_open_files = ap (λ m. record bare_world { names = m }) names_empty

nil : {A : Type 0} (l : List A) → length l ≡ 0 → l ≡ []
nil [] h = refl
nil (x ∷ l) h = absurd (omega arith)

no_files : fin.entries (fin.empty {X = List ℕ} {R = nat_cmp}) ≡ []
no_files = nil _ (sym (fin.len-entries fin.empty) ∙ fin.len-empty nat_cmp (List ℕ))

pub no_bytes : total first_world ≡ 0
no_bytes = ap (λ es. 0 + 0 + sum_by length (map (λ e. e.1) es)) no_files

pub three : fin.len (map_of (Some Input ∷ Some Stream1 ∷ Some Stream2 ∷ [])) ≡ 3
three = grind (fin.gets, rules)

pub bare_parts-consistent : (used_files used_open_files : List Bool) → used_files ≡ replicate 8192 false → used_open_files ≡ replicate 1024 false → IsConsistent (bare_parts used_files used_open_files)
bare_parts-consistent used_files used_open_files no_numbers no_open_files = record {
  sorted = refl;
  short = λ name number e. absurd (none-some number (sym (fin.get-from_sorted bytes_cmp [] name tt) ∙ e));
  open_files_fit = record {
    few = omega arith;
    enough = ap length no_open_files ∙ length-replicate {A = Bool} 1024 false;
    uses = λ number. ap (λ l. get_or l number false) no_open_files ∙ unmarked 1024 number;
    counted = sym (fin.len-empty nat_cmp OpenFile);
    opens = λ number. refl;
  };
  few_files = omega arith;
  enough_files = ap length no_numbers ∙ length-replicate {A = Bool} 8192 false;
  files_used = λ number. ap (λ l. get_or l number false) no_numbers ∙ unmarked 8192 number;
  bytes_counted = sym no_bytes;
  found = λ name number e. absurd (none-some number (sym (fin.get-from_sorted bytes_cmp [] name tt) ∙ e));
  holds = λ number name e. absurd (none-some name e);
}

-- the first descriptors, put one before the other
pub first_unused : fin.get (fin.empty {X = OpenFile} {R = nat_cmp}) 2 ≡ None
first_unused = fin.get-empty nat_cmp 2

pub second_unused : fin.get (fin.insert {R = nat_cmp} fin.empty 2 Stream2) 1 ≡ None
second_unused = grind (fin.gets, rules)

pub third_unused : fin.get (fin.insert (fin.insert {R = nat_cmp} fin.empty 2 Stream2) 1 Stream1) 0 ≡ None
third_unused = grind (fin.gets, rules)
