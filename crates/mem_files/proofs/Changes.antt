-- What each change of a table does to its world, and that the table stays consistent.
use Rattle.std.proofs.Common.{◌≡◌, ◌≢◌, ℕ, zero, suc, ◌+◌, ◌-◌, ◌<◌, ◌≤◌, Bool, true, false, cond, not, eqb, T, List, [], ◌∷◌, length, max, take, get_or, set, map, Option, Some, None, Result, Ok, Err, IsSome, is_some, unwrap_or, refl, sym, ap, ◌∙◌, subst, arith, inl, inr, eq-eqb, eqb-true}
use Rattle.std.specs.Result.{OnErr}
use Rattle.std.proofs.lemmas.List.{take_all, length-set, get_or_past, get_or-set_same, get_or-set_other, map-set, length-map}
use Rattle.std.proofs.lemmas.Bool.{cases_lt, false≢true}
use Rattle.std.proofs.Math.Seq.{map-set_same}
use Rattle.std.proofs.lemmas.Bool.Decides.{nat_tests}
use Rattle.std.proofs.lemmas.Option.{none-some, same_Some}
use Rattle.std.specs.Cmp.{nat_cmp_total, tied_itself}
use Rattle.std.specs.Cmp.Lexicographic.{nat_list_cmp_total}
use Rattle.std.specs.Ordering.{eq_by_cmp, is_eq, nat_cmp}
use Rattle.std.specs.FinMap as fin
use Rattle.std.specs.FinMap.Entries.{is_sorted-put, is_sorted-where_key, where_key}
use Rattle.mem_files.specs.declared.open_file.OpenFile.{OpenFile}
use Rattle.mem_files.specs.declared.stored.Stored.{Stored}
use Rattle.ddc_base.specs.Limits.{most_descriptors, most_names, most_name}
use Rattle.mem_files.specs.Names.{bytes_cmp}
use Rattle.mem_files.specs.World.{World, total, content_of, is_of, is_named, is_open, lowest_unused}
use Rattle.mem_files.specs.Inside.Cells.{map_of, SameCells}
use Rattle.mem_files.specs.Inside.Counts.{opens_in}
use Rattle.mem_files.specs.Inside.FileTable.{Parts, world_of, Uses, AreOpenFiles, IsConsistent}
use Rattle.mem_files.specs.Inside.Stored.{content_in, name_in}
use Rattle.mem_files.proofs.Maps.{lowest_unused-is, any_at, key_of_any}
use Rattle.mem_files.proofs.Counting.{any_opens, opens_few, opens_same, opens_set}
use Rattle.mem_files.proofs.Keeping.{by_eq}
use Rattle.mem_files.proofs.Totals.{total-insert, total-remove}
use Rattle.mem_files.proofs.CellMaps.{get-map_of, map_of-fill, map_of-empty, map_of-same, at_set, any-map_of}
use Rattle.mem_files.proofs.Directory.{from_sorted-put, from_sorted-where_key, len-from_sorted, bytes_cmp-IsAntisymmetric, equal}

-- a short name is a key as a whole
pub whole_key : (name key : List ℕ) → length name ≤ most_name → key ≡ take most_name name → key ≡ name
whole_key name key short is = is ∙ take_all most_name name short

-- what holds anyway holds on an error
pub on_err : {T E P : Type 0} (r : Result T E) → P → OnErr r P
on_err (Ok x) h = tt
on_err (Err e) h = h

-- a full cell is there
pub within : {X : Type 0} (cells : List (Option X)) (k : ℕ) → IsSome (get_or cells k None) → k < length cells
within cells k full = elim (cases_lt k (length cells)) as (λ _. k < length cells) [
  | inl h ↦ h
  | inr h ↦ absurd (false≢true (sym (ap is_some (get_or_past cells k None h)) ∙ full))
]

-- the cell of a file, as the world sees it
at_map : {X Y : Type 0} (f : Option X → Option Y) → f None ≡ None → (cells : List (Option X)) (k : ℕ) → get_or (map f cells) k None ≡ f (get_or cells k None)
at_map f none [] k = sym none
at_map f none (c ∷ cells) zero = refl
at_map f none (c ∷ cells) (suc k) = at_map f none cells k

pub get-file : (p : Parts) (number : ℕ) → fin.get (world_of p).files number ≡ content_in (get_or p.files number None)
get-file p number = get-map_of (map content_in p.files) number ∙ at_map content_in refl p.files number

full_from_content : (cell : Option Stored) → IsSome (content_in cell) → IsSome cell
full_from_content None h = h
full_from_content (Some file) h = refl

content_full : (cell : Option Stored) → IsSome cell → IsSome (content_in cell)
content_full None h = h
content_full (Some file) h = refl

named_full : (cell : Option Stored) (name : List ℕ) → name_in cell ≡ Some name → IsSome cell
named_full None name h = absurd (none-some name h)
named_full (Some file) name h = refl

-- a cell gets another file with the same name, or none
name_kept : (cells : List (Option Stored)) (at : ℕ) (cell : Option Stored) → at < length cells → name_in cell ≡ name_in (get_or cells at None) → (q : ℕ) → name_in (get_or (set cells at cell) q None) ≡ name_in (get_or cells q None)
name_kept cells at cell h same q =
    ap name_in (at_set cells at q cell h)
    ∙ elim (eqb q at) as (λ b. eqb q at ≡ b → name_in (cond b cell (get_or cells q None)) ≡ name_in (get_or cells q None)) [
      | true ↦ λ e. let is : q ≡ at = (grind (arith, nat_tests)) in same ∙ ap (λ k. name_in (get_or cells k None)) (sym is)
      | false ↦ λ _. refl
    ] refl

is_some-content : (cell : Option Stored) → is_some (content_in cell) ≡ is_some cell
is_some-content None = refl
is_some-content (Some file) = refl

alike_by_content : (one other : Option Stored) → content_in one ≡ content_in other → is_some one ≡ is_some other
alike_by_content one other same = sym (is_some-content one) ∙ ap is_some same ∙ is_some-content other

is_none : {X : Type 0} (o : Option X) → is_some o ≡ false → o ≡ None
is_none None h = refl
is_none (Some x) h = absurd (false≢true (sym h))

-- a number whose cell is written
pub uses_set : {X : Type 0} (used : List Bool) (cells : List (Option X)) (at : ℕ) (value : Bool) (cell : Option X) → Uses used cells → at < length cells → at < length used → value ≡ is_some cell → Uses (set used at value) (set cells at cell)
uses_set used cells at value cell uses inside within same = λ q.
    by_eq q at
    (λ here. ap (λ k. get_or (set used at value) k false) here ∙ get_or-set_same used at value false within ∙ same ∙ sym (ap is_some (ap (λ k. get_or (set cells at cell) k None) here ∙ get_or-set_same cells at cell None inside)))
    (λ apart. get_or-set_other used at q value false apart ∙ uses q ∙ ap is_some (sym (get_or-set_other cells at q cell None apart)))

uses_same : {X : Type 0} (used : List Bool) (cells : List (Option X)) (at : ℕ) (cell : Option X) → Uses used cells → at < length cells → is_some (get_or cells at None) ≡ is_some cell → Uses used (set cells at cell)
uses_same used cells at cell uses inside same = λ q.
    by_eq q at
    (λ here. uses q ∙ ap is_some (ap (λ k. get_or cells k None) here) ∙ same ∙ sym (ap is_some (ap (λ k. get_or (set cells at cell) k None) here ∙ get_or-set_same cells at cell None inside)))
    (λ apart. uses q ∙ ap is_some (sym (get_or-set_other cells at q cell None apart)))

empty_cell : (cell : Option Stored) → content_in cell ≡ None → name_in cell ≡ None
empty_cell None h = refl
empty_cell (Some file) h = absurd (none-some file.content.items (sym h))

is_true : (b : Bool) → T b → b ≡ true
is_true true h = refl
is_true false h = absurd h

-- names that tie are one name
tied : (q name : List ℕ) → eq_by_cmp bytes_cmp q name ≡ true → q ≡ name
tied q name tie = bytes_cmp-IsAntisymmetric q name (equal (bytes_cmp q name) tie)

ties : (q name : List ℕ) → q ≡ name → eq_by_cmp bytes_cmp q name ≡ true
ties q name same = ap (λ n. eq_by_cmp bytes_cmp n name) same ∙ ap is_eq (tied_itself nat_list_cmp_total name)

module _ (p : Parts) (w : World) (is : world_of p ≡ w) (ok : IsConsistent p) where
  pub in_order : T (fin.is_sorted bytes_cmp p.names)
  in_order = subst T (sym ok.sorted) tt

  pub open_file_within : (fd : ℕ) → IsSome (fin.get w.open_files fd) → fd < length p.open_files
  open_file_within fd held = within p.open_files fd (sym (ap is_some (get-map_of p.open_files fd)) ∙ subst (λ (v : World). IsSome (fin.get v.open_files fd)) (sym is) held)

  pub file_within : (number : ℕ) → IsSome (fin.get w.files number) → number < length p.files
  file_within number held = within p.files number (full_from_content _ (sym (ap is_some (get-file p number)) ∙ subst (λ (v : World). IsSome (fin.get v.files number)) (sym is) held))

  -- what is looked up
  pub file-is : (number : ℕ) → fin.get w.files number ≡ content_in (get_or p.files number None)
  file-is number = ap (λ (v : World). fin.get v.files number) (sym is) ∙ get-file p number

  pub open_file-is : (fd : ℕ) → fin.get w.open_files fd ≡ get_or p.open_files fd None
  open_file-is fd = ap (λ (v : World). fin.get v.open_files fd) (sym is) ∙ get-map_of p.open_files fd

  -- other cells of descriptors
  with_open_files : (open_files : List (Option OpenFile)) (used : List Bool) (count : ℕ) (opens : List ℕ) → AreOpenFiles open_files used count opens → IsConsistent (record p { open_files = open_files; used_open_files = used; open_file_count = count; open_counts = opens })
  with_open_files open_files used count opens fit = record {
    sorted = ok.sorted;
    short = ok.short;
    open_files_fit = fit;
    few_files = ok.few_files;
    enough_files = ok.enough_files;
    files_used = ok.files_used;
    bytes_counted = ok.bytes_counted;
    found = ok.found;
    holds = ok.holds;
  }

  -- a descriptor that is held stands for something else, of the same file
  pub set_open_file-consistent : (fd : ℕ) (open_file : OpenFile) → IsSome (fin.get w.open_files fd) → ((number : ℕ) → opens_in number (fin.get w.open_files fd) ≡ opens_in number (Some open_file)) → IsConsistent (record p { open_files = set p.open_files fd (Some open_file) })
  set_open_file-consistent fd open_file held same =
      let inside = open_file_within fd held in
      with_open_files (set p.open_files fd (Some open_file)) p.used_open_files p.open_file_count p.open_counts record {
        few = omega (arith, length-set p.open_files fd (Some open_file), ok.open_files_fit.few);
        enough = ok.open_files_fit.enough;
        uses = uses_same p.used_open_files p.open_files fd (Some open_file) ok.open_files_fit.uses inside (ap is_some (sym (open_file-is fd)) ∙ held);
        counted = ok.open_files_fit.counted ∙ sym (ap fin.len (map_of-fill p.open_files fd open_file inside) ∙ fin.len-insert nat_cmp_total (map_of p.open_files) fd open_file
            ∙ ap (λ b. cond b (fin.len (map_of p.open_files)) (fin.len (map_of p.open_files) + 1)) (subst (λ (v : World). IsSome (fin.get v.open_files fd)) (sym is) held));
        opens = λ number. omega (arith, ok.open_files_fit.opens number, opens_set number p.open_files fd (Some open_file) inside, ap (opens_in number) (open_file-is fd), same number);
      }

  pub set_open_file-world : (fd : ℕ) (open_file : OpenFile) → IsSome (fin.get w.open_files fd) → world_of (record p { open_files = set p.open_files fd (Some open_file) }) ≡ record w { open_files = fin.insert w.open_files fd open_file }
  set_open_file-world fd open_file held = ap (λ m. record (world_of p) { open_files = m }) (map_of-fill p.open_files fd open_file (open_file_within fd held)) ∙ ap (λ (v : World). record v { open_files = fin.insert v.open_files fd open_file }) is

  -- a descriptor that is held stands for nothing any more
  pub open_file_used : (fd : ℕ) → IsSome (fin.get w.open_files fd) → fd < length p.used_open_files
  open_file_used fd held = omega (arith, open_file_within fd held, ok.open_files_fit.few, ok.open_files_fit.enough)

  pub open_file_opens : (fd : ℕ) (cell : Option OpenFile) → IsSome (fin.get w.open_files fd) → cell ≡ get_or p.open_files fd None → (number : ℕ) → opens_in number cell ≤ get_or p.open_counts number 0
  open_file_opens fd cell held here number =
      omega (arith, ok.open_files_fit.opens number, opens_set number p.open_files fd None (open_file_within fd held), ap (opens_in number) here)

  pub clear_open_file-consistent : (fd : ℕ) (cell : Option OpenFile) → IsSome (fin.get w.open_files fd) → cell ≡ get_or p.open_files fd None → (used : List Bool) → used ≡ set p.used_open_files fd false
      → (opens : List ℕ) → ((number : ℕ) → get_or opens number 0 + opens_in number cell ≡ get_or p.open_counts number 0)
      → IsConsistent (record p { open_files = set p.open_files fd None; used_open_files = used; open_file_count = p.open_file_count - 1; open_counts = opens })
  clear_open_file-consistent fd cell held here used unused opens fewer =
      let inside = open_file_within fd held in
      with_open_files (set p.open_files fd None) used (p.open_file_count - 1) opens record {
        few = omega (arith, length-set p.open_files fd None, ok.open_files_fit.few);
        enough = ap length unused ∙ length-set p.used_open_files fd false ∙ ok.open_files_fit.enough;
        uses = subst (λ (l : List Bool). Uses l (set p.open_files fd None)) (sym unused) (uses_set p.used_open_files p.open_files fd false None ok.open_files_fit.uses inside (open_file_used fd held) refl);
        counted = ap (λ n. n - 1) ok.open_files_fit.counted ∙ sym (ap fin.len (map_of-empty p.open_files fd inside) ∙ fin.len-remove nat_cmp_total (map_of p.open_files) fd
            ∙ ap (λ b. cond b (fin.len (map_of p.open_files) - 1) (fin.len (map_of p.open_files))) (subst (λ (v : World). IsSome (fin.get v.open_files fd)) (sym is) held));
        opens = λ number. omega (arith, ok.open_files_fit.opens number, opens_set number p.open_files fd None inside, ap (opens_in number) here, fewer number);
      }

  pub clear_open_file-world : (fd : ℕ) → IsSome (fin.get w.open_files fd) → world_of (record p { open_files = set p.open_files fd None }) ≡ record w { open_files = fin.remove w.open_files fd }
  clear_open_file-world fd held = ap (λ m. record (world_of p) { open_files = m }) (map_of-empty p.open_files fd (open_file_within fd held)) ∙ ap (λ (v : World). record v { open_files = fin.remove v.open_files fd }) is

  -- empty cells more
  pub more_open_files-world : (cells : List (Option OpenFile)) → SameCells p.open_files cells → world_of (record p { open_files = cells }) ≡ w
  more_open_files-world cells same = ap (λ m. record (world_of p) { open_files = m }) (map_of-same p.open_files cells same) ∙ is

  pub more_open_files-consistent : (cells : List (Option OpenFile)) → SameCells p.open_files cells → length cells ≤ most_descriptors → IsConsistent (record p { open_files = cells })
  more_open_files-consistent cells same few = with_open_files cells p.used_open_files p.open_file_count p.open_counts record {
    few = few;
    enough = ok.open_files_fit.enough;
    uses = λ number. ok.open_files_fit.uses number ∙ ap is_some (sym (same number));
    counted = ok.open_files_fit.counted ∙ sym (ap fin.len (map_of-same p.open_files cells same));
    opens = λ number. ok.open_files_fit.opens number ∙ sym (opens_same number p.open_files cells same);
  }

  -- an unused descriptor with a cell stands for something
  pub add_open_file-consistent : (fd : ℕ) (open_file : OpenFile) → fd < length p.open_files → fin.get w.open_files fd ≡ None → (used : List Bool) → used ≡ set p.used_open_files fd true
      → (opens : List ℕ) → ((number : ℕ) → get_or opens number 0 ≡ get_or p.open_counts number 0 + opens_in number (Some open_file))
      → IsConsistent (record p { open_files = set p.open_files fd (Some open_file); used_open_files = used; open_file_count = p.open_file_count + 1; open_counts = opens })
  add_open_file-consistent fd open_file h unused used uses opens more = with_open_files (set p.open_files fd (Some open_file)) used (p.open_file_count + 1) opens record {
    few = omega (arith, length-set p.open_files fd (Some open_file), ok.open_files_fit.few);
    enough = ap length uses ∙ length-set p.used_open_files fd true ∙ ok.open_files_fit.enough;
    uses = subst (λ (l : List Bool). Uses l (set p.open_files fd (Some open_file))) (sym uses) (uses_set p.used_open_files p.open_files fd true (Some open_file) ok.open_files_fit.uses h (omega (arith, ok.open_files_fit.few, ok.open_files_fit.enough)) refl);
    counted = ap (λ n. n + 1) ok.open_files_fit.counted ∙ sym (ap fin.len (map_of-fill p.open_files fd open_file h) ∙ fin.len-insert nat_cmp_total (map_of p.open_files) fd open_file
        ∙ ap (λ b. cond b (fin.len (map_of p.open_files)) (fin.len (map_of p.open_files) + 1)) (ap is_some (subst (λ (v : World). fin.get v.open_files fd ≡ None) (sym is) unused)));
    opens = λ number. omega (arith, ok.open_files_fit.opens number, opens_set number p.open_files fd (Some open_file) h, ap (opens_in number) (sym (open_file-is fd) ∙ unused), more number);
  }

  pub add_open_file-world : (fd : ℕ) (open_file : OpenFile) → fd < length p.open_files → world_of (record p { open_files = set p.open_files fd (Some open_file) }) ≡ record w { open_files = fin.insert w.open_files fd open_file }
  add_open_file-world fd open_file h = ap (λ m. record (world_of p) { open_files = m }) (map_of-fill p.open_files fd open_file h) ∙ ap (λ (v : World). record v { open_files = fin.insert v.open_files fd open_file }) is

  pub opens_small : (number : ℕ) → get_or p.open_counts number 0 ≤ most_descriptors
  opens_small number = omega (arith, ok.open_files_fit.opens number, opens_few number p.open_files, ok.open_files_fit.few)

  pub open_files_some : (fd : ℕ) → IsSome (fin.get w.open_files fd) → 1 ≤ p.open_file_count
  open_files_some fd held =
      let there : IsSome (fin.get (map_of p.open_files) fd) = subst (λ (v : World). IsSome (fin.get v.open_files fd)) (sym is) held in
      elim (cases_lt 0 (fin.len (map_of p.open_files))) as (λ _. 1 ≤ p.open_file_count) [
        | inl h ↦ omega (arith, ok.open_files_fit.counted)
        | inr h ↦ absurd (false≢true (sym (ap is_some (ap (λ m. fin.get m fd) (fin.empty_of_len (map_of p.open_files) (omega arith)) ∙ fin.get-empty nat_cmp fd)) ∙ there))
      ]

  -- a file with other bytes and the same name
  pub set_file-world : (at : ℕ) (cell : Option Stored) (content : List ℕ) → at < length p.files → content_in cell ≡ Some content
      → world_of (record p { files = set p.files at cell }) ≡ record w { files = fin.insert w.files at content }
  set_file-world at cell content h filled =
      ap (λ m. record (world_of p) { files = m }) (ap map_of (map-set content_in p.files at cell ∙ ap (set (map content_in p.files) at) filled) ∙ map_of-fill (map content_in p.files) at content (omega (arith, length-map p.files content_in)))
      ∙ ap (λ (v : World). record v { files = fin.insert v.files at content }) is

  pub set_file-consistent : (at : ℕ) (cell : Option Stored) (content : List ℕ) (bytes : ℕ) → at < length p.files → IsSome (fin.get w.files at) → content_in cell ≡ Some content → name_in cell ≡ name_in (get_or p.files at None)
      → bytes + length (content_of w at) ≡ p.total + length content → IsConsistent (record p { files = set p.files at cell; total = bytes })
  set_file-consistent at cell content bytes h held filled same sums = record {
    sorted = ok.sorted;
    short = ok.short;
    open_files_fit = ok.open_files_fit;
    few_files = omega (arith, length-set p.files at cell, ok.few_files);
    enough_files = ok.enough_files;
    files_used = uses_same p.used_files p.files at cell ok.files_used h (sym (is_some-content (get_or p.files at None)) ∙ ap is_some (sym (file-is at)) ∙ held ∙ ap is_some (sym filled) ∙ is_some-content cell);
    bytes_counted = omega (arith, ap total (set_file-world at cell content h filled), total-insert w at content, ok.bytes_counted, ap total is, sums);
    found = λ name number e. name_kept p.files at cell h same number ∙ ok.found name number e;
    holds = λ number name e. ok.holds number name (sym (name_kept p.files at cell h same number) ∙ e);
  }

  -- a file with the same bytes and the same name
  pub same_file-world : (at : ℕ) (cell : Option Stored) → content_in cell ≡ content_in (get_or p.files at None) → world_of (record p { files = set p.files at cell }) ≡ w
  same_file-world at cell same = ap (λ cells. record (world_of p) { files = map_of cells }) (map-set_same content_in p.files at cell None same) ∙ is

  pub same_file-consistent : (at : ℕ) (cell : Option Stored) → at < length p.files → content_in cell ≡ content_in (get_or p.files at None) → name_in cell ≡ name_in (get_or p.files at None) → IsConsistent (record p { files = set p.files at cell })
  same_file-consistent at cell h same named = record {
    sorted = ok.sorted;
    short = ok.short;
    open_files_fit = ok.open_files_fit;
    few_files = omega (arith, length-set p.files at cell, ok.few_files);
    enough_files = ok.enough_files;
    files_used = uses_same p.used_files p.files at cell ok.files_used h (alike_by_content (get_or p.files at None) cell (sym same));
    bytes_counted = ok.bytes_counted ∙ ap total is ∙ sym (ap total (same_file-world at cell same));
    found = λ name number e. name_kept p.files at cell h named number ∙ ok.found name number e;
    holds = λ number name e. ok.holds number name (sym (name_kept p.files at cell h named number) ∙ e);
  }

  pub number_used : (at : ℕ) → at < length p.files → at < length p.used_files
  number_used at h = omega (arith, ok.few_files, ok.enough_files)

  -- a file that has no name is dropped
  pub drop_file-world : (at : ℕ) → at < length p.files → world_of (record p { files = set p.files at None }) ≡ record w { files = fin.remove w.files at }
  drop_file-world at h =
      ap (λ m. record (world_of p) { files = m }) (ap map_of (map-set content_in p.files at None) ∙ map_of-empty (map content_in p.files) at (omega (arith, length-map p.files content_in)))
      ∙ ap (λ (v : World). record v { files = fin.remove v.files at }) is

  unnamed : (at : ℕ) → is_named w at ≡ false → name_in (get_or p.files at None) ≡ None
  unnamed at none =
      elim (name_in (get_or p.files at None)) as (λ o. name_in (get_or p.files at None) ≡ o → o ≡ None) [
        | None ↦ λ _. refl
        | Some name ↦ λ e.
            let known : fin.get w.names name ≡ Some at = subst (λ (v : World). fin.get v.names name ≡ Some at) is (ok.holds at name e) in
            absurd (false≢true (sym none ∙ any_at nat_list_cmp_total (λ held. eqb held at) w.names name at known (eq-eqb at at refl)))
      ] refl

  pub drop_file-consistent : (at bytes : ℕ) → at < length p.files → is_named w at ≡ false → bytes + length (content_of w at) ≡ p.total → (used : List Bool) → used ≡ set p.used_files at false
      → IsConsistent (record p { files = set p.files at None; used_files = used; total = bytes })
  drop_file-consistent at bytes h none sums used unused =
      let kept = name_kept p.files at None h (sym (unnamed at none)) in record {
        sorted = ok.sorted;
        short = ok.short;
        open_files_fit = ok.open_files_fit;
        few_files = omega (arith, length-set p.files at None, ok.few_files);
        enough_files = ap length unused ∙ length-set p.used_files at false ∙ ok.enough_files;
        files_used = subst (λ (l : List Bool). Uses l (set p.files at None)) (sym unused) (uses_set p.used_files p.files at false None ok.files_used h (number_used at h) refl);
        bytes_counted = omega (arith, ap total (drop_file-world at h), total-remove w at, ok.bytes_counted, ap total is, sums);
        found = λ name number e. kept number ∙ ok.found name number e;
        holds = λ number name e. ok.holds number name (sym (kept number) ∙ e);
      }

  -- empty cells more
  pub more_files-world : (cells : List (Option Stored)) → SameCells p.files cells → world_of (record p { files = cells }) ≡ w
  more_files-world cells same = ap (λ m. record (world_of p) { files = m })
      (map_of-same (map content_in p.files) (map content_in cells) (λ k. at_map content_in refl cells k ∙ ap content_in (same k) ∙ sym (at_map content_in refl p.files k))) ∙ is

  pub more_files-consistent : (cells : List (Option Stored)) → SameCells p.files cells → length cells ≤ most_names + most_descriptors → IsConsistent (record p { files = cells })
  more_files-consistent cells same few = record {
    sorted = ok.sorted;
    short = ok.short;
    open_files_fit = ok.open_files_fit;
    few_files = few;
    enough_files = ok.enough_files;
    files_used = λ number. ok.files_used number ∙ ap is_some (sym (same number));
    bytes_counted = ok.bytes_counted ∙ ap total is ∙ sym (ap total (more_files-world cells same));
    found = λ name number e. ap name_in (same number) ∙ ok.found name number e;
    holds = λ number name e. ok.holds number name (sym (ap name_in (same number)) ∙ e);
  }

  -- a new file without a name, under a number that no file has
  pub add_unnamed-consistent : (at : ℕ) (file : Stored) (bytes : ℕ) → at < length p.files → fin.get w.files at ≡ None → name_in (Some file) ≡ None
      → bytes ≡ p.total + length file.content.items → (used : List Bool) → used ≡ set p.used_files at true
      → IsConsistent (record p { files = set p.files at (Some file); used_files = used; total = bytes })
  add_unnamed-consistent at file bytes h free unnamed sums used uses =
      let vacant : name_in (get_or p.files at None) ≡ None = empty_cell (get_or p.files at None) (sym (get-file p at) ∙ subst (λ (v : World). fin.get v.files at ≡ None) (sym is) free) in
      let kept = name_kept p.files at (Some file) h (unnamed ∙ sym vacant) in record {
        sorted = ok.sorted;
        short = ok.short;
        open_files_fit = ok.open_files_fit;
        few_files = omega (arith, length-set p.files at (Some file), ok.few_files);
        enough_files = ap length uses ∙ length-set p.used_files at true ∙ ok.enough_files;
        files_used = subst (λ (l : List Bool). Uses l (set p.files at (Some file))) (sym uses) (uses_set p.used_files p.files at true (Some file) ok.files_used h (number_used at h) refl);
        bytes_counted = omega (arith, ap total (set_file-world at (Some file) file.content.items h refl), total-insert w at file.content.items, ok.bytes_counted, ap total is, sums, ap (λ o. length (unwrap_or o [])) free);
        found = λ name number e. kept number ∙ ok.found name number e;
        holds = λ number name e. ok.holds number name (sym (kept number) ∙ e);
      }

  -- a new file, under a number that no file has
  pub add_file-world : (name : List ℕ) (at : ℕ) (file : Stored) → at < length p.files
      → world_of (record p { names = fin.put bytes_cmp name at p.names; files = set p.files at (Some file) }) ≡ record w { names = fin.insert w.names name at; files = fin.insert w.files at file.content.items }
  add_file-world name at file h =
      ap (λ m. record (world_of p) { names = m; files = map_of (map content_in (set p.files at (Some file))) }) (from_sorted-put p.names in_order name at)
      ∙ ap (λ (v : World). record v { names = fin.insert v.names name at }) (set_file-world at (Some file) file.content.items h refl)

  get-put : (name : List ℕ) (at : ℕ) (q : List ℕ) → fin.get (fin.from_sorted {R = bytes_cmp} (fin.put bytes_cmp name at p.names)) q ≡ cond (eq_by_cmp bytes_cmp q name) (Some at) (fin.get (world_of p).names q)
  get-put name at q = ap (λ m. fin.get m q) (from_sorted-put p.names in_order name at) ∙ fin.get-insert nat_list_cmp_total (world_of p).names name at q

  get-where : (name q : List ℕ) → fin.get (fin.from_sorted {R = bytes_cmp} (where_key bytes_cmp (λ other. not (eq_by_cmp bytes_cmp name other)) p.names)) q ≡ cond (eq_by_cmp bytes_cmp q name) None (fin.get (world_of p).names q)
  get-where name q = ap (λ m. fin.get m q) (from_sorted-where_key p.names in_order name) ∙ fin.get-remove nat_list_cmp_total (world_of p).names name q

  pub add_file-consistent : (name : List ℕ) (at : ℕ) (file : Stored) (bytes : ℕ) → at < length p.files → fin.get w.names name ≡ None → length name ≤ most_name → fin.get w.files at ≡ None → name_in (Some file) ≡ Some name
      → bytes ≡ p.total + length file.content.items → (used : List Bool) → used ≡ set p.used_files at true
      → IsConsistent (record p { names = fin.put bytes_cmp name at p.names; files = set p.files at (Some file); used_files = used; total = bytes })
  add_file-consistent name at file bytes h absent few free named sums used uses = record {
    sorted = is_true _ (is_sorted-put bytes_cmp nat_list_cmp_total name at p.names in_order);
    short = λ q number e.
        elim (eq_by_cmp bytes_cmp q name) as (λ b. eq_by_cmp bytes_cmp q name ≡ b → cond b (Some at) (fin.get (world_of p).names q) ≡ Some number → length q ≤ most_name) [
          | true ↦ λ tie _. subst (λ n. length n ≤ most_name) (sym (tied q name tie)) few
          | false ↦ λ _ there. ok.short q number there
        ] refl (sym (get-put name at q) ∙ e);
    open_files_fit = ok.open_files_fit;
    few_files = omega (arith, length-set p.files at (Some file), ok.few_files);
    enough_files = ap length uses ∙ length-set p.used_files at true ∙ ok.enough_files;
    files_used = subst (λ (l : List Bool). Uses l (set p.files at (Some file))) (sym uses) (uses_set p.used_files p.files at true (Some file) ok.files_used h (number_used at h) refl);
    bytes_counted = omega (arith, ap total (add_file-world name at file h), total-insert w at file.content.items, ok.bytes_counted, ap total is, sums, ap (λ o. length (unwrap_or o [])) free);
    found = λ q number e.
        let looked = sym (get-put name at q) ∙ e in
        elim (eq_by_cmp bytes_cmp q name) as (λ b. eq_by_cmp bytes_cmp q name ≡ b → cond b (Some at) (fin.get (world_of p).names q) ≡ Some number → name_in (get_or (set p.files at (Some file)) number None) ≡ Some q) [
          | true ↦ λ tie here. ap (λ k. name_in (get_or (set p.files at (Some file)) k None)) (sym (same_Some at number here))
              ∙ ap name_in (get_or-set_same p.files at (Some file) None h) ∙ named ∙ ap (λ n. Some n) (sym (tied q name tie))
          | false ↦ λ _ there.
              let old = ok.found q number there in
              let apart : number ≢ at = λ same. none-some q (sym vacant ∙ ap (λ k. name_in (get_or p.files k None)) (sym same) ∙ old) in
              ap name_in (get_or-set_other p.files at number (Some file) None apart) ∙ old
        ] refl looked;
    holds = λ number q e.
        elim (eqb number at) as (λ b. eqb number at ≡ b → fin.get (fin.from_sorted {R = bytes_cmp} (fin.put bytes_cmp name at p.names)) q ≡ Some number) [
          | true ↦ λ t. let same : number ≡ at = (grind (arith, nat_tests)) in
              let new : Some name ≡ Some q = sym named ∙ ap name_in (sym (get_or-set_same p.files at (Some file) None h)) ∙ ap (λ k. name_in (get_or (set p.files at (Some file)) k None)) (sym same) ∙ e in
              let is_file_name : q ≡ name = sym (same_Some name q new) in
              get-put name at q ∙ ap (λ b. cond b (Some at) (fin.get (world_of p).names q)) (ties q name is_file_name) ∙ ap (λ k. Some k) (sym same)
          | false ↦ λ t. let apart : number ≢ at = (grind (arith, nat_tests)) in
              let old = ok.holds number q (ap name_in (sym (get_or-set_other p.files at number (Some file) None apart)) ∙ e) in
              get-put name at q
              ∙ elim (eq_by_cmp bytes_cmp q name) as (λ b. eq_by_cmp bytes_cmp q name ≡ b → cond b (Some at) (fin.get (world_of p).names q) ≡ Some number) [
                | true ↦ λ tie. absurd (none-some number (sym (subst (λ (v : World). fin.get v.names name ≡ None) (sym is) absent) ∙ ap (fin.get (world_of p).names) (sym (tied q name tie)) ∙ old))
                | false ↦ λ _. old
              ] refl
        ] refl;
  }
    where
      vacant : name_in (get_or p.files at None) ≡ None
      vacant = empty_cell (get_or p.files at None) (sym (get-file p at) ∙ subst (λ (v : World). fin.get v.files at ≡ None) (sym is) free)

  -- a file loses its name
  pub unname-world : (name : List ℕ) (at : ℕ) (cell : Option Stored) → content_in cell ≡ content_in (get_or p.files at None)
      → world_of (record p { names = where_key bytes_cmp (λ other. not (eq_by_cmp bytes_cmp name other)) p.names; files = set p.files at cell }) ≡ record w { names = fin.remove w.names name }
  unname-world name at cell same =
      ap (λ m. record (world_of p) { names = m; files = map_of (map content_in (set p.files at cell)) }) (from_sorted-where_key p.names in_order name)
      ∙ ap (λ cells. record (world_of p) { names = fin.remove (world_of p).names name; files = map_of cells }) (map-set_same content_in p.files at cell None same)
      ∙ ap (λ (v : World). record v { names = fin.remove v.names name }) is

  pub unname-consistent : (name : List ℕ) (at : ℕ) (cell : Option Stored) → fin.get w.names name ≡ Some at → name_in cell ≡ None → content_in cell ≡ content_in (get_or p.files at None)
      → IsConsistent (record p { names = where_key bytes_cmp (λ other. not (eq_by_cmp bytes_cmp name other)) p.names; files = set p.files at cell })
  unname-consistent name at cell held none same = record {
    sorted = is_true _ (is_sorted-where_key bytes_cmp (λ other. not (eq_by_cmp bytes_cmp name other)) p.names in_order);
    short = λ q number e.
        elim (eq_by_cmp bytes_cmp q name) as (λ b. cond b None (fin.get (world_of p).names q) ≡ Some number → length q ≤ most_name) [
          | true ↦ λ gone. absurd (none-some number gone)
          | false ↦ λ there. ok.short q number there
        ] (sym (get-where name q) ∙ e);
    open_files_fit = ok.open_files_fit;
    few_files = omega (arith, length-set p.files at cell, ok.few_files);
    enough_files = ok.enough_files;
    files_used = uses_same p.used_files p.files at cell ok.files_used inside (alike_by_content (get_or p.files at None) cell (sym same));
    bytes_counted = ok.bytes_counted ∙ ap total is ∙ sym (ap total (unname-world name at cell same));
    found = λ q number e.
        elim (eq_by_cmp bytes_cmp q name) as (λ b. eq_by_cmp bytes_cmp q name ≡ b → cond b None (fin.get (world_of p).names q) ≡ Some number → name_in (get_or (set p.files at cell) number None) ≡ Some q) [
          | true ↦ λ _ gone. absurd (none-some number gone)
          | false ↦ λ t there.
              let old = ok.found q number there in
              let apart : number ≢ at = λ k. false≢true (sym t ∙ (ties q name (same_Some q name (sym old ∙ ap (λ n. name_in (get_or p.files n None)) k ∙ ok.found name at here)))) in
              ap name_in (get_or-set_other p.files at number cell None apart) ∙ old
        ] refl (sym (get-where name q) ∙ e);
    holds = λ number q e.
        elim (eqb number at) as (λ b. eqb number at ≡ b → fin.get (fin.from_sorted {R = bytes_cmp} (where_key bytes_cmp (λ other. not (eq_by_cmp bytes_cmp name other)) p.names)) q ≡ Some number) [
          | true ↦ λ t. let k : number ≡ at = (grind (arith, nat_tests)) in
              absurd (none-some q (sym none ∙ ap name_in (sym (get_or-set_same p.files at cell None inside)) ∙ ap (λ n. name_in (get_or (set p.files at cell) n None)) (sym k) ∙ e))
          | false ↦ λ t. let apart : number ≢ at = (grind (arith, nat_tests)) in
              let old = ok.holds number q (ap name_in (sym (get_or-set_other p.files at number cell None apart)) ∙ e) in
              get-where name q
              ∙ elim (eq_by_cmp bytes_cmp q name) as (λ b. eq_by_cmp bytes_cmp q name ≡ b → cond b None (fin.get (world_of p).names q) ≡ Some number) [
                | true ↦ λ tie. absurd (apart (same_Some number at (sym old ∙ ap (fin.get (world_of p).names) (tied q name tie) ∙ here)))
                | false ↦ λ _. old
              ] refl
        ] refl;
  }
    where
      here : fin.get (world_of p).names name ≡ Some at
      here = subst (λ (v : World). fin.get v.names name ≡ Some at) (sym is) held

      inside : at < length p.files
      inside = within p.files at (named_full (get_or p.files at None) name (ok.found name at here))

  pub is_named-is : (number : ℕ) → is_named w number ≡ is_some (name_in (get_or p.files number None))
  is_named-is number =
      elim (name_in (get_or p.files number None)) as (λ o. name_in (get_or p.files number None) ≡ o → is_named w number ≡ is_some o) [
        | None ↦ λ none.
            elim (is_named w number) as (λ b. is_named w number ≡ b → b ≡ false) [
              | true ↦ λ named.
                  let key = key_of_any nat_list_cmp_total (λ held. eqb held number) w.names named in
                  let same : key.1 ≡ number = eqb-true key.1 number key.3 in
                  absurd (none-some key.0 (sym none ∙ ok.found key.0 number (ap (λ (v : World). fin.get v.names key.0) is ∙ key.2 ∙ ap (λ n. Some n) same)))
              | false ↦ λ _. refl
            ] refl
        | Some name ↦ λ e. any_at nat_list_cmp_total (λ held. eqb held number) w.names name number
            (ap (λ (v : World). fin.get v.names name) (sym is) ∙ ok.holds number name e) (eq-eqb number number refl)
      ] refl

  pub is_open-is : (number : ℕ) → is_open w number ≡ not (eqb (get_or p.open_counts number 0) 0)
  is_open-is number =
      ap (λ (v : World). is_open v number) (sym is) ∙ any-map_of (is_of number) p.open_files ∙ any_opens number p.open_files ∙ ap (λ n. not (eqb n 0)) (sym (ok.open_files_fit.opens number))

  pub names_len-is : fin.len w.names ≡ length p.names
  names_len-is = ap (λ (v : World). fin.len v.names) (sym is) ∙ len-from_sorted p.names in_order

  pub number-is : (name : List ℕ) → fin.get w.names name ≡ fin.find bytes_cmp name p.names
  number-is name = ap (λ (v : World). fin.get v.names name) (sym is) ∙ fin.get-from_sorted bytes_cmp p.names name in_order

  -- names are short
  pub held_short : (name : List ℕ) → IsSome (fin.find bytes_cmp name p.names) → length name ≤ most_name
  held_short name held = at (fin.find bytes_cmp name p.names) refl held
    where
      at : (o : Option ℕ) → fin.find bytes_cmp name p.names ≡ o → IsSome o → length name ≤ most_name
      at None was h = absurd (false≢true h)
      at (Some number) was h = ok.short name number (fin.get-from_sorted bytes_cmp p.names name in_order ∙ was)

  pub no_long_name : (name : List ℕ) → most_name < length name → None ≡ fin.get w.names name
  no_long_name name long = at (fin.find bytes_cmp name p.names) refl
    where
      at : (o : Option ℕ) → fin.find bytes_cmp name p.names ≡ o → None ≡ fin.get w.names name
      at None was = sym (number-is name ∙ was)
      at (Some number) was = absurd (let few = held_short name (ap is_some was) in omega arith)

  pub name_short : (name : List ℕ) (number : ℕ) → fin.get w.names name ≡ Some number → length name ≤ most_name
  name_short name number held = held_short name (ap is_some (sym (number-is name) ∙ held))

  -- the bytes of a file, from its cell
  pub content-is : (number : ℕ) (cell : Option Stored) → cell ≡ get_or p.files number None → content_of w number ≡ unwrap_or (content_in cell) []
  content-is number cell same = ap (λ o. unwrap_or o []) (file-is number ∙ ap content_in (sym same))

  -- the lowest number that isn't used has no cell
  pub free_open_file-is : (fd : ℕ) → get_or p.used_open_files fd false ≡ false → ((k : ℕ) → k < fd → get_or p.used_open_files k false ≡ true) → fd ≡ lowest_unused w.open_files
  free_open_file-is fd free full =
      lowest_unused-is w.open_files fd (open_file-is fd ∙ is_none (get_or p.open_files fd None) (sym (ok.open_files_fit.uses fd) ∙ free)) (λ k h. ap is_some (open_file-is k) ∙ sym (ok.open_files_fit.uses k) ∙ full k h)

  pub free_number-is : (number : ℕ) → get_or p.used_files number false ≡ false → ((k : ℕ) → k < number → get_or p.used_files k false ≡ true) → number ≡ lowest_unused w.files
  free_number-is number free full = lowest_unused-is w.files number
      (file-is number ∙ ap content_in (is_none (get_or p.files number None) (sym (ok.files_used number) ∙ free)))
      (λ k h. ap is_some (file-is k) ∙ content_full (get_or p.files k None) (sym (ok.files_used k) ∙ full k h))

  pub file_full : (number : ℕ) (cell : Option Stored) → IsSome (fin.get w.files number) → cell ≡ get_or p.files number None → IsSome cell
  file_full number cell held same = full_from_content cell (ap (λ c. is_some (content_in c)) same ∙ sym (ap is_some (file-is number)) ∙ held)

  pub named_within : (name : List ℕ) (number : ℕ) → fin.get w.names name ≡ Some number → number < length p.files
  named_within name number held = within p.files number (named_full (get_or p.files number None) name (ok.found name number (ap (λ (v : World). fin.get v.names name) is ∙ held)))

  pub cell_len : (number : ℕ) (cell : Option Stored) (n : ℕ) → cell ≡ get_or p.files number None → n ≡ length (unwrap_or (content_in cell) []) → n ≡ length (content_of w number)
  cell_len number cell n same len = len ∙ sym (ap length (content-is number cell same))

  pub content_le_total : (number : ℕ) → length (content_of w number) ≤ p.total
  content_le_total number = omega (arith, total-remove w number, ok.bytes_counted, ap total is)

  pub keys-is : fin.keys w.names ≡ map (λ e. e.0) p.names
  keys-is = ap (λ (v : World). fin.keys v.names) (sym is) ∙ ap (map (λ e. e.0)) (fin.entries-from_sorted bytes_cmp p.names in_order)

-- what is put at an unused descriptor, with room made for it
module _ (p : Parts) (w : World) (is : world_of p ≡ w) (ok : IsConsistent p)
    (fd : ℕ) (open_file : OpenFile) (unused : fin.get w.open_files fd ≡ None) (low : fd < most_descriptors) (cells : List (Option OpenFile)) (same : SameCells p.open_files cells) (most : length cells ≤ max (length p.open_files) (fd + 1)) where
  pub open_files_few : length cells ≤ most_descriptors
  open_files_few = omega (arith, ok.open_files_fit.few)

  pub put_open_file-used : fd < length p.used_open_files
  put_open_file-used = omega (arith, ok.open_files_fit.enough)

  pub put_open_file-consistent : fd < length cells → (used : List Bool) → used ≡ set p.used_open_files fd true → (opens : List ℕ) → ((number : ℕ) → get_or opens number 0 ≡ get_or p.open_counts number 0 + opens_in number (Some open_file))
      → IsConsistent (record p { open_files = set cells fd (Some open_file); used_open_files = used; open_file_count = p.open_file_count + 1; open_counts = opens })
  put_open_file-consistent inside used uses opens more =
      add_open_file-consistent (record p { open_files = cells }) w (more_open_files-world p w is ok cells same) (more_open_files-consistent p w is ok cells same open_files_few) fd open_file inside unused used uses opens more

  pub put_open_file-world : fd < length cells → world_of (record p { open_files = set cells fd (Some open_file) }) ≡ record w { open_files = fin.insert w.open_files fd open_file }
  put_open_file-world inside = add_open_file-world (record p { open_files = cells }) w (more_open_files-world p w is ok cells same) (more_open_files-consistent p w is ok cells same open_files_few) fd open_file inside

-- what is put at an unused number, with room made for it
module _ (p : Parts) (w : World) (is : world_of p ≡ w) (ok : IsConsistent p)
    (at : ℕ) (unused : fin.get w.files at ≡ None) (low : at < most_names + most_descriptors) (cells : List (Option Stored)) (same : SameCells p.files cells) (most : length cells ≤ max (length p.files) (at + 1)) where
  pub files_few : length cells ≤ most_names + most_descriptors
  files_few = omega (arith, ok.few_files)

  pub put_file-used : at < length p.used_files
  put_file-used = omega (arith, ok.enough_files)

  module _ (inside : at < length cells) (content : List ℕ) (file : Stored) (bytes : ℕ) (filled : content_in (Some file) ≡ Some content) (sums : bytes ≡ p.total + length content) where
    same_content : file.content.items ≡ content
    same_content = same_Some _ _ filled

    file_sums : bytes ≡ p.total + length file.content.items
    file_sums = sums ∙ ap (λ l. p.total + length l) (sym same_content)

    module _ (name : List ℕ) (absent : fin.get w.names name ≡ None) (short : length name ≤ most_name) (called : name_in (Some file) ≡ Some name) (names : List (List ℕ × ℕ)) (listed : names ≡ fin.put bytes_cmp name at p.names) where
      pub put_named-consistent : (used : List Bool) → used ≡ set p.used_files at true → IsConsistent (record p { names = names; files = set cells at (Some file); used_files = used; total = bytes })
      put_named-consistent used uses =
          subst (λ (l : List (List ℕ × ℕ)). IsConsistent (record p { names = l; files = set cells at (Some file); used_files = used; total = bytes })) (sym listed)
          (add_file-consistent (record p { files = cells }) w (more_files-world p w is ok cells same) (more_files-consistent p w is ok cells same files_few) name at file bytes inside absent short unused called file_sums used uses)

      pub put_named-world : world_of (record p { names = names; files = set cells at (Some file); total = bytes }) ≡ record w { names = fin.insert w.names name at; files = fin.insert w.files at content }
      put_named-world =
          ap (λ l. world_of (record p { names = l; files = set cells at (Some file); total = bytes })) listed
          ∙ add_file-world (record p { files = cells }) w (more_files-world p w is ok cells same) (more_files-consistent p w is ok cells same files_few) name at file inside
          ∙ ap (λ l. record w { names = fin.insert w.names name at; files = fin.insert w.files at l }) same_content

    pub put_unnamed-consistent : name_in (Some file) ≡ None → (used : List Bool) → used ≡ set p.used_files at true → IsConsistent (record p { files = set cells at (Some file); used_files = used; total = bytes })
    put_unnamed-consistent unnamed used uses =
        add_unnamed-consistent (record p { files = cells }) w (more_files-world p w is ok cells same) (more_files-consistent p w is ok cells same files_few) at file bytes inside unused unnamed file_sums used uses

    pub put_unnamed-world : world_of (record p { files = set cells at (Some file); total = bytes }) ≡ record w { files = fin.insert w.files at content }
    put_unnamed-world = set_file-world (record p { files = cells }) w (more_files-world p w is ok cells same) (more_files-consistent p w is ok cells same files_few) at (Some file) content inside filled
