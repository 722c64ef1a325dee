-- A descriptor that is taken back where no file can be made.
use Rattle.std.proofs.Common.{◌≡◌, ℕ, ◌<◌, true, false, cond, not, nat_le, List, [], None, Result, Err, IsOk, IsSome, refl, sym, ap, ◌∙◌, subst, arith}
use Rattle.std.proofs.lemmas.Bool.Decides.{nat_tests}
use Rattle.std.specs.FinMap as fin
use Rattle.mem_files.specs.declared.open_file.OpenFile.{OpenFile}
use Rattle.ddc_base.specs.Limits.{most_names}
use Rattle.mem_files.specs.Linux.{o_creat, enoent, enospc}
use Rattle.mem_files.specs.World.{World, lowest_unused}
use Rattle.mem_files.specs.Calls.{has, opened_at, with_descriptor, with_file}
use Rattle.mem_files.proofs.Maps.{get-lowest_unused, remove-insert}
use Rattle.mem_files.proofs.Entries.{is_some_of, here}

module _ (w v : World) (fd : ℕ) (open_file : OpenFile) (lowest : fd ≡ lowest_unused w.open_files) (added : v ≡ record w { open_files = fin.insert w.open_files fd open_file }) where
  pub taken : IsSome (fin.get v.open_files fd)
  taken = is_some_of open_file (ap (λ (u : World). fin.get u.open_files fd) added ∙ here w.open_files fd open_file)

  pub taken_back : record v { open_files = fin.remove v.open_files fd } ≡ w
  taken_back = ap (λ (u : World). record u { open_files = fin.remove u.open_files fd }) added ∙ ap (λ m. record w { open_files = m }) (remove-insert w.open_files fd open_file (ap (fin.get w.open_files) lowest ∙ get-lowest_unused w.open_files))

pub absent_opens : (w : World) (name : List ℕ) (flags : ℕ) → has flags o_creat ≡ true → fin.len w.names < most_names → IsOk (opened_at w name flags None).0
absent_opens w name flags creates few =
    subst (λ b. IsOk (cond {A = Result ℕ ℕ × World} (not b) (Err enoent, w) (cond (nat_le most_names (fin.len w.names)) (Err enospc, w) (with_descriptor (with_file w name []) (lowest_unused w.files) flags))).0) (sym creates)
    (subst (λ b. IsOk (cond {A = Result ℕ ℕ × World} b (Err enospc, w) (with_descriptor (with_file w name []) (lowest_unused w.files) flags)).0) (sym capacity) refl)
  where
    capacity : nat_le most_names (fin.len w.names) ≡ false
    capacity = grind (arith, nat_tests)
