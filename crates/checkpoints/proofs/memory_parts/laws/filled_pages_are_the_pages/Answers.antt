use Rattle.std.proofs.Common.{◌≡◌, ℕ, ◌/◌, ◌^◌, Bool, true, false, cond, Option, None, Some, List, ◌⊎◌, inl, inr, refl, ap, ◌∙◌, arith}
use Rattle.std.specs.Ordering.{nat_cmp}
use Rattle.std.specs.FinMap.{get, empty, get-empty}
use Rattle.ddc_base.specs.Limits.{page_number_end}
use Rattle.save_format.specs.declared.state_text.parts.Run.{Run}
use Rattle.checkpoints.specs.MemoryParts.Canonical.{mapped_runs}
use Rattle.checkpoints.proofs.MemoryPartsLemmas.RunsAgain.{get-mapped_runs, in_runs}
use Rattle.checkpoints.proofs.MemoryPartsLemmas.PagesAgain.{IsZeroed, pages_again}
use Rattle.checkpoints.proofs.memory_parts.laws.filled_pages_are_the_pages.Goals as goal

zeroed : (runs : List Run) → IsZeroed (mapped_runs empty runs)
zeroed runs a = both (in_runs runs (a / 4096)) (get (mapped_runs empty runs) a) (get-mapped_runs runs empty a (a / 4096) refl ∙ ap (cond (in_runs runs (a / 4096)) (Some 0)) (get-empty nat_cmp a))
  where
    both : (b : Bool) (o : Option ℕ) → o ≡ cond b (Some 0) None → (o ≡ None) ⊎ (o ≡ Some 0)
    both true o e = inr e
    both false o e = inl e

pub returns : goal.returns
returns c = λ runs pages placed shown. pages_again (mapped_runs empty runs) pages 0 0 page_number_end (zeroed runs) shown (omega arith) refl
