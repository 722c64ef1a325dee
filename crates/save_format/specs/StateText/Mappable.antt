-- Which runs can be mapped, and the fields in front of the pages. docs/reference/save.md is the page for readers.
use Rattle.std.specs.Prelude.{◌≡◌, ◌+◌, ◌≤◌, ◌↔◌, All, IsTrue, List, option_map, sum_by}
use Rattle.ddc_base.specs.Limits.{most_pages, page_number_end}
use Rattle.save_format.specs.StateText.Seen.{reserved_view}
use Rattle.save_format.specs.StateText.StateText.{StateText}
use Rattle.save_format.specs.declared.state_text.mapping.StateHeader.{StateHeader}
use Rattle.save_format.specs.declared.state_text.parts.Run.{Run}

-- runs that can be mapped end within memory, and together have at most as many pages as a guest can have: 67,584
-- outside its heap and 262,144 in it
pub record AreMappable (runs : List Run) : Type 0 where
  pub within : All (λ run. run.first + run.pages ≤ page_number_end) runs
  pub few : sum_by (λ run. run.pages) runs ≤ most_pages

-- the numbers of a state, and whether its runs can be mapped
pub record IsHeaderOf (header : StateHeader) (s : StateText) : Type 0 where
  pub steps : header.steps ≡ s.steps
  pub pc : header.pc ≡ s.pc
  pub reservation : option_map reserved_view header.reservation ≡ s.reservation
  pub heap : header.heap ≡ s.heap
  pub mappable : IsTrue header.mappable ↔ AreMappable s.runs
