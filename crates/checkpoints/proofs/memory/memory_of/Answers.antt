use Rattle.std.proofs.Common.{◌≡◌, All, map, reverse, refl, sym, subst, ap, ◌∙◌, true, false}
use Rattle.std.specs.FinMap as finite
use Rattle.std.proofs.lemmas.List.Elements.{All-map}
use Rattle.paged_mem.specs.Memory.{Memory}
use Rattle.checkpoints.specs.MemoryParts.Canonical.{with_pages, mapped_runs}
use Rattle.checkpoints.proofs.MemoryPartsLemmas.Filling.{filled_on, turned}
use Rattle.save_format.specs.declared.state_text.parts.Page.{Page}
use Rattle.save_format.specs.StateText.Seen.{page_view, state_view}
use Rattle.checkpoints.specs.Checkpoint.{mapped_of}
use Rattle.checkpoints.proofs.Memories.{IsMappedIn, full_pages, is_made, placed, seen}
use Rattle.checkpoints.proofs.memory.memory_of.Goals as goal

pub map_runs-requires : goal.map_runs-requires
map_runs-requires g c =
    rw c.deref-2.ensures.value (placed c.args.parts.now.runs.items 0 c.requires.runs.1 (rw c.deref.ensures.value at (c.if-not-are_mappable.ensures.0 refl)).within)

pub returns-then-not-are_mapped : goal.returns-then-not-are_mapped
returns-then-not-are_mapped g c = λ in_memory.
    let pages = c.args.parts.now.pages.items in
    let made = g.R.Ram.bytes c.in_ok-ram.ram in
    let is : made ≡ mapped_of (state_view c.args.parts.now) = c.in_ok-ram.ensures ∙ ap (mapped_runs finite.empty) c.deref-2.ensures.value in
    let listed : All (IsMappedIn made) (map page_view pages) = subst (λ (m : Memory). All (IsMappedIn m) (map page_view pages)) (sym is) in_memory.listed in
    let no : false ≡ true = c.if-not-are_mapped.ensures.1 (rw c.deref-3.ensures.value (seen (IsMappedIn made) pages listed)) in
    cc

pub fill_pages-requires-clause-full : goal.fill_pages-requires-clause-full
fill_pages-requires-clause-full g c = rw c.deref-4.ensures.value (full_pages c.args.parts.now.pages.items c.requires.pages.1)

pub returns : goal.returns
returns g c =
    let pages = c.args.parts.now.pages.items in
    let made = g.R.Ram.bytes c.in_ok-ram.ram in
    let is : made ≡ mapped_of (state_view c.args.parts.now) = c.in_ok-ram.ensures ∙ ap (mapped_runs finite.empty) c.deref-2.ensures.value in
    let mapped : All (λ (page : Page). IsMappedIn made (page_view page)) pages = rw c.deref-3.ensures.value at (c.if-not-are_mapped.ensures.0 refl) in
    let listed : All (IsMappedIn made) (map page_view pages) = All-map (IsMappedIn made) page_view pages mapped in
    let written : g.R.Ram.bytes c.fill_pages.new.ram ≡ filled_on made (map page_view pages) = c.in_ok-fill_pages.ensures.ok ∙ ap (λ ps. with_pages made (reverse (map page_view ps))) c.deref-4.ensures.value ∙ sym (turned made (map page_view pages)) in (
      record {
        runs = rw c.deref.ensures.value at (c.if-not-are_mappable.ensures.0 refl);
        listed = subst (λ (m : Memory). All (IsMappedIn m) (map page_view pages)) is listed;
      },
      is_made (state_view c.args.parts.now) made (g.R.Ram.bytes c.fill_pages.new.ram) c.requires (g.met.R.Ram.whole c.in_ok-ram.ram) is listed written,
    )
