use Rattle.std.proofs.Common.{◌≡◌, ℕ, ◌+◌, ◌*◌, List, ◌++◌, map, refl, sym, ap, ◌∙◌}
use Rattle.std.proofs.lemmas.List.{append-nil, map_push}
use Rattle.paged_mem.specs.Memory.{Memory, bytes_at}
use Rattle.save_format.specs.StateText.StateText.{PageText}
use Rattle.save_format.specs.StateText.Seen.{page_view}
use Rattle.checkpoints.specs.MemoryParts.Canonical.{listed_page, page_texts_from}
use Rattle.checkpoints.proofs.MemoryPartsLemmas.PagesFound.{page_more}
use Rattle.checkpoints.proofs.memory_parts.listing.push_pages.Goals as goal
use Rattle.checkpoints.proofs.memory_parts.listing.push_pages.Goals.{in-Some+in_ok-push, in_default}

pub loop-i-init : goal.loop-i-init
unfolding page_texts_from
loop-i-init g c = sym (append-nil (map page_view c.args.found.now.items))

pub loop-i-preserved : goal.loop-i-preserved
loop-i-preserved g c =
    let m : Memory = g.R.Ram.bytes c.args.ram.now in
    let number : ℕ = c.args.first + c.loop-i.i in
    let prefix : List PageText = map page_view c.loop-i.found.items in
    let more = page_more m prefix (map page_view c.match-listed_bytes.found.items) (map page_view c.args.found.now.items) c.args.first c.loop-i.i number refl in
    elim c.match-listed_bytes.branch [
      | in-Some+in_ok-push w ↦
          let now_is : map page_view c.match-listed_bytes.found.items ≡ prefix ++ listed_page number (bytes_at m (4096 * number) 4096) =
          ap (map page_view) (ap (λ v. v.items) w.found-is ∙ w.in_ok-push.ensures.items) ∙ map_push page_view c.loop-i.found.items _ ∙ ap (λ (v : List PageText). prefix ++ v) (sym w.in-Some.ensures) in
          more now_is c.loop-i.invariant
      | in_default w ↦
          let now_is : map page_view c.match-listed_bytes.found.items ≡ prefix ++ listed_page number (bytes_at m (4096 * number) 4096) =
          ap (map page_view) (ap (λ v. v.items) w.found-is) ∙ sym (append-nil prefix) ∙ ap (λ (v : List PageText). prefix ++ v) (sym w.in_default.ensures) in
          more now_is c.loop-i.invariant
    ]
