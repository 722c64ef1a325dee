-- What stands at a number of two lists: the change of a page, and a page that is changed.
use Rattle.std.proofs.Common.{◌≡◌, ℕ, Option, None, Some, option_map, option_copied, List, [], ◌∷◌, ◌++◌, map, Bor, refl, sym, ap, ◌∙◌}
use Rattle.std.proofs.lemmas.List.{append-nil, map_push}
use Rattle.save_format.specs.declared.state_text.parts.Page.{Page}
use Rattle.save_format.specs.StateText.Seen.{page_view}
use Rattle.save_format.specs.PatchText.Numbered.{with_item}
use Rattle.save_format.specs.PatchText.Seen.{bytes_in}
use Rattle.save_format.specs.StateText.StateText.{PageText}
use Rattle.save_format.specs.PatchText.PatchText.{PageChange, bytes_changed_by, page_of}
use Rattle.save_format.specs.PatchText.Encoded.{page_change_of}

abbrev pub change_from : ℕ → Option PageText → Option PageText → Option PageChange
change_from number known found = page_change_of number (option_map (λ page. page.bytes) known) (option_map (λ page. page.bytes) found)

pub no_change : (number : ℕ) → change_from number None None ≡ None
no_change number = refl

abbrev pub page_from : ℕ → Option PageText → Option PageChange → Option PageText
page_from number known change = page_of number (bytes_changed_by (option_map (λ page. page.bytes) known) change)

pub no_page : (number : ℕ) → page_from number None None ≡ None
no_page number = refl

-- the bytes of a page that is borrowed
pub bytes_seen : (page : Option (Bor Page)) → bytes_in page ≡ option_map (λ page. page.bytes) (option_map page_view (option_copied page))
bytes_seen None = refl
bytes_seen (Some page) = refl

-- what is put after the others, if anything is
pub put_after : {T C : Type 0} (seen : T → C) (old new : List T) (x : T) (o : Option C) → new ≡ old ++ x ∷ [] → Some (seen x) ≡ o → map seen new ≡ map seen old ++ with_item o []
put_after seen old new x o e is = ap (map seen) e ∙ map_push seen old x ∙ ap (λ o. map seen old ++ with_item o []) is

pub put_nothing : {T C : Type 0} (seen : T → C) (old new : List T) (o : Option C) → new ≡ old → None ≡ o → map seen new ≡ map seen old ++ with_item o []
put_nothing seen old new o e is = ap (map seen) e ∙ sym (append-nil (map seen old)) ∙ ap (λ o. map seen old ++ with_item o []) is
