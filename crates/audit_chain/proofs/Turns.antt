-- One turn of the loops that gather the lines that remain.
use Rattle.std.proofs.Common.{◌≡◌, ℕ, ◌+◌, ◌<◌, ◌≤◌, not, List, [], ◌∷◌, ◌++◌, length, map, filter, take, drop, get_or, sym, ap, ◌∙◌, append_assoc, append-nil}
use Rattle.std.proofs.lemmas.List.{at_drop_more, drop_all, map-append, take_more}
use Rattle.std.proofs.lemmas.List.Elements.{filter-append}
use Rattle.wheeler.specs.declared.assumption.Assumption.{Assumption}
use Rattle.audit_chain.specs.declared.link.Link.{Link}
use Rattle.audit_chain.specs.declared.link.ChainLine.{ChainLine}
use Rattle.audit_chain.specs.Chain.{is_struck, chain_line, remaining_after, unstruck}

-- those of some lines that remain
abbrev pub kept : List Link → Link → List Assumption → List ChainLine
kept earlier link lines = map (chain_line (length earlier + 1)) (filter (λ line. not (is_struck earlier link line)) lines)

kept-append : (earlier : List Link) (link : Link) (prefix more : List Assumption) → kept earlier link (prefix ++ more) ≡ kept earlier link prefix ++ kept earlier link more
kept-append earlier link prefix more =
    let passes = λ (line : Assumption). not (is_struck earlier link line) in
    ap (map (chain_line (length earlier + 1))) (filter-append passes prefix more) ∙ map-append (chain_line (length earlier + 1)) (filter passes prefix) (filter passes more)

-- one line more
pub line_more : (earlier : List Link) (link : Link) (old now new : List ChainLine) (listed : List Assumption) (i : ℕ) (line : Assumption)
    → now ≡ old ++ kept earlier link (take i listed) → i < length listed → line ≡ get_or listed i line → new ≡ now ++ kept earlier link (line ∷ [])
    → new ≡ old ++ kept earlier link (take (i + 1) listed)
line_more earlier link old now new listed i line before less is after =
    let grown : take (i + 1) listed ≡ take i listed ++ line ∷ [] = take_more listed i line less ∙ sym (ap (λ l. take i listed ++ l ∷ []) is) in
    after ∙ ap (λ ls. ls ++ kept earlier link (line ∷ [])) before ∙ append_assoc old (kept earlier link (take i listed)) (kept earlier link (line ∷ []))
    ∙ ap (λ ls. old ++ ls) (sym (kept-append earlier link (take i listed) (line ∷ [])) ∙ ap (kept earlier link) (sym grown))

-- the lines so far, and those of the audits that are left
pub link_more : (lines new whole : List ChainLine) (links : List Link) (i : ℕ) (link : Link) → i < length links → link ≡ get_or links i link
    → lines ++ remaining_after (take i links) (drop i links) ≡ whole → new ≡ lines ++ unstruck (take i links) link
    → new ++ remaining_after (take (i + 1) links) (drop (i + 1) links) ≡ whole
link_more lines new whole links i link less is before after =
    let prefix : drop i links ≡ link ∷ drop (i + 1) links = at_drop_more (λ (l : List Link). l) links i link less ∙ ap (λ (x : Link). x ∷ drop (i + 1) links) (sym is) in
    let grown : take i links ++ link ∷ [] ≡ take (i + 1) links = sym (take_more links i link less ∙ ap (λ (x : Link). take i links ++ x ∷ []) (sym is)) in
    ap (λ ls. ls ++ remaining_after (take (i + 1) links) (drop (i + 1) links)) after
    ∙ append_assoc lines (unstruck (take i links) link) (remaining_after (take (i + 1) links) (drop (i + 1) links))
    ∙ ap (λ earlier. lines ++ (unstruck (take i links) link ++ remaining_after earlier (drop (i + 1) links))) (sym grown)
    ∙ ap (λ rest. lines ++ remaining_after (take i links) rest) (sym prefix) ∙ before

pub links_end : (lines whole : List ChainLine) (links : List Link) (i : ℕ) → length links ≤ i
    → lines ++ remaining_after (take i links) (drop i links) ≡ whole → lines ≡ whole
links_end lines whole links i past before =
    sym (append-nil lines) ∙ ap (λ rest. lines ++ remaining_after (take i links) rest) (sym (drop_all i links past)) ∙ before
