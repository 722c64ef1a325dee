-- What `chain` comes to, by what `verify` comes to on its lines.
use Rattle.std.proofs.Common.{◌≡◌, ◌≢◌, ℕ, ◌+◌, ◌-◌, ◌≤◌, ◌==◌, ◌&&◌, ◌||◌, ◌↔◌, not, Bool, true, false, cond, Option, Some, None, Ok, List, [], ◌∷◌, ◌++◌, length, min, sum_by, nat_le, le_trans, refl, sym, ap, ◌∙◌, subst, append_assoc, append-nil, arith, All}
use Rattle.std.specs.FinMap as finite
use Rattle.std.specs.List.{after_first, before_first, list_all, list_any}
use Rattle.std.proofs.Math.Nat.{le-min, min-le_left, min-le_right}
use Rattle.std.proofs.lemmas.Bool.{and_from, and_parts, leb-true}
use Rattle.std.proofs.lemmas.Bool.Decides.{nat_tests}
use Rattle.std.proofs.lemmas.List.Elements.{All-cons, All-head, All-nil, All-push, All-tail}
use Rattle.ddc_base.specs.declared.outside.Loaded.TheVariants.{Bytes, TooLong}
use Rattle.ddc_base.specs.Outside.{NamedFiles, loaded, loaded_of}
use Rattle.ddc_base.specs.Limits.{most_audits, most_content, most_inputs, most_list, most_recipe, most_report}
use Rattle.recipe.specs.declared.contents.RecipeContents.{RecipeContents}
use Rattle.recipe.specs.declared.text.refusal.RecipeRefusal.{RecipeRefusal}
use Rattle.recipe.specs.Reading.{recipe_of}
use Rattle.report.specs.declared.types.CompareLine.{CompareLine}
use Rattle.report.specs.declared.types.Report.{Report}
use Rattle.report.specs.Reading.{report_of}
use Rattle.audit_rules.specs.Bench.{all_equal}
use Rattle.verifier.specs.declared.part.Part.{Part}
use Rattle.verifier.specs.Faults.{first_fault}
use Rattle.audit_chain.specs.declared.link.Link.{Link}
use Rattle.command_plan.specs.declared.status.Status.{Status}
use Rattle.command_plan.specs.declared.status.Status.TheVariants as status
use Rattle.command_plan.specs.Lists.{is_listed_byte, is_listed_word, list_of, listed_word}
use Rattle.command_plan.specs.Plan.{Outcome, Plan, answers, outcome, unless_refused}
use Rattle.command_plan.specs.Texts.{list_line, report_line}
use Rattle.command_plan.specs.Words.{are_two_files, has_no_zero_byte, is_file_word, is_one_file, usage}
use Rattle.command_plan.proofs.Listing.{holds-listed, parts-of}
use Rattle.recipe_plan.specs.Recipes.{is_input, needs_apart, needs_inputs_within, needs_recipe_after, paths}
use Rattle.recipe_plan.specs.Reports.{needs_report_after}
use Rattle.recipe_plan.specs.Texts.{compared_lines, recipe_line}
use Rattle.verify_commands.specs.declared.pair.Pair.{Pair}
use Rattle.verify_commands.specs.Chain.{both_words, chain_files, chained, chained_lines, is_space, needs_audit, needs_true, needs_two_files, pair_of, budget_after}
use Rattle.verify_commands.specs.ChainTexts.{audit_line, chain_text}
use Rattle.verify_commands.specs.Verify.{verify_files}
use Rattle.ddc_app.specs.Accepting.{is_compared}
use Rattle.ddc_app.specs.ChainJudged.{AllHoldInputs, AllVerified, HoldsInputs, SaysYes}
use Rattle.ddc_app.specs.Chained.{chain}
use Rattle.ddc_app.specs.Holding.{AreHeld}
use Rattle.ddc_app.proofs.Judging.{says_yes}
use Rattle.ddc_app.proofs.Loads.{follow_all, follows, two_apart, within}
use Rattle.ddc_app.proofs.Openings.{apart_opens}
use Rattle.ddc_app.proofs.Verifying.{replayed}
use Rattle.ddc_app.proofs.Walks.{IsRefusal, both_need, both_need_all, both_need_apart, both_read, told}

-- ---- the words of a line name files

record IsPair (pair : Pair) : Type 0 where
  recipe : is_file_word pair.recipe ≡ true
  report : is_file_word pair.report ≡ true

not_zero : (byte : ℕ) → is_listed_byte byte ≡ true → (byte == 0) ≡ false
not_zero byte is =
    let low = leb-true 0x21 byte (and_parts (nat_le 0x21 byte) (nat_le byte 0x7E) is).0 in
    grind (arith, nat_tests, low)

no_zero : (word : List ℕ) → list_all is_listed_byte word ≡ true → list_any (λ byte. byte == 0) word ≡ false
no_zero [] is = refl
no_zero (byte ∷ word) is =
    let parts = and_parts (is_listed_byte byte) (list_all is_listed_byte word) is in
    let first : (byte == 0) ≡ false = not_zero byte parts.0 in
    let rest : list_any (λ b. b == 0) word ≡ false = no_zero word parts.1 in
    λ i. first i || rest i

file_word : (word : List ℕ) → is_listed_word word ≡ true → is_file_word word ≡ true
file_word word is =
    let parts = parts-of word is in
    let some : nat_le 1 (length word) ≡ true = grind (arith, nat_tests, parts.0) in
    let short : nat_le (length word) 255 ≡ true = grind (arith, nat_tests, parts.1) in
    and_from (nat_le 1 (length word) && nat_le (length word) 255) (has_no_zero_byte word)
    (and_from (nat_le 1 (length word)) (nat_le (length word) 255) some short) (ap not (no_zero word parts.2))

words_of : (first second : List ℕ) (pair : Pair) → both_words (listed_word first) (listed_word second) ≡ Some pair → IsPair pair
words_of first second pair is = by (is_listed_word first) refl (is_listed_word second) refl is where
  by : (a : Bool) → is_listed_word first ≡ a → (b : Bool) → is_listed_word second ≡ b → both_words (cond a (Some first) None) (cond b (Some second) None) ≡ Some pair → IsPair pair
  by true one true other is =
      let made : Pair = record { recipe = first; report = second } in
      let same : made ≡ pair = cc in
      subst IsPair same (record { recipe = file_word first one; report = file_word second other })
  by true one false other is = absurd cc
  by false one true other is = absurd cc
  by false one false other is = absurd cc

pair_more : (earlier : List Pair) (line : List ℕ) (pair : Pair) → All IsPair earlier → pair_of earlier line ≡ Some pair → All IsPair (earlier ++ pair ∷ [])
unfolding pair_of
pair_more earlier line pair are is = All-push IsPair earlier pair are (words_of (before_first is_space line) (after_first is_space line) pair is)

pairs_of : (text : List ℕ) (lines : List Pair) → list_of pair_of most_audits text ≡ Ok lines → All IsPair lines
pairs_of text lines reads = holds-listed pair_of most_audits (All IsPair) pair_more lines (All-nil IsPair) (text, reads)

are_two : (pair : Pair) → IsPair pair → is_one_file pair.recipe pair.report ≡ false → are_two_files pair.recipe pair.report ≡ true
are_two pair words apart =
    and_from (is_file_word pair.recipe && is_file_word pair.report) (not (is_one_file pair.recipe pair.report))
    (and_from (is_file_word pair.recipe) (is_file_word pair.report) words.recipe words.report) (ap not apart)

-- ---- inputs that are held

fits : (size limit : ℕ) → size ≤ limit → nat_le size limit ≡ true
fits size limit below = grind (arith, nat_tests)

-- what is loaded within a limit is loaded within a higher one
wider : (files : NamedFiles) (name content : List ℕ) (low high : ℕ) → low ≤ high → loaded files name low ≡ Bytes content → loaded files name high ≡ Bytes content
wider files name content low high below is =
    let held = within low (finite.get files name) content is in
    ap (loaded_of high) held.0 ∙ ap (λ b. cond b (Bytes content) TooLong) (fits (length content) high (le_trans held.1 below))

larger : (most budget more : ℕ) (files : NamedFiles) (names contents : List (List ℕ)) → budget ≤ more → AreHeld most budget files names contents → AreHeld most more files names contents
larger most budget more files [] [] below held = tt
larger most budget more files [] (content ∷ contents) below held = absurd held
larger most budget more files (name ∷ names) [] below held = absurd held
larger most budget more files (name ∷ names) (content ∷ contents) below held = (
  wider files name content (min most budget) (min most more) (le-min (min-le_left most budget) (le_trans (min-le_right most budget) below)) held.0,
  larger most (budget - length content) (more - length content) files names contents (omega (arith, below)) held.1,
)

-- names hold one list of contents
same_contents : (most one other : ℕ) (files : NamedFiles) (names first second : List (List ℕ)) → AreHeld most one files names first → AreHeld most other files names second
    → first ≡ second
same_contents most one other files [] [] [] a b = refl
same_contents most one other files [] [] (y ∷ ys) a b = absurd b
same_contents most one other files [] (x ∷ xs) second a b = absurd a
same_contents most one other files (name ∷ names) [] second a b = absurd a
same_contents most one other files (name ∷ names) (x ∷ xs) [] a b = absurd b
same_contents most one other files (name ∷ names) (x ∷ xs) (y ∷ ys) a b =
    let found = (within (min most one) (finite.get files name) x a.0).0 in
    let again = (within (min most other) (finite.get files name) y b.0).0 in
    let both : ◌≡◌ {A = Option (List ℕ)} (Some x) (Some y) = sym found ∙ again in
    let head : x ≡ y = cc in
    let tail : xs ≡ ys = same_contents most (one - length x) (other - length y) files names xs ys a.1 b.1 in
    λ i. head i ∷ tail i

-- ---- a line of which `verify` says yes

record Opened (files : NamedFiles) (pair : Pair) (link : Link) : Type 0 where
  words : is_one_file pair.recipe pair.report ≡ false
  apart : is_input link.recipe pair.report ≡ false
  text : List ℕ
  text_held : loaded files pair.report most_report ≡ Bytes text
  made : Report
  text_reads : report_of text ≡ Ok made
  none : first_fault link.recipe link.inputs made ≡ None
  equal : all_equal made.compare ≡ true

is_equal : (b : Bool) → cond b status.Yes status.Differs ≡ status.Yes → b ≡ true
is_equal true is = refl
is_equal false is = absurd cc

is_two : (recipe report : List ℕ) (files : NamedFiles) (two : Bool) → (outcome (cond two (verify_files recipe report) usage) files).status ≡ status.Yes → two ≡ true
is_two recipe report files true is = refl
is_two recipe report files false is = absurd cc

opened : (budget : ℕ) (files : NamedFiles) (pair : Pair) (link : Link) → HoldsInputs budget files pair link → SaysYes files pair → Opened files pair link
opened budget files pair link h verified =
    let r = replayed pair.recipe pair.report files (are_two_files pair.recipe pair.report) (ap is_compared verified) in
    let one = sym r.holds.recipe_held ∙ h.recipe_held in
    let bytes : r.holds.bytes ≡ h.recipe_bytes = cc in
    let reads = sym r.holds.reads ∙ ap recipe_of bytes ∙ h.recipe_reads in
    let same : r.parsed ≡ link.recipe = cc in
    let held = subst (λ (parsed : RecipeContents). AreHeld most_content most_inputs files (paths parsed) r.inputs) same r.holds.inputs_held in
    let inputs : r.inputs ≡ link.inputs = same_contents most_content most_inputs budget files (paths link.recipe) r.inputs link.inputs held h.inputs_held in
    record {
      words = two_apart pair.recipe pair.report (is_two pair.recipe pair.report files (are_two_files pair.recipe pair.report) verified);
      apart = ap (λ (parsed : RecipeContents). is_input parsed pair.report) (sym same) ∙ r.apart;
      text = r.text;
      text_held = r.text_held;
      made = r.made;
      text_reads = r.text_reads;
      none = sym (λ i. first_fault (same i) (inputs i) r.made) ∙ r.none;
      equal = is_equal (all_equal r.made.compare) (sym (ap (λ (o : Outcome). o.status) r.leads) ∙ verified);
    }

audit_opens : (number budget : ℕ) (files : NamedFiles) (pair : Pair) (link : Link) (next : Link → Plan) → HoldsInputs budget files pair link → Opened files pair link
    → outcome (needs_audit number budget pair next) files ≡ outcome (next link) files
unfolding needs_audit needs_two_files needs_true
audit_opens number budget files pair link next h o =
    let last : RecipeContents → Report → List (List ℕ) → Plan = λ parsed made inputs.
    needs_true (audit_line number) made.compare (first_fault parsed inputs made) (λ _. next (record { recipe = parsed; inputs = inputs })) in
    let loads : RecipeContents → Report → Plan = λ parsed made. needs_inputs_within budget parsed (last parsed made) in
    let reports : RecipeContents → Plan = λ parsed. needs_report_after (audit_line number) pair.report (loads parsed) in
    let recipes : RecipeContents → Plan = λ parsed. needs_apart parsed pair.report (λ _. reports parsed) in
    let refuse : RecipeRefusal → Plan = λ refusal. answers status.RecipeRefused (audit_line number ++ recipe_line refusal) in
    let refuse_report : ℕ → Plan = λ line. answers status.ReportRefused (audit_line number ++ report_line line) in
    ap (λ clash. outcome (cond clash usage (needs_recipe_after (audit_line number) pair.recipe recipes)) files) o.words
    ∙ follows pair.recipe most_recipe (λ bytes. unless_refused (recipe_of bytes) refuse recipes) files h.recipe_bytes h.recipe_held
    ∙ ap (λ reading. outcome (unless_refused reading refuse recipes) files) h.recipe_reads
    ∙ apart_opens link.recipe pair.report (λ _. reports link.recipe) files false o.apart
    ∙ follows pair.report most_report (λ text. unless_refused (report_of text) refuse_report (loads link.recipe)) files o.text o.text_held
    ∙ ap (λ reading. outcome (unless_refused reading refuse_report (loads link.recipe)) files) o.text_reads
    ∙ follow_all most_content budget files (paths link.recipe) link.inputs (last link.recipe o.made) h.inputs_held
    ∙ ap (λ fault. outcome (needs_true (audit_line number) o.made.compare fault (λ _. next link)) files) o.none
    ∙ ap (λ equal. outcome (cond equal (next link) (answers status.Differs (audit_line number ++ compared_lines o.made.compare))) files) o.equal

chained_opens : (files : NamedFiles) (pairs : List Pair) (more links : List Link) (budget : ℕ) → AllHoldInputs budget files pairs more → All (SaysYes files) pairs
    → outcome (chained links budget pairs) files ≡ told files status.Yes (chain_text (links ++ more))
chained_opens files [] [] links budget held each = ap (λ l. told files status.Yes (chain_text l)) (sym (append-nil links))
chained_opens files [] (link ∷ more) links budget held each = absurd held
chained_opens files (pair ∷ pairs) [] links budget held each = absurd held
chained_opens files (pair ∷ pairs) (link ∷ more) links budget held each =
    audit_opens (length links + 1) budget files pair link (λ l. chained (links ++ l ∷ []) (budget_after budget l.inputs) pairs) held.0
    (opened budget files pair link held.0 (All-head (SaysYes files) pair pairs each))
    ∙ chained_opens files pairs more (links ++ link ∷ []) (budget_after budget link.inputs) held.1 (All-tail (SaysYes files) pair pairs each)
    ∙ ap (λ l. told files status.Yes (chain_text l)) (append_assoc links (link ∷ []) more)

lines_open : (files : NamedFiles) (lines : List Pair) (links : List Link) → lines ≢ [] → AllHoldInputs most_inputs files lines links → All (SaysYes files) lines
    → outcome (chained_lines lines) files ≡ told files status.Yes (chain_text links)
unfolding chained_lines
lines_open files [] links some held each = absurd (some refl)
lines_open files (pair ∷ pairs) links some held each = chained_opens files (pair ∷ pairs) links [] most_inputs held each

pub says : (list : List ℕ) (files : NamedFiles) (all : AllVerified list files) → chain list files ≡ told files status.Yes (chain_text all.links)
unfolding chain_files
says list files all =
    let refuse : ℕ → Plan = λ number. answers status.ListRefused (list_line number) in
    ap (λ named. outcome (cond named (chain_files list) usage) files) all.named
    ∙ follows list most_list (λ text. unless_refused (list_of pair_of most_audits text) refuse chained_lines) files all.list_bytes all.list_held
    ∙ ap (λ reading. outcome (unless_refused reading refuse chained_lines) files) all.list_reads
    ∙ lines_open files all.lines all.links all.some all.inputs_held all.verified

-- ---- where it comes to a yes

module _ (files : NamedFiles) (P : Type 0) where
  abbrev Both : Outcome → Outcome → Type 0
  Both o _ = o.status ≡ status.Yes → P

  abbrev Comes : Plan → Type 0
  Comes plan = (outcome plan files).status ≡ status.Yes → P

  refused : (given : Status) (text : List ℕ) → IsRefusal given → Both (told files given text) (told files given text)
  refused given text refusal ends = let both : false ≡ true = sym refusal.1 ∙ ap is_compared ends in absurd cc

  two_come : (pair : Pair) (next : Unit {0} → Plan) → (is_one_file pair.recipe pair.report ≡ false → Comes (next tt)) → Comes (needs_two_files pair next)
  unfolding needs_two_files
  two_come pair next comes = by (is_one_file pair.recipe pair.report) refl where
    by : (clash : Bool) → is_one_file pair.recipe pair.report ≡ clash → Comes (cond clash usage (next tt))
    by true is ends = absurd cc
    by false is ends = comes is ends

  true_comes : (number : ℕ) (lines : List CompareLine) (fault : Option (Part × ℕ)) (next : Unit {0} → Plan)
      → (fault ≡ None → all_equal lines ≡ true → Comes (next tt)) → Comes (needs_true (audit_line number) lines fault next)
  unfolding needs_true
  true_comes number lines None next comes = by (all_equal lines) refl where
    by : (b : Bool) → all_equal lines ≡ b → Comes (cond b (next tt) (answers status.Differs (audit_line number ++ compared_lines lines)))
    by true equal ends = comes refl equal ends
    by false equal ends = absurd cc
  true_comes number lines (Some (part, place)) next comes = λ ends. absurd cc

  audit_comes : (number budget : ℕ) (pair : Pair) (next : Link → Plan) → budget ≤ most_inputs → IsPair pair
      → ((link : Link) → HoldsInputs budget files pair link → SaysYes files pair → Comes (next link)) → Comes (needs_audit number budget pair next)
  unfolding needs_audit
  audit_comes number budget pair next below words comes =
      let link_of : RecipeContents → List (List ℕ) → Link = λ parsed inputs. record { recipe = parsed; inputs = inputs } in
      let last : RecipeContents → Report → List (List ℕ) → Plan = λ parsed made inputs. needs_true (audit_line number) made.compare (first_fault parsed inputs made) (λ _. next (link_of parsed inputs)) in
      let loads : RecipeContents → Report → Plan = λ parsed made. needs_inputs_within budget parsed (last parsed made) in
      let reports : RecipeContents → Plan = λ parsed. needs_report_after (audit_line number) pair.report (loads parsed) in
      let recipes : RecipeContents → Plan = λ parsed. needs_apart parsed pair.report (λ _. reports parsed) in
      let refusal_text : RecipeRefusal → List ℕ = λ refusal. audit_line number ++ recipe_line refusal in
      let line_text : ℕ → List ℕ = λ line. audit_line number ++ report_line line in
      let reading : List ℕ → Plan = λ bytes. unless_refused (recipe_of bytes) (λ refusal. answers status.RecipeRefused (refusal_text refusal)) recipes in
      let texts : RecipeContents → List ℕ → Plan = λ parsed text. unless_refused (report_of text) (λ line. answers status.ReportRefused (line_text line)) (loads parsed) in
      two_come pair (λ _. needs_recipe_after (audit_line number) pair.recipe recipes) (λ one.
      both_need Both files refused pair.recipe most_recipe reading reading (λ bytes held.
      both_read Both files refused (recipe_of bytes) status.RecipeRefused refusal_text recipes recipes (refl, refl) (λ parsed reads.
      both_need_apart Both files refused parsed pair.report (λ _. reports parsed) (λ _. reports parsed) (λ apart.
      both_need Both files refused pair.report most_report (texts parsed) (texts parsed) (λ text text_held.
      both_read Both files refused (report_of text) status.ReportRefused line_text (loads parsed) (loads parsed) (refl, refl) (λ made text_reads.
      both_need_all Both files refused most_content budget (paths parsed) (last parsed made) (last parsed made) (λ inputs inputs_held.
      true_comes number made.compare (first_fault parsed inputs made) (λ _. next (link_of parsed inputs)) (λ none equal.
      comes (link_of parsed inputs) (record { recipe_bytes = bytes; recipe_held = held; recipe_reads = reads; inputs_held = inputs_held })
      ((says_yes pair.recipe pair.report files parsed inputs made (record {
        two = are_two pair words one;
        recipe_bytes = bytes;
        recipe_held = held;
        recipe_reads = reads;
        apart = apart;
        report_bytes = text;
        report_held = text_held;
        report_reads = text_reads;
        inputs_held = larger most_content budget most_inputs files (paths parsed) inputs below inputs_held;
      })).1 (none, equal))))))))))

-- the inputs of these lines, and that `verify` says yes of each
record Rest (files : NamedFiles) (budget : ℕ) (pairs : List Pair) : Type 0 where
  more : List Link
  held : AllHoldInputs budget files pairs more
  each : All (SaysYes files) pairs

chained_comes : (files : NamedFiles) (pairs : List Pair) (links : List Link) (budget : ℕ) → budget ≤ most_inputs → All IsPair pairs
    → (outcome (chained links budget pairs) files).status ≡ status.Yes → Rest files budget pairs
chained_comes files [] links budget below words ends = record { more = []; held = tt; each = All-nil (SaysYes files) }
chained_comes files (pair ∷ pairs) links budget below words ends =
    audit_comes files (Rest files budget (pair ∷ pairs)) (length links + 1) budget pair (λ link. chained (links ++ link ∷ []) (budget_after budget link.inputs) pairs) below
    (All-head IsPair pair pairs words)
    (λ link held verified later.
    let rest = chained_comes files pairs (links ++ link ∷ []) (budget_after budget link.inputs) (less budget (sum_by length link.inputs) below) (All-tail IsPair pair pairs words) later in
    record { more = link ∷ rest.more; held = (held, rest.held); each = All-cons (SaysYes files) pair pairs verified rest.each }) ends
  where
    less : (budget sum : ℕ) → budget ≤ most_inputs → budget - sum ≤ most_inputs
    less budget sum below = omega (arith, below)

lines_come : (files : NamedFiles) (lines : List Pair) → All IsPair lines → (outcome (chained_lines lines) files).status ≡ status.Yes → (lines ≢ []) × Rest files most_inputs lines
unfolding chained_lines
lines_come files [] words ends = absurd cc
lines_come files (pair ∷ pairs) words ends = (λ none. cc, chained_comes files (pair ∷ pairs) [] most_inputs (omega arith) words ends)

list_comes : (list : List ℕ) (files : NamedFiles) (named : Bool) → is_file_word list ≡ named → (outcome (cond named (chain_files list) usage) files).status ≡ status.Yes
    → AllVerified list files
unfolding chain_files
list_comes list files false is ends = absurd cc
list_comes list files true is ends =
    let reading : List ℕ → Plan = λ text. unless_refused (list_of pair_of most_audits text) (λ number. answers status.ListRefused (list_line number)) chained_lines in
    both_need (Both files (AllVerified list files)) files (refused files (AllVerified list files)) list most_list reading reading (λ text held.
    both_read (Both files (AllVerified list files)) files (refused files (AllVerified list files)) (list_of pair_of most_audits text) status.ListRefused list_line chained_lines chained_lines
    (refl, refl)
    (λ lines reads done.
    let found = lines_come files lines (pairs_of text lines reads) done in
    record {
      named = is;
      list_bytes = text;
      list_held = held;
      lines = lines;
      list_reads = reads;
      some = found.0;
      links = found.1.more;
      inputs_held = found.1.held;
      verified = found.1.each;
    })) ends

pub is_yes : (list : List ℕ) (files : NamedFiles) → ((chain list files).status ≡ status.Yes) ↔ AllVerified list files
is_yes list files = (list_comes list files (is_file_word list) refl, λ all. ap (λ (o : Outcome). o.status) (says list files all))
