-- What an answer of `chain` says.
use Rattle.std.proofs.Common.{◌≡◌, ℕ, suc, ◌+◌, ◌-◌, ◌<◌, ◌≤◌, Bool, true, false, cond, Option, Some, None, Result, Ok, Err, List, [], ◌∷◌, ◌++◌, length, codes, min, sum_by, refl, sym, ap, ◌∙◌, append_assoc, append-nil, arith, All}
use Rattle.std.specs.FinMap as finite
use Rattle.std.specs.List.{AllZip}
use Rattle.std.proofs.Math.Nat.{min-le_left, min-le_right}
use Rattle.std.proofs.lemmas.List.{length-map}
use Rattle.std.proofs.lemmas.List.Elements.{All-cons, All-nil}
use Rattle.std.proofs.lemmas.List.Sums.{sum_by-cons}
use Rattle.ddc_base.specs.declared.outside.Loaded.{Loaded}
use Rattle.ddc_base.specs.declared.outside.Loaded.TheVariants.{Bytes, Absent, TooLong}
use Rattle.ddc_base.specs.Outside.{NamedFiles, loaded}
use Rattle.ddc_base.specs.Limits.{most_audits, most_content, most_inputs, most_list, most_recipe, most_report}
use Rattle.mem_files.specs.Outputs.{IsContent}
use Rattle.recipe.specs.declared.contents.RecipeContents.{RecipeContents}
use Rattle.recipe.specs.declared.parts.Input.{Input}
use Rattle.recipe.specs.Reading.{recipe_of}
use Rattle.recipe.proofs.Keeps.{reads_keep}
use Rattle.report.specs.declared.types.CompareLine.{CompareLine}
use Rattle.report.specs.declared.types.Report.{Report}
use Rattle.report.specs.Reading.{report_of}
use Rattle.audit_rules.specs.Bench.{all_equal}
use Rattle.verifier.specs.declared.part.Part.{Part}
use Rattle.verifier.specs.Faults.{first_fault}
use Rattle.wheeler.specs.Meaning.{Compiles, Prescribes}
use Rattle.audit_chain.specs.declared.link.Link.{Link}
use Rattle.audit_chain.specs.Composed.{EachConcludes, IsTrueAudit, RemainingHold}
use Rattle.command_plan.specs.declared.status.Status.{Status}
use Rattle.command_plan.specs.declared.status.Status.TheVariants as status
use Rattle.command_plan.specs.Lists.{list_of}
use Rattle.command_plan.specs.Plan.{LoadsBytes, Outcome, Plan, answers, bytes_then, follow, needs, needs_all, outcome, unless_refused}
use Rattle.command_plan.specs.Texts.{list_line, report_line}
use Rattle.command_plan.specs.Words.{is_file_word, is_one_file, usage}
use Rattle.recipe_plan.specs.Recipes.{is_input, needs_apart, needs_inputs_within, paths}
use Rattle.recipe_plan.specs.Reports.{needs_report_after}
use Rattle.recipe_plan.specs.Texts.{compared_lines, recipe_line}
use Rattle.verify_commands.specs.declared.pair.Pair.{Pair}
use Rattle.verify_commands.specs.Chain.{chain_files, chained, chained_lines, needs_audit, needs_true, needs_two_files, pair_of, budget_after}
use Rattle.verify_commands.specs.ChainTexts.{audit_line, chain_text}
use Rattle.ddc_app.specs.Chained.{Chained, HoldsAudit, bytes_of_inputs, chain}
use Rattle.ddc_app.specs.Commands.{plan_of}
use Rattle.ddc_app.proofs.Loads.{within}
use Rattle.ddc_app.proofs.Walks.{told}

module _ (files : NamedFiles) (P : Outcome → Type 0) where
  -- where the plan's loads find bytes and it comes to a yes, P holds of what it comes to
  abbrev pub Goes : Plan → Type 0
  Goes plan = LoadsBytes plan files → (outcome plan files).status ≡ status.Yes → P (outcome plan files)

  answer-goes : (given : Status) (text : List ℕ) → (given ≡ status.Yes → P (told files given text)) → Goes (answers given text)
  answer-goes given text holds bytes ends = holds ends

  need-goes : (name : List ℕ) (limit : ℕ) (next : List ℕ → Plan)
      → ((content : List ℕ) → loaded files name limit ≡ Bytes content → All (λ byte. byte < 256) content → Goes (next content)) → Goes (needs name limit next)
  need-goes name limit next goes = by (loaded files name limit) refl where
    by : (l : Loaded) → loaded files name limit ≡ l → bytes_then l (λ c. LoadsBytes (next c) files)
        → (follow l (λ c. outcome (next c) files) (told files status.FileRefused) name).status ≡ status.Yes
        → P (follow l (λ c. outcome (next c) files) (told files status.FileRefused) name)
    by (Bytes content) is bytes ends = goes content is bytes.0 bytes.1 ends
    by Absent is bytes ends = absurd cc
    by TooLong is bytes ends = absurd cc

  -- what inputs are, once they were found
  pub record Found (budget : ℕ) (names contents : List (List ℕ)) : Type 0 where
    pub held : AllZip (λ path content. finite.get files path ≡ Some content) names contents
    pub count : length contents ≡ length names
    pub each : All IsContent contents
    pub small : sum_by length contents ≤ budget

  inputs-go : (budget : ℕ) (names : List (List ℕ)) (next : List (List ℕ) → Plan) → ((contents : List (List ℕ)) → Found budget names contents → Goes (next contents))
      → Goes (needs_all most_content budget names next)
  inputs-go budget [] next goes = goes [] (record { held = tt; count = refl; each = All-nil IsContent; small = omega arith })
  inputs-go budget (name ∷ names) next goes =
      need-goes name (min most_content budget) (λ c. needs_all most_content (budget - length c) names (λ contents. next (c ∷ contents)))
      (λ content is bytes.
      inputs-go (budget - length content) names (λ contents. next (content ∷ contents))
      (λ contents found.
      let one = within (min most_content budget) (finite.get files name) content is in
      goes (content ∷ contents) (record {
        held = (one.0, found.held);
        count = ap suc found.count;
        each = All-cons IsContent content contents (record { bytes = bytes; small = omega (arith, one.1, min-le_left most_content budget) }) found.each;
        small = more (length content) (sum_by length contents) budget (sum_by length (content ∷ contents)) (sum_by-cons length content contents) found.small
            (omega (arith, one.1, min-le_right most_content budget));
      })))
    where
      more : (a b c sum : ℕ) → sum ≡ a + b → b ≤ c - a → a ≤ c → sum ≤ c
      more a b c sum is rest first = omega (arith, is, rest, first)

  read-goes : {A E : Type 0} (reading : Result A E) (given : Status) (text : E → List ℕ) (next : A → Plan) → (given ≡ status.Yes → ⊥)
      → ((value : A) → reading ≡ Ok value → Goes (next value)) → Goes (unless_refused reading (λ e. answers given (text e)) next)
  read-goes (Ok value) given text next other goes = goes value refl
  read-goes (Err e) given text next other goes = λ bytes ends. absurd (other ends)

  test-goes : (b : Bool) (next : Plan) → (b ≡ false → Goes next) → Goes (cond b usage next)
  test-goes true next goes = λ bytes ends. absurd cc
  test-goes false next goes = goes refl

  apart-goes : (parsed : RecipeContents) (file : List ℕ) (next : Unit {0} → Plan) → Goes (next tt) → Goes (needs_apart parsed file next)
  unfolding needs_apart
  apart-goes parsed file next goes = test-goes (is_input parsed file) (next tt) (λ _. goes)

  two-go : (pair : Pair) (next : Unit {0} → Plan) → Goes (next tt) → Goes (needs_two_files pair next)
  unfolding needs_two_files
  two-go pair next goes = test-goes (is_one_file pair.recipe pair.report) (next tt) (λ _. goes)

  true-goes : (number : ℕ) (lines : List CompareLine) (fault : Option (Part × ℕ)) (next : Unit {0} → Plan)
      → (fault ≡ None → all_equal lines ≡ true → Goes (next tt)) → Goes (needs_true (audit_line number) lines fault next)
  unfolding needs_true
  true-goes number lines None next goes = by (all_equal lines) refl where
    by : (b : Bool) → all_equal lines ≡ b → Goes (cond b (next tt) (answers status.Differs (audit_line number ++ compared_lines lines)))
    by true equal = goes refl equal
    by false equal = λ bytes ends. absurd cc
  true-goes number lines (Some (part, place)) next goes = λ bytes ends. absurd cc

  audit-goes : (number budget : ℕ) (pair : Pair) (next : Link → Plan) → ((link : Link) → HoldsAudit files pair link → sum_by length link.inputs ≤ budget → Goes (next link))
      → Goes (needs_audit number budget pair next)
  unfolding needs_audit
  audit-goes number budget pair next goes =
      let link_of : RecipeContents → List (List ℕ) → Link = λ parsed inputs. record { recipe = parsed; inputs = inputs } in
      let last : RecipeContents → Report → List (List ℕ) → Plan = λ parsed made inputs. needs_true (audit_line number) made.compare (first_fault parsed inputs made) (λ _. next (link_of parsed inputs)) in
      let loads : RecipeContents → Report → Plan = λ parsed made. needs_inputs_within budget parsed (last parsed made) in
      let reports : RecipeContents → Plan = λ parsed. needs_report_after (audit_line number) pair.report (loads parsed) in
      let recipes : RecipeContents → Plan = λ parsed. needs_apart parsed pair.report (λ _. reports parsed) in
      two-go pair (λ _. needs pair.recipe most_recipe (λ bytes. unless_refused (recipe_of bytes) (λ refusal. answers status.RecipeRefused (audit_line number ++ recipe_line refusal)) recipes))
      (need-goes pair.recipe most_recipe (λ bytes. unless_refused (recipe_of bytes) (λ refusal. answers status.RecipeRefused (audit_line number ++ recipe_line refusal)) recipes)
      (λ bytes held _.
      read-goes (recipe_of bytes) status.RecipeRefused (λ refusal. audit_line number ++ recipe_line refusal) recipes (λ ends. cc)
      (λ parsed reads.
      apart-goes parsed pair.report (λ _. reports parsed)
      (need-goes pair.report most_report (λ text. unless_refused (report_of text) (λ line. answers status.ReportRefused (audit_line number ++ report_line line)) (loads parsed))
      (λ text text_held _.
      read-goes (report_of text) status.ReportRefused (λ line. audit_line number ++ report_line line) (loads parsed) (λ ends. cc)
      (λ made text_reads.
      inputs-go budget (paths parsed) (last parsed made)
      (λ inputs found.
      true-goes number made.compare (first_fault parsed inputs made) (λ _. next (link_of parsed inputs))
      (λ none equal.
      goes (link_of parsed inputs) (record {
        recipe_bytes = bytes;
        recipe_held = (within most_recipe (finite.get files pair.recipe) bytes held).0;
        recipe_reads = reads;
        rules = reads_keep bytes parsed reads;
        inputs_held = found.held;
        limits = record { count = found.count ∙ length-map parsed.inputs (λ (input : Input). input.path); each = found.each };
        report_bytes = text;
        report_held = (within most_report (finite.get files pair.report) text text_held).0;
        made = made;
        report_reads = text_reads;
        true_report = none;
        equal = equal;
      }) found.small))))))))

-- ---- all audits

-- the audits of these lines after others, and that the text is of all of them
record After (files : NamedFiles) (links : List Link) (budget : ℕ) (pairs : List Pair) (answer : Outcome) : Type 0 where
  more : List Link
  audits : AllZip (HoldsAudit files) pairs more
  small : bytes_of_inputs more ≤ budget
  text : answer.text ≡ chain_text (links ++ more)

one-following : (files : NamedFiles) (links : List Link) (budget : ℕ) (pair : Pair) (pairs : List Pair) (link : Link) (answer : Outcome) → HoldsAudit files pair link
    → sum_by length link.inputs ≤ budget → After files (links ++ link ∷ []) (budget_after budget link.inputs) pairs answer → After files links budget (pair ∷ pairs) answer
one-following files links budget pair pairs link answer held fits b = record {
  more = link ∷ b.more;
  audits = (held, b.audits);
  small = more (sum_by length link.inputs) (bytes_of_inputs b.more) budget (bytes_of_inputs (link ∷ b.more))
      (sum_by-cons (λ (l : Link). sum_by length l.inputs) link b.more) b.small fits;
  text = b.text ∙ ap chain_text (append_assoc links (link ∷ []) b.more);
}
  where
    more : (a c r sum : ℕ) → sum ≡ a + c → c ≤ r - a → a ≤ r → sum ≤ r
    more a c r sum is rest first = omega (arith, is, rest, first)

chained-goes : (files : NamedFiles) (pairs : List Pair) (links : List Link) (budget : ℕ) → Goes files (After files links budget pairs) (chained links budget pairs)
chained-goes files [] links budget bytes ends = record { more = []; audits = tt; small = omega arith; text = ap chain_text (sym (append-nil links)) }
chained-goes files (pair ∷ pairs) links budget bytes ends =
    audit-goes files (After files links budget (pair ∷ pairs)) (length links + 1) budget pair (λ link. chained (links ++ link ∷ []) (budget_after budget link.inputs) pairs)
    (λ link held fits later done.
    one-following files links budget pair pairs link (outcome (chained (links ++ link ∷ []) (budget_after budget link.inputs) pairs) files) held fits
    (chained-goes files pairs (links ++ link ∷ []) (budget_after budget link.inputs) later done)) bytes ends

lines-go : (files : NamedFiles) (pairs : List Pair) → Goes files (After files [] most_inputs pairs) (chained_lines pairs)
unfolding chained_lines
lines-go files [] = λ bytes ends. absurd cc
lines-go files (pair ∷ pairs) = chained-goes files (pair ∷ pairs) [] most_inputs

-- a list that reads, and its audits
record Listed (list : List ℕ) (files : NamedFiles) (answer : Outcome) : Type 0 where
  content : List ℕ
  held : finite.get files list ≡ Some content
  lines : List Pair
  reads : list_of pair_of most_audits content ≡ Ok lines
  following : After files [] most_inputs lines answer

list-goes : (list : List ℕ) (files : NamedFiles) (named : Bool) → Goes files (Listed list files) (cond named (chain_files list) usage)
unfolding chain_files
list-goes list files false = λ bytes ends. absurd cc
list-goes list files true =
    need-goes files (Listed list files) list most_list (λ text. unless_refused (list_of pair_of most_audits text) (λ number. answers status.ListRefused (list_line number)) chained_lines)
    (λ content held _.
    read-goes files (Listed list files) (list_of pair_of most_audits content) status.ListRefused list_line chained_lines (λ ends. cc)
    (λ lines reads bytes ends. record {
      content = content;
      held = (within most_list (finite.get files list) content held).0;
      lines = lines;
      reads = reads;
      following = lines-go files lines bytes ends;
    }))

true-each : (files : NamedFiles) (pairs : List Pair) (links : List Link) → AllZip (HoldsAudit files) pairs links → All IsTrueAudit links
true-each files [] [] held = All-nil IsTrueAudit
true-each files [] (link ∷ links) held = absurd held
true-each files (pair ∷ pairs) [] held = absurd held
true-each files (pair ∷ pairs) (link ∷ links) held =
    let h = held.0 in
    All-cons IsTrueAudit link links (record { rules = h.rules; limits = h.limits; report = h.made; true_report = h.true_report; equal = h.equal })
    (true-each files pairs links held.1)

pub chains : (prescribes : Prescribes) (compiles : Compiles)
    → ((links : List Link) → All IsTrueAudit links → RemainingHold prescribes compiles links → EachConcludes prescribes compiles links)
    → (list : List ℕ) (files : NamedFiles) → LoadsBytes (plan_of (codes "chain" ∷ list ∷ [])) files → (chain list files).status ≡ status.Yes
    → Chained prescribes compiles list files (chain list files)
chains prescribes compiles composed list files bytes ends =
    let l : Listed list files (chain list files) = list-goes list files (is_file_word list) bytes ends in
    record {
      list_bytes = l.content;
      list_held = l.held;
      lines = l.lines;
      list_reads = l.reads;
      links = l.following.more;
      audits = l.following.audits;
      budget = l.following.small;
      text = l.following.text;
      shown = composed l.following.more (true-each files l.lines l.following.more l.following.audits);
    }
