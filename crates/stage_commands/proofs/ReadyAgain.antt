-- What a cut with 0 found before it saved is found again over every files in which names of states alone are changed.
use Rattle.std.proofs.Common.{◌≡◌, ◌≢◌, ℕ, zero, suc, ◌-◌, ◌<◌, ◌≤◌, ◌||◌, Bool, true, false, cond, Option, Some, None, Result, Ok, Err, List, [], ◌∷◌, length, map, min, take, le_trans, nat_le, refl, sym, ap, ◌∙◌, subst, arith}
use Rattle.std.specs.List.{list_any}
use Rattle.std.specs.Prelude.{All}
use Rattle.std.specs.FinMap as finite
use Rattle.std.proofs.Math.Decide.{dec_lt}
use Rattle.std.proofs.Math.Nat.{min-le_left}
use Rattle.std.proofs.lemmas.Bool.{leb-true}
use Rattle.std.proofs.lemmas.List.{length-map}
use Rattle.std.proofs.lemmas.List.Elements.{All-cons, All-nil}
use Rattle.std.proofs.lemmas.Slice.Eq.{bytes_eq-Decides}
use Rattle.ddc_base.specs.declared.outside.Loaded.{Loaded}
use Rattle.ddc_base.specs.declared.outside.Loaded.TheVariants.{Bytes, Absent, TooLong}
use Rattle.ddc_base.specs.Outside.{NamedFiles, loaded, loaded_of}
use Rattle.ddc_base.specs.Limits.{most_content, most_inputs, most_recipe, most_states}
use Rattle.mem_files.specs.Outputs.{IsContent}
use Rattle.recipe.specs.Kept.{IsRecipe}
use Rattle.recipe.specs.Lookups.{stage_at}
use Rattle.recipe.specs.Reading.{recipe_of}
use Rattle.recipe.specs.declared.contents.RecipeContents.{RecipeContents}
use Rattle.recipe.specs.declared.parts.Input.{Input}
use Rattle.recipe.specs.declared.text.refusal.RecipeRefusal.{RecipeRefusal}
use Rattle.recipe.proofs.Keeps.{reads_keep}
use Rattle.audit_rules.specs.Valid.{AreDone, IsInputs}
use Rattle.audit_rules.specs.declared.answer.StageFault.{StageFault}
use Rattle.audit_rules.specs.declared.answer.StageFault.TheVariants.{Runs, Checks}
use Rattle.audit_rules.specs.declared.answer.Finished.{Finished}
use Rattle.audit_run.specs.Earlier.{done_in_order}
use Rattle.audit_run.specs.declared.earlier.Unfinished.{Unfinished}
use Rattle.recipe_plan.specs.NotDone.{unfinished}
use Rattle.stage_commands.specs.Begun.{IsBegun}
use Rattle.stage_commands.specs.Earlier.{needs_earlier, needs_stage}
use Rattle.command_plan.specs.declared.status.Status.TheVariants.{FileRefused, RecipeRefused, Yes}
use Rattle.command_plan.specs.Plan.{LoadsBytes, Outcome, Plan, answers, bytes_then, follow, needs, needs_all, outcome, unless_refused}
use Rattle.mem_files.specs.Names.{stripped}
use Rattle.command_plan.specs.Words.{is_one_file, or_usage, usage}
use Rattle.recipe_plan.specs.Recipes.{is_input, needs_apart, needs_inputs, needs_recipe, paths, reads_recipe}
use Rattle.recipe_plan.specs.Texts.{recipe_line}
use Rattle.stage_commands.specs.Names.{each_name, needs_other, piece_name}
use Rattle.stage_commands.specs.Ready.{needs_ready}
use Rattle.stage_commands.specs.declared.ready.Ready.{Ready}
use Rattle.stage_commands.proofs.BegunStages.{begun_of}
use Rattle.stage_commands.proofs.EarlierStages.{earlier_done}

abbrev pub IsYes : Plan → NamedFiles → Type 0
IsYes plan files = (outcome plan files).status ≡ Yes

-- where one plan comes to the same as another, both come to 0 or none
pub yes_as : (plan other : Plan) (files : NamedFiles) → outcome plan files ≡ outcome other files → IsYes plan files → IsYes other files
yes_as plan other files same zeroed = ap (λ (o : Outcome). o.status) (sym same) ∙ zeroed

pub is_other : (first second : List ℕ) → is_one_file first second ≡ false → first ≢ second
unfolding is_one_file
is_other first second apart = λ same. let equal : is_one_file first second ≡ true = (bytes_eq-Decides (stripped first) (stripped second)).1 (ap stripped same) in cc

-- ---- one load

pub follows_load : (name : List ℕ) (limit : ℕ) (next : List ℕ → Plan) (files : NamedFiles) (content : List ℕ) → loaded files name limit ≡ Bytes content
    → outcome (needs name limit next) files ≡ outcome (next content) files
follows_load name limit next files content held =
    ap (λ l. follow l (λ c. outcome (next c) files) (λ text. record { status = FileRefused; text = text; files = files }) name) held

pub load_found : (name : List ℕ) (limit : ℕ) (next : List ℕ → Plan) (files : NamedFiles) → IsYes (needs name limit next) files
    → (content : List ℕ) × (loaded files name limit ≡ Bytes content)
load_found name limit next files zeroed = by (loaded files name limit) refl zeroed where
  by : (l : Loaded) → loaded files name limit ≡ l
      → (follow l (λ c. outcome (next c) files) (λ text. record { status = FileRefused; text = text; files = files }) name).status ≡ Yes
      → (content : List ℕ) × (loaded files name limit ≡ Bytes content)
  by (Bytes content) is zeroed = (content, is)
  by Absent is zeroed = absurd cc
  by TooLong is zeroed = absurd cc

pub load_bytes : (name : List ℕ) (limit : ℕ) (next : List ℕ → Plan) (files : NamedFiles) (content : List ℕ) → loaded files name limit ≡ Bytes content
    → LoadsBytes (needs name limit next) files → All (λ byte. byte < 256) content × LoadsBytes (next content) files
load_bytes name limit next files content held bytes = subst (λ (l : Loaded). bytes_then l (λ c. LoadsBytes (next c) files)) held bytes

pub within_limit : (limit : ℕ) (held : Option (List ℕ)) (content : List ℕ) → loaded_of limit held ≡ Bytes content → (held ≡ Some content) × (length content ≤ limit)
within_limit limit None content is = absurd cc
within_limit limit (Some c) content is = by (nat_le (length c) limit) refl is where
  by : (b : Bool) → nat_le (length c) limit ≡ b → cond b (Bytes c) TooLong ≡ Bytes content → (Some c ≡ Some content) × (length content ≤ limit)
  by true fits is = let same : c ≡ content = cc in (ap Some same, subst (λ x. length x ≤ limit) same (leb-true (length c) limit fits))
  by false fits is = absurd cc

-- ---- names that were judged in turn

module _ (test : List ℕ → Bool) (judge : List ℕ → (Unit {0} → Plan) → Plan) (is : (name : List ℕ) (next : Unit {0} → Plan) → judge name next ≡ cond (test name) usage (next tt))
    (prefix : List ℕ) where
  pub record Passed (count : ℕ) : Type 0 where
    pub apart : (k : ℕ) → k < count → test (piece_name prefix k) ≡ false
    pub found : (later : NamedFiles) (next : Unit {0} → Plan) → outcome (each_name judge prefix count next) later ≡ outcome (next tt) later
    pub loads : (files : NamedFiles) (next : Unit {0} → Plan) → LoadsBytes (each_name judge prefix count next) files → LoadsBytes (next tt) files

  clear : (name : List ℕ) (next : Unit {0} → Plan) (files : NamedFiles) → IsYes (judge name next) files → test name ≡ false
  clear name next files zeroed = by (test name) refl (yes_as (judge name next) (cond (test name) usage (next tt)) files (ap (λ p. outcome p files) (is name next)) zeroed) where
    by : (b : Bool) → test name ≡ b → IsYes (cond b usage (next tt)) files → test name ≡ false
    by true was zeroed = absurd cc
    by false was zeroed = was

  pub all_pass : (count : ℕ) (next : Unit {0} → Plan) (files : NamedFiles) → IsYes (each_name judge prefix count next) files → Passed count
  unfolding each_name
  all_pass zero next files zeroed = record { apart = λ k less. absurd (omega (arith, less)); found = λ later n. refl; loads = λ held n b. b }
  all_pass (suc count) next files zeroed =
      let name : List ℕ = piece_name prefix count in
      let before = all_pass count (λ _. judge name next) files zeroed in
      let here : test name ≡ false = clear name next files (yes_as (each_name judge prefix count (λ _. judge name next)) (judge name next) files (before.found files (λ _. judge name next)) zeroed) in
      record {
        apart = λ k less. elim (dec_lt k count) [
          | yes below ↦ before.apart k below
          | no not ↦ let same : count ≡ k = omega (arith, less, not) in subst (λ n. test (piece_name prefix n) ≡ false) same here
        ];
        found = λ later n. before.found later (λ _. judge name n) ∙ ap (λ p. outcome p later) (is name n ∙ ap (λ b. cond b usage (n tt)) here);
        loads = λ held n b. subst (λ p. LoadsBytes p held) (is name n ∙ ap (λ b. cond b usage (n tt)) here) (before.loads held (λ _. judge name n) b);
      }

other_is : (recipe name : List ℕ) (next : Unit {0} → Plan) → needs_other recipe name next ≡ cond (is_one_file recipe name) usage (next tt)
unfolding needs_other
other_is recipe name next = refl

apart_is : (parsed : RecipeContents) (name : List ℕ) (next : Unit {0} → Plan) → needs_apart parsed name next ≡ cond (is_input parsed name) usage (next tt)
unfolding needs_apart
apart_is parsed name next = refl

-- ---- over files in which names of states alone may be changed

module _ (prefix : List ℕ) (files : NamedFiles) where
  abbrev pub AreAlike : NamedFiles → Type 0
  AreAlike later = (name : List ℕ) → ((k : ℕ) → k < most_states → name ≢ piece_name prefix k) → finite.get later name ≡ finite.get files name

  loaded_again : (later : NamedFiles) → AreAlike later → (name : List ℕ) (limit : ℕ) → ((k : ℕ) → k < most_states → is_one_file name (piece_name prefix k) ≡ false)
      → loaded later name limit ≡ loaded files name limit
  loaded_again later alike name limit apart = ap (loaded_of limit) (alike name (λ k few. is_other name (piece_name prefix k) (apart k few)))

  record Given (budget : ℕ) (names : List (List ℕ)) : Type 0 where
    contents : List (List ℕ)
    held : map (λ path. finite.get files path) names ≡ map Some contents
    found : (later : NamedFiles) → AreAlike later → (next : List (List ℕ) → Plan) → outcome (needs_all most_content budget names next) later ≡ outcome (next contents) later
    loads : (next : List (List ℕ) → Plan) → LoadsBytes (needs_all most_content budget names next) files → LoadsBytes (next contents) files
    many : length contents ≡ length names
    each : All IsContent contents

  first_apart : (first others : Bool) → (first || others) ≡ false → (first ≡ false) × (others ≡ false)
  first_apart true others is = absurd cc
  first_apart false others is = (refl, is)

  all_given : {A : Type 0} (path : A → List ℕ) (values : List A) (budget : ℕ) (next : List (List ℕ) → Plan)
      → ((k : ℕ) → k < most_states → list_any (λ value. is_one_file (path value) (piece_name prefix k)) values ≡ false)
      → IsYes (needs_all most_content budget (map path values) next) files → LoadsBytes (needs_all most_content budget (map path values) next) files
      → Given budget (map path values)
  all_given path [] budget next apart zeroed bytes =
      record { contents = []; held = refl; found = λ later alike n. refl; loads = λ n b. b; many = refl; each = All-nil IsContent }
  all_given path (value ∷ values) budget next apart zeroed bytes =
      let limit : ℕ = min most_content budget in
      let following : List ℕ → (List (List ℕ) → Plan) → Plan = λ c n. needs_all most_content (budget - length c) (map path values) (λ contents. n (c ∷ contents)) in
      let l = load_found (path value) limit (λ c. following c next) files zeroed in
      let parts = λ (k : ℕ) (few : k < most_states). first_apart (is_one_file (path value) (piece_name prefix k)) (list_any (λ v. is_one_file (path v) (piece_name prefix k)) values) (apart k few) in
      let content_loads = λ (n : List (List ℕ) → Plan) (b : LoadsBytes (needs (path value) limit (λ c. following c n)) files).
      load_bytes (path value) limit (λ c. following c n) files l.0 l.1 b in
      let first = content_loads next bytes in
      let rest = all_given path values (budget - length l.0) (λ contents. next (l.0 ∷ contents)) (λ k few. (parts k few).1)
      (yes_as (needs (path value) limit (λ c. following c next)) (following l.0 next) files (follows_load (path value) limit (λ c. following c next) files l.0 l.1) zeroed) first.1 in
      let held = within_limit limit (finite.get files (path value)) l.0 l.1 in
      record {
        contents = l.0 ∷ rest.contents;
        held = λ i. held.0 i ∷ rest.held i;
        found = λ later alike n.
            follows_load (path value) limit (λ c. following c n) later l.0 (loaded_again later alike (path value) limit (λ k few. (parts k few).0) ∙ l.1)
            ∙ rest.found later alike (λ contents. n (l.0 ∷ contents));
        loads = λ n b. rest.loads (λ contents. n (l.0 ∷ contents)) (content_loads n b).1;
        many = omega (arith, rest.many);
        each = All-cons IsContent l.0 rest.contents (record { bytes = first.0; small = le_trans held.1 (min-le_left most_content budget) }) rest.each;
      }

  -- a front of a plan finds what a command begins with, here and over every such files; where the whole loads bytes, so does its rest
  pub record Finds (recipe stage : List ℕ) (leading : (Ready → Plan) → Plan) : Type 0 where
    pub ready : Ready
    pub begins : IsBegun recipe stage files ready
    pub is : IsRecipe ready.recipe
    pub given : IsInputs ready.recipe ready.inputs
    pub done : AreDone ready.recipe ready.done
    pub found : (later : NamedFiles) → AreAlike later → (next : Ready → Plan) → outcome (leading next) later ≡ outcome (next ready) later
    pub loads : (next : Ready → Plan) → LoadsBytes (leading next) files → LoadsBytes (next ready) files

  module _ (recipe stage : List ℕ) (next : Ready → Plan) where
    -- a part more before it
    with_part : (leading rest : (Ready → Plan) → Plan) → ((later : NamedFiles) → AreAlike later → (n : Ready → Plan) → outcome (leading n) later ≡ outcome (rest n) later)
        → ((n : Ready → Plan) → LoadsBytes (leading n) files → LoadsBytes (rest n) files)
        → (IsYes (rest next) files → LoadsBytes (rest next) files → Finds recipe stage rest)
        → IsYes (leading next) files → LoadsBytes (leading next) files → Finds recipe stage leading
    with_part leading rest same loads finds zeroed bytes =
        let r = finds (yes_as (leading next) (rest next) files (same files (λ name apart. refl) next) zeroed) (loads next bytes) in
        record {
          ready = r.ready;
          begins = r.begins;
          is = r.is;
          given = r.given;
          done = r.done;
          found = λ later alike n. same later alike n ∙ r.found later alike n;
          loads = λ n b. r.loads n (loads n b);
        }

    -- what follows each part
    abbrev with_done : RecipeContents → List (List ℕ) → (Ready → Plan) → List Finished → Plan
    with_done parsed inputs n done = n (record { recipe = parsed; inputs = inputs; done = done })

    abbrev with_inputs : RecipeContents → ℕ → List (List ℕ) → (Ready → Plan) → Plan
    with_inputs parsed count inputs n = needs_earlier parsed inputs count (with_done parsed inputs n)

    abbrev with_names : RecipeContents → ℕ → (Ready → Plan) → Plan
    with_names parsed count n = needs_inputs parsed (λ inputs. with_inputs parsed count inputs n)

    abbrev with_count : RecipeContents → ℕ → (Ready → Plan) → Plan
    with_count parsed count n = each_name (needs_apart parsed) prefix most_states (λ _. with_names parsed count n)

    abbrev with_parsed : RecipeContents → (Ready → Plan) → Plan
    with_parsed parsed n = needs_stage parsed stage (λ count. with_count parsed count n)

    abbrev with_text : List ℕ → (Ready → Plan) → Plan
    with_text text n = reads_recipe text (λ parsed. with_parsed parsed n)

    abbrev with_recipe : (Ready → Plan) → Plan
    with_recipe n = needs_recipe recipe (λ parsed. with_parsed parsed n)

    abbrev refuses_stage : RecipeContents → Unfinished → Plan
    refuses_stage parsed not_done = unfinished parsed not_done.stage not_done.fault

    never_unfinished : (parsed : RecipeContents) (number : ℕ) (fault : StageFault) → IsYes (unfinished parsed number fault) files → ⊥
    never_unfinished parsed number (Runs cause step) zeroed = cc
    never_unfinished parsed number (Checks cause) zeroed = cc

    -- from the last part to the first
    module _ (text : List ℕ) (held : loaded files recipe most_recipe ≡ Bytes text) where
      module _ (parsed : RecipeContents) (reads : recipe_of text ≡ Ok parsed) where
        is : IsRecipe parsed
        is = reads_keep text parsed reads

        module _ (count : ℕ) (index_is : stage_at parsed.stages stage ≡ Some count) where
          from_inputs : (inputs : List (List ℕ)) → map (λ path. finite.get files path) (paths parsed) ≡ map Some inputs → IsInputs parsed inputs
              → IsYes (with_inputs parsed count inputs next) files → Finds recipe stage (with_inputs parsed count inputs)
          from_inputs inputs hold given zeroed = by (done_in_order parsed inputs [] (take count parsed.stages)) refl zeroed where
            by : (run : Result (List Finished) Unfinished) → done_in_order parsed inputs [] (take count parsed.stages) ≡ run
                → IsYes (unless_refused run (refuses_stage parsed) (with_done parsed inputs next)) files
                → Finds recipe stage (λ n. unless_refused run (refuses_stage parsed) (with_done parsed inputs n))
            by (Ok done) ran zeroed = record {
              ready = record { recipe = parsed; inputs = inputs; done = done };
              begins = begun_of recipe stage files text parsed count inputs done held reads index_is hold ran;
              is = is;
              given = given;
              done = earlier_done parsed inputs is given count done ran;
              found = λ later alike n. refl;
              loads = λ n b. b;
            }
            by (Err not_done) ran zeroed = absurd (never_unfinished parsed not_done.stage not_done.fault zeroed)

          from_names : ((k : ℕ) → k < most_states → is_input parsed (piece_name prefix k) ≡ false) → IsYes (with_names parsed count next) files
              → LoadsBytes (with_names parsed count next) files → Finds recipe stage (with_names parsed count)
          from_names apart zeroed bytes =
              let inputs = all_given (λ (input : Input). input.path) parsed.inputs most_inputs (λ inputs. with_inputs parsed count inputs next) apart zeroed bytes in
              let given : IsInputs parsed inputs.contents = record { count = inputs.many ∙ length-map parsed.inputs (λ (input : Input). input.path); each = inputs.each } in
              with_part (with_names parsed count) (with_inputs parsed count inputs.contents) (λ later alike n. inputs.found later alike (λ inputs. with_inputs parsed count inputs n))
              (λ n b. inputs.loads (λ inputs. with_inputs parsed count inputs n) b) (λ yes b. from_inputs inputs.contents inputs.held given yes) zeroed bytes

          from_count : IsYes (with_count parsed count next) files → LoadsBytes (with_count parsed count next) files
              → Finds recipe stage (with_count parsed count)
          from_count zeroed bytes =
              let apart = all_pass (is_input parsed) (needs_apart parsed) (apart_is parsed) prefix most_states (λ _. with_names parsed count next) files zeroed in
              with_part (with_count parsed count) (with_names parsed count) (λ later alike n. apart.found later (λ _. with_names parsed count n))
              (λ n b. apart.loads files (λ _. with_names parsed count n) b) (from_names apart.apart) zeroed bytes

        from_parsed : IsYes (with_parsed parsed next) files → LoadsBytes (with_parsed parsed next) files → Finds recipe stage (with_parsed parsed)
        from_parsed zeroed bytes = by (stage_at parsed.stages stage) refl zeroed bytes where
          by : (index_is : Option ℕ) → stage_at parsed.stages stage ≡ index_is → IsYes (or_usage index_is (λ count. with_count parsed count next)) files
              → LoadsBytes (or_usage index_is (λ count. with_count parsed count next)) files
              → Finds recipe stage (λ n. or_usage index_is (λ count. with_count parsed count n))
          by (Some count) index_is zeroed bytes = from_count count index_is zeroed bytes
          by None index_is zeroed bytes = absurd cc

      from_text : IsYes (with_text text next) files → LoadsBytes (with_text text next) files → Finds recipe stage (with_text text)
      from_text zeroed bytes = by (recipe_of text) refl zeroed bytes where
        by : (reading : Result RecipeContents RecipeRefusal) → recipe_of text ≡ reading
            → IsYes (unless_refused reading (λ refusal. answers RecipeRefused (recipe_line refusal)) (λ parsed. with_parsed parsed next)) files
            → LoadsBytes (unless_refused reading (λ refusal. answers RecipeRefused (recipe_line refusal)) (λ parsed. with_parsed parsed next)) files
            → Finds recipe stage (λ n. unless_refused reading (λ refusal. answers RecipeRefused (recipe_line refusal)) (λ parsed. with_parsed parsed n))
        by (Ok parsed) reads zeroed bytes = from_parsed parsed reads zeroed bytes
        by (Err refusal) reads zeroed bytes = absurd cc

    from_recipe : ((k : ℕ) → k < most_states → is_one_file recipe (piece_name prefix k) ≡ false) → IsYes (with_recipe next) files → LoadsBytes (with_recipe next) files
        → Finds recipe stage with_recipe
    from_recipe apart zeroed bytes =
        let text = load_found recipe most_recipe (λ t. with_text t next) files zeroed in
        with_part with_recipe (with_text text.0)
        (λ later alike n. follows_load recipe most_recipe (λ t. with_text t n) later text.0 (loaded_again later alike recipe most_recipe apart ∙ text.1))
        (λ n b. (load_bytes recipe most_recipe (λ t. with_text t n) files text.0 text.1 b).1) (from_text text.0 text.1) zeroed bytes

    pub found_again : IsYes (needs_ready recipe stage prefix next) files → LoadsBytes (needs_ready recipe stage prefix next) files
        → Finds recipe stage (needs_ready recipe stage prefix)
    unfolding needs_ready
    found_again zeroed bytes =
        let names = all_pass (is_one_file recipe) (needs_other recipe) (other_is recipe) prefix most_states (λ _. with_recipe next) files zeroed in
        with_part (needs_ready recipe stage prefix) with_recipe (λ later alike n. names.found later (λ _. with_recipe n))
        (λ n b. names.loads files (λ _. with_recipe n) b) (from_recipe names.apart) zeroed bytes
