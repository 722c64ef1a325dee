-- The report of all stages is well formed.
use Rattle.std.proofs.Common.{◌≡◌, ℕ, suc, ◌<◌, ◌≤◌, ◌==◌, ◌⊎◌, Bool, true, false, if◌then◌else◌, Option, None, Some, List, [], ◌∷◌, length, drop, refl, ap, arith, All, inl, inr}
use Rattle.std.specs.Prelude.{option_map, nat_le, not, ◌&&◌, IsTrue}
use Rattle.std.specs.List.{list_any}
use Rattle.std.proofs.lemmas.Bool.{and_parts, leb-true}
use Rattle.std.proofs.lemmas.Option.{same_Some}
use Rattle.ddc_base.specs.Limits.{most_name}
use Rattle.mem_files.specs.Names.{begins_with_dot_slash, is_file_name, is_stripped_name}
use Rattle.std.proofs.lemmas.List.{length-drop, length-map}
use Rattle.std.proofs.lemmas.List.Elements.{All-cons, All-head, All-map, All-nil, All-tail, All-weaker}
use Rattle.ddc_base.specs.Names.{IsName}
use Rattle.ddc_base.specs.Difference.{first_difference}
use Rattle.mem_files.specs.Outputs.{IsContent}
use Rattle.recipe.specs.declared.contents.RecipeContents.{RecipeContents}
use Rattle.recipe.specs.declared.parts.Input.{Input}
use Rattle.recipe.specs.declared.parts.Stage.{Stage}
use Rattle.audit_rules.proofs.Rules as kept
use Rattle.report.specs.declared.types.LeftLine.{LeftLine}
use Rattle.report.specs.Reports.{IsCompare, IsCompared, IsInputLine, IsLeft, IsReport, IsStageLine}
use Rattle.audit_rules.specs.declared.answer.Finished.{Finished}
use Rattle.audit_rules.specs.Contents.{content}
use Rattle.audit_rules.specs.Stages.{contents}
use Rattle.audit_rules.specs.Bench.{compare_line, compared, compared_at, input_lines, bench_report, stage_line, stage_lines}
use Rattle.audit_rules.specs.Positions.{todo}
use Rattle.audit_rules.specs.Valid.{AreDone, AreFinished, IsFinished, IsInputs, IsLeftLine}
use Rattle.audit_rules.proofs.GivenBoxes.{AreContents, content-is}
use Rattle.audit_rules.proofs.Marks.{mark-is, small-mark}

-- the lines of the inputs
all-inputs : (inputs : List Input) (given : List (List ℕ)) → length given ≡ length inputs → All kept.IsInput inputs → All IsContent given
    → (length (input_lines inputs given) ≡ length inputs) × All IsInputLine (input_lines inputs given)
all-inputs [] [] same names small = (refl, All-nil IsInputLine)
all-inputs [] (bytes ∷ given) same names small = absurd (omega (arith, same))
all-inputs (input ∷ inputs) [] same names small = absurd (omega (arith, same))
all-inputs (input ∷ inputs) (bytes ∷ given) same names small =
    let rest = all-inputs inputs given (omega (arith, same)) (All-tail kept.IsInput input inputs names) (All-tail IsContent bytes given small) in (
      omega (arith, rest.0),
      All-cons IsInputLine _ _ (record {
        name = (All-head kept.IsInput input inputs names).name;
        mark = mark-is bytes (All-head IsContent bytes given small);
      }) rest.1,
    )

-- a line of a file that is left
named-long : (name : List ℕ) → IsTrue (is_stripped_name name) → (1 ≤ length name) × (length name ≤ 255)
named-long name is =
    let named = (and_parts (is_file_name name) (not (begins_with_dot_slash name)) is).0 in
    let sizes = (and_parts (nat_le 1 (length name) && nat_le (length name) most_name) (not (list_any (λ byte. byte == 0) name)) named).0 in
    let each = and_parts (nat_le 1 (length name)) (nat_le (length name) most_name) sizes in
    (leb-true _ _ each.0, leb-true _ _ each.1)

left-is : (file : LeftLine) → IsLeftLine file → IsLeft file
left-is file is = record { count = named-long file.name is.named; bytes = is.name_bytes; mark = small-mark file.mark is.mark }

stage-is : (recipe : RecipeContents) (stage : Stage) (f : Finished) → kept.IsStage stage → IsFinished stage f → IsStageLine (stage_line recipe stage f)
stage-is recipe stage f rules is = record {
  name = rules.name;
  steps = omega (arith, is.few_steps, rules.few_steps);
  stream1 = small-mark f.stream1 is.stream1;
  stream2 = small-mark f.stream2 is.stream2;
  count = is.few_left;
  each_left = All-weaker IsLeftLine IsLeft left-is f.left is.each_left;
  ascending = is.ascending;
  made = mark-is f.made is.made;
}

all-stages : (recipe : RecipeContents) (stages : List Stage) (done : List Finished) → length done ≡ length stages → All kept.IsStage stages → AreFinished stages done
    → (length (stage_lines recipe stages done) ≡ length stages) × All IsStageLine (stage_lines recipe stages done)
all-stages recipe [] [] same rules are = (refl, All-nil IsStageLine)
all-stages recipe [] (f ∷ done) same rules are = absurd are
all-stages recipe (stage ∷ stages) [] same rules are = absurd (omega (arith, same))
all-stages recipe (stage ∷ stages) (f ∷ done) same rules are =
    let rest = all-stages recipe stages done (omega (arith, same)) (All-tail kept.IsStage stage stages rules) are.1 in
    (omega (arith, rest.0), All-cons IsStageLine _ _ (stage-is recipe stage f (All-head kept.IsStage stage stages rules) are.0) rest.1)

-- as many stages are done as there are
fewer : (stages : List Stage) (done : List Finished) → AreFinished stages done → length done ≤ length stages
fewer stages [] are = omega arith
fewer [] (f ∷ done) are = absurd are
fewer (stage ∷ stages) (f ∷ done) are = let rest = fewer stages done are.1 in omega arith

-- a difference lies within both lists, and inside one
within : (a b : List ℕ) (offset : ℕ) → first_difference a b ≡ Some offset → (offset ≤ length a) × (offset ≤ length b) × ((offset < length a) ⊎ (offset < length b))
within [] [] offset is = cc
within [] (y ∷ ys) offset is = let zero_is : 0 ≡ offset = same_Some 0 offset is in (omega (arith, zero_is), omega (arith, zero_is), inr (omega (arith, zero_is)))
within (x ∷ xs) [] offset is = let zero_is : 0 ≡ offset = same_Some 0 offset is in (omega (arith, zero_is), omega (arith, zero_is), inl (omega (arith, zero_is)))
within (x ∷ xs) (y ∷ ys) offset is = by_head (x == y) is (first_difference xs ys) refl (within xs ys) where
  Within : ℕ → Type 0
  Within offset = (offset ≤ suc (length xs)) × (offset ≤ suc (length ys)) × ((offset < suc (length xs)) ⊎ (offset < suc (length ys)))

  later : (rest : ℕ) → suc rest ≡ offset → (rest ≤ length xs) × (rest ≤ length ys) × ((rest < length xs) ⊎ (rest < length ys)) → Within offset
  later rest same (a, b, inl c) = (omega (arith, same, a), omega (arith, same, b), inl (omega (arith, same, c)))
  later rest same (a, b, inr c) = (omega (arith, same, a), omega (arith, same, b), inr (omega (arith, same, c)))

  by_rest : (o : Option ℕ) → option_map suc o ≡ Some offset
      → ((rest : ℕ) → o ≡ Some rest → (rest ≤ length xs) × (rest ≤ length ys) × ((rest < length xs) ⊎ (rest < length ys))) → Within offset
  by_rest None same after = cc
  by_rest (Some rest) same after = later rest (same_Some (suc rest) offset same) (after rest refl)

  by_head : (t : Bool) → (if t then option_map suc (first_difference xs ys) else Some 0) ≡ Some offset
      → (o : Option ℕ) → first_difference xs ys ≡ o
      → ((rest : ℕ) → first_difference xs ys ≡ Some rest → (rest ≤ length xs) × (rest ≤ length ys) × ((rest < length xs) ⊎ (rest < length ys))) → Within offset
  by_head true same o found after = by_rest (first_difference xs ys) same after
  by_head false same o found after = let zero_is : 0 ≡ offset = same_Some 0 offset same in (omega (arith, zero_is), omega (arith, zero_is), inl (omega (arith, zero_is)))

compared-is : (a b : List ℕ) → IsContent a → IsContent b → IsCompared (compared a b)
compared-is a b small smaller = by_difference (first_difference a b) refl where
  by_difference : (o : Option ℕ) → first_difference a b ≡ o → IsCompared (compared_at o a b)
  by_difference None is = omega (arith, small.small)
  by_difference (Some offset) is =
      let places = within a b offset is in
      record {
        within_ours = places.0;
        within_theirs = places.1;
        inside_one = places.2;
        small_ours = omega (arith, small.small);
        small_theirs = omega (arith, smaller.small);
      }

pub report-is : (recipe : RecipeContents) → kept.IsRecipe recipe → (inputs : List (List ℕ)) → IsInputs recipe inputs → (done : List Finished) → AreDone recipe done
    → AreContents (contents inputs done) → todo recipe done ≡ [] → IsReport (bench_report recipe inputs done)
unfolding bench_report
report-is recipe is inputs given done are all left =
    let all_of = contents inputs done in
    let few = fewer recipe.stages done are.each in
    let none : length (drop (length done) recipe.stages) ≡ 0 = ap length left in
    let many = length-drop (length done) recipe.stages in
    let lines = all-inputs recipe.inputs inputs given.count is.inputs given.each in
    let blocks = all-stages recipe recipe.stages done (omega arith) is.stages are.each in
    record {
      recipe = is.digest;
      inputs = (omega (arith, lines.0, is.some_inputs), omega (arith, lines.0, is.few_inputs));
      each_input = lines.1;
      stages = (omega (arith, blocks.0, is.some_stages), omega (arith, blocks.0, is.few_stages));
      each_stage = blocks.1;
      form = is.format;
      compares = (
        omega (arith, is.some_compared, length-map recipe.compare.stages (compare_line recipe all_of)),
        omega (arith, is.few_compared, length-map recipe.compare.stages (compare_line recipe all_of)),
      );
      each_compare = All-map IsCompare (compare_line recipe all_of) recipe.compare.stages (All-weaker IsName (λ stage. IsCompare (compare_line recipe all_of stage))
          (λ stage name. record {
            stage = name;
            binary = is.binary;
            result = compared-is (content recipe all_of stage) (content recipe all_of recipe.compare.binary)
                (content-is recipe all_of stage all) (content-is recipe all_of recipe.compare.binary all);
          }) recipe.compare.stages is.compared);
    }
