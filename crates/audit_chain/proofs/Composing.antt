-- What audits in a row show together: an induction over them.
use Rattle.std.proofs.Common.{◌≡◌, ℕ, ◌+◌, ◌-◌, ◌==◌, ◌&&◌, ◌||◌, not, Bool, true, false, cond, Option, None, Some, List, [], ◌∷◌, ◌++◌, length, map, filter, refl, sym, ap, ap₂, ◌∙◌, subst, append_assoc, arith, All}
use Rattle.std.specs.Prelude.{IfSome, IsSome, bytes_eq, is_some, option_and_then, option_map, slice_get}
use Rattle.std.specs.List.{list_all, list_any}
use Rattle.std.specs.Option.{option_or}
use Rattle.std.proofs.lemmas.Bool.{and_parts, eqb-true}
use Rattle.std.proofs.lemmas.List.Elements.{All-cons, All-head, All-nil, All-push, All-tail}
use Rattle.std.proofs.lemmas.Slice.Eq.{bytes_eq-Decides}
use Rattle.ddc_base.specs.declared.languages.Language.TheVariants.{Hex0, Hex1, Hex2, M1}
use Rattle.recipe.specs.declared.contents.RecipeContents.{RecipeContents}
use Rattle.recipe.specs.declared.parts.Content.TheVariants as content_of
use Rattle.recipe.specs.declared.parts.Source.{Source}
use Rattle.recipe.specs.declared.parts.SourceLanguage.{SourceLanguage}
use Rattle.recipe.specs.declared.parts.SourceLanguage.TheVariants.{Defined, Other}
use Rattle.recipe.specs.Lookups.{content_named, input_at, source_named, source_of, stage_at}
use Rattle.audit_rules.specs.Contents.{SourceText, bytes_named, content, defined, text_of}
use Rattle.verifier.specs.Faults.{same_language}
use Rattle.wheeler.specs.AllContents.{all_contents, text_by}
use Rattle.wheeler.specs.AllContents as full
use Rattle.wheeler.specs.Assumptions.{Holds}
use Rattle.wheeler.specs.Follows.{audited_binary}
use Rattle.wheeler.specs.Listed.{BinaryImplements, ConcludesListed, ListedHold, lines_listed}
use Rattle.wheeler.specs.Meaning.{Compiles as Compiling, Implements as IsProgram, Prescribes}
use Rattle.wheeler.specs.declared.assumption.Assumption.{Assumption}
use Rattle.wheeler.specs.declared.assumption.Assumption.TheVariants.{Implements, Compiles}
use Rattle.wheeler.proofs.Argument.{All-back, All-prefix}
use Rattle.wheeler.proofs.Naming.{get-split}
use Rattle.audit_chain.specs.declared.link.Link.{Link}
use Rattle.audit_chain.specs.Chain.{input_bytes, given_contents, given_text, gives, is_given, names_input, is_struck, is_same_text, chain_line, remaining_after, same_files, same_text, text_of_stage, given_text_named, unstruck}
use Rattle.audit_chain.specs.Composed.{EachConcludes, HoldsIn, IsTrueAudit, RemainingHold}

-- ---- equal texts

same-language : (a b : SourceLanguage) → same_language (defined a) (defined b) ≡ true → a ≡ b
same-language Other Other is = refl
same-language (Defined Hex0) (Defined Hex0) is = refl
same-language (Defined Hex1) (Defined Hex1) is = refl
same-language (Defined Hex2) (Defined Hex2) is = refl
same-language (Defined M1) (Defined M1) is = refl
same-language _ _ is = absurd cc

same-files : (a b : List (List ℕ)) → same_files a b ≡ true → a ≡ b
same-files [] [] is = refl
same-files [] (y ∷ ys) is = absurd cc
same-files (x ∷ xs) [] is = absurd cc
same-files (x ∷ xs) (y ∷ ys) is =
    let parts = and_parts (bytes_eq x y) (same_files xs ys) is in
    ap₂ (λ h t. h ∷ t) ((bytes_eq-Decides x y).0 parts.0) (same-files xs ys parts.1)

same-text : (a b : SourceText) → same_text a b ≡ true → a ≡ b
unfolding same_text
same-text a b is =
    let parts = and_parts (same_language (defined a.lang) (defined b.lang) && a.base == b.base) (same_files a.files b.files) is in
    let prefix = and_parts (same_language (defined a.lang) (defined b.lang)) (a.base == b.base) parts.0 in
    let lang = same-language a.lang b.lang prefix.0 in
    let base = eqb-true a.base b.base prefix.1 in
    let files = same-files a.files b.files parts.1 in
    λ i. record { lang = lang i; base = base i; files = files i }

-- ---- what inputs alone say is said with all contents

-- an input stands for its own bytes, whatever was made
input-content : (recipe : RecipeContents) (inputs some others : List (List ℕ)) (name : List ℕ) → names_input recipe name ≡ true
    → content recipe (record { inputs = inputs; artefacts = some }) name ≡ content recipe (record { inputs = inputs; artefacts = others }) name
unfolding content content_named
input-content recipe inputs some others name is = by (input_at recipe.inputs name) is where
  by : (o : Option ℕ) → is_some o ≡ true
      → bytes_named (record { inputs = inputs; artefacts = some }) (option_or (option_map content_of.Input o) (option_map content_of.Stage (stage_at recipe.stages name)))
      ≡ bytes_named (record { inputs = inputs; artefacts = others }) (option_or (option_map content_of.Input o) (option_map content_of.Stage (stage_at recipe.stages name)))
  by None there = absurd cc
  by (Some index) there = refl

given-content : (link : Link) (name : List ℕ) → names_input link.recipe name ≡ true → input_bytes link name ≡ content link.recipe (all_contents link.recipe link.inputs) name
unfolding all_contents
given-content link name is = input-content link.recipe link.inputs [] _ name is

given-files : (link : Link) (names : List (List ℕ)) → list_all (names_input link.recipe) names ≡ true
    → map (content link.recipe (given_contents link)) names ≡ map (content link.recipe (all_contents link.recipe link.inputs)) names
given-files link [] is = refl
given-files link (name ∷ names) is =
    let parts = and_parts (names_input link.recipe name) (list_all (names_input link.recipe) names) is in
    ap₂ (λ h t. h ∷ t) (given-content link name parts.0) (given-files link names parts.1)

some-same : {A : Type 0} (b : Bool) (x y : A) → cond b (Some x) None ≡ Some y → (b ≡ true) × (x ≡ y)
some-same true x y is = (refl, cc)
some-same false x y is = absurd cc

given-source : (link : Link) (source : Source) (text : SourceText) → given_text link source ≡ Some text
    → text_of link.recipe (all_contents link.recipe link.inputs) source ≡ text
unfolding given_text text_of
given-source link source text is =
    let parts = some-same (list_all (names_input link.recipe) source.files) (text_of link.recipe (given_contents link) source) text is in
    let files = given-files link source.files parts.0 in
    let same : text_of link.recipe (given_contents link) source ≡ text_of link.recipe (all_contents link.recipe link.inputs) source =
    λ i. record { lang = source.lang; base = source.base; files = files i } in
    sym same ∙ parts.1

pub given-named : (link : Link) (name : List ℕ) (text : SourceText) → given_text_named link name ≡ Some text
    → full.text_named link.recipe (all_contents link.recipe link.inputs) name ≡ text
unfolding full.text_named
given-named link name text is = by (source_named link.recipe.sources name) is where
  by : (o : Option Source) → option_and_then (given_text link) o ≡ Some text → text_by link.recipe (all_contents link.recipe link.inputs) o ≡ text
  by None is = absurd cc
  by (Some source) is = given-source link source text is

-- ---- what is found has what all elements have

any-has : {X : Type 0} (test : X → Bool) (P : X → Type 0) (xs : List X) → list_any test xs ≡ true → All P xs → (x : X) × P x × (test x ≡ true)
any-has test P [] is all = absurd cc
any-has test P (x ∷ xs) is all = by (test x) refl is (λ later. any-has test P xs later (All-tail P x xs all)) where
  by : (b : Bool) → test x ≡ b → (b || list_any test xs) ≡ true → (list_any test xs ≡ true → (y : _) × P y × (test y ≡ true)) → (y : _) × P y × (test y ≡ true)
  by true was is later = (x, All-head P x xs all, was)
  by false was is later = later is

module _ (prescribes : Prescribes) (compiles : Compiling) where
  abbrev Concluded : Link → Type 0
  Concluded link = ConcludesListed prescribes compiles link.recipe link.inputs

  abbrev Audited : Link → Type 0
  Audited link = IsTrueAudit link × Concluded link

  -- a pair that an audit gives is a program of a source
  stage-given : (other : Link) (stage : List ℕ) (text : SourceText) → BinaryImplements prescribes other.recipe other.inputs stage → is_same_text text (text_of_stage other stage) ≡ true
      → IsProgram prescribes (audited_binary other.recipe other.inputs) text
  unfolding text_of_stage
  stage-given other stage text shown is = by_source (source_of other.recipe stage) shown is where
    by_text : (name : List ℕ) (o : Option SourceText) → given_text_named other name ≡ o → is_same_text text o ≡ true
        → IsProgram prescribes (audited_binary other.recipe other.inputs) (full.text_named other.recipe (all_contents other.recipe other.inputs) name)
        → IsProgram prescribes (audited_binary other.recipe other.inputs) text
    by_text name None at is implements = absurd cc
    by_text name (Some given) at is implements =
        subst (IsProgram prescribes (audited_binary other.recipe other.inputs)) (given-named other name given at ∙ same-text given text is) implements

    by_source : (o : Option (List ℕ))
        → IfSome o (λ name. IsProgram prescribes (audited_binary other.recipe other.inputs) (full.text_named other.recipe (all_contents other.recipe other.inputs) name))
        → is_same_text text (option_and_then (given_text_named other) o) ≡ true → IsProgram prescribes (audited_binary other.recipe other.inputs) text
    by_source None implements is = absurd cc
    by_source (Some name) implements is = by_text name (given_text_named other name) refl is implements

  input-there : (o : Option ℕ) → IsSome o → is_some o ≡ true
  input-there None some = absurd cc
  input-there (Some index) some = refl

  pair-given : (other : Link) (bytes : List ℕ) (text : SourceText) → Audited other → gives bytes text other ≡ true → IsProgram prescribes bytes text
  unfolding gives
  pair-given other bytes text audited is =
      let parts = and_parts (bytes_eq (input_bytes other other.recipe.compare.binary) bytes) (list_any (λ stage. is_same_text text (text_of_stage other stage)) other.recipe.compare.stages) is in
      let one = any-has (λ stage. is_same_text text (text_of_stage other stage)) (BinaryImplements prescribes other.recipe other.inputs) other.recipe.compare.stages parts.1 audited.1.implements in
      let there = input-there (input_at other.recipe.inputs other.recipe.compare.binary) audited.0.rules.binary in
      let same : audited_binary other.recipe other.inputs ≡ bytes =
      sym (given-content other other.recipe.compare.binary there) ∙ (bytes_eq-Decides (input_bytes other other.recipe.compare.binary) bytes).0 parts.0 in
      subst (λ program. IsProgram prescribes program text) same (stage-given other one.0 text one.1 one.2)

  -- a struck line holds
  struck-holds : (earlier : List Link) (link : Link) (line : Assumption) → All Audited earlier → is_struck earlier link line ≡ true
      → Holds prescribes compiles link.recipe (all_contents link.recipe link.inputs) line
  unfolding is_struck
  struck-holds earlier link (Compiles source stage becomes) audited is = absurd cc
  struck-holds earlier link (Implements made source) audited is =
      let parts = and_parts (names_input link.recipe made) (is_given earlier (input_bytes link made) (given_text_named link source)) is in
      by parts.0 (given_text_named link source) refl parts.1
    where
      by : names_input link.recipe made ≡ true → (o : Option SourceText) → given_text_named link source ≡ o → is_given earlier (input_bytes link made) o ≡ true
          → IsProgram prescribes (content link.recipe (all_contents link.recipe link.inputs) made) (full.text_named link.recipe (all_contents link.recipe link.inputs) source)
      by there None at given = absurd cc
      by there (Some text) at given =
          let one = any-has (gives (input_bytes link made) text) Audited earlier given audited in
          subst (IsProgram prescribes (content link.recipe (all_contents link.recipe link.inputs) made)) (sym (given-named link source text at))
          (subst (λ program. IsProgram prescribes program text) (given-content link made there) (pair-given one.0 (input_bytes link made) text one.1 one.2))

  -- lines of which each is struck or remains hold
  lines-hold : (links earlier : List Link) (link : Link) (number : ℕ) → slice_get links (number - 1) ≡ Some link → All Audited earlier → (lines : List Assumption)
      → All (HoldsIn prescribes compiles links) (map (chain_line number) (filter (λ line. not (is_struck earlier link line)) lines))
      → All (Holds prescribes compiles link.recipe (all_contents link.recipe link.inputs)) lines
  lines-hold links earlier link number at audited [] remain = All-nil (Holds prescribes compiles link.recipe (all_contents link.recipe link.inputs))
  lines-hold links earlier link number at audited (line ∷ lines) remain =
      by (is_struck earlier link line) refl remain (λ later. lines-hold links earlier link number at audited lines later)
    where
      Own : Assumption → Type 0
      Own = Holds prescribes compiles link.recipe (all_contents link.recipe link.inputs)

      Line : Assumption → Type 0
      Line l = IfSome (slice_get links (number - 1)) (λ (k : Link). Holds prescribes compiles k.recipe (all_contents k.recipe k.inputs) l)

      rest : List Assumption
      rest = filter (λ l. not (is_struck earlier link l)) lines

      by : (b : Bool) → is_struck earlier link line ≡ b → All (HoldsIn prescribes compiles links) (map (chain_line number) (cond (not b) (line ∷ rest) rest))
          → (All (HoldsIn prescribes compiles links) (map (chain_line number) rest) → All Own lines) → All Own (line ∷ lines)
      by true was remain later = All-cons Own line lines (struck-holds earlier link line audited was) (later remain)
      by false was remain later =
          let here : Line line = All-head (HoldsIn prescribes compiles links) (chain_line number line) (map (chain_line number) rest) remain in
          All-cons Own line lines (subst (λ (o : Option Link). IfSome o (λ (k : Link). Holds prescribes compiles k.recipe (all_contents k.recipe k.inputs) line)) at here)
          (later (All-tail (HoldsIn prescribes compiles links) (chain_line number line) (map (chain_line number) rest) remain))

  -- every audit, where those before it conclude
  each-concludes : (links : List Link) → ((link : Link) → IsTrueAudit link → ListedHold prescribes compiles link.recipe link.inputs → Concluded link)
      → (earlier rest : List Link) → links ≡ earlier ++ rest → All Audited earlier → All IsTrueAudit rest
      → All (HoldsIn prescribes compiles links) (remaining_after earlier rest) → All Concluded rest
  unfolding unstruck
  each-concludes links concludes earlier [] split audited true_audits remain = All-nil Concluded
  each-concludes links concludes earlier (link ∷ rest) split audited true_audits remain =
      let own = unstruck earlier link in
      let others = remaining_after (earlier ++ link ∷ []) rest in
      let mine = All-head IsTrueAudit link rest true_audits in
      let number : (length earlier + 1) - 1 ≡ length earlier = omega arith in
      let at : slice_get links ((length earlier + 1) - 1) ≡ Some link = ap (slice_get links) number ∙ ap (λ ls. slice_get ls (length earlier)) split ∙ get-split earlier link rest in
      let held = lines-hold links earlier link (length earlier + 1) at audited (lines_listed link.recipe) (All-prefix (HoldsIn prescribes compiles links) own others remain) in
      let concluded = concludes link mine held in
      All-cons Concluded link rest concluded
      (each-concludes links concludes (earlier ++ link ∷ []) rest (split ∙ sym (append_assoc earlier (link ∷ []) rest)) (All-push Audited earlier link audited (mine, concluded))
      (All-tail IsTrueAudit link rest true_audits) (All-back (HoldsIn prescribes compiles links) own others remain))

  pub composed-law : ((link : Link) → IsTrueAudit link → ListedHold prescribes compiles link.recipe link.inputs → Concluded link)
      → (links : List Link) → All IsTrueAudit links → RemainingHold prescribes compiles links → EachConcludes prescribes compiles links
  composed-law concludes links true_audits remain = each-concludes links concludes [] links refl (All-nil Audited) true_audits remain
