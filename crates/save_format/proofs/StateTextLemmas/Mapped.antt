-- Runs that are gone past one after the other, and what is known of them after what is still read.
use Rattle.std.proofs.Common.{◌≡◌, ℕ, zero, suc, ◌+◌, ◌-◌, ◌^◌, ◌<◌, ◌≤◌, Bool, Option, None, Some, List, [], ◌∷◌, ◌++◌, length, All, sum_by, Result, Ok, Err, refl, sym, ap, subst, ◌∙◌, arith}
use Rattle.std.specs.Option.{is_some}
use Rattle.std.specs.Prelude.{◌↔◌, IsOk, IsTrue, option_map}
use Rattle.std.proofs.lemmas.List.Elements.{All-append, All-cons, All-head, All-nil, All-tail}
use Rattle.std.proofs.lemmas.List.Sums.{sum_by_push}
use Rattle.ddc_base.specs.Limits.{most_pages, page_number_end}
use Rattle.save_format.specs.declared.byte_fields.cursor.WrongField.{WrongField}
use Rattle.save_format.specs.declared.state_text.parts.Run.{Run}
use Rattle.save_format.specs.declared.state_text.parts.HeaderNumbers.{HeaderNumbers}
use Rattle.mem_files.specs.Lists.{ListedFile}
use Rattle.mem_files.specs.declared.open_file.OpenFile.{OpenFile}
use Rattle.save_format.specs.ByteFields.Reader.{Read, Reader, ◌>>=◌, counted, done, ended, at_offset, read_onward, several, whole}
use Rattle.save_format.specs.Inside.Mapping.{IsRemainingAfter, PassesRuns, Tells}
use Rattle.save_format.specs.StateText.Mappable.{AreMappable, IsHeaderOf}
use Rattle.save_format.specs.StateText.Seen.{reserved_view}
use Rattle.save_format.specs.StateText.StateText.{PageText, StateText, after_run, run_at}
use Rattle.save_format.proofs.ByteFieldsLemmas.Loop.{goes_on, is_done, none_before, with_prefix}
use Rattle.save_format.proofs.ByteFieldsLemmas.Encodes.{all_taken}

-- ---- one run more

abbrev EndsWithin : Run → Type 0
EndsWithin run = run.first + run.pages ≤ page_number_end

abbrev pages_in : List Run → ℕ
pages_in runs = sum_by (λ (run : Run). run.pages) runs

header_within : (runs : List Run) (run : Run) → All EndsWithin (runs ++ run ∷ []) → All EndsWithin runs
header_within [] run all = All-nil EndsWithin
header_within (first ∷ runs) run all = All-cons EndsWithin first runs (All-head EndsWithin first (runs ++ run ∷ []) all) (header_within runs run (All-tail EndsWithin first (runs ++ run ∷ []) all))

last_within : (runs : List Run) (run : Run) → All EndsWithin (runs ++ run ∷ []) → EndsWithin run
last_within [] run all = All-head EndsWithin run [] all
last_within (first ∷ runs) run all = last_within runs run (All-tail EndsWithin first (runs ++ run ∷ []) all)

pages_push : (runs : List Run) (run : Run) → pages_in (runs ++ run ∷ []) ≡ pages_in runs + run.pages
pages_push runs run = sum_by_push (λ (run : Run). run.pages) runs run

pub none_more : (runs : List Run) (run : Run) → ¬ (AreMappable runs) → ¬ (AreMappable (runs ++ run ∷ []))
none_more runs run not all =
    not (record { within = header_within runs run all.within; few = omega (arith, all.few, pages_push runs run) })

pub too_far : (runs : List Run) (run : Run) → page_number_end < run.first + run.pages → ¬ (AreMappable (runs ++ run ∷ []))
too_far runs run far all = let low = last_within runs run all.within in absurd (omega (arith, low, far))

pub too_many : (runs : List Run) (run : Run) (remaining : ℕ) → pages_in runs + remaining ≡ most_pages → remaining < run.pages → ¬ (AreMappable (runs ++ run ∷ []))
too_many runs run remaining is more all = absurd (omega (arith, all.few, pages_push runs run, is, more))

pub one_more : (runs : List Run) (run : Run) (remaining : ℕ) → IsRemainingAfter (Some remaining) runs → run.first + run.pages ≤ page_number_end → run.pages ≤ remaining → IsRemainingAfter (Some (remaining - run.pages)) (runs ++ run ∷ [])
one_more runs run remaining following low few =
    (All-append EndsWithin runs (run ∷ []) following.0 (All-cons EndsWithin run [] low (All-nil EndsWithin)), omega (arith, following.1, pages_push runs run, few))

-- what is left says whether all of them can be mapped
pub left_says : (remaining : Option ℕ) (runs : List Run) → IsRemainingAfter remaining runs → (some : Bool) → some ≡ is_some remaining → IsTrue some ↔ AreMappable runs
left_says None runs following some is = (λ t. absurd cc, λ all. absurd (following all))
left_says (Some n) runs following some is = (λ t. record { within = following.0; few = omega (arith, following.1) }, λ all. is)

-- ---- runs one after the other

-- some runs were read before those that are still read, and so many pages are left after them
pub record WentBy (remaining : Option ℕ) (least count : ℕ) (cursor : List ℕ) (total : Read (List Run)) : Type 0 where
  pub prefix : List Run
  pub read : with_prefix prefix (several run_at after_run least count cursor) ≡ total
  pub following : IsRemainingAfter remaining prefix

pub sets_out : (count : ℕ) (remaining : List ℕ) → WentBy (Some most_pages) 0 (count - 0) remaining (several run_at after_run 0 count remaining)
sets_out count remaining =
    let all : count - 0 ≡ count = omega arith in
    record {
      prefix = [];
      read = none_before (several run_at after_run 0 (count - 0) remaining) ∙ ap (λ n. several run_at after_run 0 n remaining) all;
      following = (All-nil EndsWithin, refl);
    }

pub went_on : (remaining after : Option ℕ) (least next count i : ℕ) (cursor following : List ℕ) (run : Run) (total : Read (List Run)) → i < count → run_at least cursor ≡ Ok (run, following) → after_run run ≡ next
    → ((runs : List Run) → IsRemainingAfter remaining runs → IsRemainingAfter after (runs ++ run ∷ [])) → WentBy remaining least (count - i) cursor total → WentBy after next (count - (i + 1)) following total
went_on remaining after least next count i cursor following run total lt read is more went = record {
  prefix = went.prefix ++ run ∷ [];
  read = goes_on run_at after_run least next went.prefix count i cursor run following total lt read is went.read;
  following = more went.prefix went.following;
}

pub went_past : (remaining : Option ℕ) (least count i : ℕ) (cursor : List ℕ) (total : Read (List Run)) (some : Bool) → count ≤ i → some ≡ is_some remaining → WentBy remaining least (count - i) cursor total
    → PassesRuns (Ok some) cursor total
went_past remaining least count i cursor total some le is went =
    (went.prefix, is_done run_at after_run least went.prefix count i cursor total le went.read, left_says remaining went.prefix went.following some is)

-- ---- after the runs

-- a state of numbers and lists
abbrev parsed : HeaderNumbers → List Run → List PageText → List ListedFile → List (ℕ × OpenFile) → List ℕ → List ℕ → StateText
parsed numbers runs pages files descriptors stream1 stream2 = record { steps = numbers.steps; pc = numbers.pc; registers = numbers.registers; reservation = option_map reserved_view numbers.reservation; heap = numbers.heap; runs = runs; pages = pages; files = files; descriptors = descriptors; stream1 = stream1; stream2 = stream2 }

abbrev pub all_lists : Reader (List PageText) → Reader (List ListedFile) → Reader (List (ℕ × OpenFile)) → Reader (List ℕ) → Reader (List ℕ) → HeaderNumbers → Reader StateText
all_lists pages_at files_at descriptors_at stream1_at stream2_at numbers = do
  runs ← counted run_at after_run 0
  pages ← pages_at
  files ← files_at
  descriptors ← descriptors_at
  stream1 ← stream1_at
  stream2 ← stream2_at
  done (parsed numbers runs pages files descriptors stream1 stream2)

-- what is read in two steps is read in each
pub onward : {A B : Type 0} (read : Read A) (next : A → Reader B) (b : B) (remaining : List ℕ) → read_onward read next ≡ Ok (b, remaining) → (a : A) × (l : List ℕ) × (read ≡ Ok (a, l)) × (next a l ≡ Ok (b, remaining))
onward (Ok x) next b remaining e = (x.0, x.1, refl, e)
onward (Err at) next b remaining e = absurd cc

abbrev value_or : {A : Type 0} → A → Read A → A
value_or a (Ok x) = x.0
value_or a (Err at) = a

abbrev rest_of : {A : Type 0} → Read A → List ℕ
rest_of (Ok x) = x.1
rest_of (Err at) = []

-- what is read is one value, with one rest
pub same_value : {A : Type 0} (a b : A) (l m : List ℕ) → ◌≡◌ {A = Read A} (Ok (a, l)) (Ok (b, m)) → a ≡ b
same_value a b l m e = ap (value_or a) e

pub same_rest : {A : Type 0} (a b : A) (l m : List ℕ) → ◌≡◌ {A = Read A} (Ok (a, l)) (Ok (b, m)) → l ≡ m
same_rest a b l m e = ap rest_of e

-- what is told of a part, as of what is made of it
pub told_in : {W X Y Z : Type 0} (Part : W → Y → Type 0) (Holds : X → Z → Type 0) (make : Y → Z) (as_whole : W → X) → ((told : W) (y : Y) → Part told y → Holds (as_whole told) (make y)) → (told : W) (read : Read Y)
    → Tells Part (Ok told) read → Tells Holds (Ok (as_whole told)) (read_onward read (λ y. done (make y)))
told_in {X = X} Part Holds make as_whole same told read tells = λ z rest e.
    let on = onward read (λ y. done (make y)) z rest e in
    let is : make on.0 ≡ z = same_value (make on.0) z on.1 rest on.3 in
    subst (Holds (as_whole told)) is (same told on.0 (tells on.0 on.1 on.2))

-- the numbers, and what was told of the runs behind them, are the front of what the lists are read as, whatever reads the other lists
pub header_says : (pages : Reader (List PageText)) (files : Reader (List ListedFile)) (descriptors : Reader (List (ℕ × OpenFile))) (stream1 stream2 : Reader (List ℕ))
    (numbers : HeaderNumbers) (runs : List Run) (cursor after : List ℕ) (mappable : Bool) → counted run_at after_run 0 cursor ≡ Ok (runs, after) → (IsTrue mappable ↔ AreMappable runs)
    → Tells IsHeaderOf (Ok (record { steps = numbers.steps; pc = numbers.pc; reservation = numbers.reservation; heap = numbers.heap; mappable = mappable }))
    (all_lists pages files descriptors stream1 stream2 numbers cursor)
header_says pages files descriptors stream1 stream2 numbers runs cursor after mappable read maps = λ y rest e.
    let one = onward (counted run_at after_run 0 cursor) _ y rest e in
    let two = onward (pages one.1) _ y rest one.3 in
    let three = onward (files two.1) _ y rest two.3 in
    let four = onward (descriptors three.1) _ y rest three.3 in
    let five = onward (stream1 four.1) _ y rest four.3 in
    let six = onward (stream2 five.1) _ y rest five.3 in
    let made : parsed numbers one.0 two.0 three.0 four.0 five.0 six.0 ≡ y = same_value _ y six.1 rest six.3 in
    let same : runs ≡ y.runs = same_value runs one.0 after one.1 (sym read ∙ one.2) ∙ ap (λ s. s.runs) made in
    record {
      steps = ap (λ s. s.steps) made;
      pc = ap (λ s. s.pc) made;
      reservation = ap (λ s. s.reservation) made;
      heap = ap (λ s. s.heap) made;
      mappable = subst (λ (rs : List Run). IsTrue mappable ↔ AreMappable rs) same maps;
    }

-- ---- so many items are read

pub several_length : {A : Type 0} (item : ℕ → Reader A) (next : A → ℕ) (s count : ℕ) (cursor rest : List ℕ) (items : List A) → several item next s count cursor ≡ Ok (items, rest) → count ≡ length items
unfolding several
several_length {A} item next s zero cursor rest items is = ap length (same_value {A = List A} [] items cursor rest is)
several_length item next s (suc count) cursor rest items is =
    let one = onward (item s cursor) _ items rest is in
    let more = onward (several item next (next one.0) count one.1) _ items rest one.3 in
    let all : one.0 ∷ more.0 ≡ items = same_value _ items more.1 rest more.3 in
    ap suc (several_length item next (next one.0) count one.1 more.1 more.0 more.2) ∙ ap length all

-- ---- whole texts

pub whole_told : {X Y : Type 0} (Holds : X → Y → Type 0) (field : Reader Y) (text cursor : List ℕ) (told : X) → cursor ≡ text → Tells Holds (Ok told) (field cursor) → (y : Y) → whole field text ≡ Ok y → Holds told y
whole_told Holds field text cursor told is tells y formed = tells y [] (ap field is ∙ all_taken (length text) (field text) y formed)

pub never_wrong : {Y : Type 0} (field : Reader Y) (text cursor : List ℕ) (at : ℕ) → cursor ≡ text → field cursor ≡ Err at → IsOk (whole field text) → ⊥
never_wrong {Y} field text cursor at is wrong formed = by (field text) (ap field (sym is) ∙ wrong) formed
  where
    by : (read : Read Y) → read ≡ Err at → IsOk (at_offset (length text) (ended read)) → ⊥
    by (Ok x) e ok = cc
    by (Err remaining) e ok = cc
