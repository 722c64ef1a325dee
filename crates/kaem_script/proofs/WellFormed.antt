-- The report of a script that is done is well formed.
use Rattle.std.proofs.Common.{◌≡◌, ℕ, zero, suc, ◌<◌, ◌≤◌, ◌^◌, ◌==◌, not, ◌&&◌, IsTrue, Option, None, Some, List, [], ◌∷◌, length, map, unwrap_or, refl, sym, ap, subst, arith, All}
use Rattle.std.specs.Prelude.{IsSome, nat_le}
use Rattle.std.specs.List.{list_any}
use Rattle.std.specs.Ordering.{is_lt}
use Rattle.std.specs.FinMap as fin
use Rattle.std.specs.FinMap.Entries.{below_all}
use Rattle.std.proofs.lemmas.Bool.{and_from, and_parts, leb-true}
use Rattle.std.proofs.lemmas.List.{length-map}
use Rattle.std.proofs.lemmas.List.Elements.{All-map, All-nil, All-weaker}
use Rattle.sha2.specs.Sha256.{sha256}
use Rattle.ddc_base.specs.declared.digests.Digest.{Digest}
use Rattle.mem_files.specs.Calls.{content_at}
use Rattle.ddc_base.specs.Limits.{most_commands, most_name, most_steps}
use Rattle.mem_files.specs.Names.{begins_with_dot_slash, bytes_cmp, is_file_name, is_stripped_name}
use Rattle.mem_files.specs.Outputs.{AtPath, IsContent, IsLeftFile, left}
use Rattle.mem_files.specs.Sound.{IsSound}
use Rattle.mem_files.specs.World.{World}
use Rattle.mem_files.proofs.Leftovers.{left-are, output-is, streams-are}
use Rattle.guest_run.specs.Run.{End, end_at}
use Rattle.guest_run.specs.State.{GuestState}
use Rattle.guest_run.proofs.RunLaws.{no_end_at-zero}
use Rattle.report.specs.Reports.{IsDigest, IsLeft, IsMark, ascend}
use Rattle.report.specs.Script.Reports.{IsCommandLine, IsScriptReport}
use Rattle.report.specs.declared.script.types.CommandLine.{CommandLine}
use Rattle.report.specs.declared.script.types.ScriptReport.{ScriptReport}
use Rattle.report.specs.declared.types.LeftLine.{LeftLine}
use Rattle.report.proofs.Marks.{is_digest}
use Rattle.kaem_script.specs.Fold.{command}
use Rattle.kaem_script.specs.Inside.Commands.{IsRun, ran_with}
use Rattle.kaem_script.specs.Kept.{AreCommands, IsScript}
use Rattle.kaem_script.specs.FilesListed.{IsList, FilesListed, listed_files, named_in}
use Rattle.report.specs.Marks.{mark_of}
use Rattle.kaem_script.specs.Reported.{marked}
use Rattle.kaem_script.proofs.Runs.{is-run}

pub script-whole : (script : List ℕ) (digest : Digest) (commands : List (List (List ℕ))) → digest.0 ≡ sha256 script → AreCommands commands
    → IsScript (record { digest = digest; commands = commands })
script-whole script digest commands is are = record {
  digest = subst (λ (bytes : List ℕ). IsDigest (record { 0 = bytes })) (sym is) (is_digest script);
  commands = are;
}

mark-is : (bytes : List ℕ) → IsContent bytes → IsMark (mark_of bytes)
mark-is bytes is = record { length = (let small = is.small in omega arith); digest = is_digest bytes }

-- ---- the line of a command

some-step : (start : GuestState) (number : ℕ) (end : End × GuestState) → end_at start number ≡ Some end → 1 ≤ number
some-step start zero end is = absurd (no_end_at-zero start end is)
some-step start (suc number) end is = omega arith

pub good-line : (most : ℕ) (w after : World) (words : List (List ℕ)) (line : CommandLine) → most ≤ most_steps → IsSound after
    → IsRun (command most w words) line after → IsCommandLine line
good-line most w after words line few sound run =
    let is = is-run most w words (ran_with line after) run.0 in
    let some = some-step is.run.start line.steps _ is.run.ends in
    let within : line.steps ≤ most = is.within in
    let streams = streams-are after sound in
    subst IsCommandLine (sym run.1) (record {
      steps = (some, omega (arith, within, few));
      stream1 = mark-is after.stream1 streams.0;
      stream2 = mark-is after.stream2 streams.1;
    })

-- ---- the lines of files

named-long : (name : List ℕ) → IsTrue (is_stripped_name name) → (1 ≤ length name) × (length name ≤ 255)
named-long name is =
    let named = (and_parts (is_file_name name) (not (begins_with_dot_slash name)) is).0 in
    let sizes = (and_parts (nat_le 1 (length name) && nat_le (length name) most_name) (not (list_any (λ byte. byte == 0) name)) named).0 in
    let each = and_parts (nat_le 1 (length name)) (nat_le (length name) most_name) sizes in
    (leb-true _ _ each.0, leb-true _ _ each.1)

left-line : (file : List ℕ × List ℕ) → IsLeftFile file → IsLeft (marked file)
left-line file is = record { count = named-long file.0 is.named; bytes = is.name_bytes; mark = mark-is file.1 is.content }

left-ascend : (files : List (List ℕ × List ℕ)) → IsTrue (fin.is_sorted bytes_cmp files) → IsTrue (ascend (map marked files))
left-ascend [] rise = refl
left-ascend (a ∷ []) rise = refl
left-ascend (a ∷ (b ∷ files)) rise =
    let parts = and_parts (below_all bytes_cmp a.0 (b ∷ files)) (fin.is_sorted bytes_cmp (b ∷ files)) rise in
    let first = and_parts (is_lt (bytes_cmp a.0 b.0)) (below_all bytes_cmp a.0 files) parts.0 in
    and_from (is_lt (bytes_cmp a.0 b.0)) (ascend (map marked (b ∷ files))) first.0 (left-ascend (b ∷ files) parts.1)

some_number : (found : Option ℕ) → IsSome found → (number : ℕ) × (found ≡ Some number)
some_number None is = absurd cc
some_number (Some number) is = (number, refl)

content-good : (w : World) (name : List ℕ) → IsSound w → IsContent (unwrap_or (content_at w name) [])
content-good w name sound = at (content_at w name) refl
  where
    at : (found : Option (List ℕ)) → content_at w name ≡ found → IsContent (unwrap_or found [])
    at None is = record { bytes = All-nil (λ byte. byte < 256); small = omega arith }
    at (Some content) is = output-is w (AtPath name) content sound is

listed-line : (w : World) (name : List ℕ) → IsSound w → IsSome (fin.get w.names name) → IsLeft (marked (named_in w name))
listed-line w name sound there =
    let found = some_number (fin.get w.names name) there in
    record {
      count = named-long name (sound.within.good_names name found.0 found.1);
      bytes = sound.within.name_bytes name found.0 found.1;
      mark = mark-is (unwrap_or (content_at w name) []) (content-good w name sound);
    }

listed-lines : (listed : FilesListed) → IsList listed → IsSound listed.world → All IsLeft (map marked (listed_files listed))
listed-lines listed is sound =
    All-map IsLeft marked (listed_files listed)
    (All-map (λ file. IsLeft (marked file)) (named_in listed.world) listed.names
    (All-weaker (λ name. IsSome (fin.get listed.world.names name)) (λ name. IsLeft (marked (named_in listed.world name)))
    (λ name there. listed-line listed.world name sound there) listed.names is.there))

-- a report with these lines
pub good-report : (report : ScriptReport) (listed : FilesListed) (world : World) → IsDigest report.script → IsList listed → IsSound listed.world → IsSound world
    → report.files ≡ map marked (listed_files listed) → report.left ≡ map marked (left world) → All IsCommandLine report.commands → length report.commands ≤ most_commands
    → IsScriptReport report
good-report report listed world digest list listed_sound sound files_are left_is commands few =
    let are = left-are world sound in
    let names = list.few in
    let most = listed_sound.within.few_names in
    record {
      script = digest;
      few_files = omega (arith, ap length files_are, length-map (listed_files listed) marked, length-map listed.names (named_in listed.world), names, most);
      each_file = subst (All IsLeft) (sym files_are) (listed-lines listed list listed_sound);
      few_commands = few;
      each_command = commands;
      few_left = omega (arith, ap length left_is, length-map (left world) marked, are.few);
      each_left = subst (All IsLeft) (sym left_is) (All-map IsLeft marked (left world) (All-weaker IsLeftFile (λ file. IsLeft (marked file)) left-line (left world) are.each));
      ascending = subst (λ (lines : List LeftLine). IsTrue (ascend lines)) (sym left_is) (left-ascend (left world) are.ascending);
    }
