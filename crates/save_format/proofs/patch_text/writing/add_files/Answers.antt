use Rattle.std.proofs.Common.{◌≡◌, ◌≤◌, None, List, [], ◌++◌, length, get_or, take, map, option_map, ap, subst, ◌∙◌, arith}
use Rattle.std.specs.List.{flat_map}
use Rattle.std.specs.Int.{w16, w32}
use Rattle.save_format.specs.ByteFields.Spelling.{blob_text, number_text}
use Rattle.mem_files.specs.Lists.{ListedFile}
use Rattle.save_format.specs.declared.state_text.parts.File.{File}
use Rattle.save_format.specs.StateText.Seen.{file_view}
use Rattle.save_format.specs.StateText.Encoded.{name_bytes}
use Rattle.save_format.specs.PatchText.Inside.Walking.{Rises}
use Rattle.save_format.specs.PatchText.Encoded.{content_relative_text, patched_file_text}
use Rattle.save_format.proofs.PatchTextLemmas.FileSteps.{flat_more, head_or_at, text_more}
use Rattle.save_format.proofs.PatchTextLemmas.Listing.{file_number}
use Rattle.save_format.proofs.PatchTextLemmas.Rising.{rises_lower}
use Rattle.save_format.proofs.PatchTextLemmas.Walked.{rises_after}
use Rattle.save_format.proofs.patch_text.writing.add_files.Goals as goal

no_file : File
no_file = record { number = 0; name = None; content = record { ref_ptr = (0, 0); now = [] } }

pub known_content-later-requires-clause-rises : goal.known_content-later-requires-clause-rises
known_content-later-requires-clause-rises c = rises_lower file_number c.loop-file.least 0 _ (omega arith) c.loop-file.invariant.rises

pub loop-file-preserved : goal.loop-file-preserved
unfolding no_file
loop-file-preserved c =
    let file : File = get_or c.args.files.now c.loop-file.file-index no_file in
    let base : List ListedFile = map file_view c.args.base.now in
    let e = head_or_at c.args.files.now c.loop-file.file-index no_file c.loop-file-test.true in
    let low : c.loop-file.least ≤ file.number = (subst (λ (v : List File). Rises file_number c.loop-file.least (map file_view v)) e c.loop-file.invariant.turn).0 in
    let known = c.known_content-later.ensures.here ∙ ap (option_map (λ (f : ListedFile). f.content)) (c.loop-file.invariant.same file.number low) in
    let put : c.put_file.new.out ≡ c.loop-file.out ++ patched_file_text base (file_view file) =
    c.in_ok-put_file.ensures.ok ∙ ap (λ o. c.loop-file.out ++ (number_text w32 file.number ++ (blob_text w16 (name_bytes (file_view file).name) ++ content_relative_text o (file_view file).content))) known in
    record {
      at = c.known_content-later.ensures.within;
      rises = rw c.from-least.ensures c.known_content-later.ensures.rises;
      same = λ k le. c.known_content-later.ensures.same k (omega (arith, le, c.from-least.ensures)) ∙ c.loop-file.invariant.same k (omega (arith, le, low, c.from-least.ensures));
      turn = rw c.from-least.ensures (rises_after file_number file_view _ _ file c.loop-file.least e c.loop-file.invariant.turn);
      written = rw (flat_more (patched_file_text base) file_view c.args.files.now c.loop-file.file-index no_file c.loop-file-test.true)
          (text_more c.args.out.now (number_text w32 (length c.args.files.now)) (flat_map (patched_file_text base) (map file_view (take c.loop-file.file-index c.args.files.now))) (patched_file_text base (file_view file)) c.put_file.new.out c.loop-file.out put c.loop-file.invariant.written);
    }
