-- A script of bytes that is read keeps the rules, and its words are of bytes.
use Rattle.std.proofs.Common.{◌≡◌, ℕ, Ok, Err, List, refl, subst, All}
use Rattle.sha2.specs.Sha256.{sha256}
use Rattle.ddc_base.specs.declared.digests.Digest.{Digest}
use Rattle.mem_files.specs.Sound.{AreBytes}
use Rattle.kaem_script.specs.Kept.{IsScript}
use Rattle.kaem_script.specs.Script.{Commands, ScriptContents, commands_of}
use Rattle.kaem_script.proofs.Kept.{script-kept}
use Rattle.kaem_script.proofs.ScriptBytes.{AllBytes, commands-bytes}
use Rattle.kaem_script.proofs.WellFormed.{script-whole}
use Rattle.tool_commands.specs.Scripts.{script_by_text, script_of}

pub read-good : (text : List ℕ) (parsed : ScriptContents) → script_of text ≡ Ok parsed → AreBytes text → IsScript parsed × All (All AreBytes) parsed.commands
unfolding script_of
read-good text parsed is bytes = by (commands_of text) refl is (commands-bytes text bytes)
  where
    by : (c : Commands) → commands_of text ≡ c → script_by_text text c ≡ Ok parsed → AllBytes c → IsScript parsed × All (All AreBytes) parsed.commands
    by (Err fault) reads here good = absurd cc
    by (Ok commands) reads here good =
        let digest : Digest = record { 0 = sha256 text } in
        let same : record { digest = digest; commands = commands } ≡ parsed = cc in
        subst (λ (s : ScriptContents). IsScript s × All (All AreBytes) s.commands) same (script-whole text digest commands refl (script-kept text commands reads), good)
