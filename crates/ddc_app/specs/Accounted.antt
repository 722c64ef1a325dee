-- What an answer of `provenance RECIPE REPORT` shows, under every meaning of sources. docs/reference/provenance.md says the same for
-- people.
use Rattle.std.specs.Prelude.{◌≡◌, ◌≢◌, ℕ, List}
use Rattle.sha2.specs.Sha256.{sha256}
use Rattle.ddc_base.specs.Outside.{NamedFiles}
use Rattle.wheeler.specs.Meaning.{Compiles, Prescribes}
use Rattle.command_plan.specs.Plan.{Outcome}
use Rattle.verify_commands.specs.Provenance.{provenance_text}
use Rattle.ddc_app.specs.Accepting.{verify}
use Rattle.ddc_app.specs.Verified.{Verified}

-- `verify` returns the same status on these files and shows what it shows by itself. The recipe, its inputs and the report determine
-- the text, and no file changes
pub record Accounted (prescribes : Prescribes) (compiles : Compiles) (recipe report : List ℕ) (files : NamedFiles) (answer : Outcome) : Type 0 where
  pub verified : Verified prescribes compiles recipe report files (verify recipe report files)
  pub status : answer.status ≡ (verify recipe report files).status
  pub text : answer.text ≡ provenance_text verified.parsed verified.inputs verified.made
  pub kept : answer.files ≡ files

-- two different contents with one SHA-256 digest (FIPS 180-4)
pub record DigestCollision : Type 0 where
  pub one : List ℕ
  pub other : List ℕ
  pub digests : sha256 one ≡ sha256 other
  pub differ : one ≢ other
