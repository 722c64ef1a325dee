-- The text of marked dependencies that were found. No promise depends on these definitions.
use Rattle.std.specs.Prelude.{ℕ, List, ◌++◌, codes, flat_map}
use Rattle.recipe.specs.declared.contents.RecipeContents.{RecipeContents}
use Rattle.report.specs.declared.types.Report.{Report}
use Rattle.audit_chain.specs.declared.origin.telling.Origin.{Origin}
use Rattle.audit_chain.specs.declared.rests.resting.Basis.{Basis}
use Rattle.verify_commands.specs.Provenance.{marked_text, run_line, settled_line, source_text}
use Rattle.verify_commands.specs.Rests.{names_text}

abbrev pub found_settling : RecipeContents → Report → Basis → Origin → List ℕ
found_settling recipe report basis origin =
    marked_text recipe report (codes "text") basis.texts
    ++ marked_text recipe report (codes "program") origin.programs
    ++ marked_text recipe report (codes "layout") basis.layouts

abbrev pub found_believed : RecipeContents → List (List ℕ) → Report → List ℕ → Basis → List ℕ
found_believed recipe inputs report own basis =
    names_text (codes "layout") basis.own_layout
    ++ flat_map (run_line recipe report own) basis.ran
    ++ flat_map (settled_line recipe inputs report) basis.lines
    ++ flat_map (source_text recipe report basis.lines) recipe.sources

abbrev pub found_met : Origin → List ℕ
found_met origin =
    names_text (codes "audited read") origin.audited_read
    ++ names_text (codes "audited run") origin.audited_run
    ++ names_text (codes "same read") origin.same_read
    ++ names_text (codes "same run") origin.same_run
