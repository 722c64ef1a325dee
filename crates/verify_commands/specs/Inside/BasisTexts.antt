-- The text of dependencies that were found. No promise depends on these definitions.
use Rattle.std.specs.Prelude.{ℕ, List, ◌++◌, codes, flat_map}
use Rattle.audit_chain.specs.declared.rests.resting.Basis.{Basis}
use Rattle.verify_commands.specs.Rests.{names_text}
use Rattle.verify_commands.specs.Texts.{assumption_line}

abbrev pub basis_text : Basis → List ℕ
basis_text basis =
    names_text (codes "text") basis.texts
    ++ names_text (codes "layout") basis.layouts
    ++ names_text (codes "layout") basis.own_layout
    ++ names_text (codes "run") basis.ran
    ++ flat_map assumption_line basis.lines
    ++ names_text (codes "speaks") basis.spoken
