use Rattle.audit_rules.specs.Contents.{content}
use Rattle.recipe.specs.declared.contents.RecipeContents.{RecipeContents}
use Rattle.std.proofs.Common.{ℕ, Bool, List}
use Rattle.guest_run.proofs.Programs.{one-run}
use Rattle.wheeler.specs.AllContents.{all_contents, text_named}
use Rattle.wheeler.specs.Inside.MacroLaws.{literal-program}
use Rattle.wheeler.specs.Inside.RunLaws.{fixed-program, own-program}
use Rattle.wheeler.specs.Largest.{AllImplement}
use Rattle.wheeler.specs.MacroAssembly.{AreOwnPrograms, MacroLeaves, program_of_text}
use Rattle.wheeler.specs.ProgramsImplement.{TheseImplement}
use Rattle.wheeler.proofs.LinesOfPrograms.{all-lines, largest-laws, route-lines}
use Rattle.wheeler.proofs.Sound.{Laws}
use Rattle.wheeler.proofs.semantics_laws.lines_on_own_programs_hold.Goals as goal

laws : Laws MacroLeaves (AllImplement MacroLeaves)
laws = largest-laws MacroLeaves (fixed-program program_of_text one-run) literal-program

own-implement : (trusted : List ℕ → Bool) (recipe : RecipeContents) (inputs : List (List ℕ)) → AreOwnPrograms trusted recipe inputs
    → TheseImplement MacroLeaves trusted recipe (all_contents recipe inputs)
own-implement trusted recipe inputs own name source on at =
    let all = all_contents recipe inputs in
    own-program program_of_text (text_named recipe all source) (content recipe all name) (own name source on at)

pub returns-clause-all : goal.returns-clause-all
returns-clause-all c recipe inputs report ok given is own = (all-lines MacroLeaves laws recipe inputs report ok given is).1 (own-implement _ recipe inputs own)

pub returns-clause-route : goal.returns-clause-route
returns-clause-route c recipe inputs report ok given is name own =
    (route-lines MacroLeaves laws recipe inputs report ok given is name).1 (own-implement _ recipe inputs own)
