use Rattle.ddc_app.proofs.Scripting.{kaem_leaves, kaem_left_leaves, kaem_verify_leaves}
use Rattle.ddc_app.proofs.laws.scripts_leave_others.Goals as goal

pub returns-clause-report : goal.returns-clause-report
returns-clause-report c = λ script list report steps files. kaem_leaves script list report files steps

pub returns-clause-none : goal.returns-clause-none
returns-clause-none c = kaem_verify_leaves

pub returns-clause-out : goal.returns-clause-out
returns-clause-out c = λ script list steps command file out files. kaem_left_leaves script list out files steps command file
