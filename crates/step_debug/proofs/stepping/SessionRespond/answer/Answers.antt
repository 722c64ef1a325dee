use Rattle.std.proofs.Common.{◌≡◌, IfOk, subst}
use Rattle.step_debug.specs.Sessions.{reply_to, obeyed}
use Rattle.step_debug.proofs.stepping.SessionRespond.answer.Goals as goal

pub returns-clause-ok : goal.returns-clause-ok
unfolding reply_to
returns-clause-ok c = subst (λ command. IfOk c.obey.result (λ reply. obeyed c.args.self.now command ≡ (reply, c.obey.new.self))) c.read_command.ensures c.obey.ensures.ok
