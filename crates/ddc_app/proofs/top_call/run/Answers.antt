use Rattle.std.proofs.Common.{ℕ, List, sym, ap, ◌∙◌, subst}
use Rattle.command_plan.specs.Plan.{LoadsBytes, Outcome, outcome}
use Rattle.command_plan.specs.Answered.{is_answer}
use Rattle.ddc_app.specs.Accepting.{is_compared, verify}
use Rattle.ddc_app.specs.Accounted.{Accounted}
use Rattle.ddc_app.specs.Chained.{Chained}
use Rattle.ddc_app.specs.Commands.{plan_of}
use Rattle.ddc_app.specs.Scripted.{ScriptReported, ScriptVerified, kaem_verify}
use Rattle.ddc_app.specs.Verified.{Verified}
use Rattle.ddc_app.proofs.Accepting.{accepts}
use Rattle.ddc_app.proofs.Scripting.{kaem_reports, kaem_verifies, script_accepted}
use Rattle.ddc_app.proofs.Sessions as sessions
use Rattle.ddc_app.proofs.Verifying.{compared_answers}
use Rattle.ddc_app.proofs.top_call.run.Goals as goal

pub returns : goal.returns
returns g c =
    let l = c.act.ensures in
    record {
      status = sessions.status _ _ _ _ _ l;
      text = sessions.text _ _ _ _ _ l;
      calls = sessions.calls _ _ _ _ _ l;
      one_put = sessions.one_put _ _ _ _ _ l;
      session = sessions.session _ _ _ _ _ l;
      replies = sessions.replies _ _ _ _ _ l;
      shelf_fault = sessions.shelf_fault _ _ _ _ _ l;
      out_fault = sessions.out_fault _ _ _ _ _ l;
      talk_fault = sessions.talk_fault _ _ _ _ _ l;
      silent = sessions.silent _ _ _ _ _ l;
      talk_want = sessions.talk_want _ _ _ _ _ l;
      want = sessions.want _ _ _ _ _ l;
      shown = λ settled recipe report words compared.
          let files = (g.S.Shelf.state c.args.shelf.now).files in
          let same = ap (λ (w : List (List ℕ)). outcome (plan_of w) files) words in
          let answers = compared_answers _ compared in
          let status = sessions.status _ _ _ _ _ l settled answers in
          let bytes = (sessions.calls _ _ _ _ _ l answers).bytes settled in
          subst (Verified g.M.Meaning.prescribes g.M.Meaning.compiles recipe report files) (sym same)
          (c.verified.ensures recipe report files (subst (λ (w : List (List ℕ)). LoadsBytes (plan_of w) files) words bytes)
          (sym (ap is_compared (status ∙ ap (λ o. o.status) same)) ∙ compared));
      accounted = λ settled recipe report words compared.
          let files = (g.S.Shelf.state c.args.shelf.now).files in
          let same = ap (λ (w : List (List ℕ)). outcome (plan_of w) files) words in
          let answers = compared_answers _ compared in
          let status = sessions.status _ _ _ _ _ l settled answers in
          let bytes = (sessions.calls _ _ _ _ _ l answers).bytes settled in
          subst (Accounted g.M.Meaning.prescribes g.M.Meaning.compiles recipe report files) (sym same)
          (c.accounted.ensures recipe report files (subst (λ (w : List (List ℕ)). LoadsBytes (plan_of w) files) words bytes)
          (sym (ap is_compared (status ∙ ap (λ o. o.status) same)) ∙ compared));
      accepted = λ settled recipe report words compared.
          let files = (g.S.Shelf.state c.args.shelf.now).files in
          let same = ap (λ (w : List (List ℕ)). outcome (plan_of w) files) words in
          let answers = compared_answers _ compared in
          let status = sessions.status _ _ _ _ _ l settled answers in
          let bytes = (sessions.calls _ _ _ _ _ l answers).bytes settled in
          let is = status ∙ ap (λ o. o.status) same in
          ap (λ (o : Outcome). (verify recipe report o.files).status) same
          ∙ accepts recipe report files (subst (λ (w : List (List ℕ)). LoadsBytes (plan_of w) files) words bytes) (sym (ap is_compared is) ∙ compared)
          ∙ sym is;
      chained = λ settled list words yes.
          let files = (g.S.Shelf.state c.args.shelf.now).files in
          let same = ap (λ (w : List (List ℕ)). outcome (plan_of w) files) words in
          let answers = ap is_answer yes in
          let status = sessions.status _ _ _ _ _ l settled answers in
          let bytes = (sessions.calls _ _ _ _ _ l answers).bytes settled in
          subst (Chained g.M.Meaning.prescribes g.M.Meaning.compiles list files) (sym same)
          (c.chained.ensures list files (subst (λ (w : List (List ℕ)). LoadsBytes (plan_of w) files) words bytes)
          (sym (ap (λ o. o.status) same) ∙ sym status ∙ yes));
      reported = λ settled script list report steps words ends.
          let files = (g.S.Shelf.state c.args.shelf.now).files in
          let same = ap (λ (w : List (List ℕ)). outcome (plan_of w) files) words in
          let status = sessions.status _ _ _ _ _ l settled (ap is_answer ends) in
          subst (ScriptReported script list report steps files) (sym same)
          (kaem_reports script list report files steps (sym (ap (λ o. o.status) same) ∙ sym status ∙ ends));
      replayed = λ settled script list report words ends.
          let files = (g.S.Shelf.state c.args.shelf.now).files in
          let same = ap (λ (w : List (List ℕ)). outcome (plan_of w) files) words in
          let status = sessions.status _ _ _ _ _ l settled (ap is_answer ends) in
          subst (ScriptVerified script list report files) (sym same)
          (kaem_verifies script list report files (sym (ap (λ o. o.status) same) ∙ sym status ∙ ends));
      replays = λ settled script list report steps words ends.
          let files = (g.S.Shelf.state c.args.shelf.now).files in
          let same = ap (λ (w : List (List ℕ)). outcome (plan_of w) files) words in
          let answers = ap is_answer ends in
          let status = sessions.status _ _ _ _ _ l settled answers in
          let bytes = (sessions.calls _ _ _ _ _ l answers).bytes settled in
          ap (λ (o : Outcome). (kaem_verify script list report o.files).status) same
          ∙ script_accepted script list report steps files (subst (λ (w : List (List ℕ)). LoadsBytes (plan_of w) files) words bytes)
          (sym (ap (λ o. o.status) same) ∙ sym status ∙ ends);
      prompt_stays = sessions.prompt_stays _ _ _ _ _ l;
      shelf_tells = sessions.shelf_tells _ _ _ _ _ l;
      out_tells = sessions.out_tells _ _ _ _ _ l;
      prompt_tells = sessions.prompt_tells _ _ _ _ _ l;
    }
