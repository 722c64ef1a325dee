use Rattle.std.proofs.Common.{List, ℕ, [], ◌∷◌, sym, ap, ◌∙◌}
use Rattle.ddc_app.specs.Accepting.{is_compared}
use Rattle.ddc_app.proofs.Told.{accounts}
use Rattle.ddc_app.proofs.laws.accounted.Goals as goal

pub returns : goal.returns
returns g c recipe report files bytes compared =
    let words : List (List ℕ) = recipe ∷ report ∷ [] in
    let status = c.it_judges_as_verify.ensures.status words files in
    let same = sym (ap is_compared status) ∙ compared in
    accounts g.M.Meaning.prescribes g.M.Meaning.compiles recipe report files
    (c.verified.ensures recipe report files (c.it_judges_as_verify.ensures.loads words files bytes) same)
    status (c.it_judges_as_verify.ensures.files words files) same
