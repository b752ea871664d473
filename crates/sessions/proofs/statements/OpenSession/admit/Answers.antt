use Rattle.std.proofs.Common.{◌∙◌, Some, None, ap}
use Rattle.sessions.specs.Admission.{admission_of}
use Rattle.sessions.proofs.Serving.{is_admission}
use Rattle.sessions.proofs.statements.OpenSession.admit.Goals as goal

pub returns-in-None-clause-admission : goal.returns-in-None-clause-admission
returns-in-None-clause-admission c =
    is_admission c.args.self.now c.args.statement.now c.seen_catalogue-seen.result.now c.other_holds_lock-is_held.result None c.seen_catalogue-seen.ensures c.other_holds_lock-is_held.ensures
    (λ m n sees held. c.in_ok-admit.ensures m n sees held ∙ ap admission_of c.in-None.is)

pub returns-in-Some-clause-admission : goal.returns-in-Some-clause-admission
returns-in-Some-clause-admission c =
    is_admission c.args.self.now c.args.statement.now c.seen_catalogue-seen.result.now c.other_holds_lock-is_held.result (Some c.in-Some.code) c.seen_catalogue-seen.ensures c.other_holds_lock-is_held.ensures
    (λ m n sees held. c.in_ok-admit.ensures m n sees held ∙ ap admission_of c.in-Some.is)
