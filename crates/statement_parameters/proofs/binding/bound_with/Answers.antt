use Rattle.std.proofs.Common.{◌∙◌, map, sym}
use Rattle.std.proofs.lemmas.Result.{IfOk-weaker}
use Rattle.statement_parameters.specs.Literals.{viewed_literal}
use Rattle.statement_parameters.specs.Spans.{viewed_spans}
use Rattle.statement_parameters.proofs.Bound.{is_binding, is_refused}
use Rattle.statement_parameters.proofs.binding.bound_with.Goals as goal

pub returns-in-Ok : goal.returns-in-Ok
returns-in-Ok c =
    IfOk-weaker c.checked_text.result _ _
    (λ bound checked values e. is_binding (viewed_spans c.args.parts) values (map viewed_literal c.args.literals.now) _ c.in-Ok.made bound c.in_ok-made.ensures c.in-Ok.is checked e)
    c.checked_text.ensures

pub returns-in-Err : goal.returns-in-Err
returns-in-Err c = λ values e. is_refused (viewed_spans c.args.parts) values (map viewed_literal c.args.literals.now) _ c.in-Err.fault (sym c.have_literals.ensures ∙ c.if-not-have_literals.false) c.in_ok-made.ensures c.in-Err.is e
