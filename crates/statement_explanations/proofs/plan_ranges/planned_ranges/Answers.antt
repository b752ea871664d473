use Rattle.std.proofs.Common.{◌∙◌, ap, sym}
use Rattle.std.proofs.lemmas.Result.{IfOk-weaker}
use Rattle.expressions.specs.Rows.{names_of}
use Rattle.statement_explanations.specs.Asking.{sources_of}
use Rattle.statement_explanations.proofs.Telling.{ranged_sources}
use Rattle.statement_explanations.proofs.plan_ranges.planned_ranges.Goals as goal

pub returns-in-Select-clause-sources : goal.returns-in-Select-clause-sources
returns-in-Select-clause-sources c =
    IfOk-weaker c.ranged.result _ _ (λ tables are.
    ranged_sources (names_of c.args.users.now) c.as_slice-conditions.result.now 0 c.as_slice.result.now tables are ∙ c.as_slice.ensures ∙ ap sources_of (sym c.in-Select.is)) c.ranged.ensures.safe
