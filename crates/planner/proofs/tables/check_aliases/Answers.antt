use Rattle.std.proofs.Common.{◌∙◌, ap, map, not, subst}
use Rattle.sql_types.specs.declared.state.SqlState.TheVariants.{DuplicateAlias}
use Rattle.expressions.specs.Names.{AnswersUnlessMemory}
use Rattle.expressions.specs.Stages.{require}
use Rattle.abstract_database.specs.Lists.{has_double}
use Rattle.planner.proofs.tables.check_aliases.Goals as goal

pub returns : goal.returns
returns c =
    subst (λ l. AnswersUnlessMemory c.check_names.result (require (not (has_double l)) DuplicateAlias)) (ap (map (λ n. n.now)) c.as_slice.ensures.value ∙ c.in_ok-names.ensures) c.check_names.ensures
