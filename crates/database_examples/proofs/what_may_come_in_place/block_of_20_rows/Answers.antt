use Rattle.std.proofs.Common.{inl, refl, arith}
use Rattle.sql_ast.specs.declared.statement.Statement.TheVariants as statement
use Rattle.sql_ast.specs.declared.statement.SessionStatement.TheVariants as of_session
use Rattle.abstract_database.specs.Runs.{for_space}
use Rattle.database_examples.proofs.what_may_come_in_place.block_of_20_rows.Goals as goal

pub returns-clause-answers : goal.returns-clause-answers
returns-clause-answers c = refl

pub returns-clause-stays : goal.returns-clause-stays
returns-clause-stays c = for_space refl refl (refl, ((statement.OfSession of_session.Commit), refl, (refl, refl))) (inl (omega arith))
