use Rattle.abstract_database.specs.Machine.{is_writing}
use Rattle.database_examples.proofs.OwnAnswers.{own_answer}
use Rattle.std.proofs.Common.{codes, false, ◌≡◌, inl, ap, refl, arith}
use Rattle.sql_types.specs.declared.state.SqlState.TheVariants as state
use Rattle.sql_types.specs.declared.answer.Answer.TheVariants as answer
use Rattle.sql_ast.specs.declared.statement.Statement.TheVariants as statement
use Rattle.sql_ast.specs.declared.statement.SessionStatement.TheVariants as of_session
use Rattle.abstract_database.specs.Machine.{Outside, Inside}
use Rattle.abstract_database.specs.Runs.{by_transition, for_memory, for_space, for_number, for_device}
use Rattle.database_examples.specs.Wording.{select_keys}
use Rattle.database_examples.specs.Lines.{ready, inserted, no_rows}
use Rattle.database_examples.specs.WhatMayComeInPlace.{in_a_block}
use Rattle.database_examples.proofs.what_may_come_in_place.full_store_refuses_a_commit.Goals as goal

pub returns-clause-may : goal.returns-clause-may
returns-clause-may c = for_space refl refl (refl, ((statement.OfSession of_session.Commit), refl, (refl, refl))) (inl (omega arith))

pub returns-clause-may_not : goal.returns-clause-may_not
returns-clause-may_not c old new after (by_transition is) =
    let e : answer.Refused state.DiskFull ≡ inserted 1 = own_answer in_a_block (Inside (codes "ann")) (λ reading. refl) (refl, refl) is in cc
returns-clause-may_not c old new after (for_memory is same may) = cc
returns-clause-may_not c old new after (for_space is same (runs, (x, reads, (commit, held))) rises) = cc
returns-clause-may_not c old new after (for_number is same may greatest) = cc
returns-clause-may_not c old new after (for_device t is may code same failed) = cc

pub returns-clause-query : goal.returns-clause-query
returns-clause-query c old new after (by_transition is) =
    let e : answer.Refused state.DiskFull ≡ no_rows = own_answer ready Outside (λ reading. refl) (refl, refl) is in cc
returns-clause-query c old new after (for_memory is same may) = cc
returns-clause-query c old new after (for_space is same (runs, (x, reads, writes)) rises) =
    let e : x ≡ select_keys = cc in let f : is_writing x ≡ false = ap is_writing e in cc
returns-clause-query c old new after (for_number is same may greatest) = cc
returns-clause-query c old new after (for_device t is may code same failed) = cc
