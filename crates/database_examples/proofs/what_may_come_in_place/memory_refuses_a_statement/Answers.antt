use Rattle.std.proofs.Common.{◌≡◌, ◌∙◌, ap, refl, arith}
use Rattle.sql_types.specs.declared.state.SqlState.TheVariants as state
use Rattle.sql_types.specs.declared.answer.Answer.TheVariants as answer
use Rattle.sql_types.specs.declared.tag.Tag.TheVariants as tag
use Rattle.abstract_database.specs.Machine.{transition}
use Rattle.database_examples.specs.WhatMayComeInPlace.{in_a_block}
use Rattle.abstract_database.specs.Runs.{by_transition, for_memory, for_space, for_number, for_device}
use Rattle.database_examples.specs.Lines.{ok}
use Rattle.database_examples.proofs.what_may_come_in_place.memory_refuses_a_statement.Goals as goal

pub returns-clause-may : goal.returns-clause-may
returns-clause-may c = for_memory refl refl ((refl, refl), omega arith)

pub returns-clause-may_not : goal.returns-clause-may_not
returns-clause-may_not c old new x after (by_transition is) =
    let e : answer.Refused state.OutOfMemory ≡ ok tag.Close = ap (λ u. u.answer) (is.is ∙ ap (transition in_a_block) is.read) in cc
returns-clause-may_not c old new x after (for_memory is same may) = may
returns-clause-may_not c old new x after (for_space is same may rises) = cc
returns-clause-may_not c old new x after (for_number is same may greatest) = cc
returns-clause-may_not c old new x after (for_device t is may code same failed) = cc
