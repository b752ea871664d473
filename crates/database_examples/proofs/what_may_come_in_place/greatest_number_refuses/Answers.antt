use Rattle.database_examples.proofs.OwnAnswers.{own_answer}
use Rattle.std.proofs.Common.{◌≡◌, refl, arith}
use Rattle.sql_types.specs.declared.state.SqlState.TheVariants as state
use Rattle.sql_types.specs.declared.answer.Answer.TheVariants as answer
use Rattle.abstract_database.specs.Machine.{Outside}
use Rattle.abstract_database.specs.Runs.{by_transition, for_memory, for_space, for_number, for_device}
use Rattle.database_examples.specs.Wording.{insert_key}
use Rattle.database_examples.specs.Lines.{ready, inserted}
use Rattle.database_examples.proofs.what_may_come_in_place.greatest_number_refuses.Goals as goal

pub returns-clause-may : goal.returns-clause-may
returns-clause-may c = for_number refl refl (refl, (insert_key 1, refl, refl)) refl

pub returns-clause-may_not : goal.returns-clause-may_not
returns-clause-may_not c new after (by_transition is) =
    let e : answer.Refused state.ProgramLimitExceeded ≡ inserted 1 = own_answer ready Outside (λ reading. refl) (refl, refl) is in cc
returns-clause-may_not c new after (for_memory is same may) = cc
returns-clause-may_not c new after (for_space is same may rises) = cc
returns-clause-may_not c new after (for_number is same may greatest) = omega (arith, greatest)
returns-clause-may_not c new after (for_device t is may code same failed) = cc
