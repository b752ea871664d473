use Rattle.database_examples.proofs.OwnAnswers.{own_answer}
use Rattle.std.proofs.Common.{Ok, ◌≡◌, inl, ⊎_elim, refl, arith}
use Rattle.sql_types.specs.declared.state.SqlState.TheVariants as state
use Rattle.sql_types.specs.declared.answer.Answer.TheVariants as answer
use Rattle.abstract_database.specs.Machine.{executes, Outside}
use Rattle.abstract_database.specs.Runs.{by_transition, for_memory, for_space, for_number, for_device}
use Rattle.database_examples.specs.Wording.{select_keys}
use Rattle.database_examples.specs.Lines.{ready, no_rows}
use Rattle.database_examples.proofs.what_may_come_in_place.failed_device_refuses.Goals as goal

pub returns-clause-may : goal.returns-clause-may
returns-clause-may c = for_device _
    (record { as_read = executes 2 (Ok select_keys); read = (Ok select_keys, refl, λ may. refl); is = refl })
    ((refl, refl), omega arith) refl refl (record { failures = inl (omega arith); faults = inl (omega arith) })

pub returns-clause-may_not : goal.returns-clause-may_not
returns-clause-may_not c after (by_transition is) =
    let e : answer.Refused state.IoError ≡ no_rows = own_answer ready Outside (λ reading. refl) (refl, refl) is in cc
returns-clause-may_not c after (for_memory is same may) = cc
returns-clause-may_not c after (for_space is same may rises) = cc
returns-clause-may_not c after (for_number is same may greatest) = cc
returns-clause-may_not c after (for_device t is may code same failed) = ⊎_elim (λ rises. omega (arith, rises)) (λ greatest. omega (arith, greatest)) failed.failures
