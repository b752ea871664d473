use Rattle.database_examples.proofs.OwnAnswers.{own_answer}
use Rattle.std.proofs.Common.{◌≡◌, inl, inr, ⊎_elim, refl, arith}
use Rattle.sql_types.specs.declared.state.SqlState.TheVariants as state
use Rattle.sql_types.specs.declared.answer.Answer.TheVariants as answer
use Rattle.abstract_database.specs.Machine.{Outside}
use Rattle.abstract_database.specs.Runs.{by_transition, for_memory, for_space, for_number, for_device}
use Rattle.database_examples.specs.Wording.{insert_key}
use Rattle.database_examples.specs.Lines.{ready, inserted}
use Rattle.database_examples.proofs.what_may_come_in_place.full_store_refuses.Goals as goal

pub returns-clause-may : goal.returns-clause-may
returns-clause-may c = for_space refl refl (refl, (insert_key 1, refl, refl)) (inl (omega arith))

pub returns-clause-at_its_greatest : goal.returns-clause-at_its_greatest
returns-clause-at_its_greatest c = for_space refl refl (refl, (insert_key 1, refl, refl)) (inr refl)

pub returns-clause-may_not : goal.returns-clause-may_not
returns-clause-may_not c after (by_transition is) =
    let e : answer.Refused state.DiskFull ≡ inserted 1 = own_answer ready Outside (λ reading. refl) (refl, refl) is in cc
returns-clause-may_not c after (for_memory is same may) = cc
returns-clause-may_not c after (for_space is same may rises) = ⊎_elim (λ more. omega (arith, more)) (λ greatest. omega (arith, greatest)) rises
returns-clause-may_not c after (for_number is same may greatest) = cc
returns-clause-may_not c after (for_device t is may code same failed) = cc
