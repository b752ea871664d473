use Rattle.databases.proofs.over_store.answer_events.Goals as goal

pub returns-in-Ok-clause-answers : goal.returns-in-Ok-clause-answers
returns-in-Ok-clause-answers g c =
    let told = c.in-Ok.ensures.ok in
    (told.0, told.1, told.2, c.step_by_step-ran.new.server, c.into_store-store.ensures, told.3)
