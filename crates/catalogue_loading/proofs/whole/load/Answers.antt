use Rattle.std.proofs.lemmas.Bool.{both_ways}
use Rattle.stored_database.proofs.Policies.{one_expression}
use Rattle.catalogue_loading.proofs.RecordedLemmas.{none_defined}
use Rattle.catalogue_loading.proofs.whole.load.Goals as goal

pub returns-in-Ok-false-clause-loaded : goal.returns-in-Ok-false-clause-loaded
returns-in-Ok-false-clause-loaded g c = λ s.
    let recorded = c.in-Ok.ensures.defined s in
    let valid = c.in-Ok-false.ensures recorded.stored recorded.order in
    none_defined (one_expression c.one_answer.ensures) (g.M.Map.state c.args.map.now).map c.in-Ok.catalogue recorded (λ is. both_ways c.in-Ok-false.field-0 c.in-Ok-false.field-0-test (valid.1 is))
