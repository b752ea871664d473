use Rattle.std.proofs.Common.{◌≡◌, arith, subst}
use Rattle.store.specs.Records.{Changes}
use Rattle.copies.specs.RecordCopies.{unmarked}
use Rattle.database_dumps.proofs.Restored.{commit_fault, commit_history, unmarks}
use Rattle.database_dumps.proofs.restored_lists.unmark.Goals as goal

pub returns-in-Ok-clause-history : goal.returns-in-Ok-clause-history
returns-in-Ok-clause-history g c = commit_history c.commit.result c.remove.new.self (g.S.Map.state c.args.store.now) (g.S.Map.state c.commit.new.store) c.commit.ensures

pub returns-in-Ok-clause-unmarks : goal.returns-in-Ok-clause-unmarks
returns-in-Ok-clause-unmarks g c =
    unmarks c.commit.result c.remove.new.self (g.S.Map.state c.args.store.now) (g.S.Map.state c.commit.new.store) (subst (λ (cs : Changes). c.remove.new.self ≡ unmarked cs) c.new-batch.ensures c.in-Ok.ensures.ok) c.commit.ensures

pub returns-in-Ok-clause-cause : goal.returns-in-Ok-clause-cause
returns-in-Ok-clause-cause g c = commit_fault c.commit.result c.remove.new.self (g.S.Map.state c.args.store.now) (g.S.Map.state c.commit.new.store) c.commit.ensures

pub returns-in-Err-clause-history : goal.returns-in-Err-clause-history
returns-in-Err-clause-history g c = record { sound = λ is. is; fulls = omega arith; failures = omega arith; faults = omega arith }

pub returns-in-Err-clause-cause : goal.returns-in-Err-clause-cause
returns-in-Err-clause-cause g c = tt
