use Rattle.std.proofs.Common.{◌≡◌, Option, Some, None, IfSome, List, ℕ, sym, subst, ◌∙◌}
use Rattle.journal.specs.Changes.{Spells}
use Rattle.store.specs.Records.{Changes}
use Rattle.journal_store.proofs.Replaying.{one_more, spelled_at}
use Rattle.journal_store.proofs.opening.read_batches.Goals as goal

-- nothing is no batch
none_is : {b : Changes} → None ≡ Some b → ⊥
none_is is = cc

pub returns-in-None-clause-damaged : goal.returns-in-None-clause-damaged
returns-in-None-clause-damaged c is batches spelled =
    let r = c.record-item.result in
    let at = spelled_at c.args.records.now c.loop-record.record-index r c.loop-record-test.true c.record-item.is c.requires batches spelled in
    none_is (sym c.in-None.is ∙ c.in_ok-batch.ensures.only at.0 (subst (λ (bytes : List ℕ). Spells bytes at.0) (sym c.deref.ensures.value) at.1))

pub loop-record-preserved : goal.loop-record-preserved
loop-record-preserved c =
    let r = c.record-item.result in
    let spells = subst (λ (found : Option Changes). IfSome found (λ (b : Changes). Spells c.deref.result.now b)) c.in-Some.is c.in_ok-batch.ensures.found in
    one_more c.args.records.now c.loop-record.record-index r c.loop-record-test.true c.record-item.is c.loop-record.waiting c.record.new.self c.in-Some.batch c.loop-record.invariant
    (subst (λ (bytes : List ℕ). Spells bytes c.in-Some.batch) c.deref.ensures.value spells) c.in_ok-record-in-Some.ensures.ok
