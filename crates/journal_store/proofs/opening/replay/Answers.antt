use Rattle.std.proofs.Common.{◌≡◌, Err, List, sym, ap, subst, ◌∙◌}
use Rattle.journal.specs.Chain.{Entry}
use Rattle.journal.proofs.Chaining.{one_chain}
use Rattle.journal.specs.Reading.{region_of, entries_of}
use Rattle.journal.specs.declared.journal.JournalRecord.{JournalRecord}
use Rattle.store.specs.declared.fault.Fault.{Fault}
use Rattle.journal_store.specs.Meaning.{SpellBatches, journal_room}
use Rattle.journal_store.proofs.Replaying.{ends_inside, passed_on}
use Rattle.journal_store.proofs.opening.replay.Goals as goal

pub returns-in_err-waiting-clause-damaged : goal.returns-in_err-waiting-clause-damaged
returns-in_err-waiting-clause-damaged c is es batches journal spelled =
    let found = c.in_ok-journal.journal.records.items in
    let same : es ≡ entries_of found = one_chain (region_of journal_room c.args.sectors.now) c.args.root 0 0 journal_room es (entries_of found) journal.chain c.in_ok-journal.ensures.read.is.chain in
    let fault = passed_on c.from_residual-in_err-waiting.result c.in_err-waiting.field-0.0 c.from_residual-in_err-waiting.ensures.1 is in
    c.in_err-waiting.ensures.damaged (ap (λ (f : Fault). Err f) fault) batches
    (subst (λ (xs : List Entry). SpellBatches xs batches) (same ∙ ap (λ (rs : List JournalRecord). entries_of rs) (sym c.deref.ensures.value)) spelled)

pub returns-clause-inside : goal.returns-clause-inside
returns-clause-inside c =
    let read = c.in_ok-journal.ensures.read in
    ends_inside (region_of journal_room c.args.sectors.now) c.args.root journal_room c.in_ok-journal.journal.end (entries_of c.in_ok-journal.journal.records.items) read.is.chain read.end
