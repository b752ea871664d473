use Rattle.std.proofs.Common.{◌∙◌, Some, sym, ap}
use Rattle.store.specs.Records.{Record, Records, first}
use Rattle.store.specs.InPieces.{changes_of}
use Rattle.store.specs.Held.{records_of}
use Rattle.store.proofs.InMemory.{read_in_memory}
use Rattle.store.proofs.Stepping.{puts_from}
use Rattle.store.proofs.memory.MemStoreMap.scan_from.Goals as goal

-- the first record from the key on
pub returns-in_ok-set-in-Some-clause-reads : goal.returns-in_ok-set-in-Some-clause-reads
returns-in_ok-set-in-Some-clause-reads c =
    let entries = c.args.self.now.entries in
    let found = c.in-Some.ensures in
    let from = puts_from c.args.key.now (changes_of entries) _ entries.ordered c.place_from-place.ensures in
    read_in_memory c.args.self.now.record_format (records_of entries) _ _ _ (ap (λ (es : Records). first es) (sym from ∙ found.0) ∙ ap (λ (e : Record). Some e) (sym (c.in_ok-set-in-Some.ensures ∙ c.entry.view_is))) tt

-- or there is none
pub returns-in-None-clause-reads : goal.returns-in-None-clause-reads
returns-in-None-clause-reads c =
    let entries = c.args.self.now.entries in
    let from = puts_from c.args.key.now (changes_of entries) _ entries.ordered c.place_from-place.ensures in
    read_in_memory c.args.self.now.record_format (records_of entries) _ _ _ (ap (λ (es : Records). first es) (sym from ∙ c.in-None.ensures)) tt
