use Rattle.std.proofs.Common.{rules, ◌∙◌, Some, sym, ap}
use Rattle.store.specs.Records.{Record, entry_of}
use Rattle.store.specs.Held.{records_of}
use Rattle.store.proofs.InMemory.{read_in_memory}
use Rattle.store.proofs.memory.MemStoreMap.get.Goals as goal

-- the record of the key
pub returns-in_ok-set-in-Some-clause-reads : goal.returns-in_ok-set-in-Some-clause-reads
returns-in_ok-set-in-Some-clause-reads c =
    let found = ap (entry_of c.args.key.now) (sym c.in-Some.ensures) ∙ ap (λ (e : Record). Some e) (sym c.in_ok-set-in-Some.ensures) in
    read_in_memory c.args.self.now.record_format (records_of c.args.self.now.entries) _ _ _ found tt

-- or its copy takes memory that is not there
pub returns-in_err-set-in-Some-clause-reads : goal.returns-in_err-set-in-Some-clause-reads
returns-in_err-set-in-Some-clause-reads c = search (rules, read_in_memory)

-- or there is none
pub returns-in-None-clause-reads : goal.returns-in-None-clause-reads
returns-in-None-clause-reads c =
    read_in_memory c.args.self.now.record_format (records_of c.args.self.now.entries) _ _ _ (ap (entry_of c.args.key.now) (sym c.in-None.ensures)) tt
