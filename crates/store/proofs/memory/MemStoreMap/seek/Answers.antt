use Rattle.std.proofs.Common.{refl}
use Rattle.store.specs.InPieces.{changes_of}
use Rattle.store.specs.Held.{records_of}
use Rattle.store.proofs.InMemory.{read_nothing, none_failed}
use Rattle.store.proofs.Stepping.{puts_from}
use Rattle.store.proofs.memory.MemStoreMap.seek.Goals as goal

pub returns-clause-goes : goal.returns-clause-goes
returns-clause-goes c =
    let entries = c.args.self.now.entries in
    record {
      only_reads = read_nothing c.args.self.now.record_format (records_of entries);
      answer = λ sound. puts_from c.args.key.now (changes_of entries) _ entries.ordered c.place_from-place.ensures;
      cause = tt;
      failed = refl;
      closed = λ closes failed. none_failed failed;
    }
