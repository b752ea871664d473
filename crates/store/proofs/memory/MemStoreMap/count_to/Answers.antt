use Rattle.std.proofs.Common.{◌∙◌, refl, ap}
use Rattle.store.specs.Records.{Records, entries_where}
use Rattle.store.specs.Walks.{count_to, is_within}
use Rattle.store.specs.InPieces.{changes_of}
use Rattle.store.specs.Held.{records_of}
use Rattle.store.proofs.InMemory.{read_nothing, none_failed}
use Rattle.store.proofs.Stepping.{puts_from}
use Rattle.store.proofs.memory.MemStoreMap.count_to.Goals as goal

-- the records of the span are counted
pub returns-clause-goes : goal.returns-clause-goes
returns-clause-goes c =
    let entries = c.args.self.now.entries in
    let from = puts_from c.args.start.now (changes_of entries) _ entries.ordered c.place_from-from.ensures in
    record {
      only_reads = read_nothing c.args.self.now.record_format (records_of entries);
      answer = λ sound. c.count_within.ensures ∙ ap (λ (es : Records). count_to c.args.most (entries_where (is_within c.args.stop.now) es)) from;
      cause = tt;
      failed = refl;
      closed = λ closes failed. none_failed failed;
    }
