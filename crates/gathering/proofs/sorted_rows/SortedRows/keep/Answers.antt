use Rattle.gathering.specs.Found.{keys_of}
use Rattle.gathering.proofs.Sorting.{kept_answer}
use Rattle.gathering.proofs.sorted_rows.SortedRows.keep.Goals as goal

pub returns-clause-taken : goal.returns-clause-taken
returns-clause-taken c = λ users cells combination more at made.
    let k = c.args.self.now in
    kept_answer users k.list.now (keys_of k) k.refused k.limit k.kept.rows.items c.push.new.self.rows.items c.cut.new.self.rows.items c.args.keyed cells combination more
    at made c.in_ok-push.ensures c.in_ok-cut.ensures.same
