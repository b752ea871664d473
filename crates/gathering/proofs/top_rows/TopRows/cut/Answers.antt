use Rattle.gathering.proofs.Sorting.{cut_answer}
use Rattle.gathering.proofs.top_rows.TopRows.cut.Goals as goal

pub returns-clause-same : goal.returns-clause-same
returns-clause-same c = λ more.
    cut_answer c.args.limit c.in-Some.limit c.args.self.now.rows.items c.sort.new.self.items c.truncate.new.self.items more
    c.in-Some.is c.in_ok-sort.ensures.sorted c.in_ok-sort.ensures.stable c.truncate.ensures.items
