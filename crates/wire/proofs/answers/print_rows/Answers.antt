use Rattle.std.proofs.Common.{rules}
use Rattle.wire.proofs.Counting.{then_counted}
use Rattle.wire.proofs.Sinks.{then_taken}
use Rattle.wire.proofs.answers.print_rows.Goals as goal

pub returns-clause-taken : goal.returns-clause-taken
returns-clause-taken g c = then_taken g.S.TextWriter.takes g.S.TextWriter.takes_joined c.print_each_row.result _ _ _ _ _ _ _ _ _
    c.in_ok-put_three.ensures.taken c.print_each_row.ensures.taken (search rules)

pub returns-clause-counts : goal.returns-clause-counts
returns-clause-counts g c = then_counted c.print_each_row.result _ _ _ c.in_ok-put_three.ensures.counts c.print_each_row.ensures.counts
