use Rattle.std.proofs.Common.{rules}
use Rattle.wire.proofs.Counting.{then_counted}
use Rattle.wire.proofs.Sinks.{then_taken}
use Rattle.wire.proofs.answers.print_row.Goals as goal

pub returns-clause-taken : goal.returns-clause-taken
returns-clause-taken g c = then_taken g.S.TextWriter.takes g.S.TextWriter.takes_joined c.put.result _ _ _ _ _ _ _ _ _
    c.in_ok-print_fields.ensures.taken c.put.ensures.taken (search rules)

pub returns-clause-counts : goal.returns-clause-counts
returns-clause-counts g c = then_counted c.put.result _ _ _ c.in_ok-print_fields.ensures.counts c.put.ensures.counts
