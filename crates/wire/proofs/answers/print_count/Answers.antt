use Rattle.std.proofs.Common.{rules}
use Rattle.wire.proofs.Counting.{then_counted}
use Rattle.wire.proofs.Sinks.{then_taken}
use Rattle.wire.proofs.answers.print_count.Goals as goal

pub returns-in_ok-put-in-Some-clause-taken : goal.returns-in_ok-put-in-Some-clause-taken
returns-in_ok-put-in-Some-clause-taken g c = then_taken g.S.TextWriter.takes g.S.TextWriter.takes_joined c.put-in-Some.result _ _ _ _ _ _ _ _ _
    c.in_ok-put-in-Some.ensures.taken c.put-in-Some.ensures.taken (search rules)

pub returns-in_ok-put-in-Some-clause-counts : goal.returns-in_ok-put-in-Some-clause-counts
returns-in_ok-put-in-Some-clause-counts g c = then_counted c.put-in-Some.result _ _ _ c.in_ok-put-in-Some.ensures.counts c.put-in-Some.ensures.counts
