use Rattle.std.proofs.Common.{◌∙◌, rules}
use Rattle.wire.proofs.Counting.{then_counted}
use Rattle.wire.proofs.Sinks.{then_taken}
use Rattle.wire.proofs.answers.print_done.Goals as goal

pub returns-clause-taken : goal.returns-clause-taken
returns-clause-taken g c = then_taken g.S.TextWriter.takes g.S.TextWriter.takes_joined c.put-2.result _ _ _ _ _ _ _ _ _
    (g.S.TextWriter.takes_joined _ _ _ _ _ _ _ _ (g.S.TextWriter.takes_joined _ _ _ _ _ _ _ _ c.in_ok-print_outcome.ensures.taken c.in_ok-put.ensures.taken) c.in_ok-print_count.ensures.taken) c.put-2.ensures.taken (search rules)

pub returns-clause-counts : goal.returns-clause-counts
returns-clause-counts g c = then_counted c.put-2.result _ _ _ (c.in_ok-print_count.ensures.counts ∙ c.in_ok-put.ensures.counts ∙ c.in_ok-print_outcome.ensures.counts) c.put-2.ensures.counts
