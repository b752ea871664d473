use Rattle.std.proofs.Common.{rules}
use Rattle.wire.proofs.Counting.{then_counted}
use Rattle.wire.proofs.Sinks.{then_taken}
use Rattle.wire.proofs.answers.print_next_field.Goals as goal

pub returns-in_ok-put-in_default : goal.returns-in_ok-put-in_default
returns-in_ok-put-in_default g c = record {
  taken = then_taken g.S.TextWriter.takes g.S.TextWriter.takes_joined c.print_field.result _ _ _ _ _ _ _ _ _
      c.in_ok-put-in_default.ensures.taken c.print_field.ensures.taken (search rules);
  counts = then_counted c.print_field.result _ _ _ c.in_ok-put-in_default.ensures.counts c.print_field.ensures.counts;
}
