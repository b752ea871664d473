use Rattle.std.proofs.Common.{◌≡◌, take, flat_map}
use Rattle.wire.specs.AnswerText.{next_field}
use Rattle.wire.proofs.answers.print_next_fields.Given as goal

abbrev pub invariant-loop-value : goal.invariant-loop-value
invariant-loop-value g l = record {
  taken : g.S.TextWriter.takes l.fn.sink (g.O.Output.contents l.fn.out) (flat_map next_field (take l.value-index l.values)) l.sink (g.O.Output.contents l.out);
  counted : g.O.Output.failures l.out ≡ g.O.Output.failures l.fn.out;
}
