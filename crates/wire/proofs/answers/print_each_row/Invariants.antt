use Rattle.std.proofs.Common.{◌≡◌, take, flat_map}
use Rattle.wire.specs.AnswerText.{row_text}
use Rattle.wire.proofs.answers.print_each_row.Given as goal

abbrev pub invariant-loop-row : goal.invariant-loop-row
invariant-loop-row g l = record {
  taken : g.S.TextWriter.takes l.fn.sink (g.O.Output.contents l.fn.out) (flat_map row_text (take l.row-index l.rows)) l.sink (g.O.Output.contents l.out);
  counted : g.O.Output.failures l.out ≡ g.O.Output.failures l.fn.out;
}
