use Rattle.std.proofs.Common.{◌≡◌, take, flat_map}
use Rattle.wire.specs.AnswerText.{escaped}
use Rattle.wire.proofs.answers.print_bytes.Given as goal

abbrev pub invariant-loop-byte : goal.invariant-loop-byte
invariant-loop-byte g l = record {
  taken : g.S.TextWriter.takes l.fn.sink (g.O.Output.contents l.fn.out) (flat_map escaped (take l.byte-index l.text)) l.sink (g.O.Output.contents l.out);
  counted : g.O.Output.failures l.out ≡ g.O.Output.failures l.fn.out;
}
