use Rattle.std.proofs.Common.{◌≡◌, ◌+◌, ◌≤◌, drop}
use Rattle.cli.specs.Script.{not_utf8_after}
use Rattle.cli.proofs.script.not_utf8.Given as goal

abbrev pub invariant-loop-read : goal.invariant-loop-read
invariant-loop-read l = record {
  rest : not_utf8_after l.line l.byte (drop l.read-index l.front) ≡ not_utf8_after 1 1 l.front;
  line : l.line ≤ l.read-index + 1;
  byte : l.byte ≤ l.read-index + 1;
}
