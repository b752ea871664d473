use Rattle.std.proofs.Common.{◌≡◌, ◌+◌, drop}
use Rattle.wire.specs.SessionNames.{texts_of}
use Rattle.cli.specs.ScriptNotes.{first_login}
use Rattle.cli.proofs.script_note.first_login.Given as goal

abbrev pub invariant-loop-line : goal.invariant-loop-line
invariant-loop-line l = record {
  counted : l.number ≡ l.line-index;
  rest : first_login (l.number + 1) (texts_of (drop l.line-index l.lines)) ≡ first_login 1 (texts_of l.lines);
}
