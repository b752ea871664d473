use Rattle.std.proofs.Common.{◌≡◌, ◌+◌, ◌-◌, drop, length}
use Rattle.wire.specs.SessionNames.{texts_of}
use Rattle.cli.specs.Explaining.{through_event}
use Rattle.cli.proofs.explainer.read_event.Given as goal

abbrev pub invariant-loop-at : goal.invariant-loop-at
invariant-loop-at l = l.at + through_event (drop l.at (texts_of l.lines)) ≡ l.read + through_event (drop l.read (texts_of l.lines))

abbrev pub decreases-loop-at : goal.decreases-loop-at
decreases-loop-at l = length l.lines - l.at
