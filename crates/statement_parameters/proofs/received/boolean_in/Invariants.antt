use Rattle.std.proofs.Common.{◌≡◌, length, map}
use Rattle.statement_parameters.specs.Received.{boolean_in}
use Rattle.statement_parameters.proofs.received.boolean_in.Given as goal

abbrev pub invariant-loop-words : goal.invariant-loop-words
invariant-loop-words l = boolean_in (map (λ w. (w.0.now, w.1)) l.words) l.bytes ≡ boolean_in (map (λ w. (w.0.now, w.1)) l.initial.words) l.bytes

abbrev pub decreases-loop-words : goal.decreases-loop-words
decreases-loop-words l = length l.words
