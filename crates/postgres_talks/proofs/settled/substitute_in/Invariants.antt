use Rattle.std.proofs.Common.{◌≡◌, length, map}
use Rattle.postgres_talks.specs.Settled.{substitute_in}
use Rattle.postgres_talks.proofs.settled.substitute_in.Given as goal

abbrev pub invariant-loop-lines : goal.invariant-loop-lines
invariant-loop-lines l = substitute_in (map (λ x. (x.0.now, x.1)) l.lines) l.line ≡ substitute_in (map (λ x. (x.0.now, x.1)) l.initial.lines) l.line

abbrev pub decreases-loop-lines : goal.decreases-loop-lines
decreases-loop-lines l = length l.lines
