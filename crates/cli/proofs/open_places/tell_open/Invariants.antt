use Rattle.std.proofs.Common.{length}
use Rattle.std.specs.Io.KnownBytes.{Keeps, append_known}
use Rattle.cli.specs.OpenPlaces.{open_lines}
use Rattle.cli.proofs.open_places.tell_open.Given as goal

-- what was told, and the lines of the places that are left, are all
abbrev pub invariant-loop-rest : goal.invariant-loop-rest
invariant-loop-rest g l = Keeps (append_known (g.E.Write.contents l.fn.err) (open_lines l.places)) (append_known (g.E.Write.contents l.err) (open_lines l.rest))

abbrev pub decreases-loop-rest : goal.decreases-loop-rest
decreases-loop-rest g l = length l.rest
