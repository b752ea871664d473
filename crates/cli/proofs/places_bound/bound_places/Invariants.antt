use Rattle.std.proofs.Common.{◌≡◌, take}
use Rattle.cli.specs.Program.{bound_places}
use Rattle.cli.proofs.places_bound.bound_places.Given as goal

abbrev pub invariant-loop-named : goal.invariant-loop-named
invariant-loop-named l = l.bound.items ≡ bound_places (take l.named-index l.places)
