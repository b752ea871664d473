use Rattle.std.proofs.Common.{◌≡◌, ◌+◌, ◌≤◌, ◌++◌, length}
use Rattle.statement_parameters.specs.Masks.{masked, masked_from}
use Rattle.statement_parameters.specs.Places.{comments_open}
use Rattle.statement_parameters.proofs.place.masked.Given as goal

-- what was shown, and what the rest shows, are all
abbrev pub invariant-loop-rest : goal.invariant-loop-rest
invariant-loop-rest l = record {
  shown : masked l.text ≡ l.shown.items ++ masked_from l.place l.rest;
  opened : comments_open l.place + length l.rest ≤ length l.text;
}

abbrev pub decreases-loop-rest : goal.decreases-loop-rest
decreases-loop-rest l = length l.rest
