use Rattle.std.proofs.Common.{◌≡◌, length}
use Rattle.catalogue_loading.proofs.Listed.{AreReadSoFar}
use Rattle.catalogue_loading.proofs.record_parts.parts_at.Given as goal

-- so many items are read as the loop has gone round
abbrev pub invariant-loop : goal.invariant-loop
invariant-loop g l = record {
  counted : length l.items ≡ l.counter;
  read : AreReadSoFar g.P.RecordPart.IsValid g.P.RecordPart.spell l.count l.fn.bytes l.items l.rest;
}
