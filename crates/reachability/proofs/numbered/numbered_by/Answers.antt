use Rattle.std.proofs.Common.{length, ap, arith}
use Rattle.reachability.proofs.numbered.numbered_by.Goals as goal

pub add_all-requires : goal.add_all-requires
add_all-requires g c = record {
  starts_count = ap length c.in_ok-numbered.ensures.starts;
  waits_for_count = ap length c.in_ok-numbered.ensures.waits_for;
  gives_count = ap length c.in_ok-numbered.ensures.gives;
  each = λ i e lt. absurd (omega (arith, lt));
}

pub returns : goal.returns
returns g c = record {
  known = c.add_all.new.known.keys;
  distinct = c.len.ensures.unique;
  count = c.len.ensures.len;
  each = c.in_ok-add_all.ensures;
}
