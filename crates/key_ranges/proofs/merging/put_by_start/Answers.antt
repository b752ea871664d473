use Rattle.std.proofs.Common.{not, arith}
use Rattle.std.proofs.lemmas.List.Sums.{prefix_len-le-length}
use Rattle.store.specs.Records.{is_from}
use Rattle.key_ranges.specs.declared.spans.KeySpan.{KeySpan}
use Rattle.key_ranges.proofs.merging.put_by_start.Goals as goal

pub insert-requires : goal.insert-requires
insert-requires c =
    let within = prefix_len-le-length (λ (t : KeySpan). not (is_from c.as_slice-2.result.now t.start)) c.as_slice.result.now in
    omega (arith, within, c.place_of-place.ensures, c.as_slice.ensures.len)
