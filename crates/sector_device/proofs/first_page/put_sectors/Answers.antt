use Rattle.std.proofs.Common.{◌≡◌, ◌≢◌, ◌≤◌, ◌<◌, ◌+◌, ◌*◌, [], ℕ, List, length, get_or, ap, sym, ◌∙◌, arith, below_more, ⊎_elim}
use Rattle.sector_device.specs.FileState.{sector_of}
use Rattle.sector_device.proofs.PutBytes.{sector_of-put, sector_of-put_other}
use Rattle.sector_device.proofs.first_page.put_sectors.Goals as goal

pub loop-index-preserved : goal.loop-index-preserved
loop-index-preserved c =
    let before = c.loop-index.bytes in
    let sector = get_or c.args.sectors.now c.loop-index.index [] in
    let place = c.args.first + c.loop-index.index in
    let so_far = c.loop-index.invariant in
    let long : length sector ≡ 512 = c.told-sectors c.loop-index.index c.loop-index-test.true in
    let within : 512 * place + 512 ≤ length before = omega (arith, so_far.long, c.requires.inside c.loop-index.index c.loop-index-test.true, c.loop-index-test.true) in
    let other : (k : ℕ) → k ≢ place → sector_of k c.put_bytes.new.bytes ≡ sector_of k before
    = λ k apart. ap (λ (xs : List ℕ). sector_of k xs) c.put_bytes.ensures ∙ sector_of-put_other place k sector before long within apart in
    record {
      long = c.put_bytes.auto.bytes ∙ so_far.long;
      others = λ k outside.
          let apart : k ≢ place = λ same. ⊎_elim (λ below. omega (arith, below, same)) (λ above. omega (arith, above, same, c.loop-index-test.true)) outside in
          other k apart ∙ so_far.others k outside;
      written = below_more _ _
          (λ i lt. let apart : c.args.first + i ≢ place = λ same. omega (arith, same, lt) in other (c.args.first + i) apart ∙ so_far.written i lt)
          (ap (λ (xs : List ℕ). sector_of place xs) c.put_bytes.ensures ∙ sector_of-put place sector before long within);
    }
