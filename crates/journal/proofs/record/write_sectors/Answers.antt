use Rattle.std.proofs.Common.{◌≡◌, ◌<◌, ◌+◌, ◌-◌, ◌*◌, ◌/◌, ◌∙◌, [], ℕ, List, length, take, drop, get_or, refl, sym, ap, subst, arith, length-append}
use Rattle.journal.specs.Chain.{part_of}
use Rattle.journal.specs.Sectors.{sector_bytes, sector_at}
use Rattle.journal.specs.Records.{entry_of}
use Rattle.journal.proofs.Parts.{part_is, part_read, sectors_more}
use Rattle.journal.proofs.record.write_sectors.Goals as goal

pub loop-index-preserved : goal.loop-index-preserved
loop-index-preserved c =
    let bytes : List ℕ = c.args.bytes.now in
    let i : ℕ = c.loop-index.index in
    let want = λ (k : ℕ). sector_bytes (part_of c.args.root (entry_of c.args.number bytes) k) in
    let width : 488 * i + 488 - 488 * i ≡ 488 = omega arith in
    let is = c.sector_with.ensures ∙ ap sector_bytes (part_is c.args.root c.args.number i (length bytes / 488) bytes _ refl c.loop-index-test.true (ap (λ (n : ℕ). take n (drop (488 * i) bytes)) width)) in
    record {
      count = ap (λ (sectors : List (List ℕ)). length sectors) c.in_ok-push.ensures.items ∙ omega (arith, c.loop-index.invariant.count, length-append {A = List ℕ});
      spelled = subst (λ (sectors : List (List ℕ)). (k : ℕ) → k < i + 1 → get_or sectors k [] ≡ want k) (sym c.in_ok-push.ensures.items)
          (sectors_more c.loop-index.sectors.items c.sector_with.result i want c.loop-index.invariant.count c.loop-index.invariant.spelled is);
    }

pub returns-clause-read : goal.returns-clause-read
returns-clause-read c room i first fits inside =
    let count : length c.loop-index.sectors.items ≡ c.loop-index.index = c.loop-index.invariant.count in
    let all : c.loop-index.index ≡ length c.args.bytes.now / 488 = omega (arith, c.loop-index-test.false, c.loop-index.auto.index-end) in
    ap (λ (sector : List ℕ). sector_at room sector) (c.loop-index.invariant.spelled i (omega (arith, inside, count)))
    ∙ part_read room c.args.root c.args.number i c.args.bytes.now first c.ranges.root.fits c.ranges.number.fits c.requires.whole c.requires.short
    (omega (arith, fits, count, all)) (omega (arith, inside, count, all))
