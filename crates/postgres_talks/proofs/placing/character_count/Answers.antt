use Rattle.postgres_talks.proofs.Characters.{counts_on, next_at_most}
use Rattle.postgres_talks.proofs.placing.character_count.Goals as goal

pub loop-byte-preserved : goal.loop-byte-preserved
loop-byte-preserved c =
    let bytes = c.args.bytes.now in
    (counts_on bytes c.loop-byte.byte-index c.loop-byte.count _ _ c.loop-byte.invariant.0 c.loop-byte-test.true c.character_after-count.ensures, next_at_most bytes c.loop-byte.byte-index c.loop-byte.count _ _ c.loop-byte.invariant.1 c.character_after-count.ensures)
