use Rattle.syntax_places.proofs.Searching.{counts_on, next_at_most}
use Rattle.syntax_places.proofs.search.open_count.Goals as goal

pub loop-token-preserved : goal.loop-token-preserved
loop-token-preserved c = (counts_on c.args.tokens.now c.loop-token.token-index c.loop-token.count _ _ c.loop-token.invariant.0 c.loop-token-test.true c.open_after-count.ensures, next_at_most c.loop-token.token-index c.loop-token.count _ _ c.loop-token.invariant.1 c.open_after-count.ensures)
