use Rattle.syntax_places.proofs.Searching.{place_there, place_past}
use Rattle.syntax_places.proofs.search.place_at.Goals as goal

pub returns-then-index-tokens : goal.returns-then-index-tokens
returns-then-index-tokens c = place_there c.args.end c.args.tokens.now c.args.index _ c.if-index-tokens.true

pub returns : goal.returns
returns c = place_past c.args.end c.args.tokens.now c.args.index c.if-index-tokens.false
