use Rattle.std.proofs.Common.{◌∙◌, ap, take}
use Rattle.postgres_talks.proofs.Slicing.{start_there, token_boundary}
use Rattle.postgres_talks.proofs.pieces.before_token.Goals as goal

pub split_at-requires : goal.split_at-requires
split_at-requires c = token_boundary c.args.text.now c.args.tokens.now c.args.index _ c.requires.within c.requires.placed.each

pub returns : goal.returns
returns c = c.split_at.ensures.front ∙ ap (λ n. take n c.args.text.now) (start_there c.args.tokens.now c.args.index _ c.requires.within)
