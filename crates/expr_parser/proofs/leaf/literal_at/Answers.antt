use Rattle.std.proofs.Common.{sym, ◌∙◌}
use Rattle.expr_parser.proofs.Primaries.{constant_read, text_read}
use Rattle.expr_parser.proofs.leaf.literal_at.Goals as goal

pub returns-in-Some-2-clause-value : goal.returns-in-Some-2-clause-value
returns-in-Some-2-clause-value c = text_read c.args.tokens.now c.args.at _ _ c.in-Some.ensures.lookup.3 (sym c.in_ok-text.ensures ∙ c.in-Some-2.is)

pub returns-in-None-clause-value : goal.returns-in-None-clause-value
returns-in-None-clause-value c = c.constant.ensures ∙ constant_read c.args.tokens.now c.args.at _ c.in-Some.ensures.lookup.3 c.requires (sym c.in_ok-text.ensures ∙ c.in-None.is)
