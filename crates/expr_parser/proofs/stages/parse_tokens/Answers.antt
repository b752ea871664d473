use Rattle.std.proofs.lemmas.Bool.{iff_false}
use Rattle.expr_parser.specs.Stages.{too_many, too_deep, parsed, no_memory}
use Rattle.expr_parser.proofs.Wholes.{refused}
use Rattle.expr_parser.proofs.stages.parse_tokens.Goals as goal

pub returns-then-opens_too_many : goal.returns-then-opens_too_many
returns-then-opens_too_many g c = too_many (c.opens_too_many.ensures.0 c.if-opens_too_many.true)

pub returns-then-is_within_depth : goal.returns-then-is_within_depth
returns-then-is_within_depth g c = parsed (iff_false c.opens_too_many.ensures c.if-opens_too_many.false) c.in-Ok.ensures (c.is_within_depth.ensures.0 c.if-is_within_depth.true)

pub returns-else-is_within_depth : goal.returns-else-is_within_depth
returns-else-is_within_depth g c = too_deep (iff_false c.opens_too_many.ensures c.if-opens_too_many.false) c.in-Ok.ensures (iff_false c.is_within_depth.ensures c.if-is_within_depth.false)

pub returns-in-Err-Memory : goal.returns-in-Err-Memory
returns-in-Err-Memory g c = no_memory

pub returns-in-Err-Syntax : goal.returns-in-Err-Syntax
returns-in-Err-Syntax g c = refused (iff_false c.opens_too_many.ensures c.if-opens_too_many.false) (λ s m. c.in-Err-Syntax.ensures.never c.in-Err-Syntax.field-0-is s m) c.late_refusal.ensures
