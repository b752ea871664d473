use Rattle.std.proofs.Common.{ap, sym, ◌∙◌, subst}
use Rattle.sql_lexer.specs.Lexeme.{ArePlaced, lexemes}
use Rattle.expr_parser.specs.Stages.{MeansNothing, for_syntax, for_range, for_memory}
use Rattle.expr_parser.proofs.Wholes.{least_placed}
use Rattle.expr_parser.proofs.stages.late_refusal.Goals as goal

pub read-requires : goal.read-requires
read-requires g c = subst (ArePlaced c.args.source.now) (sym (ap lexemes c.deref.ensures.value ∙ c.in-Ok.ensures)) (least_placed c.requires)

pub returns-in_default : goal.returns-in_default
returns-in_default g c = for_memory

pub returns-in-Ok-read : goal.returns-in-Ok-read
returns-in-Ok-read g c = for_range {x = c.in-Ok-read.field-0} (subst (λ z. g.G.Grammar.Means c.args.source.now z c.in-Ok-read.field-0) (ap lexemes c.deref.ensures.value ∙ c.in-Ok.ensures) c.in-Ok-read.ensures)

pub returns-in-Err-Syntax : goal.returns-in-Err-Syntax
returns-in-Err-Syntax g c = for_syntax ((subst (λ z. MeansNothing (g.G.Grammar.Means c.args.source.now) z c.in-Err-Syntax.field-0) (ap lexemes c.deref.ensures.value ∙ c.in-Ok.ensures) c.in-Err-Syntax.ensures).never c.in-Err-Syntax.field-0-is)

pub returns : goal.returns
returns g c = for_memory
