use Rattle.sql_lexer.specs.Lexeme.{lexemes}
use Rattle.syntax_places.proofs.Spellings.{found_spelled, found_none}
use Rattle.syntax_places.proofs.beginnings.are_statement.Goals as goal

pub returns-clause-yes : goal.returns-clause-yes
returns-clause-yes c = found_spelled c.args.text.now (lexemes c.args.tokens.now) _ _ c.statement.ensures c.was_read.ensures.yes

pub returns-clause-no : goal.returns-clause-no
returns-clause-no c = found_none c.args.text.now (lexemes c.args.tokens.now) _ _ c.statement.ensures c.was_read.ensures.no
