use Rattle.sql_lexer.specs.Lexeme.{lexemes}
use Rattle.postgres_talks.proofs.Slicing.{part_of, put_one}
use Rattle.postgres_talks.proofs.pieces.put_piece.Goals as goal

pub returns-in_ok-push : goal.returns-in_ok-push
returns-in_ok-push c =
    put_one c.args.is_written c.args.text.now c.before_token-before.result.now c.text_between-slice.result.now (lexemes c.args.tokens.now) _ c.args.first c.args.at c.in_ok-piece.piece c.args.pieces.now c.push.new.self c.if-first-at.true
    c.before_token-before.ensures c.text_between-slice.ensures (part_of c.args.tokens.now c.args.first c.args.at) c.in_ok-piece.ensures c.in_ok-push.ensures
