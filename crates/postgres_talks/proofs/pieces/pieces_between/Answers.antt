use Rattle.std.proofs.lemmas.List.{take_rest}
use Rattle.sql_lexer.specs.Lexeme.{lexemes}
use Rattle.postgres_talks.specs.Pieces.{slices_from}
use Rattle.postgres_talks.proofs.Slicing.{place_more, slice_more, slice_put}
use Rattle.postgres_talks.proofs.pieces.pieces_between.Goals as goal
use Rattle.postgres_talks.proofs.pieces.pieces_between.Goals.{then-is_semicolon+in_ok-put_piece, else-is_semicolon}

pub loop-rest-preserved : goal.loop-rest-preserved
loop-rest-preserved c =
    let all = slices_from c.args.text.now (lexemes c.args.tokens.now) 0 0 (lexemes c.args.tokens.now) in
    let place = place_more c.loop-rest.at c.loop-rest.rest.now _ _ c.in-len1-up.len_at_least (take_rest c.loop-rest.rest.now 1) c.loop-rest.invariant.place in
    elim c.if-is_semicolon.branch [
      | then-is_semicolon+in_ok-put_piece w ↦ record {
        place = place;
        pieces = rw (w.pieces-is, w.first-is) (slice_put c.args.is_written all c.args.text.now (lexemes c.args.tokens.now) c.loop-rest.rest.now _ _ c.loop-rest.first c.loop-rest.at c.is_semicolon.result c.loop-rest.pieces _
            c.in-len1-up.len_at_least (take_rest c.loop-rest.rest.now 1) c.loop-rest.invariant.pieces c.is_semicolon.ensures w.if-is_semicolon.true w.in_ok-put_piece.ensures);
      }
      | else-is_semicolon w ↦ record {
        place = place;
        pieces = rw (w.pieces-is, w.first-is) (slice_more c.args.is_written all c.args.text.now (lexemes c.args.tokens.now) c.loop-rest.rest.now _ _ c.loop-rest.first c.loop-rest.at c.is_semicolon.result c.loop-rest.pieces
            c.in-len1-up.len_at_least (take_rest c.loop-rest.rest.now 1) c.loop-rest.invariant.pieces c.is_semicolon.ensures w.if-is_semicolon.false);
      }
    ]
