use Rattle.std.proofs.Common.{length, refl, ap, ◌∙◌, arith}
use Rattle.sql_lexer.specs.Lexeme.{lexemes, kind_at}
use Rattle.sql_parser.specs.Completions.{completions}
use Rattle.sql_parser.specs.Places.{place_at}
use Rattle.sql_parser.proofs.Searches.{boundary, lowered, found_at}
use Rattle.sql_parser.proofs.places.place_in.Goals as goal

pub loop-high-preserved : goal.loop-high-preserved
loop-high-preserved c = lowered c.loop-high.invariant (omega (arith, c.loop-high-test.true)) (omega (arith, c.loop-high-test.true, c.loop-high.invariant.most)) (c.in_ok-begins.ensures.no c.if-branch.false)

pub returns-clause-among : goal.returns-clause-among
returns-clause-among c =
    let text = c.args.front.now.text.now in
    let place = c.place_at.ensures ∙ ap (λ z. place_at (length text) (lexemes z) c.loop-high.low) c.as_slice-2.ensures.value in
    let table = c.completions-completions.ensures ∙ ap completions (c.kind_at.ensures.value ∙ ap (λ z. kind_at (lexemes z) 0) c.as_slice.ensures.value) in
    found_at text (lexemes c.args.front.now.tokens.items) _ c.loop-high.low c.loop-high.high _ c.loop-high.invariant (omega (arith, c.loop-high-test.false)) place table

pub returns-clause-within : goal.returns-clause-within
returns-clause-within c =
    let text = c.args.front.now.text.now in
    let place = c.place_at.ensures ∙ ap (λ z. place_at (length text) (lexemes z) c.loop-high.low) c.as_slice-2.ensures.value in
    (boundary text (lexemes c.args.front.now.tokens.items) c.loop-high.low (length text) _ c.requires.placed.each refl place).0
