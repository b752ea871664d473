use Rattle.std.proofs.Common.{length, take, refl, ap, ◌∙◌}
use Rattle.sql_lexer.specs.Lexeme.{kind_at, lexemes}
use Rattle.sql_parser.specs.Completions.{completions}
use Rattle.sql_parser.specs.Places.{place_at}
use Rattle.syntax_places.proofs.Searching.{boundary, counted, goes, stops}
use Rattle.syntax_places.proofs.search.goes_on_at.Goals as goal

pub split_at-requires : goal.split_at-requires
split_at-requires c =
    let text = c.args.text.now in
    boundary text (lexemes c.args.tokens.now) c.args.index (length text) _ c.requires.tokens.placed.each refl c.place_at-place.ensures

pub returns-clause-yes : goal.returns-clause-yes
returns-clause-yes c =
    let text = c.args.text.now in
    let before = c.split_at.ensures.front ∙ ap (λ n. take n text) c.place_at-place.ensures in
    let count = counted c.args.index _ c.args.tokens.now _ c.split_at-2.ensures.front c.open_count.ensures in
    let table = c.completions.ensures ∙ ap completions c.kind_at.ensures.value in
    goes before count table _ c.goes_on.ensures.yes

pub returns-clause-no : goal.returns-clause-no
returns-clause-no c =
    let text = c.args.text.now in
    let before = c.split_at.ensures.front ∙ ap (λ n. take n text) c.place_at-place.ensures in
    let count = counted c.args.index _ c.args.tokens.now _ c.split_at-2.ensures.front c.open_count.ensures in
    let table = c.completions.ensures ∙ ap completions c.kind_at.ensures.value in
    stops before count table _ c.goes_on.ensures.no
