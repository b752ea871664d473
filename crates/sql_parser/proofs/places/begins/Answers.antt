use Rattle.std.proofs.Common.{ℕ, List, length, take, refl, ap, ◌∙◌, Bor}
use Rattle.sql_lexer.specs.Lexeme.{lexemes}
use Rattle.sql_parser.specs.Places.{place_at}
use Rattle.sql_parser.proofs.Searches.{boundary, counted, tried}
use Rattle.sql_parser.proofs.places.begins.Goals as goal

pub split_at-requires : goal.split_at-requires
split_at-requires c =
    let text = c.args.front.now.text.now in
    let place = c.place_at-place.ensures ∙ ap (λ z. place_at (length text) (lexemes z) c.args.index) c.as_slice.ensures.value in
    boundary text (lexemes c.args.front.now.tokens.items) c.args.index (length text) _ c.requires.tokens.placed.each refl place

pub returns-clause-no : goal.returns-clause-no
returns-clause-no c =
    let text = c.args.front.now.text.now in
    let place = c.place_at-place.ensures ∙ ap (λ z. place_at (length text) (lexemes z) c.args.index) c.as_slice.ensures.value in
    let before = c.split_at.ensures.front ∙ ap (λ n. take n text) place in
    let tokens = c.split_at-2.ensures.front ∙ ap (take c.args.index) c.as_slice-2.ensures.value in
    let count = counted c.args.index _ c.args.front.now.tokens.items _ tokens c.open_count.ensures in
    tried {A = Bor (List ℕ) × Bor (List ℕ)} (λ w. (w.0.now, w.1.now)) _ c.args.completions.now _ _ _ _ before count c.goes_on.ensures.no
