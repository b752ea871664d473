use Rattle.std.proofs.Common.{◌≡◌, ◌∙◌, ap, Bool, List, [], ℕ}
use Rattle.std.specs.Prelude.{Option}
use Rattle.std.specs.Option.{option_map}
use Rattle.sql_lexer.specs.Lexeme.{lexemes}
use Rattle.diagnostics.specs.LeftOut.{first_of, is_query, left_out_by, text_before}
use Rattle.diagnostics.proofs.left_out.left_out.Goals as goal

pub returns : goal.returns
returns c =
    let ts = lexemes c.args.tokens.now in
    let b = c.text_before.result.now in
    let t = c.text_from.result.now in
    let q = c.is_query-is_query.result in
    c.first_of.ensures
    ∙ ap (λ (x : Option (List ℕ)). first_of x (option_map (λ text. text.now) c.left_out_by-2.result)) c.left_out_by.ensures
    ∙ ap (λ (x : Option (List ℕ)). first_of (left_out_by q b) x) c.left_out_by-2.ensures
    ∙ ap (λ (x : Bool). first_of (left_out_by x b) (left_out_by x t)) c.is_query-is_query.ensures
    ∙ ap (λ (x : List ℕ). first_of (left_out_by (is_query ts) x) (left_out_by (is_query ts) t)) c.text_before.ensures
    ∙ ap (λ (x : List ℕ). first_of (left_out_by (is_query ts) (text_before [] c.args.place ts)) (left_out_by (is_query ts) x)) c.text_from.ensures
