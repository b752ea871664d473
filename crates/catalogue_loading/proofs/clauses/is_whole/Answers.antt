use Rattle.std.proofs.Common.{◌≡◌, ◌-◌, ℕ, length, sym, ◌∙◌, ap}
use Rattle.std.proofs.lemmas.List.{length-map}
use Rattle.sql_lexer.specs.Lexeme.{lexeme, lexemes}
use Rattle.sql_lexer.specs.Slices.{text_between}
use Rattle.abstract_database.proofs.ListLemmas.{bytes_same, same_bytes}
use Rattle.catalogue_loading.proofs.clauses.is_whole.Goals as goal

pub returns : goal.returns
returns c =
    let ts = lexemes c.args.tokens.now in
    let same : text_between c.args.text.now ts 0 (length ts - 1) ≡ c.text_between.result.now =
    ap (λ (n : ℕ). text_between c.args.text.now ts 0 (n - 1)) (length-map c.args.tokens.now lexeme) ∙ sym c.text_between.ensures in
    (λ is. same ∙ bytes_same _ _ (sym c.eq.ensures ∙ is), λ spans. c.eq.ensures ∙ same_bytes _ _ (sym same ∙ spans))
