use Rattle.std.proofs.Common.{◌≡◌, ◌∙◌, ap, ℕ, List, Option, Some, Result, Ok, subst}
use Rattle.std.specs.Prelude.{IfOk, MatchOption, string_bytes}
use Rattle.cli.specs.Describing.{IsTableDescribed}
use Rattle.cli.specs.Printing.{IsTextShown}
use Rattle.cli.proofs.describing.print_table.Goals as goal

-- what is said of a text that is there
said_so : {T E : Type 0} (N : Type 0) (P : T → Type 0) (result : Result (Option T) E) → IfOk result (λ found. MatchOption found N P) → (text : T) → result ≡ Ok (Some text) → P text
said_so {T} {E} N P result holds text is = subst (λ (r : Result (Option T) E). IfOk r (λ found. MatchOption found N P)) is holds

pub returns-in-Ok-Some : goal.returns-in-Ok-Some
returns-in-Ok-Some g c =
    let text = string_bytes c.in-Ok-Some.text in
    let same : c.as_str.result.now ≡ text = (let value = c.as_str.ensures.value in cc) in
    let shown = subst (λ (t : List ℕ). IsTextShown t (g.K.Sink.held c.args.out.now) c.show_text.result (g.K.Sink.held c.show_text.new.out)) same c.show_text.ensures in
    IsTableDescribed.table_shown text (said_so _ _ c.table_text.result c.table_text.ensures c.in-Ok-Some.text (c.in-Ok-Some.is ∙ ap Ok c.in-Ok-Some.field-0-is)) shown
