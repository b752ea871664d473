use Rattle.std.proofs.Common.{◌≡◌, ℕ, List, Result, Ok, subst}
use Rattle.std.specs.Prelude.{IfOk, string_bytes}
use Rattle.cli.specs.Describing.{ArePowersDescribed}
use Rattle.cli.specs.Printing.{IsTextShown}
use Rattle.cli.proofs.describing.print_powers.Goals as goal

-- what is said of a text that is there
said_so : {T E : Type 0} (P : T → Type 0) (result : Result T E) → IfOk result P → (text : T) → result ≡ Ok text → P text
said_so {T} {E} P result holds text is = subst (λ (r : Result T E). IfOk r P) is holds

pub returns-in-Ok : goal.returns-in-Ok
returns-in-Ok g c =
    let text = string_bytes c.in-Ok.text in
    let same : c.as_str.result.now ≡ text = (let value = c.as_str.ensures.value in cc) in
    let shown = subst (λ (t : List ℕ). IsTextShown t (g.K.Sink.held c.args.out.now) c.show_text.result (g.K.Sink.held c.show_text.new.out)) same c.show_text.ensures in
    ArePowersDescribed.powers_shown text (said_so _ c.powers_text.result c.powers_text.ensures c.in-Ok.text c.in-Ok.is) shown
