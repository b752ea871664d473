use Rattle.std.proofs.Common.{◌≡◌, ℕ, List, Result, Ok, subst}
use Rattle.std.specs.Prelude.{IfOk, string_bytes}
use Rattle.cli.specs.Describing.{IsCompared, IsShownAs}
use Rattle.cli.proofs.describing.print_differences.Goals as goal

-- what is said of a text that is there
said_so : {T E : Type 0} (P : T → Type 0) (result : Result T E) → IfOk result P → (told : T) → result ≡ Ok told → P told
said_so {T} {E} P result holds told is = subst (λ (r : Result T E). IfOk r P) is holds

pub returns-in-Ok : goal.returns-in-Ok
returns-in-Ok g c =
    let told = c.in-Ok.told in
    let same : c.as_str.result.now ≡ string_bytes told.text = (let value = c.as_str.ensures.value in cc) in
    let shown = subst (λ (t : List ℕ). IsShownAs told.differs t (g.K.Sink.held c.args.out.now) c.show_differences.result (g.K.Sink.held c.show_differences.new.out)) same c.show_differences.ensures in
    IsCompared.differences_shown told (said_so _ c.differences_text.result c.differences_text.ensures told c.in-Ok.is) shown
