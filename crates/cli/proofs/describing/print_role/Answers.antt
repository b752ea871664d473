use Rattle.std.proofs.Common.{◌≡◌, ◌∙◌, ap, List, Option, Some, Result, Ok, subst}
use Rattle.std.specs.Prelude.{IfOk, MatchOption}
use Rattle.sql_ast.specs.declared.role.Role.{Role}
use Rattle.abstract_database.specs.Lists.{TheName}
use Rattle.description_texts.specs.Descriptions.{HasAskedFor, HasNone, asked_name}
use Rattle.cli.specs.Describing.{IsDescribed}
use Rattle.cli.proofs.describing.print_role.Goals as goal

-- where there is a text, there is what was asked for
asked_so : {T E : Type 0} (roles : List Role) (role : Option TheName) (result : Result (Option T) E) → IfOk result (λ found. MatchOption found (HasNone roles role) (λ text. HasAskedFor roles role)) → (text : T) → result ≡ Ok (Some text) → HasAskedFor roles role
asked_so {T} {E} roles role result holds text is = subst (λ (r : Result (Option T) E). IfOk r (λ found. MatchOption found (HasNone roles role) (λ text. HasAskedFor roles role))) is holds

pub returns-in-Ok-Some : goal.returns-in-Ok-Some
returns-in-Ok-Some g c =
    let role = asked_name c.args.role in
    let has : HasAskedFor c.args.catalogue.now.roles role = asked_so c.args.catalogue.now.roles role c.describe.result c.describe.ensures c.in-Ok-Some.text (c.in-Ok-Some.is ∙ ap Ok c.in-Ok-Some.field-0-is) in
    IsDescribed.printed has c.as_str.result.now c.show_text.ensures
