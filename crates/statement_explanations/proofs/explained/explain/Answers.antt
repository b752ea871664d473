use Rattle.std.proofs.Common.{◌≡◌, ◌∙◌, ℕ, List, Option, Some, None, ap, subst}
use Rattle.std.specs.Prelude.{find, unwrap_or}
use Rattle.std.specs.Borrow.{Bor}
use Rattle.std.specs.Option.{option_map}
use Rattle.std.proofs.lemmas.Result.{IfOk-weaker}
use Rattle.sql_ast.specs.declared.role.Role.{Role}
use Rattle.abstract_database.specs.Database.{is_role_named}
use Rattle.abstract_database.specs.Lists.{TheName}
use Rattle.stored_database.specs.Definitions.{Definitions}
use Rattle.statement_explanations.specs.Explained.{HasLoginRole, IsExplained, IsRole, IsTextExplained, fault_in}
use Rattle.statement_explanations.proofs.explained.explain.Goals as goal

-- a role that was found is there
role_there : (d : Definitions) (roles : List Role) (name : TheName) (role : Role) → roles ≡ d.roles → Some role ≡ find (is_role_named name) roles → IsRole d name
role_there d roles name role same found = λ none. let wrong : Some role ≡ None = found ∙ ap (find (is_role_named name)) same ∙ none in cc

-- so is the login role, where one is given
login_there : (d : Definitions) (given : Option (Bor (List ℕ))) (role session : Bor (List ℕ)) → session ≡ unwrap_or given role → IsRole d session.now → HasLoginRole d (option_map (λ name. name.now) given)
login_there d None role session is there = tt
login_there d (Some name) role session is there = subst (λ (x : Bor (List ℕ)). IsRole d x.now) is there

pub returns : goal.returns
returns c =
    let d = c.args.catalogue.now in
    let text = c.args.text.now in
    let is_role = role_there d c.roles.result.now c.args.acting.role.now c.in-Some.current.now c.roles.ensures.roles c.in-Some.ensures.found in
    let is_session = role_there d c.roles-2.result.now c.unwrap_or-session.result.now c.in-Some-find_role.session.now c.roles-2.ensures.roles c.in-Some-find_role.ensures.found in
    let has_login = login_there d c.args.acting.session c.args.acting.role c.unwrap_or-session.result c.unwrap_or-session.ensures is_session in
    IfOk-weaker c.explain_text.result _ _ (λ outcome h. IsExplained.explained is_role has_login (subst (λ (name : TheName). IsTextExplained d name text (fault_in outcome)) c.in-Some.ensures.named h)) c.explain_text.ensures
