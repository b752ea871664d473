-- Roles that are set, or are not, and roles that may log in.
use Rattle.std.proofs.Common.{◌≡◌, ◌∙◌, ◌&&◌, ◌||◌, ℕ, is_some, cond, Bool, true, false, List, [], ◌∷◌, find, Option, Some, None, Ok, refl, sym, ap, subst}
use Rattle.std.specs.List.{list_any}
use Rattle.std.proofs.lemmas.Bool.{and_parts}
use Rattle.sql_types.specs.declared.state.SqlState.TheVariants.{UndefinedObject, InsufficientPrivilege}
use Rattle.sql_types.specs.declared.tag.Tag.TheVariants as tag
use Rattle.sql_ast.specs.declared.role.Role.{Role}
use Rattle.expressions.specs.Stages.{◌>>=◌, require}
use Rattle.abstract_database.specs.Lists.{TheName}
use Rattle.abstract_database.specs.Database.{Database, has_role, is_role_named}
use Rattle.abstract_database.specs.Roles.{may_log_in, may_set_role}
use Rattle.abstract_database.specs.Machine.{Machine, Session, Transition, seen, succeeds, refused, transition_or_refusal, with_session_changed, as_role}
use Rattle.abstract_database.proofs.ListLemmas.{bytes_same}
use Rattle.stored_database.specs.Definitions.{Definitions}
use Rattle.server.specs.declared.decision.Decision.{Decision}
use Rattle.server.specs.declared.writer.Writer.{Writer}
use Rattle.server.specs.Decisions.{machine_at}
use Rattle.sessions.specs.Decisions.{Serves, Makes, Always, Never}
use Rattle.sessions.specs.Admission.{HasRolesOf, SeesRolesOf}
use Rattle.sessions.specs.Roles.{role_set}

-- ---- a role that is not set

-- a decision serves what is the same transition where this is given
pub serves_same : (writer : Option Writer) (number : ℕ) (s : Session) (Given : Machine → Type 0) (t u : Machine → Transition) (what : Decision)
    → ((m : Machine) → Given m → t m ≡ u m) → Serves writer number s Always Never t what → Serves writer number s Given Never u what
serves_same writer number s Given t u what same serves records d db holder sessions shows held is given =
    subst (λ (z : Transition). Makes records d writer db holder sessions ⊥ z what) (same (machine_at db holder sessions) given) (serves records d db holder sessions shows held is tt)

-- the setting of a role that is there, or is not, and may be set, or may not
abbrev role_set_by : Machine → ℕ → Session → TheName → Bool → Bool → Transition
role_set_by m number s role named allowed =
    transition_or_refusal m number s
    ((require named UndefinedObject >>= λ n. require allowed InsufficientPrivilege >>= λ a. Ok (as_role role s)) >>= λ changed. Ok (succeeds tag.Set (with_session_changed m number changed)))

has_role_of : (d : Definitions) (db : Database) (role : TheName) (b : Bool) → HasRolesOf d db → b ≡ list_any (is_role_named role) d.roles → has_role db role ≡ b
has_role_of d db role b same is = ap (list_any (is_role_named role)) same.roles ∙ sym is

pub unnamed : (d : Definitions) (number : ℕ) (s : Session) (o : Option TheName) (role : TheName) (there : Bool) (m : Machine) → o ≡ Some role
    → there ≡ list_any (is_role_named role) d.roles → there ≡ false → SeesRolesOf d number m → refused m number s UndefinedObject ≡ role_set m number s o
unnamed d number s o role there m some is missing sees =
    sym (ap (role_set m number s) some
    ∙ ap (λ (b : Bool). role_set_by m number s role b (may_set_role (seen m number) s.login role)) (has_role_of d (seen m number) role there sees is ∙ missing))

pub unallowed : (d : Definitions) (number : ℕ) (s : Session) (o : Option TheName) (role : TheName) (there may : Bool) (m : Machine) → o ≡ Some role
    → there ≡ list_any (is_role_named role) d.roles → there ≡ true → (may ≡ may_set_role (seen m number) s.login role) → may ≡ false
    → SeesRolesOf d number m → refused m number s InsufficientPrivilege ≡ role_set m number s o
unallowed d number s o role there may m some is present allowed refused_it sees =
    sym (ap (role_set m number s) some
    ∙ ap (λ (b : Bool). role_set_by m number s role b (may_set_role (seen m number) s.login role)) (has_role_of d (seen m number) role there sees is ∙ present)
    ∙ ap (λ (b : Bool). role_set_by m number s role true b) (sym allowed ∙ refused_it))

pub serves_unnamed : (writer : Option Writer) (d : Definitions) (number : ℕ) (s : Session) (o : Option TheName) (role : TheName) (there : Bool) (what : Decision) → o ≡ Some role
    → there ≡ list_any (is_role_named role) d.roles → there ≡ false → Serves writer number s Always Never (λ m. refused m number s UndefinedObject) what
    → Serves writer number s (SeesRolesOf d number) Never (λ m. role_set m number s o) what
serves_unnamed writer d number s o role there what some is missing serves =
    serves_same writer number s (SeesRolesOf d number) (λ m. refused m number s UndefinedObject) (λ m. role_set m number s o) what
    (λ m sees. unnamed d number s o role there m some is missing sees) serves

pub serves_unallowed : (writer : Option Writer) (d : Definitions) (number : ℕ) (s : Session) (o : Option TheName) (role login : TheName) (there may : Bool) (what : Decision) → o ≡ Some role
    → there ≡ list_any (is_role_named role) d.roles → there ≡ true → login ≡ s.login → ((db : Database) → HasRolesOf d db → may ≡ may_set_role db login role) → may ≡ false
    → Serves writer number s Always Never (λ m. refused m number s InsufficientPrivilege) what
    → Serves writer number s (SeesRolesOf d number) Never (λ m. role_set m number s o) what
serves_unallowed writer d number s o role login there may what some is present own allowed refused_it serves =
    serves_same writer number s (SeesRolesOf d number) (λ m. refused m number s InsufficientPrivilege) (λ m. role_set m number s o) what
    (λ m sees. unallowed d number s o role there may m some is present
    (allowed (seen m number) sees ∙ ap (λ (l : TheName). may_set_role (seen m number) l role) own) refused_it sees) serves

-- ---- a role that may log in

abbrev logs_in : TheName → Role → Bool
logs_in name role = is_role_named name role && role.attributes.login

pub any_found : {X : Type 0} (test : X → Bool) (xs : List X) → is_some (find test xs) ≡ list_any test xs
any_found test [] = refl
any_found {X} test (x ∷ xs) = at (test x) (any_found test xs) where
  at : (b : Bool) → is_some (find test xs) ≡ list_any test xs → is_some (cond b (Some x) (find test xs)) ≡ (b || list_any test xs)
  at true h = refl
  at false h = h

found_passes : {X : Type 0} (test : X → Bool) (xs : List X) (y : X) → find test xs ≡ Some y → test y ≡ true
found_passes test [] y e = absurd (none_is y e) where
  none_is : {X : Type 0} (y : X) → ◌≡◌ {A = Option X} None (Some y) → ⊥
  none_is y e = cc
found_passes {X} test (x ∷ xs) y e = at (test x) refl (found_passes test xs y) e where
  at : (b : Bool) → test x ≡ b → (find test xs ≡ Some y → test y ≡ true) → cond b (Some x) (find test xs) ≡ Some y → test y ≡ true
  at true is later e = (let same : x ≡ y = cc in sym (ap test same) ∙ is)
  at false is later e = later e

pub login_found : (d : Definitions) (db : Database) (roles : List Role) (name copy : TheName) (role : Role) → HasRolesOf d db → roles ≡ d.roles → copy ≡ role.name → Some role ≡ find (logs_in name) roles
    → ◌≡◌ {A = Option TheName} (Some copy) (cond (may_log_in db name) (Some name) None)
login_found d db roles name copy role same lent copied found =
    let may : may_log_in db name ≡ true = ap (list_any (logs_in name)) (same.roles ∙ sym lent) ∙ sym (any_found (logs_in name) roles) ∙ ap is_some (sym found) in
    let named : role.name ≡ name = bytes_same role.name name (and_parts (is_role_named name role) role.attributes.login (found_passes (logs_in name) roles role (sym found))).0 in
    ap Some (copied ∙ named) ∙ sym (ap (λ (b : Bool). cond {A = Option TheName} b (Some name) None) may)

pub login_missing : (d : Definitions) (db : Database) (roles : List Role) (name : TheName) → HasRolesOf d db → roles ≡ d.roles → None ≡ find (logs_in name) roles
    → ◌≡◌ {A = Option TheName} None (cond (may_log_in db name) (Some name) None)
login_missing d db roles name same lent found =
    let may : may_log_in db name ≡ false = ap (list_any (logs_in name)) (same.roles ∙ sym lent) ∙ sym (any_found (logs_in name) roles) ∙ ap is_some (sym found) in
    sym (ap (λ (b : Bool). cond {A = Option TheName} b (Some name) None) may)
