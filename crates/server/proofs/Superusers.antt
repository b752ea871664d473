-- Who may become a superuser, as a server looks for it.
use Rattle.std.proofs.Common.{◌≡◌, ◌∙◌, ◌&&◌, ◌||◌, cond, Bool, true, false, List, [], ◌∷◌, find, Option, Some, None, refl, sym, ap}
use Rattle.std.specs.List.{list_any}
use Rattle.std.proofs.lemmas.Bool.{and_parts}
use Rattle.sql_ast.specs.declared.role.Role.{Role}
use Rattle.abstract_database.proofs.CheckLemmas.{find_passes}
use Rattle.abstract_database.proofs.ListLemmas.{bytes_same}
use Rattle.abstract_database.specs.Lists.{TheName, has_name}
use Rattle.abstract_database.specs.Database.{Database, is_role_named, has_role}
use Rattle.abstract_database.specs.Roles.{is_superuser, is_in}
use Rattle.server.specs.Superusers.{may_become_superuser}

-- ---- lists

or_later : (b c : Bool) → c ≡ true → (b || c) ≡ true
or_later true c is = refl
or_later false c is = is

found_at : (p : Role → Bool) (r : Role) (rs : List Role) (x : Role) (b : Bool) → p r ≡ b → (find p rs ≡ Some x → list_any p rs ≡ true) → cond b (Some r) (find p rs) ≡ Some x → (p r || list_any p rs) ≡ true
found_at p r rs x true is later found = ap (λ (b : Bool). b || list_any p rs) is
found_at p r rs x false is later found = or_later (p r) (list_any p rs) (later found)

-- one is found, so one passes
found_any : (p : Role → Bool) (rs : List Role) (x : Role) → find p rs ≡ Some x → list_any p rs ≡ true
found_any p [] x found = cc
found_any p (r ∷ rs) x found = found_at p r rs x (p r) refl (found_any p rs x) found

none_at : (p : Role → Bool) (r : Role) (rs : List Role) (b : Bool) → p r ≡ b → (find p rs ≡ None → list_any p rs ≡ false) → cond b (Some r) (find p rs) ≡ None → (p r || list_any p rs) ≡ false
none_at p r rs true is later found = cc
none_at p r rs false is later found = ap (λ (b : Bool). b || list_any p rs) is ∙ later found

none_any : (p : Role → Bool) (rs : List Role) → find p rs ≡ None → list_any p rs ≡ false
none_any p [] found = refl
none_any p (r ∷ rs) found = none_at p r rs (p r) refl (none_any p rs) found

more_at : (p q : Role → Bool) (r : Role) (rs : List Role) (b : Bool) → p r ≡ b → (p r ≡ true → q r ≡ true) → (list_any p rs ≡ true → list_any q rs ≡ true) → (b || list_any p rs) ≡ true → (q r || list_any q rs) ≡ true
more_at p q r rs true is more later any = ap (λ (b : Bool). b || list_any q rs) (more is)
more_at p q r rs false is more later any = or_later (q r) (list_any q rs) (later any)

-- one passes the first test, so one passes the second
any_more : (p q : Role → Bool) (rs : List Role) → ((r : Role) → p r ≡ true → q r ≡ true) → list_any p rs ≡ true → list_any q rs ≡ true
any_more p q [] more any = any
any_more p q (r ∷ rs) more any = more_at p q r rs (p r) refl (more r) (any_more p q rs more) any

same_any : (p q : Role → Bool) (rs : List Role) → ((r : Role) → p r ≡ q r) → list_any p rs ≡ list_any q rs
same_any p q [] same = refl
same_any p q (r ∷ rs) same = ap (λ (b : Bool). b || list_any p rs) (same r) ∙ ap (λ (b : Bool). q r || b) (same_any p q rs same)

pub own_name : (login : TheName) (rs : List Role) (x : Role) → find (is_role_named login) rs ≡ Some x → x.name ≡ login
own_name login rs x found = bytes_same x.name login (find_passes (is_role_named login) rs x found)

-- ---- who may become a superuser

module _ (db : Database) (login : TheName) where
  -- no role of this name
  pub no_role : find (is_role_named login) db.roles ≡ None → false ≡ may_become_superuser db login
  no_role none = sym (ap (λ (b : Bool). b && list_any (λ (s : Role). s.attributes.superuser && (is_superuser db login || is_in db.memberships login s.name)) db.roles) (none_any (is_role_named login) db.roles none))

  module _ (role : Role) (found : find (is_role_named login) db.roles ≡ Some role) where
    with_role : (b : Bool) → b ≡ list_any (λ (s : Role). s.attributes.superuser && (is_superuser db login || is_in db.memberships login s.name)) db.roles → b ≡ may_become_superuser db login
    with_role b is =
        is
        ∙ sym (ap (λ (c : Bool). c && list_any (λ (s : Role). s.attributes.superuser && (is_superuser db login || is_in db.memberships login s.name)) db.roles) (found_any (is_role_named login) db.roles role found))

    by_itself : is_superuser db login ≡ true → (s : Role) → (is_role_named login s && s.attributes.superuser) ≡ true → (s.attributes.superuser && (is_superuser db login || is_in db.memberships login s.name)) ≡ true
    by_itself super s is =
        ap (λ (b : Bool). b && (is_superuser db login || is_in db.memberships login s.name)) (and_parts (is_role_named login s) s.attributes.superuser is).1
        ∙ ap (λ (b : Bool). b || is_in db.memberships login s.name) super

    -- a superuser may set each role
    pub is_one : is_superuser db login ≡ true → true ≡ may_become_superuser db login
    is_one super =
        with_role true (sym (any_more (λ (s : Role). is_role_named login s && s.attributes.superuser) (λ (s : Role). s.attributes.superuser && (is_superuser db login || is_in db.memberships login s.name)) db.roles (by_itself super) super))

    -- another may set the roles that it is in
    pub among_reached : (set : List TheName) (b : Bool) → is_superuser db login ≡ false → ((s : TheName) → has_name s set ≡ is_in db.memberships login s)
        → b ≡ list_any (λ (s : Role). s.attributes.superuser && has_name s.name set) db.roles → b ≡ may_become_superuser db login
    among_reached set b none reached is =
        with_role b (is
        ∙ same_any (λ (s : Role). s.attributes.superuser && has_name s.name set) (λ (s : Role). s.attributes.superuser && (is_superuser db login || is_in db.memberships login s.name)) db.roles
        (λ s. ap (λ (c : Bool). s.attributes.superuser && c) (reached s.name ∙ sym (ap (λ (c : Bool). c || is_in db.memberships login s.name) none))))
