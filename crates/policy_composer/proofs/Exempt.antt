-- Whom row security concerns, by the role that is found.
use Rattle.std.proofs.Common.{◌≡◌, Bool, true, false, not, ◌&&◌, ◌||◌, cond, List, [], ◌∷◌, find, bytes_eq, Some, refl, sym, ap, ◌∙◌, inl, inr, Less}
use Rattle.std.specs.List.{list_any}
use Rattle.sql_ast.specs.declared.role.Role.{Role}
use Rattle.abstract_database.specs.Lists.{TheName, Among, Rising, has_name, name_cmp}
use Rattle.abstract_database.specs.Database.{TableOf, Database, is_role_named, role_cmp}
use Rattle.abstract_database.specs.Roles.{is_in, is_superuser, bypasses_row_security}
use Rattle.abstract_database.specs.Guards.{is_guarded}
use Rattle.abstract_database.specs.Whole.{Each}
use Rattle.abstract_database.proofs.ListLemmas.{bytes_same}
use Rattle.policy_composer.specs.Guarding.{exempts, guards_from}
use Rattle.policy_composer.proofs.Applicable.{comes_after}

none_named : (role : TheName) (f : Role → Bool) (rs : List Role) → Each (λ (r : Role). bytes_eq r.name role ≡ false) rs → list_any (λ r. is_role_named role r && f r) rs ≡ false
none_named role f [] h = refl
none_named role f (r ∷ rs) h = ap (λ b. (b && f r) || list_any (λ r. is_role_named role r && f r) rs) (h r (inl refl)) ∙ none_named role f rs (λ q k. h q (inr k))

-- the attribute of the role of this name, and of no other
abbrev named_has : TheName → (Role → Bool) → List Role → Bool
named_has role f rs = list_any (λ r. is_role_named role r && f r) rs

no_more : (a b c d : Bool) → c ≡ false → d ≡ false → (a || b) ≡ ((a || c) || (b || d))
no_more a b c d e h = ap (λ x. x || b) (or_false a) ∙ ap (λ x. (a || false) || x) (or_false b) ∙ ap (λ x. (a || x) || (b || false)) (sym e) ∙ ap (λ x. (a || c) || (b || x)) (sym h)
  where
    or_false : (x : Bool) → x ≡ (x || false)
    or_false true = refl
    or_false false = refl

exempt_at : (role : TheName) (r : Role) (rs : List Role) (b : Bool) → bytes_eq r.name role ≡ b → ((q : Role) → Among q rs → role_cmp r q ≡ Less)
    → exempts (find (is_role_named role) rs) ≡ (named_has role (λ q. q.attributes.superuser) rs || named_has role (λ q. q.attributes.bypass_rls) rs)
    → exempts (cond b (Some r) (find (is_role_named role) rs))
    ≡ ((b && r.attributes.superuser || named_has role (λ q. q.attributes.superuser) rs) || (b && r.attributes.bypass_rls || named_has role (λ q. q.attributes.bypass_rls) rs))
exempt_at role r rs false e before rest = rest
exempt_at role r rs true e before rest = no_more r.attributes.superuser r.attributes.bypass_rls _ _ (others (λ q. q.attributes.superuser)) (others (λ q. q.attributes.bypass_rls))
  where
    others : (f : Role → Bool) → named_has role f rs ≡ false
    others f = none_named role f rs (λ q h. comes_after role q.name (ap (λ n. name_cmp n q.name) (sym (bytes_same r.name role e)) ∙ before q h))

exempt : (role : TheName) (rs : List Role) → Rising role_cmp rs →
    exempts (find (is_role_named role) rs) ≡ (named_has role (λ r. r.attributes.superuser) rs || named_has role (λ r. r.attributes.bypass_rls) rs)
exempt role [] order = refl
exempt role (r ∷ rs) order = exempt_at role r rs (bytes_eq r.name role) refl order.0 (exempt role rs order.1)

pub guarded : (db : Database) (role : TheName) (set : List TheName) (t : TableOf) → Rising role_cmp db.roles → ((s : TheName) → has_name s set ≡ is_in db.memberships role s)
    → guards_from set (find (is_role_named role) db.roles) t ≡ is_guarded db role t
guarded db role set t order has =
    ap (λ b. t.row_security && not b && (t.forced || not (has_name t.owner set))) (exempt role db.roles order)
    ∙ ap (λ b. t.row_security && not (is_superuser db role || bypasses_row_security db role) && (t.forced || not b)) (has t.owner)
