-- The policies that apply are found among those of the table, by the roles that a role is in.
use Rattle.std.proofs.Common.{◌≡◌, Bool, true, false, ◌&&◌, ◌||◌, cond, List, [], ◌∷◌, filter, bytes_eq, refl, sym, ap, ◌∙◌, Less, is_eq}
use Rattle.std.specs.List.{list_any}
use Rattle.std.proofs.lemmas.Map.Text.{is_eq-slice_cmp}
use Rattle.sql_ast.specs.declared.policy.Policy.{Policy}
use Rattle.sql_ast.specs.declared.policy.PolicyRoles.{PolicyRoles}
use Rattle.sql_ast.specs.declared.policy.PolicyRoles.TheVariants as roles
use Rattle.sql_ast.specs.declared.privilege.Action.{Action}
use Rattle.sql_ast.specs.declared.role.Membership.{Membership}
use Rattle.abstract_database.specs.Lists.{TheName, Among, has_name, name_cmp}
use Rattle.abstract_database.specs.Roles.{is_in}
use Rattle.abstract_database.specs.Guards.{is_for_action, is_for_role}
use Rattle.abstract_database.proofs.ListLemmas.{bytes_same, same_bytes}
use Rattle.stored_database.specs.Definitions.{TableDefinition, Definitions, policies_of}
use Rattle.stored_database.specs.Valid.{AreValid}
use Rattle.stored_database.proofs.TableParts.{policies_found}
use Rattle.policy_composer.specs.Formulas.{is_for_one, applies}

-- ---- names that differ

comes_before : (a b : TheName) → name_cmp a b ≡ Less → bytes_eq a b ≡ false
comes_before a b e = sym (is_eq-slice_cmp a b) ∙ ap is_eq e

pub comes_after : (a b : TheName) → name_cmp a b ≡ Less → bytes_eq b a ≡ false
comes_after a b e = by_case (bytes_eq b a) refl
  where
    by_case : (t : Bool) → bytes_eq b a ≡ t → t ≡ false
    by_case false h = refl
    by_case true h = let contrary : true ≡ false = sym (same_bytes a b (sym (bytes_same b a h))) ∙ comes_before a b e in cc

-- ---- by the roles that a role is in

any_same : {X : Type 0} (f g : X → Bool) (xs : List X) → ((x : X) → f x ≡ g x) → list_any f xs ≡ list_any g xs
any_same f g [] h = refl
any_same f g (x ∷ xs) h = ap (λ b. b || list_any f xs) (h x) ∙ ap (λ b. g x || b) (any_same f g xs h)

module _ (memberships : List Membership) (role : TheName) (set : List TheName) (has : (s : TheName) → has_name s set ≡ is_in memberships role s) where
  for_role : (r : PolicyRoles) → is_for_one set r ≡ is_for_role memberships role r
  for_role roles.Public = refl
  for_role (roles.Only names) = any_same (λ name. has_name name set) (is_in memberships role) names has

  pub applies_to_role : (a : Action) (p : Policy) → applies set a p ≡ (is_for_action a p.command && is_for_role memberships role p.roles)
  applies_to_role a p = ap (λ b. is_for_action a p.command && b) (for_role p.roles)

-- ---- tests in turn

in_turn_at : (f k : Policy → Bool) (p : Policy) (qs rs : List Policy) (b : Bool) → qs ≡ filter k rs → cond (b && k p) (p ∷ qs) qs ≡ filter k (cond b (p ∷ rs) rs)
in_turn_at f k p qs rs true e = ap (λ l. cond (k p) (p ∷ l) l) e
in_turn_at f k p qs rs false e = e

pub in_turn : (f g k : Policy → Bool) (ps : List Policy) → ((p : Policy) → f p ≡ g p) → filter (λ p. f p && k p) ps ≡ filter k (filter g ps)
in_turn f g k [] h = refl
in_turn f g k (p ∷ ps) h =
    ap (λ b. cond (b && k p) (p ∷ filter (λ q. f q && k q) ps) (filter (λ q. f q && k q) ps)) (h p)
    ∙ in_turn_at f k p (filter (λ q. f q && k q) ps) (filter g ps) (g p) (in_turn f g k ps h)

three_at : (f g : Policy → Bool) (p : Policy) (qs rs : List Policy) (b : Bool) → qs ≡ filter (λ q. f q && g q) rs → cond (b && f p && g p) (p ∷ qs) qs ≡ filter (λ q. f q && g q) (cond b (p ∷ rs) rs)
three_at f g p qs rs true e = ap (λ l. cond (f p && g p) (p ∷ l) l) e
three_at f g p qs rs false e = e

three_in_turn : (own f g : Policy → Bool) (ps : List Policy) → filter (λ p. own p && f p && g p) ps ≡ filter (λ p. f p && g p) (filter own ps)
three_in_turn own f g [] = refl
three_in_turn own f g (p ∷ ps) = three_at f g p (filter (λ q. own q && f q && g q) ps) (filter own ps) (own p) (three_in_turn own f g ps)

-- of all policies, those of the table that pass the tests are those among its own
pub of_table : (f g : Policy → Bool) (d : Definitions) (t : TableDefinition) → AreValid d → Among t d.tables →
    filter (λ p. bytes_eq p.table t.definition.name && f p && g p) (policies_of d.tables) ≡ filter (λ p. f p && g p) t.policies
of_table f g d t valid among = three_in_turn (λ p. bytes_eq p.table t.definition.name) f g (policies_of d.tables) ∙ ap (filter (λ p. f p && g p)) (policies_found d valid t among)
