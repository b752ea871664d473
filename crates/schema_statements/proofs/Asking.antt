-- Whether a role has some privilege on a table, by the names of the roles that it is in.
use Rattle.std.proofs.Common.{◌≡◌, Bool, false, ◌&&◌, ◌||◌, List, [], ◌∷◌, map, bytes_eq, Bor, refl, sym, ap, ◌∙◌, inl, inr}
use Rattle.std.specs.List.{list_any}
use Rattle.sql_ast.specs.declared.role.Membership.{Membership}
use Rattle.sql_ast.specs.declared.privilege.Grantee.{Grantee}
use Rattle.sql_ast.specs.declared.privilege.Grantee.TheVariants as grantee
use Rattle.sql_ast.specs.declared.privilege.Descriptor.{Descriptor}
use Rattle.abstract_database.specs.Lists.{TheName, Among, has_name}
use Rattle.abstract_database.specs.Database.{grantee_name}
use Rattle.abstract_database.specs.Roles.{is_in}
use Rattle.abstract_database.specs.Privileges.{reaches}
use Rattle.abstract_database.specs.Whole.{Each}
use Rattle.abstract_database.proofs.ListLemmas.{same_bytes}
use Rattle.catalogue.specs.Grants.{is_for, IsNamed, AreNamed}
use Rattle.grant_graph.proofs.Marks.{any_or}

none_any : {X : Type 0} (xs : List X) → list_any (λ (x : X). false) xs ≡ false
none_any [] = refl
none_any (x ∷ xs) = none_any xs

any_swapped : {X Y : Type 0} (f : X → Y → Bool) (xs : List X) (ys : List Y) → list_any (λ x. list_any (f x) ys) xs ≡ list_any (λ y. list_any (λ x. f x y) xs) ys
any_swapped f [] ys = sym (none_any ys)
any_swapped f (x ∷ xs) ys = ap (λ b. list_any (f x) ys || b) (any_swapped f xs ys) ∙ sym (any_or (f x) (λ y. list_any (λ z. f z y) xs) ys)

any_lent : (f : TheName → Bool) (names : List (Bor TheName)) → list_any (λ name. f name.now) names ≡ list_any f (map (λ name. name.now) names)
any_lent f [] = refl
any_lent f (n ∷ names) = ap (λ b. f n.now || b) (any_lent f names)

same_any : (p q : Descriptor → Bool) (ds : List Descriptor) → ((d : Descriptor) → Among d ds → p d ≡ q d) → list_any p ds ≡ list_any q ds
same_any p q [] h = refl
same_any p q (d ∷ ds) h = ap (λ b. b || list_any p ds) (h d (inl refl)) ∙ ap (λ b. q d || b) (same_any p q ds (λ x among. h x (inr among)))

module _ (ms : List Membership) (role table : TheName) (roles : List TheName) (are : (s : TheName) → has_name s roles ≡ is_in ms role s) where
  by_name : (g : Grantee) (d : Descriptor) → IsNamed g → (bytes_eq (grantee_name g) [] || list_any (λ r. bytes_eq (grantee_name g) r) roles) ≡ reaches ms role g
  by_name grantee.Public d is = refl
  by_name (grantee.Role name) d is = ap (λ b. b || has_name name roles) is ∙ are name

  -- the table is asked for PUBLIC and for each of the roles
  pub some_asked : (ds : List Descriptor) → Each (λ (d : Descriptor). d.table ≡ table) ds → AreNamed ds → (names : List (Bor TheName)) → map (λ name. name.now) names ≡ roles
      → (list_any (is_for []) ds || list_any (λ name. list_any (is_for name.now) ds) names) ≡ list_any (λ (d : Descriptor). bytes_eq d.table table && reaches ms role d.grantee) ds
  some_asked ds own named names is =
      ap (λ b. list_any (is_for []) ds || b) (any_lent (λ r. list_any (is_for r) ds) names ∙ ap (list_any (λ r. list_any (is_for r) ds)) is ∙ any_swapped (λ r d. is_for r d) roles ds)
      ∙ sym (any_or (is_for []) (λ d. list_any (λ r. is_for r d) roles) ds)
      ∙ same_any (λ d. is_for [] d || list_any (λ r. is_for r d) roles) (λ d. bytes_eq d.table table && reaches ms role d.grantee) ds
      (λ d among. by_name d.grantee d (named d among) ∙ ap (λ b. b && reaches ms role d.grantee) (sym (same_bytes d.table table (own d among))))
