-- What GRANT and REVOKE of roles leave.
use Rattle.std.proofs.Common.{◌≡◌, ◌⊎◌, ◌↔◌, ◌∙◌, ◌||◌, ◌++◌, Bool, true, false, cond, map, List, [], ◌∷◌, Ok, Err, refl, sym, ap, subst, inl, inr, Ordering, Less, Equal, Greater}
use Rattle.std.specs.List.{list_all}
use Rattle.std.specs.Ordering.{ordering_then}
use Rattle.std.proofs.lemmas.Slice.Eq.{bytes_eq-Decides}
use Rattle.std.proofs.lemmas.Bool.{or_right, and_parts, both_ways, false_from_ne_true}
use Rattle.std.proofs.Math.Bool.{or-false}
use Rattle.std.specs.Prelude.{bytes_eq}
use Rattle.sql_types.specs.declared.state.SqlState.TheVariants.{InsufficientPrivilege, InvalidGrantOperation}
use Rattle.sql_types.specs.declared.tag.Tag.TheVariants as tag
use Rattle.sql_ast.specs.declared.role.Membership.{Membership}
use Rattle.sql_ast.specs.declared.statement.GrantRole.{GrantRole}
use Rattle.sql_ast.specs.declared.statement.RevokeRole.{RevokeRole}
use Rattle.expressions.specs.Meaning.{UserNames}
use Rattle.expressions.specs.Stages.{◌>>=◌, require}
use Rattle.abstract_database.specs.Lists.{TheName, Among, has_name, name_cmp, put, change_where, drop_where}
use Rattle.abstract_database.specs.Database.{Database, membership_cmp}
use Rattle.abstract_database.specs.Roles.{is_in, is_named_by, may_grant_role, memberships_of, raised, with_memberships, without_memberships}
use Rattle.abstract_database.specs.Checks.{require_roles, checked_grant_role, checked_revoke_role}
use Rattle.abstract_database.specs.Statements.{Effect, UserPair, as_seen, done}
use Rattle.abstract_database.proofs.ElementLemmas.{any_found, any_holds}
use Rattle.abstract_database.proofs.ResultLemmas.{bind_ok, ok_inside}
use Rattle.database_laws.specs.Memberships.{IsNamed, IsHeld, RevokesRoles, IsUnnamed, LosesOption, grants_give_named_memberships, grants_give_all_memberships, grants_take_no_membership, revoke_takes_memberships, revoke_clears_options, revokes_change_memberships}
use Rattle.database_laws.proofs.WholeLists.{PutFrom, fresh, there, merged, of_put, put_old, put_new, of_drop, into_drop, of_change_where, into_change_where, of_map, of_flat_map, into_flat_map}
use Rattle.database_laws.proofs.WholePrivileges.{in_map}
use Rattle.database_laws.proofs.WholeRoles.{names_same}

-- ---- names

pub named_in : (n : TheName) (ns : List TheName) → Among n ns → has_name n ns ≡ true
named_in n ns h = any_holds (bytes_eq n) ns n h ((bytes_eq-Decides n n).1 refl)

pub in_named : (n : TheName) (ns : List TheName) → has_name n ns ≡ true → Among n ns
in_named n ns h = let x = any_found (bytes_eq n) ns h in subst (λ m. Among m ns) (sym ((bytes_eq-Decides n x.0).0 x.2)) x.1

then_equal : (a b : Ordering) → ordering_then a b ≡ Equal → (a ≡ Equal) × (b ≡ Equal)
then_equal Equal b e = (refl, e)
then_equal Less b e = cc
then_equal Greater b e = cc

-- what is equal in the order of memberships is of one role and one member
same_pair : (x y : Membership) → membership_cmp x y ≡ Equal → (x.role ≡ y.role) × (x.member ≡ y.member)
same_pair x y e = let both = then_equal (name_cmp x.role y.role) (name_cmp x.member y.member) e in (names_same x.role y.role both.0, names_same x.member y.member both.1)

-- ---- the admin option

with_option : (y x : Membership) → x.admin ≡ true → raised y x ≡ record y { admin = true }
with_option y x e = ap (λ (b : Bool). record y { admin = b }) (or_right y.admin x.admin e)

without_new : (y x : Membership) → x.admin ≡ false → raised y x ≡ y
without_new y x e = ap (λ (b : Bool). record y { admin = b }) (ap (λ (b : Bool). y.admin || b) e ∙ or-false y.admin)

same_options : (a b c : Bool) → a ≡ c → b ≡ c → (a || b) ≡ c
same_options true b c e f = e
same_options false b c e f = f

-- ---- GRANT: nothing else

-- a step that is not refused for a cycle
unrefused : (new cur out : List Membership) (b : Bool) → cond b (Err InvalidGrantOperation) (with_memberships new cur) ≡ Ok out → with_memberships new cur ≡ Ok out
unrefused new cur out true e = cc
unrefused new cur out false e = e

module _ (db : Database) (roles members : List TheName) (option : Bool) where
  abbrev After : Membership → Type 0
  After m = Among m db.memberships ⊎ (IsNamed roles members m × (m.admin ≡ option))

  abbrev Given : Membership → Type 0
  Given x = IsNamed roles members x × (x.admin ≡ option)

  named_alike : (x y : Membership) → membership_cmp x y ≡ Equal → (b : Bool) → IsNamed roles members x → IsNamed roles members (record y { admin = b })
  named_alike x y e b k = let same = same_pair x y e in (subst (λ n. Among n roles) same.0 k.0, subst (λ n. Among n members) same.1 k.1)

  joined_old : (x y : Membership) → Given x → membership_cmp x y ≡ Equal → Among y db.memberships → (b : Bool) → option ≡ b → After (raised y x)
  joined_old x y k e h true is = inr (named_alike x y e (y.admin || x.admin) k.0, or_right y.admin x.admin (k.1 ∙ is) ∙ sym is)
  joined_old x y k e h false is = inl (subst (λ z. Among z db.memberships) (sym (without_new y x (k.1 ∙ is))) h)

  joined : (x y : Membership) → Given x → membership_cmp x y ≡ Equal → After y → After (raised y x)
  joined x y k e (inl h) = joined_old x y k e h option refl
  joined x y k e (inr g) = inr (named_alike x y e (y.admin || x.admin) k.0, same_options y.admin x.admin option g.1 k.1)

  after_from : (x : Membership) (cur : List Membership) → Given x → ((y : Membership) → Among y cur → After y) → (m : Membership) → PutFrom membership_cmp raised x cur m → After m
  after_from x cur k f m (fresh is) = subst After is (inr k)
  after_from x cur k f m (there h) = f m h
  after_from x cur k f m (merged y h e is) = subst After is (joined x y k e (f y h))

  after_all : (new cur out : List Membership) → with_memberships new cur ≡ Ok out → ((x : Membership) → Among x new → Given x) → ((y : Membership) → Among y cur → After y) → (m : Membership) → Among m out → After m
  after_all [] cur out e n f m h = f m (subst (λ l. Among m l) (sym (ok_inside cur out e)) h)
  after_all (x ∷ new) cur out e n f m h =
      after_all new (put membership_cmp raised x cur) out (unrefused new (put membership_cmp raised x cur) out (is_in cur x.role x.member) e) (λ y k. n y (inr k))
      (λ y k. after_from x cur (n x (inl refl)) f y (of_put membership_cmp raised x cur y k)) m h

-- ---- GRANT: all of it, and nothing taken

-- the membership stands in the list, if perhaps with the option
abbrev IsHeldIn : List Membership → Membership → Type 0
IsHeldIn ms m = Among m ms ⊎ Among (record m { admin = true }) ms

with_any : (ms : List Membership) (m : Membership) (b : Bool) → (m.admin ≡ true → b ≡ true) → Among (record m { admin = b }) ms → IsHeldIn ms m
with_any ms m true f h = inr h
with_any ms m false f h = inl (subst (λ x. Among x ms) (ap (λ (b : Bool). record m { admin = b }) (was_false m.admin f)) h) where
  was_false : (b : Bool) → (b ≡ true → false ≡ true) → false ≡ b
  was_false true f = f refl
  was_false false f = refl

put_keeps : (x : Membership) (cur : List Membership) (m : Membership) → Among m cur → IsHeldIn (put membership_cmp raised x cur) m
put_keeps x cur m h = elim (put_old membership_cmp raised x cur m h) [
  | inl stays ↦ inl stays
  | inr joins ↦ with_any (put membership_cmp raised x cur) m (m.admin || x.admin) (λ e. ap (λ b. b || x.admin) e) joins.1
]

put_keeps_held : (x : Membership) (cur : List Membership) (m : Membership) → IsHeldIn cur m → IsHeldIn (put membership_cmp raised x cur) m
put_keeps_held x cur m (inl h) = put_keeps x cur m h
put_keeps_held x cur m (inr h) = elim (put_keeps x cur (record m { admin = true }) h) [ inl k ↦ inr k | inr k ↦ inr k ]

pair_same : (ms : List Membership) (x y : Membership) (b : Bool) → (x.role ≡ y.role) × (x.member ≡ y.member) → Among (record y { admin = b }) ms → Among (record x { admin = b }) ms
pair_same ms x y b same h =
    subst (λ n. Among (record { role = n; member = x.member; admin = b }) ms) (sym same.0)
    (subst (λ n. Among (record { role = y.role; member = n; admin = b }) ms) (sym same.1) h)

put_gives : (x : Membership) (cur : List Membership) → IsHeldIn (put membership_cmp raised x cur) x
put_gives x cur = elim (put_new membership_cmp raised x cur) [
  | inl h ↦ inl h
  | inr at ↦ with_any (put membership_cmp raised x cur) x (at.0.admin || x.admin) (λ e. or_right at.0.admin x.admin e)
      (pair_same (put membership_cmp raised x cur) x at.0 (at.0.admin || x.admin) (same_pair x at.0 at.2) at.3)
]

all_keep : (new cur out : List Membership) → with_memberships new cur ≡ Ok out → (m : Membership) → IsHeldIn cur m → IsHeldIn out m
all_keep [] cur out e m h = subst (λ l. IsHeldIn l m) (ok_inside cur out e) h
all_keep (x ∷ new) cur out e m h = all_keep new (put membership_cmp raised x cur) out (unrefused new (put membership_cmp raised x cur) out (is_in cur x.role x.member) e) m (put_keeps_held x cur m h)

all_give : (new cur out : List Membership) → with_memberships new cur ≡ Ok out → (m : Membership) → Among m new → IsHeldIn out m
all_give [] cur out e m h = absurd h
all_give (x ∷ new) cur out e m h = elim h [
  | inl is ↦ all_keep new (put membership_cmp raised x cur) out (unrefused new (put membership_cmp raised x cur) out (is_in cur x.role x.member) e) m (subst (IsHeldIn (put membership_cmp raised x cur)) is (put_gives x cur))
  | inr later ↦ all_give new (put membership_cmp raised x cur) out (unrefused new (put membership_cmp raised x cur) out (is_in cur x.role x.member) e) m later
]

-- ---- what the statement names

of_named : (roles members : List TheName) (option : Bool) (m : Membership) → Among m (memberships_of roles members option) → IsNamed roles members m × (m.admin ≡ option)
of_named roles members option m h =
    let at = of_flat_map (λ role. map (λ member. record { role = role; member = member; admin = option }) members) roles m h in
    let by = of_map (λ member. record { role = at.0; member = member; admin = option }) members m at.2 in
    subst (λ (x : Membership). IsNamed roles members x × (x.admin ≡ option)) by.2 ((at.1, by.1), refl)

into_named : (roles members : List TheName) (option : Bool) (m : Membership) → IsNamed roles members m → m.admin ≡ option → Among m (memberships_of roles members option)
into_named roles members option m k o =
    into_flat_map (λ role. map (λ member. record { role = role; member = member; admin = option }) members) roles m.role m k.0
    (subst (λ b. Among (record m { admin = b }) (map (λ member. record { role = m.role; member = member; admin = option }) members)) (sym o)
    (in_map (λ member. record { role = m.role; member = member; admin = option }) members m.member k.1))

module _ (db : Database) (users : UserNames) (s : GrantRole) (ms : List Membership) (is : checked_grant_role db users s ≡ Ok ms) where
  granted_is : with_memberships (memberships_of s.roles s.members s.with_admin_option) db.memberships ≡ Ok ms
  granted_is =
      let named = bind_ok (require_roles db (s.roles ++ s.members)) _ ms is in
      let allowed = bind_ok (require (list_all (may_grant_role db users.current) s.roles) InsufficientPrivilege) _ ms named.2 in
      allowed.2

-- the memberships that a GRANT leaves
abbrev Granted : Database → GrantRole → Effect → Type 0
Granted db s e = (ms : List Membership) × (with_memberships (memberships_of s.roles s.members s.with_admin_option) db.memberships ≡ Ok ms) × (e.database ≡ record db { memberships = ms })

granted_roles : (db : Database) (users : UserNames) (s : GrantRole) (e : Effect) → (checked_grant_role db users s >>= λ ms. Ok (done tag.GrantRole (record db { memberships = ms }))) ≡ Ok e → Granted db s e
granted_roles db users s e is =
    let c = bind_ok (checked_grant_role db users s) (λ ms. Ok (done tag.GrantRole (record db { memberships = ms }))) e is in
    (c.0, granted_is db users s c.0 c.1, ap (λ (z : Effect). z.database) (sym (ok_inside (done tag.GrantRole (record db { memberships = c.0 })) e c.2)))

pub given_alone : grants_give_named_memberships
given_alone db pair s e is m h =
    let g = granted_roles db (as_seen pair db) s e is in
    after_all db s.roles s.members s.with_admin_option (memberships_of s.roles s.members s.with_admin_option) db.memberships g.0 g.1
    (λ x k. of_named s.roles s.members s.with_admin_option x k) (λ y k. inl k) m (subst (λ (x : Database). Among m x.memberships) g.2 h)

pub all_given : grants_give_all_memberships
all_given db pair s e is m k o =
    let g = granted_roles db (as_seen pair db) s e is in
    subst (λ (x : Database). IsHeld x m) (sym g.2)
    (all_give (memberships_of s.roles s.members s.with_admin_option) db.memberships g.0 g.1 m (into_named s.roles s.members s.with_admin_option m k o))

pub none_taken : grants_take_no_membership
none_taken db pair s e is =
    let g = granted_roles db (as_seen pair db) s e is in (
      λ m h. subst (λ (x : Database). IsHeld x m) (sym g.2) (all_keep (memberships_of s.roles s.members s.with_admin_option) db.memberships g.0 g.1 m (inl h)),
      g.2 ∙ ap (λ (x : Database). record db { memberships = x.memberships }) (sym g.2),
    )

-- ---- REVOKE

named : (s : RevokeRole) (m : Membership) → IsNamed s.roles s.members m → is_named_by s.roles s.members m ≡ true
named s m k = rw (named_in m.role s.roles k.0, named_in m.member s.members k.1) refl

is_named : (s : RevokeRole) (m : Membership) → is_named_by s.roles s.members m ≡ true → IsNamed s.roles s.members m
is_named s m e = let parts = and_parts (has_name m.role s.roles) (has_name m.member s.members) e in (in_named m.role s.roles parts.0, in_named m.member s.members parts.1)

unnamed : (s : RevokeRole) (m : Membership) → (IsNamed s.roles s.members m → ⊥) → is_named_by s.roles s.members m ≡ false
unnamed s m never = false_from_ne_true (is_named_by s.roles s.members m) (λ e. never (is_named s m e))

never_named : (s : RevokeRole) (m : Membership) → is_named_by s.roles s.members m ≡ false → IsNamed s.roles s.members m → ⊥
never_named s m e k = both_ways (is_named_by s.roles s.members m) e (named s m k)

left_by : (db : Database) (users : UserNames) (s : RevokeRole) (e : Effect) → (checked_revoke_role db users s >>= λ free. Ok (done tag.RevokeRole (record db { memberships = without_memberships s.admin_option_for s.roles s.members db.memberships }))) ≡ Ok e →
    e.database ≡ record db { memberships = without_memberships s.admin_option_for s.roles s.members db.memberships }
left_by db users s e is = let c = bind_ok (checked_revoke_role db users s) _ e is in ap (λ (z : Effect). z.database) (sym (ok_inside _ e c.2))

dropped : (db : Database) (s : RevokeRole) (m : Membership) → Among m (drop_where (is_named_by s.roles s.members) db.memberships) ↔ IsUnnamed db s m
dropped db s m = (
  λ h. let o = of_drop (is_named_by s.roles s.members) db.memberships m h in (o.0, never_named s m o.1),
  λ k. into_drop (is_named_by s.roles s.members) db.memberships m k.0 (unnamed s m k.1),
)

left_as : (db : Database) (pair : UserPair) (s : RevokeRole) (e : Effect) → RevokesRoles db pair s e → (b : Bool) → s.admin_option_for ≡ b → without_memberships b s.roles s.members db.memberships ≡ e.database.memberships
left_as db pair s e is b off = sym (ap (λ b. without_memberships b s.roles s.members db.memberships) off) ∙ ap (λ (z : Database). z.memberships) (sym (left_by db (as_seen pair db) s e is))

pub memberships_taken : revoke_takes_memberships
memberships_taken db pair s e off is m = subst (λ ms. Among m ms ↔ IsUnnamed db s m) (left_as db pair s e is false off) (dropped db s m)

cleared_at : (db : Database) (s : RevokeRole) (m z : Membership) → Among z db.memberships → (b : Bool) → is_named_by s.roles s.members z ≡ b → cond b (record z { admin = false }) z ≡ m → IsUnnamed db s m ⊎ LosesOption db s m
cleared_at db s m z h true e is = inr (record { old = z; was_there = h; named = is_named s z e; is = sym is })
cleared_at db s m z h false e is = inl (subst (IsUnnamed db s) is (h, never_named s z e))

abbrev without_options : Database → RevokeRole → List Membership
without_options db s = change_where (is_named_by s.roles s.members) (λ (x : Membership). record x { admin = false }) db.memberships

into_cleared : (db : Database) (s : RevokeRole) (m : Membership) → IsUnnamed db s m ⊎ LosesOption db s m → Among m (without_options db s)
into_cleared db s m (inl k) =
    subst (λ b. Among (cond b (record m { admin = false }) m) (without_options db s)) (unnamed s m k.1)
    (into_change_where (is_named_by s.roles s.members) (λ (x : Membership). record x { admin = false }) db.memberships m k.0)
into_cleared db s m (inr l) =
    subst (λ x. Among x (without_options db s)) (sym l.is)
    (subst (λ b. Among (cond b (record l.old { admin = false }) l.old) (without_options db s)) (named s l.old l.named)
    (into_change_where (is_named_by s.roles s.members) (λ (x : Membership). record x { admin = false }) db.memberships l.old l.was_there))

cleared : (db : Database) (s : RevokeRole) (m : Membership) → Among m (without_options db s) ↔ (IsUnnamed db s m ⊎ LosesOption db s m)
cleared db s m = (
  λ h. let o = of_change_where (is_named_by s.roles s.members) (λ (x : Membership). record x { admin = false }) db.memberships m h in
      cleared_at db s m o.0 o.1 (is_named_by s.roles s.members o.0) refl o.2,
  into_cleared db s m,
)

pub options_cleared : revoke_clears_options
options_cleared db pair s e on is m = subst (λ ms. Among m ms ↔ (IsUnnamed db s m ⊎ LosesOption db s m)) (left_as db pair s e is true on) (cleared db s m)

pub others_left : revokes_change_memberships
others_left db pair s e is =
    let left = left_by db (as_seen pair db) s e is in
    left ∙ ap (λ (x : Database). record db { memberships = x.memberships }) (sym left)
