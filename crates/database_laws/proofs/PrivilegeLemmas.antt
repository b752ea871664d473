-- What REVOKE leaves.
use Rattle.std.proofs.Common.{◌≡◌, ◌⊎◌, Bool, true, false, not, cond, List, [], ◌∷◌, Option, Result, Ok, Err, refl, sym, ap, ◌∙◌, subst, inl, inr, Ordering, Less, Equal, Greater, is_eq, is_lt, nat_cmp}
use Rattle.std.specs.Ordering.{ordering_then, ordering_reverse}
use Rattle.std.specs.Cmp.{IsTotalOrder}
use Rattle.std.specs.Cmp.Lexicographic.{lists_total, options_total}
use Rattle.std.specs.Option.{option_cmp}
use Rattle.std.proofs.lemmas.Cmp.{nat_cmp_total}
use Rattle.sql_types.specs.declared.state.SqlState.{SqlState}
use Rattle.sql_types.specs.declared.state.SqlState.TheVariants.{DependentPrivileges}
use Rattle.sql_ast.specs.declared.privilege.Descriptor.{Descriptor}
use Rattle.sql_ast.specs.declared.statement.DropBehavior.{DropBehavior}
use Rattle.abstract_database.specs.Lists.{Among, name_cmp, put, drop_where}
use Rattle.abstract_database.specs.Chains.{by_start, by_step}
use Rattle.abstract_database.specs.Database.{grantor_name, grantee_name, action_number}
use Rattle.abstract_database.specs.Privileges.{IsSupported, is_supported, same_key, without_named, revoked, abandoned, held, held_or_refused, is_cascade}
use Rattle.abstract_database.proofs.ElementLemmas.{of_filter, into_filter}
use Rattle.abstract_database.proofs.ChainLemmas.{found_support, support_found}

-- ---- REVOKE

-- the set that is left: just what is supported
pub record Leaves (S after : List Descriptor) : Type 0 where
  pub left : (d : Descriptor) → Among d after → Among d S × (is_supported S d ≡ true)
  pub kept : (d : Descriptor) → Among d S → is_supported S d ≡ true → Among d after

held_leaves : (S : List Descriptor) → Leaves S (held S)
held_leaves S = record { left = λ d h. of_filter (is_supported S) S d h; kept = λ d h e. into_filter (is_supported S) S d h e }

supported_or_abandoned : (S : List Descriptor) (d : Descriptor) (b : Bool) → is_supported S d ≡ b → Among d S → (is_supported S d ≡ true) ⊎ Among d (abandoned S)
supported_or_abandoned S d true e h = inl e
supported_or_abandoned S d false e h = inr (into_filter (λ x. not (is_supported S x)) S d h (ap not e))

none_abandoned : (S lost : List Descriptor) → abandoned S ≡ lost → lost ≡ [] → (d : Descriptor) → Among d S → is_supported S d ≡ true
none_abandoned S lost e n d h = elim (supported_or_abandoned S d (is_supported S d) refl h) [
  | inl yes_it_is ↦ yes_it_is
  | inr gone ↦ absurd (subst (λ l. Among d l) (e ∙ n) gone)
]

ok_same : (a b : List Descriptor) → ◌≡◌ {A = Result (List Descriptor) SqlState} (Ok a) (Ok b) → a ≡ b
ok_same a b e = cc

leaves_by : (cascade : Bool) (S lost after : List Descriptor) → abandoned S ≡ lost → held_or_refused cascade S lost ≡ Ok after → Leaves S after
leaves_by true S lost after e h = subst (λ l. Leaves S l) (ok_same (held S) after h) (held_leaves S)
leaves_by false S [] after e h = subst (λ l. Leaves S l) (ok_same S after h) (record { left = λ d k. (k, none_abandoned S [] e refl d k); kept = λ d k y. k })
leaves_by false S (l ∷ ls) after e h = cc

pub revoked_leaves : (option : Bool) (behavior : Option DropBehavior) (named set after : List Descriptor) → revoked option behavior named set ≡ Ok after → Leaves (without_named option named set) after
revoked_leaves option behavior named set after e = leaves_by (is_cascade behavior) (without_named option named set) (abandoned (without_named option named set)) after refl e

-- a chain stays where each supported descriptor stays
chain_kept : (S after : List Descriptor) → Leaves S after → (d : Descriptor) → IsSupported S d → IsSupported after d
chain_kept S after l d (by_start x h e) = by_start d (l.kept d h (support_found S d (by_start d h e))) e
chain_kept S after l d (by_step p x c h e) = by_step p d (chain_kept S after l p c) (l.kept d h (support_found S d (by_step p d c h e))) e

pub left_supported : (S after : List Descriptor) → Leaves S after → (d : Descriptor) → Among d after → IsSupported after d
left_supported S after l d h = chain_kept S after l d (found_support S d (l.left d h).0 (l.left d h).1)

pub refused_by : (cascade : Bool) (S lost : List Descriptor) (code : SqlState) → abandoned S ≡ lost → held_or_refused cascade S lost ≡ Err code →
    (code ≡ DependentPrivileges) × (cascade ≡ false) × ((d : Descriptor) × Among d S × (IsSupported S d → ⊥))
refused_by true S lost code e h = cc
refused_by false S [] code e h = cc
refused_by false S (l ∷ ls) code e h =
    let gone = of_filter (λ x. not (is_supported S x)) S l (subst (λ g. Among l g) (sym e) (inl refl)) in
    let same : code ≡ DependentPrivileges = cc in
    (same, refl, (l, gone.0, λ c. let both : not true ≡ true = ap not (sym (support_found S l c)) ∙ gone.1 in cc))

-- ---- GRANT, then REVOKE

module _ {X : Type 0} (test : X → Bool) where
  pub drop_none : (xs : List X) → ((x : X) → Among x xs → test x ≡ false) → drop_where test xs ≡ xs
  drop_none [] h = refl
  drop_none (x ∷ xs) h = ap (λ b. cond (not b) (x ∷ drop_where test xs) (drop_where test xs)) (h x (inl refl)) ∙ ap (λ ys. x ∷ ys) (drop_none xs (λ y k. h y (inr k)))

  pub drop_first : (x : X) (ys : List X) → test x ≡ true → drop_where test (x ∷ ys) ≡ drop_where test ys
  drop_first x ys passes = ap (λ b. cond (not b) (x ∷ drop_where test ys) (drop_where test ys)) passes

  -- what is put and then dropped
  module _ (cmp : X → X → Ordering) (joined : X → X → X) (x : X) (passes : test x ≡ true) (same : (y : X) → is_eq (cmp x y) ≡ true → (test y ≡ true) × (test (joined y x) ≡ true)) where
    drop_put_at : (o : Ordering) (y : X) (ys : List X) → cmp x y ≡ o → drop_where test (put cmp joined x ys) ≡ drop_where test ys →
        drop_where test (cond (is_lt o) (x ∷ y ∷ ys) (cond (is_eq o) (joined y x ∷ ys) (y ∷ put cmp joined x ys))) ≡ drop_where test (y ∷ ys)
    drop_put_at Less y ys e go = drop_first x (y ∷ ys) passes
    drop_put_at Equal y ys e go = let both = same y (ap is_eq e) in drop_first (joined y x) ys both.1 ∙ sym (drop_first y ys both.0)
    drop_put_at Greater y ys e go = ap (λ zs. cond (not (test y)) (y ∷ zs) zs) go

    pub drop_put : (ys : List X) → drop_where test (put cmp joined x ys) ≡ drop_where test ys
    drop_put [] = drop_first x [] passes
    drop_put (y ∷ ys) = drop_put_at (cmp x y) y ys refl (drop_put ys)

its_own_reverse : (o : Ordering) → o ≡ ordering_reverse o → o ≡ Equal
its_own_reverse Less e = cc
its_own_reverse Equal e = refl
its_own_reverse Greater e = cc

pub itself : {K : Type 0} (R : K → K → Ordering) → IsTotalOrder R → (x : K) → R x x ≡ Equal
itself R total x = its_own_reverse (R x x) (total.antisymm x x)

pub names_total : IsTotalOrder name_cmp
names_total = lists_total nat_cmp_total

pub descriptor_itself : (d : Descriptor) → same_key d d ≡ true
descriptor_itself d =
    let table : name_cmp d.table d.table ≡ Equal = itself name_cmp names_total d.table in
    let number : nat_cmp (action_number d.action) (action_number d.action) ≡ Equal = itself nat_cmp nat_cmp_total (action_number d.action) in
    let column : option_cmp nat_cmp d.column d.column ≡ Equal = itself (option_cmp nat_cmp) (options_total nat_cmp_total) d.column in
    let by : name_cmp (grantor_name d.grantor) (grantor_name d.grantor) ≡ Equal = itself name_cmp names_total (grantor_name d.grantor) in
    let to : name_cmp (grantee_name d.grantee) (grantee_name d.grantee) ≡ Equal = itself name_cmp names_total (grantee_name d.grantee) in
    ap (λ o. is_eq (ordering_then o (ordering_then (nat_cmp (action_number d.action) (action_number d.action)) (ordering_then (option_cmp nat_cmp d.column d.column) (ordering_then (name_cmp (grantor_name d.grantor) (grantor_name d.grantor)) (name_cmp (grantee_name d.grantee) (grantee_name d.grantee))))))) table
    ∙ ap (λ o. is_eq (ordering_then o (ordering_then (option_cmp nat_cmp d.column d.column) (ordering_then (name_cmp (grantor_name d.grantor) (grantor_name d.grantor)) (name_cmp (grantee_name d.grantee) (grantee_name d.grantee)))))) number
    ∙ ap (λ o. is_eq (ordering_then o (ordering_then (name_cmp (grantor_name d.grantor) (grantor_name d.grantor)) (name_cmp (grantee_name d.grantee) (grantee_name d.grantee))))) column
    ∙ ap (λ o. is_eq (ordering_then o (name_cmp (grantee_name d.grantee) (grantee_name d.grantee)))) by
    ∙ ap is_eq to
