-- GRANT of roles is refused just where one of its roles is in one of its members before it.
use Rattle.std.proofs.Common.{◌≡◌, ◌⊎◌, ◌∷◌, [], Bool, true, false, cond, List, Ok, Err, bytes_eq, refl, sym, ap, ◌∙◌, inl, inr, Ordering, Less, Equal, Greater, is_eq, is_lt}
use Rattle.sql_types.specs.declared.state.SqlState.TheVariants.{InvalidGrantOperation}
use Rattle.sql_ast.specs.declared.role.Membership.{Membership}
use Rattle.abstract_database.specs.Lists.{TheName, Among, put}
use Rattle.abstract_database.specs.Chains.{IsLedTo, by_start, by_step}
use Rattle.abstract_database.specs.Database.{membership_cmp}
use Rattle.abstract_database.specs.Roles.{IsIn, is_in, is_of_member, leads_on, raised, memberships_of, with_memberships}
use Rattle.abstract_database.proofs.ListLemmas.{bytes_same, same_bytes}
use Rattle.abstract_database.proofs.ChainLemmas.{found_role, role_found}
use Rattle.role_membership.specs.Chains.{IsOneInOne}
use Rattle.role_membership.specs.Merging.{put_all, membership}
use Rattle.role_membership.proofs.Products.{of_product, into_product}

-- ---- putting keeps roles and members

-- an element of the list of the same role and member
abbrev IsThere : List Membership → Membership → Type 0
IsThere ms x = (y : Membership) × Among y ms × (y.role ≡ x.role) × (y.member ≡ x.member)

of_put_at : (o : Ordering) (m y : Membership) (ys : List Membership) (x : Membership) → (Among x (put membership_cmp raised m ys) → (x ≡ m) ⊎ IsThere ys x) →
    Among x (cond (is_lt o) (m ∷ y ∷ ys) (cond (is_eq o) (raised y m ∷ ys) (y ∷ put membership_cmp raised m ys))) → (x ≡ m) ⊎ IsThere (y ∷ ys) x
of_put_at Less m y ys x go (inl is) = inl (sym is)
of_put_at Less m y ys x go (inr (inl is)) = inr (y, inl refl, ap (λ (z : Membership). z.role) is, ap (λ (z : Membership). z.member) is)
of_put_at Less m y ys x go (inr (inr later)) = inr (x, inr later, refl, refl)
of_put_at Equal m y ys x go (inl is) = inr (y, inl refl, ap (λ (z : Membership). z.role) is, ap (λ (z : Membership). z.member) is)
of_put_at Equal m y ys x go (inr later) = inr (x, inr later, refl, refl)
of_put_at Greater m y ys x go (inl is) = inr (y, inl refl, ap (λ (z : Membership). z.role) is, ap (λ (z : Membership). z.member) is)
of_put_at Greater m y ys x go (inr later) = elim (go later) [ inl e ↦ inl e | inr z ↦ inr (z.0, inr z.1, z.2, z.3) ]

of_put : (m : Membership) (ys : List Membership) (x : Membership) → Among x (put membership_cmp raised m ys) → (x ≡ m) ⊎ IsThere ys x
of_put m [] x (inl is) = inl (sym is)
of_put m [] x (inr h) = absurd h
of_put m (y ∷ ys) x h = of_put_at (membership_cmp m y) m y ys x (of_put m ys x) h

into_put_at : (o : Ordering) (m y : Membership) (ys : List Membership) (x : Membership) → (Among x ys → IsThere (put membership_cmp raised m ys) x) →
    Among x (y ∷ ys) → IsThere (cond (is_lt o) (m ∷ y ∷ ys) (cond (is_eq o) (raised y m ∷ ys) (y ∷ put membership_cmp raised m ys))) x
into_put_at Less m y ys x go h = (x, inr h, refl, refl)
into_put_at Equal m y ys x go (inl is) = (raised y m, inl refl, ap (λ (z : Membership). z.role) is, ap (λ (z : Membership). z.member) is)
into_put_at Equal m y ys x go (inr later) = (x, inr later, refl, refl)
into_put_at Greater m y ys x go (inl is) = (x, inl is, refl, refl)
into_put_at Greater m y ys x go (inr later) = let z = go later in (z.0, inr z.1, z.2, z.3)

into_put : (m : Membership) (ys : List Membership) (x : Membership) → Among x ys → IsThere (put membership_cmp raised m ys) x
into_put m [] x h = absurd h
into_put m (y ∷ ys) x h = into_put_at (membership_cmp m y) m y ys x (into_put m ys x) h

-- a chain stays
led_kept : (m : Membership) (ms : List Membership) (r : TheName) (x : Membership) → IsLedTo (is_of_member r) leads_on ms x →
    (y : Membership) × IsLedTo (is_of_member r) leads_on (put membership_cmp raised m ms) y × (y.role ≡ x.role)
led_kept m ms r _ (by_start x h is) =
    let k = into_put m ms x h in
    (k.0, by_start k.0 k.1 (ap (λ (n : TheName). bytes_eq n r) k.3 ∙ is), k.2)
led_kept m ms r _ (by_step p x c h e) =
    let before = led_kept m ms r p c in
    let k = into_put m ms x h in
    (k.0, by_step before.0 k.0 before.1 k.1 (same_bytes k.0.member before.0.role (k.3 ∙ bytes_same x.member p.role e ∙ sym before.2)), k.2)

in_kept : (m : Membership) (ms : List Membership) (r s : TheName) → IsIn ms r s → IsIn (put membership_cmp raised m ms) r s
in_kept m ms r s (inl same) = inl same
in_kept m ms r s (inr chain) = let led = led_kept m ms r chain.0 chain.1 in inr (led.0, led.1, led.2 ∙ chain.2)

-- ---- no cycle before, none after

module _ (old : List Membership) (roles members : List TheName) where
  abbrev AreOldOrNamed : List Membership → Type 0
  AreOldOrNamed ms = (x : Membership) → Among x ms → IsThere old x ⊎ (Among x.role roles × Among x.member members)

  led_old : (ms : List Membership) → AreOldOrNamed ms → (r : TheName) → Among r roles → (x : Membership) → IsLedTo (is_of_member r) leads_on ms x →
      IsOneInOne old roles members ⊎ ((o : Membership) × IsLedTo (is_of_member r) leads_on old o × (o.role ≡ x.role))
  led_old ms are r k _ (by_start x h is) = elim (are x h) [
    | inl o ↦ inr (o.0, by_start o.0 o.1 (ap (λ (n : TheName). bytes_eq n r) o.3 ∙ is), o.2)
    | inr named ↦ inl (x.member, named.1, (r, k, inl (sym (bytes_same x.member r is))))
  ]
  led_old ms are r k _ (by_step p x c h e) = elim (led_old ms are r k p c) [
    | inl cycle ↦ inl cycle
    | inr before ↦ elim (are x h) [
      | inl o ↦ inr (o.0, by_step before.0 o.0 before.1 o.1 (same_bytes o.0.member before.0.role (o.3 ∙ bytes_same x.member p.role e ∙ sym before.2)), o.2)
      | inr named ↦ inl (x.member, named.1, (r, k, inr (before.0, before.1, before.2 ∙ sym (bytes_same x.member p.role e))))
    ]
  ]

  in_old : (ms : List Membership) → AreOldOrNamed ms → (r s : TheName) → Among r roles → Among s members → IsIn ms r s → IsOneInOne old roles members
  in_old ms are r s k l (inl is) = (s, l, (r, k, inl is))
  in_old ms are r s k l (inr chain) = elim (led_old ms are r k chain.0 chain.1) [
    | inl cycle ↦ cycle
    | inr o ↦ (s, l, (r, k, inr (o.0, o.1, o.2 ∙ chain.2)))
  ]

  put_named : (m : Membership) (ms : List Membership) → AreOldOrNamed ms → Among m.role roles → Among m.member members → AreOldOrNamed (put membership_cmp raised m ms)
  put_named m ms are k l x h = elim (of_put m ms x h) [
    | inl is ↦ inr (rw is k, rw is l)
    | inr there ↦ elim (are there.0 there.1) [
      | inl o ↦ inl (o.0, o.1, o.2 ∙ there.2, o.3 ∙ there.3)
      | inr named ↦ inr (rw (← there.2) named.0, rw (← there.3) named.1)
    ]
  ]

  not_so : (b : Bool) → (b ≡ true → ⊥) → b ≡ false
  not_so false never = refl
  not_so true never = absurd (never refl)

  all_put : (news ms : List Membership) → AreOldOrNamed ms → ((m : Membership) → Among m news → Among m.role roles × Among m.member members) → (IsOneInOne old roles members → ⊥) →
      with_memberships news ms ≡ Ok (put_all news ms)
  all_put [] ms are named none = refl
  all_put (m ∷ news) ms are named none =
      let is = named m (inl refl) in
      let apart : is_in ms m.role m.member ≡ false = not_so (is_in ms m.role m.member) (λ e. none (in_old ms are m.role m.member is.0 is.1 (found_role ms m.role m.member e))) in
      ap (λ (b : Bool). cond b (Err InvalidGrantOperation) (with_memberships news (put membership_cmp raised m ms))) apart
      ∙ all_put news (put membership_cmp raised m ms) (put_named m ms are is.0 is.1) (λ x h. named x (inr h)) none

refused_at : (n : Membership) (news ms : List Membership) (m : Membership) (b : Bool) → is_in ms n.role n.member ≡ b → Among m (n ∷ news) → IsIn ms m.role m.member →
    (Among m news → with_memberships news (put membership_cmp raised n ms) ≡ Err InvalidGrantOperation) →
    cond b (Err InvalidGrantOperation) (with_memberships news (put membership_cmp raised n ms)) ≡ Err InvalidGrantOperation
refused_at n news ms m true e h is go = refl
refused_at n news ms m false e (inl same) is go =
    let yes_it_is = role_found ms m.role m.member is in
    let at_n : is_in ms n.role n.member ≡ true = ap (λ (x : Membership). is_in ms x.role x.member) same ∙ yes_it_is in
    let no_way : false ≡ true = sym e ∙ at_n in cc
refused_at n news ms m false e (inr later) is go = go later

some_refused : (news ms : List Membership) (m : Membership) → Among m news → IsIn ms m.role m.member → with_memberships news ms ≡ Err InvalidGrantOperation
some_refused [] ms m h is = absurd h
some_refused (n ∷ news) ms m h is =
    refused_at n news ms m (is_in ms n.role n.member) refl h is
    (λ later. some_refused news (put membership_cmp raised n ms) m later (in_kept n ms m.role m.member is))

-- ---- the statement

pub granted_without_cycle : (ms : List Membership) (roles members : List TheName) (admin : Bool) → (IsOneInOne ms roles members → ⊥) →
    with_memberships (memberships_of roles members admin) ms ≡ Ok (put_all (memberships_of roles members admin) ms)
granted_without_cycle ms roles members admin none =
    all_put ms roles members (memberships_of roles members admin) ms (λ x h. inl (x, h, refl, refl))
    (λ m h. let is = of_product admin roles members m h in (is.0, is.1)) none

pub refused_with_cycle : (ms : List Membership) (roles members : List TheName) (admin : Bool) → IsOneInOne ms roles members →
    with_memberships (memberships_of roles members admin) ms ≡ Err InvalidGrantOperation
refused_with_cycle ms roles members admin cycle =
    some_refused (memberships_of roles members admin) ms (membership cycle.2.0 admin cycle.0)
    (into_product admin roles members cycle.2.0 cycle.0 cycle.2.1 cycle.1) cycle.2.2
