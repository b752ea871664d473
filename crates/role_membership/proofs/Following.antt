-- The roles that a role is in, found one after another.
use Rattle.std.proofs.Common.{◌≡◌, ◌<◌, ◌≤◌, ◌+◌, ◌↔◌, ◌⊎◌, ◌&&◌, ◌||◌, ℕ, Bool, true, false, List, [], Some, slice_get, length, bytes_eq, refl, sym, ap, ◌∙◌, subst, inl, inr, ⊎_elim, arith}
use Rattle.std.specs.List.{list_any}
use Rattle.std.proofs.lemmas.Bool.{cases_lt, or_cases, or_left, or_right, and_parts, and_from}
use Rattle.std.proofs.lemmas.Option.{same_Some, slice_get_within, slice_get_cases}
use Rattle.sql_ast.specs.declared.role.Membership.{Membership}
use Rattle.abstract_database.specs.Lists.{TheName, Among, has_name, has_double}
use Rattle.abstract_database.specs.Chains.{IsLedTo, by_start, by_step}
use Rattle.abstract_database.specs.Roles.{IsIn, is_of_member, leads_on}
use Rattle.abstract_database.proofs.ListLemmas.{bytes_same, same_bytes}
use Rattle.abstract_database.proofs.ElementLemmas.{any_found, any_holds, among_at, index_of}
use Rattle.role_membership.specs.Index.{Extends}
use Rattle.role_membership.proofs.Names.{has_among, among_has}

-- the role is in these roles, and with each of the first n of them those that its memberships lead to
pub record AreFollowed (n : ℕ) (ms : List Membership) (role : TheName) (roles : List TheName) : Type 0 where
  pub itself : Among role roles
  pub chains : (s : TheName) → Among s roles → IsIn ms role s
  pub closed : (i : ℕ) (p : TheName) → i < n → slice_get roles i ≡ Some p → (m : Membership) → Among m ms → m.member ≡ p → Among m.role roles
  pub distinct : has_double roles ≡ false

-- the role itself
pub followed_none : (ms : List Membership) (role : TheName) (none start : List TheName) → none ≡ [] → ((s : TheName) → Among s start ↔ (Among s none ⊎ ((true ≡ true) × (role ≡ s))))
    → (has_double none ≡ false → has_double start ≡ false) → AreFollowed 0 ms role start
followed_none ms role none start e are once = record {
  itself = (are role).1 (inr (refl, refl));
  chains = λ s h. ⊎_elim (λ no. absurd (subst (λ (l : List TheName). Among s l) e no)) (λ same. inl same.1) ((are s).0 h);
  closed = λ i p lt. absurd (omega (arith, lt));
  distinct = once (ap has_double e);
}

in_next : (ms : List Membership) (role p : TheName) (m : Membership) → IsIn ms role p → Among m ms → m.member ≡ p → IsIn ms role m.role
in_next ms role p m (inl same) h is = inr (m, by_start m h (same_bytes m.member role (is ∙ sym same)), refl)
in_next ms role p m (inr chain) h is = inr (m, by_step chain.0 m chain.1 h (same_bytes m.member chain.0.role (is ∙ sym chain.2)), refl)

module _ (n : ℕ) (ms : List Membership) (role : TheName) (old new : List TheName) (run : List Membership) (p : TheName) (at : slice_get old n ≡ Some p)
    (runs : (test : Membership → Bool) → list_any test run ≡ list_any (λ m. is_of_member p m && test m) ms)
    (added : (s : TheName) → has_name s new ≡ (has_name s old || list_any (λ m. bytes_eq s m.role) run))
    (extends : Extends old new) (once : has_double old ≡ false → has_double new ≡ false) (are : AreFollowed n ms role old) where
  kept : (s : TheName) → Among s old → Among s new
  kept s h = has_among s new (added s ∙ or_left (has_name s old) (list_any (λ m. bytes_eq s m.role) run) (among_has s old h))

  led_to : (s : TheName) → list_any (λ m. bytes_eq s m.role) run ≡ true → IsIn ms role s
  led_to s e =
      let found = any_found (λ (m : Membership). is_of_member p m && bytes_eq s m.role) ms (sym (runs (λ m. bytes_eq s m.role)) ∙ e) in
      let both = and_parts (is_of_member p found.0) (bytes_eq s found.0.role) found.2 in
      subst (λ (r : TheName). IsIn ms role r) (sym (bytes_same s found.0.role both.1))
      (in_next ms role p found.0 (are.chains p (among_at old n p at)) found.1 (bytes_same found.0.member p both.0))

  still_in : (s : TheName) → Among s new → IsIn ms role s
  still_in s h = elim (or_cases (has_name s old) (list_any (λ m. bytes_eq s m.role) run) (sym (added s) ∙ among_has s new h)) [
    | inl was ↦ are.chains s (has_among s old was)
    | inr comes ↦ led_to s comes
  ]

  come : (m : Membership) → Among m ms → m.member ≡ p → Among m.role new
  come m h is = has_among m.role new (added m.role ∙ or_right (has_name m.role old) (list_any (λ x. bytes_eq m.role x.role) run)
      (runs (λ x. bytes_eq m.role x.role) ∙ any_holds (λ (x : Membership). is_of_member p x && bytes_eq m.role x.role) ms m h
      (and_from (is_of_member p m) (bytes_eq m.role m.role) (same_bytes m.member p is) (same_bytes m.role m.role refl))))

  stood : (i : ℕ) (q : TheName) → i < n → slice_get new i ≡ Some q → slice_get old i ≡ Some q
  stood i q lt e = elim ((slice_get_cases old i).1) [
    | inl there ↦ there.2 ∙ sym (extends i there.0 there.2) ∙ e
    | inr past ↦ absurd (let inside = slice_get_within old n p at in omega (arith, inside, past.0, lt))
  ]

  closed_more : (i : ℕ) (q : TheName) → i < n + 1 → slice_get new i ≡ Some q → (m : Membership) → Among m ms → m.member ≡ q → Among m.role new
  closed_more i q lt e m h is = elim (cases_lt i n) [
    | inl before ↦ kept m.role (are.closed i q before (stood i q before e) m h is)
    | inr from ↦
        let here : i ≡ n = omega (arith, lt, from) in
        let same : p ≡ q = same_Some p q (sym (extends n p at) ∙ sym (ap (λ (j : ℕ). slice_get new j) here) ∙ e) in
        come m h (is ∙ sym same)
  ]

  -- one more of them, with those that its memberships lead to
  pub followed_more : AreFollowed (n + 1) ms role new
  followed_more = record { itself = kept role are.itself; chains = still_in; closed = closed_more; distinct = once are.distinct }

-- where all are followed, no chain leads out of them
module _ (n : ℕ) (ms : List Membership) (role : TheName) (roles : List TheName) (all : length roles ≤ n) (are : AreFollowed n ms role roles) where
  next : (p : TheName) → Among p roles → (m : Membership) → Among m ms → m.member ≡ p → Among m.role roles
  next p h m k is =
      let at = index_of roles p h in
      let inside = slice_get_within roles at.0 p at.1 in
      are.closed at.0 p (omega (arith, inside, all)) at.1 m k is

  led : (x : Membership) → IsLedTo (is_of_member role) leads_on ms x → Among x.role roles
  led _ (by_start x h is) = next role are.itself x h (bytes_same x.member role is)
  led _ (by_step p x c h e) = next p.role (led p c) x h (bytes_same x.member p.role e)

  among_all : (s : TheName) → IsIn ms role s → Among s roles
  among_all s (inl same) = subst (λ (r : TheName). Among r roles) same are.itself
  among_all s (inr chain) = subst (λ (r : TheName). Among r roles) chain.2 (led chain.0 chain.1)

  pub followed_all : (s : TheName) → Among s roles ↔ IsIn ms role s
  followed_all s = (are.chains s, among_all s)
