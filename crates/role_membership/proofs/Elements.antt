-- The elements of memberships, and what reaches them.
use Rattle.std.proofs.Common.{◌≡◌, ◌+◌, ◌++◌, ◌∷◌, [], ℕ, Bool, List, Some, Bor, bytes_eq, slice_get, ap, ◌∙◌, inl, inr, arith}
use Rattle.std.proofs.lemmas.Cmp.{nat_list_eq_equiv}
use Rattle.std.proofs.lemmas.List.{length_push}
use Rattle.std.proofs.lemmas.Option.{slice_get_within, slice_get_cases}
use Rattle.sql_ast.specs.declared.role.Membership.{Membership}
use Rattle.reachability.specs.declared.keyed.Element.{Element}
use Rattle.reachability.specs.Keyed.{gives_key, AreReachedByKeys}
use Rattle.abstract_database.specs.Lists.{TheName}
use Rattle.abstract_database.specs.Roles.{leads_on}
use Rattle.abstract_database.proofs.ElementLemmas.{among_at, index_of}
use Rattle.role_membership.specs.Chains.{is_of_one, IsElementOf, AreElementsOfFirst, AreElementsOf, AreMarked}
use Rattle.role_membership.proofs.Pushes.{each_more}
use Rattle.role_membership.proofs.Lifts.{Stand, led_to, is_reached}

-- one element more
pub elements_more : (n : ℕ) (members : List TheName) (ms : List Membership) (m : Membership) (es : List (Element (Bor TheName))) (e : Element (Bor TheName))
    → AreElementsOfFirst n members ms es → slice_get ms n ≡ Some m → IsElementOf members m e → AreElementsOfFirst (n + 1) members ms (es ++ e ∷ [])
elements_more n members ms m es e are at is = record {
  count = length_push es e ∙ ap (λ (k : ℕ). k + 1) are.count;
  each = each_more (λ (i : ℕ) (x : Membership) (d : Element (Bor TheName)). IsElementOf members x d) n ms es m e are.count are.each at is;
}

abbrev pub same_lent : Bor TheName → Bor TheName → Bool
same_lent a b = bytes_eq a.now b.now

module _ (members : List TheName) (ms : List Membership) (es : List (Element (Bor TheName))) (are : AreElementsOf members ms es) where
  abbrev StandsAt : ℕ → Membership → Type 0
  StandsAt i m = slice_get ms i ≡ Some m

  element_at : (i : ℕ) (m : Membership) → StandsAt i m → (e : Element (Bor TheName)) × (slice_get es i ≡ Some e) × (e.is_start ≡ is_of_one members m)
  element_at i m h = elim ((slice_get_cases es i).1) [
    | inl there ↦ (there.0, there.2, (are.each i m there.0 h there.2).start)
    | inr past ↦ absurd (let inside = slice_get_within ms i m h in omega (arith, inside, past.0, are.count))
  ]

  membership_at : (i : ℕ) (e : Element (Bor TheName)) → slice_get es i ≡ Some e → (m : Membership) × StandsAt i m
  membership_at i e h = elim ((slice_get_cases ms i).1) [
    | inl there ↦ (there.0, there.2)
    | inr past ↦ absurd (let inside = slice_get_within es i e h in omega (arith, inside, past.0, are.count))
  ]

  links_at : (m n : Membership) (d e : Element (Bor TheName)) → IsElementOf members m d → IsElementOf members n e → gives_key same_lent d.gives e.waits_for ≡ leads_on m n
  links_at m n d e one two = rw (one.gives, one.is_role, two.waits_for) (nat_list_eq_equiv.symm m.role n.member)

  they_stand : Stand same_lent es (is_of_one members) leads_on ms StandsAt
  they_stand = record {
    among = λ i m h. among_at ms i m h;
    place = λ m h. index_of ms m h;
    element = element_at;
    links = λ p q m n d e at_p at_q is_d is_e. links_at m n d e (are.each p m d at_p is_d) (are.each q n e at_q is_e);
    given = λ p d k is_d is. membership_at p d is_d;
  }

  pub marks_of : (marks : List Bool) → AreReachedByKeys same_lent es marks → AreMarked members ms marks
  marks_of marks reached = record {
    count = reached.count ∙ are.count;
    each = λ i m at. (
      λ mark. led_to same_lent es (is_of_one members) leads_on ms StandsAt they_stand i ((reached.each i).0 mark) m at,
      λ led. (reached.each i).1 (is_reached same_lent es (is_of_one members) leads_on ms StandsAt they_stand m led i at),
    );
  }
