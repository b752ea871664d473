-- The elements of descriptors.
use Rattle.std.proofs.Common.{◌≡◌, ◌+◌, ◌++◌, ◌∷◌, ◌||◌, [], ℕ, Bool, false, List, Some, slice_get, get_or, length, take, drop, refl, sym, ap, ◌∙◌, subst, inl, inr, arith}
use Rattle.std.proofs.lemmas.Bool.{cases_lt}
use Rattle.std.proofs.lemmas.List.{length_push, append_assoc, append-nil, get_or_append_left, get_or_push}
use Rattle.sql_ast.specs.declared.privilege.Descriptor.{Descriptor}
use Rattle.reachability.specs.declared.keyed.Element.{Element}
use Rattle.role_membership.proofs.Pushes.{each_more}
use Rattle.grant_graph.specs.Keys.{LentRight}
use Rattle.grant_graph.specs.Supports.{IsElementOf, AreElementsOfFirst, AreFollowed, AreEitherOfFirst}

-- one element more
pub elements_more : (on_table : Bool) (n : ℕ) (named : List Bool) (ds : List Descriptor) (d : Descriptor) (es : List (Element LentRight)) (e : Element LentRight)
    → AreElementsOfFirst on_table n named ds es → slice_get ds n ≡ Some d → IsElementOf on_table d (get_or named n false) e → AreElementsOfFirst on_table (n + 1) named ds (es ++ e ∷ [])
elements_more on_table n named ds d es e are at is = record {
  count = length_push es e ∙ ap (λ (k : ℕ). k + 1) are.count;
  each = each_more (λ (i : ℕ) (x : Descriptor) (f : Element LentRight). IsElementOf on_table x (get_or named i false) f) n ds es d e are.count are.each at is;
}

-- and where they follow other elements
pub follow_more : (on_table : Bool) (n : ℕ) (named : List Bool) (ds : List Descriptor) (d : Descriptor) (old new : List (Element LentRight)) (e : Element LentRight)
    → AreFollowed on_table n named ds old new → slice_get ds n ≡ Some d → IsElementOf on_table d (get_or named n false) e → AreFollowed on_table (n + 1) named ds old (new ++ e ∷ [])
follow_more on_table n named ds d old new e are at is = record {
  more = are.more ++ e ∷ [];
  list = ap (λ (l : List (Element LentRight)). l ++ e ∷ []) are.list ∙ append_assoc old are.more (e ∷ []);
  elements = elements_more on_table n named ds d are.more e are.elements at is;
}

pub none_follow : (on_table : Bool) (named : List Bool) (ds : List Descriptor) (es : List (Element LentRight)) → AreFollowed on_table 0 named ds es es
none_follow on_table named ds es = record { more = []; list = sym (append-nil es); elements = record { count = refl; each = λ i d e at there. cc } }

-- one mark more
pub either_more : (n : ℕ) (own whole marks : List Bool) (mark : Bool) → AreEitherOfFirst n own whole marks → mark ≡ (get_or own n false || get_or whole n false) → AreEitherOfFirst (n + 1) own whole (marks ++ mark ∷ [])
either_more n own whole marks mark are is = record {
  count = length_push marks mark ∙ ap (λ (k : ℕ). k + 1) are.count;
  each = λ i lt. elim (cases_lt i n) [
    | inl before ↦ get_or_append_left marks (mark ∷ []) false i (omega (arith, before, are.count)) ∙ are.each i before
    | inr from ↦
        let last : n ≡ i = omega (arith, from, lt) in
        get_or_push marks mark false i (are.count ∙ last) ∙ is ∙ ap (λ (k : ℕ). get_or own k false || get_or whole k false) last
  ];
}

pub either_of_halves : (n : ℕ) (all own whole marks : List Bool) → own ≡ take n all → whole ≡ drop n all → length own ≡ n → AreEitherOfFirst (length own) own whole marks → AreEitherOfFirst n (take n all) (drop n all) marks
either_of_halves n all own whole marks front back count are =
    subst (λ (l : List Bool). AreEitherOfFirst n (take n all) l marks) back
    (subst (λ (l : List Bool). AreEitherOfFirst n l whole marks) front (subst (λ (k : ℕ). AreEitherOfFirst k own whole marks) count are))
