-- What an element leads to stands in the list of the key that it gives.
use Rattle.std.proofs.Common.{◌≡◌, ◌<◌, ℕ, Bool, List, Option, Some, None, length, get_or, sym, ap, ◌∙◌, subst, inl, inr, ⊎_elim}
use Rattle.std.specs.declared.vec.Vec.{Vec}
use Rattle.std.specs.declared.alloc.Global.{Global}
use Rattle.std.proofs.lemmas.List.{get_or_default}
use Rattle.reachability.specs.Found.{IsAmongFirst, Finds}
use Rattle.reachability.specs.Reached.{Elements, LeadsTo}
use Rattle.reachability.specs.Waiting.{bucket_at, Wait}

abbrev got : Option ℕ → ℕ
got None = 0
got (Some key) = key

-- those that wait for a key are elements
pub elements_inside : (waits_for : List ℕ) (lists : List (Vec ℕ Global)) (key : ℕ) (list : List ℕ) (marks : List Bool) → bucket_at lists key ≡ list → Wait (length waits_for) waits_for lists → length waits_for ≡ length marks
    → (k d : ℕ) → k < length list → get_or list k d < length marks
elements_inside waits_for lists key list marks is wait count k d lt =
    let there : k < length (bucket_at lists key) = rw is lt in
    let inside : get_or list k 0 < length marks = subst (λ (l : List ℕ). get_or l k 0 < length marks) is (subst (λ (n : ℕ). get_or (bucket_at lists key) k 0 < n) count (wait.only key k there).0) in
    rw (get_or_default list k d 0 lt) inside

-- the elements that wait for the key that one gives are those that it leads to
pub follows : (es : Elements) (lists : List (Vec ℕ Global)) (element key : ℕ) (list : List ℕ) (marks : List Bool) (queue : List ℕ) (marks1 : List Bool) (queue1 : List ℕ) → length es.waits_for ≡ length es.starts
    → get_or es.gives element None ≡ Some key → bucket_at lists key ≡ list → Wait (length es.waits_for) es.waits_for lists
    → Finds (IsAmongFirst (length list) list) marks queue marks1 queue1 → Finds (LeadsTo es element) marks queue marks1 queue1
follows es lists element key list marks queue marks1 queue1 count gives is wait finds = record {
  count = finds.count;
  preserved = finds.preserved;
  found = λ q leads.
      let same : key ≡ get_or es.waits_for q 0 = ap got (sym gives ∙ leads.key) in
      let there = wait.there q (subst (λ (n : ℕ). q < n) (sym count) leads.inside) in
      finds.found q (subst (λ (l : List ℕ). IsAmongFirst (length l) l q) (ap (λ (k : ℕ). bucket_at lists k) (sym same) ∙ is) (there.0, there.1, there.2));
  only = λ q m. ⊎_elim (λ was. inl was) (λ p.
      let among : IsAmongFirst (length (bucket_at lists key)) (bucket_at lists key) q = subst (λ (l : List ℕ). IsAmongFirst (length l) l q) (sym is) p in
      let waits = wait.only key among.0 among.1 in
      inr (record {
        inside = subst (λ (n : ℕ). q < n) count (subst (λ (e : ℕ). e < length es.waits_for) among.2 waits.0);
        key = gives ∙ ap (λ (k : ℕ). Some k) (sym (ap (λ (e : ℕ). get_or es.waits_for e 0) (sym among.2) ∙ waits.1));
      })) (finds.only q m);
  longer = finds.longer;
  front = finds.front;
}
