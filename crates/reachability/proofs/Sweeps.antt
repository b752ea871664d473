-- A sweep over the queue: what holds once so many of its elements were followed.
use Rattle.std.proofs.Common.{◌≡◌, ◌<◌, ◌≤◌, ◌+◌, ◌↔◌, inl, inr, ⊎_elim, ℕ, Bool, false, List, length, get_or, sym, ap, ◌∙◌, subst, arith}
use Rattle.std.proofs.lemmas.Bool.{cases_lt, false≢true}
use Rattle.std.proofs.lemmas.List.{get_or_past}
use Rattle.std.proofs.lemmas.List.Sums.{count_by-le-length}
use Rattle.reachability.specs.Found.{IsMarked, IsQueueOf, Finds, itself}
use Rattle.reachability.specs.Reached.{Elements, LeadsTo, IsReached, by_start, by_step, AreReached}

-- the first `at` elements of the queue were followed: whatever they lead to is found
pub record IsSweptTo (es : Elements) (at : ℕ) (marks : List Bool) (queue : List ℕ) : Type 0 where
  pub count : length marks ≡ length es.starts
  pub queue_of : IsQueueOf marks queue
  pub sound : (i : ℕ) → IsMarked marks i → IsReached es i
  pub starts : (i : ℕ) → IsMarked es.starts i → IsMarked marks i
  pub closed : (k q : ℕ) → k < at → k < length queue → LeadsTo es (get_or queue k 0) q → IsMarked marks q

-- what has a mark is an element
pub marked_inside : (marks : List Bool) (i : ℕ) → IsMarked marks i → i < length marks
marked_inside marks i m = elim (cases_lt i (length marks)) [
  | inl lt ↦ lt
  | inr past ↦ absurd (false≢true (sym (get_or_past marks i false past) ∙ m))
]

pub swept_none : (es : Elements) (marks : List Bool) (queue : List ℕ) → length marks ≡ length es.starts → IsQueueOf marks queue → ((i : ℕ) → IsMarked marks i ↔ IsMarked es.starts i) → IsSweptTo es 0 marks queue
swept_none es marks queue count queue_of starts = record {
  count = count;
  queue_of = queue_of;
  sound = λ i m. by_start i (marked_inside es.starts i ((starts i).0 m)) ((starts i).0 m);
  starts = λ i m. (starts i).1 m;
  closed = λ k q lt within leads. absurd (omega (arith, lt));
}

pub swept_more : (es : Elements) (at element : ℕ) (marks : List Bool) (queue : List ℕ) (marks1 : List Bool) (queue1 : List ℕ) → IsSweptTo es at marks queue → at < length queue → element ≡ get_or queue at 0
    → Finds (LeadsTo es element) marks queue marks1 queue1 → IsQueueOf marks1 queue1 → IsSweptTo es (at + 1) marks1 queue1
swept_more es at element marks queue marks1 queue1 swept within is finds queue_of = record {
  count = finds.count ∙ swept.count;
  queue_of = queue_of;
  sound = λ i m. ⊎_elim (λ was. swept.sound i was) (λ leads. by_step element i (subst (λ (e : ℕ). IsReached es e) (sym is) (swept.sound (get_or queue at 0) (swept.queue_of.marked at within))) leads) (finds.only i m);
  starts = λ i m. finds.preserved i (swept.starts i m);
  closed = λ k q lt inside leads. elim (cases_lt k at) [
    | inl before ↦ finds.preserved q (swept.closed k q before (omega (arith, before, within)) (subst (λ (e : ℕ). LeadsTo es e q) (finds.front k (omega (arith, before, within))) leads))
    | inr from ↦
        let same : k ≡ at = omega (arith, lt, from) in
        finds.found q (subst (λ (e : ℕ). LeadsTo es e q) (ap (λ (j : ℕ). get_or queue1 j 0) same ∙ finds.front at within ∙ sym is) leads)
  ];
}

pub swept_all : (es : Elements) (at : ℕ) (marks : List Bool) (queue : List ℕ) → IsSweptTo es at marks queue → length queue ≤ at → AreReached es marks
swept_all es at marks queue swept all = record {
  count = swept.count;
  each = λ i. (swept.sound i, complete i);
}
  where
    complete : (i : ℕ) → IsReached es i → IsMarked marks i
    complete _ (by_start i lt is) = swept.starts i is
    complete _ (by_step p q reached leads) =
        let there = swept.queue_of.queued p (complete p reached) in
        swept.closed there.0 q (omega (arith, there.1, all)) there.1 (subst (λ (e : ℕ). LeadsTo es e q) (sym there.2) leads)

-- no more elements are found than there are
pub few_found : (es : Elements) (at : ℕ) (marks : List Bool) (queue : List ℕ) → IsSweptTo es at marks queue → length queue ≤ length es.starts
few_found es at marks queue swept =
    let few = count_by-le-length itself marks in
    omega (arith, few, swept.queue_of.once, swept.count)
