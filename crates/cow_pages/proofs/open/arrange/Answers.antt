use Rattle.std.proofs.Common.{◌≡◌, ℕ, false, List, ◌++◌, zero, replicate, get_or, sym, ap, subst, ◌∙◌, arith}
use Rattle.std.proofs.lemmas.List.{length-replicate}
use Rattle.cow_pages.specs.PageMap.{IsConsistent, AreChangedParts}
use Rattle.cow_pages.proofs.Consistency.{consistent_first, zero_there}
use Rattle.cow_pages.proofs.ChangedParts.{changed_first}
use Rattle.cow_pages.proofs.open.arrange.Goals as goal

pub invariant_of-result : goal.invariant_of-result
invariant_of-result c =
    let root = c.args.root in
    let durable = c.args.durable.items in
    let marks = c.in_ok-allocator.allocator in
    let value : c.extend_from_slice.new.self.items ≡ durable = c.in_ok-extend_from_slice.ensures.items ∙ ap (λ (l : List ℕ). l ++ c.deref.result.now) c.in_ok-working.ensures.items ∙ c.deref.ensures.value in
    let first = consistent_first root.pages root.maps durable (replicate 64 zero) marks c.requires.least c.requires.most c.requires.map.count c.requires.map.sound (λ j. zero_there 64 j) (length-replicate 64 zero)
    (c.in_ok-allocator.ensures.count ∙ c.pages.ensures) (rw (c.maps.ensures.maps, c.deref-2.ensures.value) at c.in_ok-allocator.ensures.taken) in
    record {
      consistent = subst (λ (w : List ℕ). IsConsistent root.pages root.maps durable (replicate 64 zero) w marks) (sym value) first;
      parts = subst (λ (w : List ℕ). AreChangedParts durable w (replicate 64 false)) (sym value) (changed_first durable (replicate 64 false) (length-replicate 64 false));
      within = λ l outside. ap (λ (w : List ℕ). get_or w l 0) value;
      ended = c.requires.map.ended;
      used = λ l below. absurd (omega (arith, below));
    }

pub returns-clause-idle : goal.returns-clause-idle
returns-clause-idle c = λ j. zero_there 64 j
