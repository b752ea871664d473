use Rattle.std.proofs.Common.{◌≡◌, ℕ, get_or, inl, inr, ap, sym, subst, ◌∙◌, arith}
use Rattle.std.proofs.Math.ListN.{set}
use Rattle.std.proofs.lemmas.List.{get_or_default}
use Rattle.page_allocator.specs.TakenPages.{TakenPages}
use Rattle.cow_pages.specs.PageMap.{IsConsistent, IsUsedBelow}
use Rattle.cow_pages.proofs.Consistency.{in_working_taken, consistent_left, consistent_given}
use Rattle.cow_pages.proofs.ChangedParts.{changed_more, within_more, used_less}
use Rattle.cow_pages.proofs.page_map.PageMap.release.Goals as goal

pub give-requires-clause-taken : goal.give-requires-clause-taken
give-requires-clause-taken c =
    let m = c.args.self.now in
    let l = c.args.logical in
    let page : c.index-page.result.now ≡ get_or m.working.items l 0 = c.index-page.ensures ∙ get_or_default m.working.items l c.index-page.result.now 0 (omega (arith, c.requires.inside, m.consistent.working_count)) in
    in_working_taken _ _ _ _ _ m.allocator m.consistent c.index-page.result.now (omega (arith, c.if-page-ne0.true)) (omega (arith, page, m.consistent.inside l)) (inr (l, sym page, omega (arith, c.if-page-ne0.true)))

pub invariant_of-self : goal.invariant_of-self
invariant_of-self c =
    let m = c.args.self.now in
    let l = c.args.logical in
    let page : c.index-page.result.now ≡ get_or m.working.items l 0 = c.index-page.ensures ∙ get_or_default m.working.items l c.index-page.result.now 0 (omega (arith, c.requires.inside, m.consistent.working_count)) in
    let durable : c.index.result.now ≡ get_or m.durable.items l 0 = c.index.ensures ∙ get_or_default m.durable.items l c.index.result.now 0 (omega (arith, c.requires.inside, m.consistent.durable_count)) in
    let given = consistent_given _ _ _ _ _ m.allocator m.consistent l c.requires.inside (omega (arith, page, c.if-page-ne0.true)) (λ same. c.if-page-index.true (page ∙ same ∙ sym durable)) in
    record {
      consistent = subst (λ (marks : TakenPages). IsConsistent m.root.pages m.root.maps m.durable.items m.reserved (set m.working.items l 0) marks)
          (ap (λ (p : ℕ). set m.allocator p _) (sym page) ∙ sym c.give.ensures) given;
      parts = changed_more m.durable.items m.working.items m.changed_parts m.parts l 0 c.requires.inside;
      within = within_more m.changed c.including-self.result m.durable.items m.working.items l 0 m.within c.including-self.ensures;
      ended = m.ended;
      used = subst (λ (end : ℕ). IsUsedBelow (set m.working.items l 0) end) (sym c.min-self.ensures) (used_less m.working.items m.unused_from l m.used);
    }

pub invariant_of-self-else-page-index : goal.invariant_of-self-else-page-index
invariant_of-self-else-page-index c =
    let m = c.args.self.now in
    let l = c.args.logical in
    let page : c.index-page.result.now ≡ get_or m.working.items l 0 = c.index-page.ensures ∙ get_or_default m.working.items l c.index-page.result.now 0 (omega (arith, c.requires.inside, m.consistent.working_count)) in
    let durable : c.index.result.now ≡ get_or m.durable.items l 0 = c.index.ensures ∙ get_or_default m.durable.items l c.index.result.now 0 (omega (arith, c.requires.inside, m.consistent.durable_count)) in
    record {
      consistent = consistent_left _ _ _ _ _ m.allocator m.consistent l c.requires.inside (inr (sym page ∙ c.if-page-index.false ∙ durable));
      parts = changed_more m.durable.items m.working.items m.changed_parts m.parts l 0 c.requires.inside;
      within = within_more m.changed c.including-self.result m.durable.items m.working.items l 0 m.within c.including-self.ensures;
      ended = m.ended;
      used = subst (λ (end : ℕ). IsUsedBelow (set m.working.items l 0) end) (sym c.min-self.ensures) (used_less m.working.items m.unused_from l m.used);
    }

pub invariant_of-self-else-page-ne0 : goal.invariant_of-self-else-page-ne0
invariant_of-self-else-page-ne0 c =
    let m = c.args.self.now in
    let l = c.args.logical in
    let page : c.index-page.result.now ≡ get_or m.working.items l 0 = c.index-page.ensures ∙ get_or_default m.working.items l c.index-page.result.now 0 (omega (arith, c.requires.inside, m.consistent.working_count)) in
    record {
      consistent = consistent_left _ _ _ _ _ m.allocator m.consistent l c.requires.inside (inl (sym page ∙ c.if-page-ne0.false));
      parts = changed_more m.durable.items m.working.items m.changed_parts m.parts l 0 c.requires.inside;
      within = within_more m.changed c.including-self.result m.durable.items m.working.items l 0 m.within c.including-self.ensures;
      ended = m.ended;
      used = subst (λ (end : ℕ). IsUsedBelow (set m.working.items l 0) end) (sym c.min-self.ensures) (used_less m.working.items m.unused_from l m.used);
    }
