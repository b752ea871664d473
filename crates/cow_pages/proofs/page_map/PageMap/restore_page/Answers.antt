use Rattle.std.proofs.Common.{◌≡◌, ℕ, List, get_or, ap, sym, subst, ◌∙◌, arith}
use Rattle.std.proofs.Math.ListN.{set}
use Rattle.std.proofs.lemmas.List.{get_or_default, get_or-set_same, set-set}
use Rattle.cow_pages.specs.PageMap.{IsConsistent, AreChangedParts, DiffersWithin, IsUsedBelow}
use Rattle.cow_pages.proofs.Consistency.{consistent_restored}
use Rattle.cow_pages.proofs.ChangedParts.{changed_restored, within_restored, used_more, used_again}
use Rattle.cow_pages.proofs.page_map.PageMap.restore_page.Goals.{After-index-page}
use Rattle.cow_pages.proofs.page_map.PageMap.restore_page.Goals as goal

-- the page was released, and gets its durable page again
module _ (c : After-index-page) where
  durable : c.index-page.result.now ≡ get_or c.release.new.self.durable.items c.args.logical 0
  durable =
      let m = c.release.new.self in
      c.index-page.ensures ∙ get_or_default m.durable.items c.args.logical c.index-page.result.now 0 (omega (arith, c.requires.inside, m.consistent.durable_count))

  was_durable : c.index-page.result.now ≡ get_or c.args.self.now.durable.items c.args.logical 0
  was_durable = durable ∙ ap (λ (w : List ℕ). get_or w c.args.logical 0) c.release.ensures.preserved.durable

  none : get_or c.release.new.self.working.items c.args.logical 0 ≡ 0
  none =
      let old = c.args.self.now in
      ap (λ (w : List ℕ). get_or w c.args.logical 0) c.release.ensures.working ∙ get_or-set_same old.working.items c.args.logical 0 0 (omega (arith, c.requires.inside, old.consistent.working_count))

  consistent : IsConsistent c.release.new.self.root.pages c.release.new.self.root.maps c.release.new.self.durable.items c.release.new.self.reserved (set c.release.new.self.working.items c.args.logical c.index-page.result.now) c.release.new.self.allocator
  consistent =
      let m = c.release.new.self in
      subst (λ (p : ℕ). IsConsistent m.root.pages m.root.maps m.durable.items m.reserved (set m.working.items c.args.logical p) m.allocator) (sym durable) (consistent_restored _ _ _ _ _ m.allocator m.consistent c.args.logical c.requires.inside none)

  parts : AreChangedParts c.release.new.self.durable.items (set c.release.new.self.working.items c.args.logical c.index-page.result.now) c.release.new.self.changed_parts
  parts =
      let m = c.release.new.self in
      subst (λ (p : ℕ). AreChangedParts m.durable.items (set m.working.items c.args.logical p) m.changed_parts) (sym durable)
      (changed_restored m.durable.items m.working.items m.changed_parts m.parts c.args.logical (omega (arith, c.requires.inside, m.consistent.working_count)))

  within : DiffersWithin c.release.new.self.changed c.release.new.self.durable.items (set c.release.new.self.working.items c.args.logical c.index-page.result.now)
  within =
      let m = c.release.new.self in
      subst (λ (p : ℕ). DiffersWithin m.changed m.durable.items (set m.working.items c.args.logical p)) (sym durable)
      (within_restored m.changed m.durable.items m.working.items c.args.logical m.within (omega (arith, c.requires.inside, m.consistent.working_count)))

pub invariant_of-self : goal.invariant_of-self
invariant_of-self c =
    let at = (goal.at.invariant_of-self c).After-index-page in
    let l = c.args.logical in
    let old = c.args.self.now in
    record {
      consistent = consistent at;
      parts = parts at;
      within = within at;
      ended = c.release.new.self.ended;
      used = subst (λ (w : List ℕ). IsUsedBelow w old.unused_from) (sym (set-set old.working.items l 0 c.index-page.result.now) ∙ ap (λ (w : List ℕ). set w l c.index-page.result.now) (sym c.release.ensures.working))
          (used_more old.working.items old.unused_from l c.index-page.result.now old.used (omega (arith, c.requires.inside, old.consistent.working_count)) (omega (arith, c.if-page-ne0.true)));
    }

pub invariant_of-self-else-page-ne0 : goal.invariant_of-self-else-page-ne0
invariant_of-self-else-page-ne0 c =
    let at = (goal.at.invariant_of-self-else-page-ne0 c).After-index-page in
    let m = c.release.new.self in
    record { consistent = consistent at; parts = parts at; within = within at; ended = m.ended; used = used_again m.working.items m.unused_from c.args.logical c.index-page.result.now m.used (none at) }

pub returns-then-page-ne0-clause-working : goal.returns-then-page-ne0-clause-working
returns-then-page-ne0-clause-working c =
    let same = was_durable (goal.at.returns-then-page-ne0-clause-working c).After-index-page in
    rw (c.release.ensures.working, same) (set-set c.args.self.now.working.items c.args.logical 0 (get_or c.args.self.now.durable.items c.args.logical 0))

pub returns-else-page-ne0-clause-working : goal.returns-else-page-ne0-clause-working
returns-else-page-ne0-clause-working c =
    let same = was_durable (goal.at.returns-else-page-ne0-clause-working c).After-index-page in
    rw (c.release.ensures.working, same) (set-set c.args.self.now.working.items c.args.logical 0 (get_or c.args.self.now.durable.items c.args.logical 0))
