use Rattle.std.proofs.Common.{◌≡◌, ℕ, List, inl, refl, sym, ap, ◌∙◌}
use denote.Enum.Bare.{differs_false}
use Rattle.page_roots.specs.contracts.format.Format.{the_type}
use Rattle.sector_device.specs.Timeline.{weakened}
use Rattle.cow_pages.specs.Image.{array_of}
use Rattle.cow_pages.specs.Dirty.{overlaid_array}
use Rattle.cow_pages.specs.DirtyPages.{dirty_bytes}
use Rattle.cow_pages.proofs.Along.{leaves_none}
use Rattle.cow_pages.proofs.Overlaid.{none_dirty, durable_overlaid, nothing_dirty}
use Rattle.sector_device.specs.Device.{history_none}
use Rattle.cow_pages.proofs.Answered.{not_both}
use Rattle.cow_pages.proofs.Preserving.{broken_still}
use Rattle.cow_pages.proofs.cow.CowPages.commit.Goals as goal

pub returns-clause-any_moment : goal.returns-clause-any_moment
returns-clause-any_moment g c was =
    weakened _ _ _ _ (λ image means. inl means) (leaves_none _ _ _ (g.met.D.Device.only_now c.args.self.now.device was.faithful) was.settled)

pub returns-clause-outcome : goal.returns-clause-outcome
returns-clause-outcome g c =
    let s = c.args.self.now in
    let image = (g.D.Device.state s.device).content in
    let same : s.map.working.items ≡ s.map.durable.items = c.has_changes.ensures.none c.if-has_changes.false in
    let kept : s.map.root.format ≡ c.args.format = sym c.format.ensures ∙ differs_false the_type tt _ _ (sym c.ne.ensures ∙ c.if-ne.false) in
    let as_durable : (l : ℕ) → overlaid_array (dirty_bytes s.dirty) image s.map.working.items l ≡ array_of image s.map.durable.items l =
    λ l. ap (λ (es : List ℕ). overlaid_array (dirty_bytes s.dirty) image es l) same
    ∙ durable_overlaid s.map.root.pages s.map.root.maps s.map.durable.items (dirty_bytes s.dirty) image s.outside l in
    record {
      has_not_failed = c.if-self.false;
      format = kept;
      map = sym same;
      same_maps = same;
      space = c.clear.ensures.space;
      durable = λ was. record {
        is_open = record { faithful = was.faithful; has_not_failed = was.has_not_failed; settled = was.settled };
        pages = refl;
        numbered = inl (kept, same, refl, refl);
        durable = λ l. sym (as_durable l);
        working = λ l. nothing_dirty (dirty_bytes c.clear.new.self) image s.map.working.items c.clear.ensures.empty l
            ∙ ap (λ (es : List ℕ). array_of image es l) same ∙ sym (as_durable l);
      };
    }

pub returns-then-self-clause-history : goal.returns-then-self-clause-history
returns-then-self-clause-history g c = history_none (g.D.Device.state c.args.self.now.device)

pub returns-then-self-clause-any_moment : goal.returns-then-self-clause-any_moment
returns-then-self-clause-any_moment g c was = not_both _ was.has_not_failed c.if-self.true

pub returns-then-self-clause-outcome : goal.returns-then-self-clause-outcome
returns-then-self-clause-outcome g c = broken_still c.args.self.now c.if-self.true

pub returns-then-self-clause-nothing : goal.returns-then-self-clause-nothing
returns-then-self-clause-nothing g c format maps = (refl, λ works. not_both _ works c.if-self.true)

pub returns-then-self-clause-closed : goal.returns-then-self-clause-closed
returns-then-self-clause-closed g c was = (refl, refl)

pub returns-clause-history : goal.returns-clause-history
returns-clause-history g c = history_none (g.D.Device.state c.args.self.now.device)

pub returns-clause-nothing : goal.returns-clause-nothing
returns-clause-nothing g c format maps = (refl, λ works. refl)

pub returns-clause-closed : goal.returns-clause-closed
returns-clause-closed g c was = not_both _ c.if-self.false was

pub invariant_of-self : goal.invariant_of-self
invariant_of-self g c =
    let s = c.args.self.now in
    record { sized = s.sized; idle = s.idle; outside = λ page some. absurd (none_dirty _ (c.clear.ensures.empty page) some); cached = s.cached }
