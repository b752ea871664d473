use Rattle.std.proofs.Common.{ℕ, List, refl, sym, ap, ◌∙◌}
use Rattle.cow_pages.specs.Image.{array_of}
use Rattle.cow_pages.specs.DirtyPages.{dirty_bytes}
use Rattle.cow_pages.proofs.Preserving.{preserved_still, open_still}
use Rattle.cow_pages.proofs.Overlaid.{nothing_dirty}
use Rattle.cow_pages.proofs.cow.CowPages.abandon.Goals as goal

pub returns-clause-preserved : goal.returns-clause-preserved
returns-clause-preserved g c =
    let same = c.restore.ensures.preserved in
    preserved_still g.met.D.Device.only_now _ _ refl same.root same.durable refl

pub returns-clause-outcome : goal.returns-clause-outcome
returns-clause-outcome g c =
    let same = c.restore.ensures.preserved in
    let image = (g.D.Device.state c.args.self.now.device).content in
    record {
      device = refl;
      has_failed = refl;
      is_open = open_still g.met.D.Device.only_now _ _ refl same.root same.durable refl;
      array = λ l. nothing_dirty (dirty_bytes c.clear.new.self) image c.restore.new.self.working.items c.clear.ensures.empty l
          ∙ ap (λ (es : List ℕ). array_of image es l) c.restore.ensures.working;
      same_maps = c.restore.ensures.working ∙ sym same.durable;
      space = c.clear.ensures.space;
    }
