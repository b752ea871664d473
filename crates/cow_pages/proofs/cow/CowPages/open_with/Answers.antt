use Rattle.std.proofs.Common.{◌≡◌, ℕ, List, Err, inl, ap, subst, refl, ◌∙◌}
use Rattle.std.proofs.Math.Path.{fun_ext}
use Rattle.sector_device.specs.Device.{Image}
use Rattle.cow_pages.specs.Image.{Means, array_of}
use Rattle.cow_pages.specs.DirtyPages.{dirty_bytes}
use Rattle.cow_pages.proofs.Meaning.{content_means}
use Rattle.cow_pages.proofs.Overlaid.{nothing_dirty}
use Rattle.cow_pages.specs.declared.open.OpenFault.TheVariants.{Memory, Device}
use Rattle.cow_pages.proofs.cow.CowPages.open_with.Goals as goal

pub returns-in-Ok-take_memory : goal.returns-in-Ok-take_memory
returns-in-Ok-take_memory g c =
    let d = g.D.Device.state c.args.device in
    let e = g.D.Device.state c.load.new.device in
    let root = c.in-Ok.map.root in
    let durable = c.in-Ok.map.durable.items in
    let found = c.in-Ok.ensures in
    record {
      history = c.load.ensures.history;
      has_not_failed = refl;
      same_maps = found.same;
      same_arrays = λ l. nothing_dirty (dirty_bytes c.in-Ok-take_memory.dirty) e.content c.in-Ok.map.working.items c.in-Ok-take_memory.ensures.clean l
          ∙ ap (λ (es : List ℕ). array_of e.content es l) found.same;
      space = c.in-Ok-take_memory.ensures.space;
      holds = λ first.
          let now = c.load.ensures.history.faithful first in
          let same : e.content ≡ d.content = fun_ext (c.load.ensures.reads first).content in
          record {
            no_fault = found.fault first;
            means = subst (λ (image : Image). Means root.pages root.format root.number (array_of e.content durable) image) same
                (content_means e root durable (found.settled first) (λ s inside. g.met.D.Device.content_left c.load.new.device s now inside));
            is_open = record { faithful = now; has_not_failed = refl; settled = found.settled first };
            content = c.load.ensures.reads first;
          };
    }

pub returns-in-Err : goal.returns-in-Err
returns-in-Err g c = record {
  history = c.load.ensures.history;
  cause = λ is. c.in-Err.ensures.cause (ap Err is);
  content = c.load.ensures.reads;
  named = λ first. c.in-Err.ensures.fault first;
}

pub returns-in-Err-take_memory : goal.returns-in-Err-take_memory
returns-in-Err-take_memory g c = record {
  history = c.load.ensures.history;
  cause = λ is. let e : Memory ≡ Device = is in absurd cc;
  content = c.load.ensures.reads;
  named = λ first. inl (c.in-Ok.ensures.fault first);
}
