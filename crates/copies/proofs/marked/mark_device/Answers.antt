use Rattle.std.proofs.Common.{◌≡◌, ℕ, true, subst}
use Rattle.cow_pages.specs.Image.{is_size}
use Rattle.storage_sizes.specs.CurrentRecordFormat.{current}
use Rattle.store.specs.Records.{Record}
use Rattle.kv_store.specs.Formatting.{WritesStore, IsMade}
use Rattle.copies.proofs.marked.mark_device.Goals as goal

pub returns-in-Ok-format : goal.returns-in-Ok-format
returns-in-Ok-format g c =
    let old = g.D.Device.state c.args.target.now in
    let new = g.D.Device.state c.format.new.device in (
      subst (λ (n : ℕ). is_size n ≡ true) c.sectors.ensures c.in-Some.ensures.some.0,
      subst (λ (e : Record). WritesStore current e old new) c.in-Ok.ensures c.in-Ok-format.ensures.0,
      λ faithful. subst (λ (e : Record). IsMade current e old new) c.in-Ok.ensures (c.in-Ok-format.ensures.1 faithful),
    )
