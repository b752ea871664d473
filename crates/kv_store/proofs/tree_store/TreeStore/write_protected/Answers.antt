use Rattle.std.proofs.Common.{◌≡◌, false, arith, refl, sym, ap, ◌∙◌, subst, inl, inr, ⊎_elim}
use Rattle.std.proofs.lemmas.Bool.{false≢true}
use Rattle.sector_device.specs.Device.{KeepsSize, HasFailed}
use Rattle.sector_device.specs.Sectors.{WritesSectors}
use Rattle.sector_device.proofs.EachSector.{none_written}
use Rattle.cow_pages.specs.declared.cow.CowPages.{CowPages}
use Rattle.cow_pages.specs.Cow.{device_below, root_of}
use Rattle.cow_pages.proofs.Preserving.{open_holds}
use Rattle.kv_store.specs.declared.read_only.ReadOnlyPages.{ReadOnlyPages}
use Rattle.kv_store.specs.declared.tree_store.TreeStore.{TreeStore}
use Rattle.kv_store.specs.Numbered.{LeavesBefore}
use Rattle.kv_store.specs.TreeStore.{pages_of}
use Rattle.kv_store.proofs.Numbering.{before_still}
use Rattle.kv_store.proofs.Besides.{leaves_beside, holds_beside, contents_kept, sound_kept}
use Rattle.kv_store.proofs.tree_store.TreeStore.write_protected.Goals as goal

pub returns-then-self : goal.returns-then-self
returns-then-self g c =
    let p = c.args.self.now.pages.below in
    record {
      device = record {
        size = record { sectors = refl; faithful = λ is. is; was_faithful = λ is. is; failures = omega arith; same_beside = λ s. (λ is. is, λ is. is) };
        writes = λ faithful. none_written c.args.first c.args.sectors.now (device_below p) (g.met.D.Device.only_now p.device faithful);
        written = λ faithful. tt;
        synced = λ faithful. tt;
      };
      leaves = λ contents holds. before_still contents contents p p holds (open_holds p (g.met.D.Device.only_now p.device holds.is_open.faithful) holds.is_open).now p refl;
      keeps = record { sound = λ sound. sound; contents = λ sound. refl; root = refl; fulls = refl; failures = omega arith };
      outcome = (refl, record { failed = c.if-self.true; cause = inl c.if-self.true });
      still = λ had. (refl, refl);
    }

pub returns-in-Ok : goal.returns-in-Ok
returns-in-Ok g c =
    let old = c.args.self.now in
    let p = old.pages.below in
    let q = c.write_protected.new.self in
    let new : TreeStore g.row.D.Denot g.D.Device = record {
      pages = record { below = q };
      scratch = old.scratch;
      value = old.value;
      cursor = old.cursor;
      has_failed = old.has_failed;
      fulls = old.fulls;
      failures = old.failures;
    } in
    let is = c.in-Ok.ensures in
    let present = g.met.D.Device.only_now in
    record {
      device = record { size = is.device.size; writes = is.device.writes; written = is.device.written; synced = is.device.synced };
      leaves = λ contents holds. leaves_beside present p q is.device.size is.memory is.array (λ h. (is.durable h).leaves) (λ h. (is.durable h).stays) contents holds;
      keeps = record {
        sound = λ sound. sound_kept present p q is.device.size is.memory is.array (λ h. (is.durable h).leaves) (λ h. (is.durable h).stays) old new refl refl c.if-self.false refl (λ works. is.outcome) sound;
        contents = λ sound. contents_kept present p q is.device.size is.memory is.array (λ h. (is.durable h).leaves) (λ h. (is.durable h).stays) old new refl refl c.if-self.false refl (λ works. is.outcome) sound;
        root = is.memory.root;
        fulls = refl;
        failures = omega arith;
      };
      outcome = record {
        works = refl;
        counts = record { fulls = refl; failures = refl };
        holds = λ contents holds. holds_beside present p q is.device.size is.memory is.array (λ h. (is.durable h).leaves) (λ h. (is.durable h).stays) contents holds is.outcome;
      };
      still = λ had. absurd (false≢true (sym c.if-self.false ∙ had));
    }

pub returns-in-Err : goal.returns-in-Err
returns-in-Err g c =
    let old = c.args.self.now in
    let p = old.pages.below in
    let q = c.write_protected.new.self in
    let new = c.count.new.self in
    let is = c.in-Err.ensures in
    let counted = c.count.ensures.counted in
    let present = g.met.D.Device.only_now in
    let same : pages_of new ≡ q = ap (λ (x : ReadOnlyPages g.row.D.Denot g.D.Device). x.below) c.count.ensures.pages in
    let works : new.has_failed ≡ false → q.has_failed ≡ false = λ not. absurd (false≢true (sym not ∙ counted.failed)) in
    record {
      device = record {
        size = subst (λ (x : CowPages g.row.D.Denot g.D.Device). KeepsSize (device_below p) (device_below x)) (sym same) is.device.size;
        writes = λ faithful. subst (λ (x : CowPages g.row.D.Denot g.D.Device). WritesSectors c.args.first c.args.sectors.now (device_below p) (device_below x)) (sym same) (is.device.writes faithful);
        written = λ faithful. tt;
        synced = λ faithful. tt;
      };
      leaves = λ contents holds. subst (λ (x : CowPages g.row.D.Denot g.D.Device). LeavesBefore contents p x) (sym same)
          (leaves_beside present p q is.device.size is.memory is.array (λ h. (is.durable h).leaves) (λ h. (is.durable h).stays) contents holds);
      keeps = record {
        sound = λ sound. sound_kept present p q is.device.size is.memory is.array (λ h. (is.durable h).leaves) (λ h. (is.durable h).stays) old new refl same c.if-self.false c.count.ensures.cursor works sound;
        contents = λ sound. contents_kept present p q is.device.size is.memory is.array (λ h. (is.durable h).leaves) (λ h. (is.durable h).stays) old new refl same c.if-self.false c.count.ensures.cursor works sound;
        root = ap (λ (x : CowPages g.row.D.Denot g.D.Device). root_of x) same ∙ is.memory.root;
        fulls = c.count.ensures.alone;
        failures = c.count.ensures.failures;
      };
      outcome = (
        refl,
        record {
          failed = counted.failed;
          cause = inr (
            record { failed = counted.failed; rose = counted.rose },
            λ sound.
                subst (λ (x : CowPages g.row.D.Denot g.D.Device). HasFailed (device_below p) (device_below x)) (sym same)
                (⊎_elim (λ had. absurd (false≢true (sym (sound.works c.if-self.false).is_open.has_not_failed ∙ had))) (λ now. now) is.outcome.cause),
          );
        },
      );
      still = λ had. absurd (false≢true (sym c.if-self.false ∙ had));
    }
