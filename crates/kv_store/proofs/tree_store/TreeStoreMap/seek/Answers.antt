use Rattle.std.proofs.Common.{refl, sym, ◌∙◌, subst}
use Rattle.std.proofs.lemmas.Bool.{false≢true}
use Rattle.cow_pages.proofs.Preserving.{open_holds}
use Rattle.cow_pages.specs.Cow.{durable_array, device_of}
use Rattle.page_tree.specs.Ahead.{HasAhead}
use Rattle.page_tree.proofs.Represented.{map_rises}
use Rattle.store.specs.Records.{Records}
use Rattle.kv_store.specs.Contents.{contents_of}
use Rattle.kv_store.specs.TreeStore.{store_state, pages_of}
use Rattle.kv_store.specs.UnwrittenLaws.{nothing_written}
use Rattle.kv_store.proofs.Reading.{nothing_read}
use Rattle.kv_store.proofs.Walking.{goes_on, rest_is}
use Rattle.kv_store.proofs.tree_store.TreeStoreMap.seek.Goals as goal

pub returns : goal.returns
returns g c =
    let s = c.args.self.now in
    let pages = pages_of s in
    let records = (contents_of pages).records in
    record {
      preserved = nothing_written pages;
      goes = goes_on _ c.in_ok-from_key.field-0 (store_state s) (store_state s) (nothing_read g.met.D.Device.only_now g.met.D.Device.content_left s) c.if-self.false c.if-self.false
          (λ sound. record {
            durable = open_holds pages (g.met.D.Device.only_now (device_of pages) sound.faithful) (sound.works c.if-self.false).is_open;
            in_map = subst (λ (es : Records). HasAhead records c.in_ok-from_key.field-0 es) (rest_is c.args.key.now records (map_rises (durable_array pages) records sound.represents)) (c.in_ok-from_key.ensures records);
          });
      same = refl;
      still = λ had. absurd (false≢true (sym c.if-self.false ∙ had));
    }
