use Rattle.std.proofs.Common.{ℕ, Bool, subst}
use Rattle.cow_pages.specs.Cow.{root_of}
use Rattle.kv_store.specs.Contents.{HasContents, HasContentsWith, contents_of}
use Rattle.kv_store.specs.PageStore.{pages_of}
use Rattle.kv_store.proofs.Reading.{held_left}
use Rattle.kv_store.proofs.Opened.{sectors_are}
use Rattle.kv_store.proofs.laws.sound_images.Goals as goal

pub returns : goal.returns
returns g c sound works image left =
    let s = c.args.store.now in
    let p = pages_of s in
    subst (λ (pages : ℕ). HasContents pages (contents_of p) image) (sectors_are p)
    (subst (λ (journal : Bool). HasContentsWith journal (root_of p).pages (contents_of p) image) s.plain
    (held_left g.met.D.Device.only_now g.met.D.Device.content_left (contents_of p) p (sound.works works) image left))
