-- What calls that leave a root and its reach alone leave in order.
use Rattle.std.proofs.Common.{◌≡◌, ◌<◌, ◌+◌, ◌*◌, ℕ, List, get_or, refl, sym, ap, ◌∙◌, inl, inr}
use Rattle.std.proofs.lemmas.List.{get_or_default}
use Rattle.sector_device.specs.Timeline.{LeavesOnly, IsPresent, weakened}
use Rattle.sector_device.proofs.Runs.{started}
use Rattle.sector_device.specs.Device.{DeviceState, IsFixed, timeline}
use Rattle.sector_device.specs.Page.{IsAlone}
use Rattle.page_roots.specs.Root.{RootFields, home}
use Rattle.page_roots.specs.Sector.{root_at}
use Rattle.page_roots.specs.MapPage.{entries_in}
use Rattle.page_roots.specs.Reach.{InReach}
use Rattle.cow_pages.specs.Image.{bytes_of_page, array_of, Means}
use Rattle.cow_pages.specs.Held.{IsHeld, IsDurable, IsSettled, KeepsContent}
use Rattle.cow_pages.proofs.Bytes.{same_page}
use Rattle.cow_pages.proofs.Meaning.{same_array, settled_left}

pub alone_read : (d e : DeviceState) → KeepsContent d e → (s : ℕ) → IsAlone d e s
alone_read d e reads s = record { content = reads.content s; left = reads.left s }

module _ (d e : DeviceState) where
  pub fixed_along : (s : ℕ) → IsAlone d e s → IsFixed d s → IsFixed e s
  fixed_along s alone fixed c now = fixed c (alone.left c now) ∙ sym alone.content

  pub bytes_along : (page : ℕ) → ((k : ℕ) → k < 8 → IsAlone d e (8 * page + k)) → bytes_of_page e.content page ≡ bytes_of_page d.content page
  bytes_along page alone = same_page e.content d.content page (λ k lt. (alone k lt).content)

  pub held_along : (pages : ℕ) (maps entries : List ℕ) → ((page : ℕ) → InReach maps entries page → (k : ℕ) → k < 8 → IsAlone d e (8 * page + k)) → IsHeld d pages maps entries → IsHeld e pages maps entries
  held_along pages maps entries alone held = record {
    spelled = record {
      each = λ j lt. ap (λ (bytes : List ℕ). entries_in bytes) (bytes_along (get_or maps j 0) (alone (get_or maps j 0) (inl (j, lt, get_or_default maps j (get_or maps j 0) 0 lt)))) ∙ held.spelled.each j lt;
      enough = held.spelled.enough;
      beyond = held.spelled.beyond;
    };
    sound = held.sound;
    fixed = λ page reach k lt. fixed_along (8 * page + k) (alone page reach k lt) (held.fixed page reach k lt);
  }

  module _ (sectors : e.sectors ≡ d.sectors) (root : RootFields) (entries : List ℕ) (alone : (page : ℕ) → InReach root.maps entries page → (k : ℕ) → k < 8 → IsAlone d e (8 * page + k)) where
    pub durable_along : IsAlone d e (home root.number) → IsDurable d root entries → IsDurable e root entries
    durable_along here durable = record {
      sectors = sectors ∙ durable.sectors;
      room = durable.room;
      here = ap (λ (bytes : List ℕ). root_at (home root.number) bytes) here.content ∙ durable.here;
      here_fixed = fixed_along (home root.number) here durable.here_fixed;
      held = held_along root.pages root.maps entries alone durable.held;
    }

    pub settled_along : IsAlone d e (home root.number) → IsAlone d e (home (root.number + 1)) → IsSettled d root entries → IsSettled e root entries
    settled_along here there settled = record {
      durable = durable_along here settled.durable;
      other = λ c now. settled.other c (there.left c now);
    }

    pub array_along : (l : ℕ) → array_of e.content entries l ≡ array_of d.content entries l
    array_along l = same_array e.content d.content entries (λ k some. bytes_along (get_or entries k 0) (alone (get_or entries k 0) (inr (k, refl, some)))) l

-- calls that wrote nothing
pub settled_read : (d e : DeviceState) (root : RootFields) (entries : List ℕ) → e.sectors ≡ d.sectors → KeepsContent d e → IsSettled d root entries → IsSettled e root entries
settled_read d e root entries sectors reads settled =
    settled_along d e sectors root entries (λ page reach k lt. alone_read d e reads (8 * page + k)) (alone_read d e reads (home root.number)) (alone_read d e reads (home (root.number + 1))) settled

pub leaves_read : (d e : DeviceState) (root : RootFields) (entries : List ℕ) → KeepsContent d e → IsSettled d root entries
    → LeavesOnly (Means root.pages root.format root.number (array_of d.content entries)) (timeline d) (timeline e)
leaves_read d e root entries reads settled = weakened _ _ (timeline d) (timeline e) (λ image left. settled_left d image root entries settled left) reads.leaves

-- no call at all
pub leaves_none : (d : DeviceState) (root : RootFields) (entries : List ℕ) → IsPresent (timeline d) → IsSettled d root entries
    → LeavesOnly (Means root.pages root.format root.number (array_of d.content entries)) (timeline d) (timeline d)
leaves_none d root entries present settled = started (Means root.pages root.format root.number (array_of d.content entries)) (timeline d) present (λ image left. settled_left d image root entries settled left)
