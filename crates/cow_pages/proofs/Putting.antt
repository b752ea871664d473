-- A logical page gets a physical page.
use Rattle.std.proofs.Common.{◌≡◌, ◌≢◌, ◌<◌, ◌*◌, ℕ, List, length, get_or, sym, ap, subst, ◌∙◌}
use Rattle.std.proofs.Math.ListN.{set}
use Rattle.std.proofs.lemmas.List.{get_or-set_same, get_or-set_other}
use Rattle.sector_device.specs.Device.{Image}
use Rattle.page_roots.specs.Root.{RootFields}
use Rattle.cow_pages.specs.Dirty.{DirtyBytes, overlaid_page, overlaid_array, IsOutsideReach, AreOutsideReach}

-- one logical page has another physical page
module _ (working now : List ℕ) (l q : ℕ) (is : now ≡ set working l q) (within : l < length working) where
  pub entry_here : get_or now l 0 ≡ q
  entry_here = ap (λ (es : List ℕ). get_or es l 0) is ∙ get_or-set_same working l q 0 within

  entry_preserved : (k : ℕ) → k ≢ l → get_or now k 0 ≡ get_or working k 0
  entry_preserved k other = ap (λ (es : List ℕ). get_or es k 0) is ∙ get_or-set_other working l k q 0 other

  pub entry_apart : ((k : ℕ) → k ≢ l → get_or working k 0 ≢ q) → (k : ℕ) → k ≢ l → get_or now k 0 ≢ q
  entry_apart unshared k other same = unshared k other (sym (entry_preserved k other) ∙ same)

  pub others_preserved : (dirty : DirtyBytes) (image : Image) (k : ℕ) → k ≢ l → overlaid_array dirty image now k ≡ overlaid_array dirty image working k
  others_preserved dirty image k other = ap (λ (p : ℕ). overlaid_page dirty image p) (entry_preserved k other)

-- the same root and map
pub outside_as : (root same : RootFields) (durable other : List ℕ) → same ≡ root → other ≡ durable → (page : ℕ)
    → IsOutsideReach root.pages root.maps durable page → IsOutsideReach same.pages same.maps other page
outside_as root same durable other root_is durable_is page can =
    subst (λ (r : RootFields). IsOutsideReach r.pages r.maps other page) (sym root_is) (subst (λ (es : List ℕ). IsOutsideReach root.pages root.maps es page) (sym durable_is) can)

-- where the root and the durable map are the same, the dirty pages are outside the reach still
pub outside_kept : (root same : RootFields) (durable other : List ℕ) → same ≡ root → other ≡ durable → (dirty : DirtyBytes)
    → AreOutsideReach root.pages root.maps durable dirty → AreOutsideReach same.pages same.maps other dirty
outside_kept root same durable other root_is durable_is dirty outside = λ page some.
    outside_as root same durable other root_is durable_is page (outside page some)

-- the size of the device is that of the root still
pub sized_kept : (sectors : ℕ) (root same : RootFields) → same ≡ root → sectors ≡ 8 * root.pages → sectors ≡ 8 * same.pages
sized_kept sectors root same root_is sized = sized ∙ ap (λ (r : RootFields). 8 * r.pages) (sym root_is)
