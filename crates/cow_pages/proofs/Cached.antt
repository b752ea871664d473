-- What the cache holds while the content of the device changes.
use Rattle.std.proofs.Common.{◌≡◌, ◌≢◌, ◌⊎◌, ◌≤◌, ◌+◌, ◌*◌, ℕ, List, Option, Some, None, IfSome, sym, subst, ap, ◌∙◌, arith, inl, inr}
use Rattle.std.proofs.lemmas.Bool.{cases_eq}
use Rattle.sector_device.specs.Device.{DeviceState, Image}
use Rattle.sector_device.specs.Page.{IsAlone, IsOutside}
use Rattle.page_cache.specs.declared.cache.PageCache.{PageCache}
use Rattle.page_cache.specs.Held.{held_bytes, HoldsAsBefore, HoldsNoMore}
use Rattle.cow_pages.specs.Image.{bytes_of_page}
use Rattle.cow_pages.specs.Held.{KeepsContent}
use Rattle.cow_pages.specs.Cached.{AgreesWith}
use Rattle.cow_pages.proofs.Bytes.{same_page}
use Rattle.cow_pages.proofs.Writing.{other_page}

-- what is so of anything that is held is so of what is held
if_there : (held : Option (List ℕ)) (P : List ℕ → Type 0) (bytes : List ℕ) → held ≡ Some bytes → IfSome held P → P bytes
if_there held P bytes is all = subst (λ (o : Option (List ℕ)). IfSome o P) is all

not_both : (held : Option (List ℕ)) (bytes : List ℕ) → held ≡ None → held ≡ Some bytes → ⊥
not_both held bytes none some = absurd cc

-- a cache that holds nothing
pub empty_agrees : (cache : PageCache) (image : Image) → ((page : ℕ) → held_bytes cache page ≡ None) → AgreesWith cache image
empty_agrees cache image empty page bytes some held = absurd (not_both (held_bytes cache page) bytes (empty page) held)

module _ (old new : PageCache) (image : Image) (agrees : AgreesWith old image) where
  -- the cache holds less
  pub less_agrees : ((page : ℕ) → HoldsNoMore old new page) → AgreesWith new image
  less_agrees less page bytes some held =
      agrees page bytes some (if_there (held_bytes new page) (λ there. held_bytes old page ≡ Some there) bytes held (less page))

  -- the cache holds the same
  pub same_agrees : HoldsAsBefore old new → AgreesWith new image
  same_agrees same page bytes some held = agrees page bytes some (sym (same page) ∙ held)

  -- the bytes that a page has in the image are put
  pub put_agrees : (page : ℕ) (bytes : List ℕ) → bytes_of_page image page ≡ bytes → IfSome (held_bytes new page) (λ there. there ≡ bytes)
      → ((other : ℕ) → other ≢ page → HoldsNoMore old new other) → AgreesWith new image
  put_agrees page bytes is here others other there some held = elim (cases_eq other page) [
    | inl same ↦ ap (λ (p : ℕ). bytes_of_page image p) same ∙ is
        ∙ sym (if_there (held_bytes new page) (λ (put : List ℕ). put ≡ bytes) there (ap (λ (p : ℕ). held_bytes new p) (sym same) ∙ held) here)
    | inr differs ↦ agrees other there some (if_there (held_bytes new other) (λ was. held_bytes old other ≡ Some was) there held (others other differs))
  ]

-- the content of the device changes
module _ (cache : PageCache) (image next : Image) (agrees : AgreesWith cache image) where
  pub kept_agrees : ((page : ℕ) → 1 ≤ page → (bytes_of_page next page ≡ bytes_of_page image page) ⊎ (held_bytes cache page ≡ None)) → AgreesWith cache next
  kept_agrees each page bytes some held = elim (each page some) [
    | inl same ↦ same ∙ agrees page bytes some held
    | inr none ↦ absurd (not_both (held_bytes cache page) bytes none held)
  ]

  -- only in the sectors of the roots
  pub roots_agree : ((s : ℕ) → 2 ≤ s → next s ≡ image s) → AgreesWith cache next
  roots_agree same = kept_agrees (λ page some. inl (same_page next image page (λ k lt. same (8 * page + k) (omega (arith, some)))))

-- calls that write nothing
module _ (d e : DeviceState) (reads : KeepsContent d e) where
  pub read_there : (page : ℕ) → bytes_of_page e.content page ≡ bytes_of_page d.content page
  read_there page = same_page e.content d.content page (λ k lt. reads.content (8 * page + k))

  pub read_agrees : (cache : PageCache) → AgreesWith cache d.content → AgreesWith cache e.content
  read_agrees cache agrees page bytes some held = read_there page ∙ agrees page bytes some held

-- a page that is not held is written
pub written_agrees : (cache : PageCache) (d e : DeviceState) (page : ℕ) → AgreesWith cache d.content → held_bytes cache page ≡ None
    → ((s : ℕ) → IsOutside (8 * page) 8 s → IsAlone d e s) → AgreesWith cache e.content
written_agrees cache d e page agrees none alone = kept_agrees cache d.content e.content agrees (λ other some. elim (cases_eq other page) [
  | inl same ↦ inr (ap (λ (p : ℕ). held_bytes cache p) same ∙ none)
  | inr differs ↦ inl (same_page e.content d.content other (λ k lt. (alone (8 * other + k) (other_page page other k differs lt)).content))
])
