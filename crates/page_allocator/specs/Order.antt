-- How an allocator represents its pages: all of them in an order, the free ones first.
use Rattle.std.specs.Prelude.{◌≡◌, ◌<◌, ◌≤◌, ℕ, List, length, map, nat_le, slice_index}
use Rattle.storage_sizes.specs.Sizes.{max_pages}
use Rattle.page_allocator.specs.TakenPages.{TakenPages}

-- the order has each page once, and places says where each page stands in it
pub record AreInverse (order places : List ℕ) : Type 0 where
  pub count : length places ≡ length order
  pub most : length order ≤ max_pages
  pub page_inside : (i : ℕ) → i < length order → slice_index order i < length order
  pub place_inside : (p : ℕ) → p < length order → slice_index places p < length order
  pub place_of_page : (i : ℕ) → i < length order → slice_index places (slice_index order i) ≡ i
  pub page_at_place : (p : ℕ) → p < length order → slice_index order (slice_index places p) ≡ p

-- the first pages of the order are free, and page 0 is none of them
pub record IsFreeFirst (order places : List ℕ) (free : ℕ) : Type 0 where
  pub inverse : AreInverse order places
  pub some : 1 ≤ length order
  pub roots : free ≤ slice_index places 0

-- a page is taken where its place is after the free ones
abbrev pub taken_pages : ℕ → List ℕ → TakenPages
taken_pages free places = map (λ place. nat_le free place) places
