-- Where a call works: a tree in an array of pages.
use Rattle.std.specs.Prelude.{◌≡◌, ℕ, ◌<◌, ◌⊎◌, false, Option, List, [], ◌∷◌}
use Rattle.pages.specs.State.{Array}
use Rattle.page_nodes.specs.Map.{is_below}
use Rattle.page_nodes.specs.Node.{four_bytes}
use Rattle.page_tree.specs.Forest.{Forest, cells, IsUnder, IsSound, IsFull}

-- a tree, its depth, and the bounds of its keys: at least the first, and below the second, if there is one
pub record Site : Type 0 where
  pub tree : Forest
  pub depth : ℕ
  pub low : List ℕ
  pub high : Option (List ℕ)

-- the site of these parts
abbrev pub site_of : Forest → ℕ → List ℕ → Option (List ℕ) → Site
site_of tree depth low high = record { tree = tree; depth = depth; low = low; high = high }

-- the tree of a site stands under a page, a key belongs into it, and so many levels are enough for it
pub record IsSubtree (array : Array) (site : Site) (page : ℕ) (key : List ℕ) (levels : ℕ) : Type 0 where
  pub sound : IsSound array site.depth site.high site.tree
  pub top : cells site.tree ≡ (site.low, four_bytes page) ∷ []
  pub full : IsFull site.tree ⊎ (site.depth ≡ 0)
  pub reaches : is_below key site.low ≡ false
  pub ends : IsUnder key site.high
  pub shallow : site.depth < levels
