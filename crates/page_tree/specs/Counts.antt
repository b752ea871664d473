-- Counts of the entries of a span of keys.
use Rattle.std.specs.Prelude.{◌≡◌, ◌+◌, min, nat_eq, ℕ, Bool, ◌||◌, if◌then◌else◌, Result, List, [], ◌∷◌, ◌++◌}
use Rattle.std.specs.List.{starts_with}
use Rattle.pages.specs.declared.array.PageFault.{PageFault}
use Rattle.pages.specs.declared.array.Pages.{Ghosts}
use Rattle.page_nodes.specs.Map.{is_below, Entry, rest_entries}
use Rattle.page_tree.specs.Forest.{Represents}
use Rattle.page_tree.specs.Calls.{Gives}
use Rattle.page_tree.specs.Ahead.{HasAhead}
use Rattle.page_tree.specs.declared.tree_walk.TreeWalk.{TreeWalk}

-- the key begins with this stop, or comes before it
abbrev pub is_within : List ℕ → List ℕ → Bool
is_within stop key = starts_with nat_eq key stop || is_below key stop

-- how many entries have such a key
abbrev pub count_within : List ℕ → List Entry → ℕ
count_within stop [] = 0
count_within stop (e ∷ es) = if is_within stop e.0 then 1 + count_within stop es else count_within stop es

-- a walk passed so many entries, all of them within the stop
pub record IsPassed (map : List Entry) (stop : List ℕ) (passed : ℕ) (walk : TreeWalk) (entries : List Entry) : Type 0 where
  pub front : List Entry
  pub later : List Entry
  pub entries_are : entries ≡ front ++ later
  pub all : count_within stop front ≡ passed
  pub ahead : HasAhead map walk later

-- the entries of the map from a key on that are within a stop are counted, up to a bound
abbrev pub Counts : {P : Type 0} (g : Ghosts P) (old new : P) (start stop : List ℕ) (most : ℕ) (result : Result ℕ PageFault) → Type 0
Counts g old new start stop most result =
    (g.state old).sound → (map : List Entry) → Represents map (g.state old).array
    → Gives g old new result (λ count. count ≡ min (count_within stop (rest_entries start map)) most)
