-- What a removal leaves of trees.
use Rattle.std.specs.Prelude.{◌≡◌, ◌≢◌, ℕ, suc, ◌+◌, ◌<◌, ◌≤◌, ◌⊎◌, false, Option, Some, None, IsSome, List, [], ◌∷◌, ◌++◌, length}
use Rattle.pages.specs.State.{Array, PagesState}
use Rattle.page_nodes.specs.declared.cell.NodeKind.TheVariants.{Inner}
use Rattle.page_nodes.specs.Map.{is_below, Entry, with_entry, without}
use Rattle.page_nodes.specs.Node.{four_bytes, start, IsKeySize, IsNode}
use Rattle.page_nodes.specs.Search.{pair_from}
use Rattle.page_tree.specs.Forest.{Forest, no_trees, leaf, inner, append, cells, entries, Meets, IsUnder, next, IsSound, IsFull}
use Rattle.page_tree.specs.Puts.{AreInScratch, made_cells}
use Rattle.page_tree.specs.declared.removal.Underflow.{Underflow}
use Rattle.page_tree.specs.declared.removal.Underflow.TheVariants.{Nothing, Child, Trees, FewCells}

-- a number of 32 bits
abbrev pub IsPageNumber : ℕ → Type 0
IsPageNumber page = page < 4294967296

-- What a change does to the pages that trees meet: a page that they leave is free, a page that they take was free, and every other page stays as it is.
pub record Moves (A B : Array) (old new : Forest) : Type 0 where
  pub others : (q : ℕ) → (Meets q old → ⊥) → (Meets q new → ⊥) → B q ≡ A q
  pub freed : (q : ℕ) → Meets q old → (Meets q new → ⊥) → B q ≡ None
  pub taken : (q : ℕ) → Meets q new → (Meets q old → ⊥) → A q ≡ None

-- sound and full trees, which an inner node spells so
pub record SpellsTrees (A : Array) (depth : ℕ) (high : Option (List ℕ)) (cs : List Entry) (f : Forest) : Type 0 where
  pub sound : IsSound A depth high f
  pub full : IsFull f
  pub spelled : cells f ≡ cs

-- of the tree under a page no entry is left, and the page is still in use
pub record HasNoEntry (A : Array) (depth : ℕ) (low : List ℕ) (page : ℕ) (f : Forest) : Type 0 where
  pub flat : depth ≡ 0
  pub is : f ≡ leaf low page [] no_trees
  pub there : IsSome (A page)

-- of the tree under a page one child is left, and the page is still in use
pub record HasOneChild (A : Array) (depth : ℕ) (low : List ℕ) (high : Option (List ℕ)) (page child : ℕ) (f : Forest) : Type 0 where
  pub below : ℕ
  pub deep : depth ≡ suc below
  pub children : Forest
  pub is : f ≡ inner low page children no_trees
  pub spells : SpellsTrees A below high ((low, four_bytes child) ∷ []) children
  pub apart : Meets page children → ⊥
  pub there : IsSome (A page)

-- the tree under a page is a leaf
pub record IsOneLeaf (A : Array) (depth : ℕ) (low : List ℕ) (high : Option (List ℕ)) (page : ℕ) (f : Forest) : Type 0 where
  pub flat : depth ≡ 0
  pub spells : SpellsTrees A depth high ((low, four_bytes page) ∷ []) f

-- what is left of the tree under a page
abbrev pub Describes : Underflow → Array → ℕ → List ℕ → Option (List ℕ) → ℕ → List ℕ → Forest → Type 0
Describes Nothing A depth low high page separator f = HasNoEntry A depth low page f
Describes (Child child) A depth low high page separator f = HasOneChild A depth low high page child f
Describes (Trees made) A depth low high page separator f = SpellsTrees A depth high ((low, four_bytes page) ∷ made_cells separator made) f
Describes FewCells A depth low high page separator f = IsOneLeaf A depth low high page f

-- where a second tree is left, the separator is a key
abbrev pub HasSeparator : Underflow → List ℕ → Type 0
HasSeparator Nothing separator = Unit {0}
HasSeparator (Child child) separator = Unit {0}
HasSeparator (Trees None) separator = Unit {0}
HasSeparator (Trees (Some made)) separator = IsKeySize separator
HasSeparator FewCells separator = Unit {0}

-- a call turns trees into others, which have these entries
pub record Becomes (old new : PagesState) (from : Forest) (es : List Entry) (IsResult : Forest → Type 0) : Type 0 where
  pub sound : new.sound
  pub trees : Forest
  pub moves : Moves old.array new.array from trees
  pub entries_are : entries trees ≡ es
  pub result : IsResult trees

-- trees that are to stand under a page, the first with its page, the others as cells
pub record IsParent (A : Array) (page depth : ℕ) (low : List ℕ) (high : Option (List ℕ)) (first : List ℕ) (cs : List Entry) (children : Forest) : Type 0 where
  pub spells : SpellsTrees A depth high ((low, first) ∷ cs) children
  pub apart : Meets page children → ⊥
  pub there : IsSome (A page)

-- The trees around the child of a key, in an inner node that still spells that child.
pub record IsAround (A : Array) (page depth : ℕ) (low : List ℕ) (high : Option (List ℕ)) (key : List ℕ) (child : ℕ) (first : List ℕ) (cs : List Entry) (from : List ℕ) (before after : Forest) : Type 0 where
  pub before_sound : IsSound A depth (Some from) before
  pub after_sound : IsSound A depth high after
  pub before_full : IsFull before
  pub after_full : IsFull after
  pub apart : (q : ℕ) → Meets q before → Meets q after → ⊥
  pub page_apart : Meets page (append before after) → ⊥
  pub child_apart : Meets child (append before after) → ⊥
  pub there : IsSome (A page)
  pub spelled : cells before ++ ((from, four_bytes child) ∷ cells after) ≡ (low, first) ∷ cs
  pub some : 0 < length cs
  pub under : IsUnder from (next after high)
  pub reaches : is_below key from ≡ false
  pub ends : IsUnder key (next after high)

-- A child of an inner node, with what is around it: the depth of the children, the bounds of the node's keys, its first child and its other cells, the least key of the child, and the trees before and after it.
pub record Surroundings : Type 0 where
  pub depth : ℕ
  pub low : List ℕ
  pub high : Option (List ℕ)
  pub first : List ℕ
  pub c : Entry
  pub cs : List Entry
  pub from : List ℕ
  pub before : Forest
  pub after : Forest

-- the surroundings of the child of a key, in the inner node that a page holds
abbrev pub Surround : Array → Surroundings → ℕ → List ℕ → ℕ → Type 0
Surround A w page key child = IsAround A page w.depth w.low w.high key child w.first (w.c ∷ w.cs) w.from w.before w.after

-- these bytes are that inner node
abbrev pub AreNodeOf : Surroundings → List ℕ → Type 0
AreNodeOf w bytes = IsNode Inner w.first (w.c ∷ w.cs) bytes

-- the trees of the node, with others in the place of that child
abbrev pub around : Surroundings → Forest → Forest
around w between = append w.before (append between w.after)

-- trees in the place of that child, on pages of their own
pub record IsBetween (page : ℕ) (before between after : Forest) : Type 0 where
  pub apart_before : (q : ℕ) → Meets q before → Meets q between → ⊥
  pub apart_after : (q : ℕ) → Meets q between → Meets q after → ⊥
  pub page_apart : Meets page between → ⊥

-- of an inner node without the child of a key: its first child, and its cells as in scratch
pub record IsRest (first : List ℕ) (c : Entry) (cs : List Entry) (key : List ℕ) (child rest : ℕ) (bytes : List ℕ) (count : ℕ) : Type 0 where
  pub copied : AreInScratch Inner (without (pair_from key first c cs).1.0 (c ∷ cs)) bytes count
  pub fits : start Inner + length bytes ≤ 4096
  pub first_is : ((four_bytes child ≡ (pair_from key first c cs).0) × (four_bytes rest ≡ (pair_from key first c cs).1.1)) ⊎ ((four_bytes child ≢ (pair_from key first c cs).0) × (four_bytes rest ≡ first))

-- cells with that of a second tree, if one was made
abbrev pub with_made : List ℕ → Option ℕ → List Entry → List Entry
with_made separator None cs = cs
with_made separator (Some made) cs = with_entry separator (four_bytes made) cs

-- the trees of an inner node when what is left of the child of a key is put under its neighbour
pub record IsJoined (A : Array) (depth : ℕ) (low : List ℕ) (high : Option (List ℕ)) (first : List ℕ) (c : Entry) (cs : List Entry) (key : List ℕ) (child : ℕ) (made : Option ℕ) (separator : List ℕ) (f : Forest) : Type 0 where
  pub left : List ℕ
  pub spells : SpellsTrees A depth high ((low, left) ∷ with_made separator made (without (pair_from key first c cs).1.0 (c ∷ cs))) f
  pub left_is : ((four_bytes child ≡ (pair_from key first c cs).0) × (left ≡ (pair_from key first c cs).1.1)) ⊎ ((four_bytes child ≢ (pair_from key first c cs).0) × (left ≡ first))
