-- The slots of pages: each entry is a page and its slot.
use Rattle.std.specs.Prelude.{◌≡◌, ◌≢◌, ◌<◌, ◌≤◌, ℕ, List, Box, length, Contains}
use Rattle.std.specs.declared.alloc.Global.{Global}
use Rattle.page_nodes.specs.declared.offsets.IndexedPage.{IndexedPage}
use Rattle.page_nodes.specs.Views.{kept_bytes}

-- the bytes of the page in a box
abbrev pub boxed_bytes : Box IndexedPage Global → List ℕ
boxed_bytes page = kept_bytes page.value

-- the slots in use are the first, as many as there are pages
abbrev pub AreFirst : List (ℕ × ℕ) → Type 0
AreFirst entries = (entry : ℕ × ℕ) → Contains entries entry → entry.1 < length entries

-- no two pages have one slot
abbrev pub AreApart : List (ℕ × ℕ) → Type 0
AreApart entries = (one other : ℕ × ℕ) → Contains entries one → Contains entries other → one.1 ≡ other.1 → one.0 ≡ other.0

-- of so many slots, the one that a new page takes beside the entries that stay
pub record IsSpare (stay : List (ℕ × ℕ)) (slots slot : ℕ) : Type 0 where
  pub room : length stay < slots
  pub first : slot ≤ length stay
  pub others : (entry : ℕ × ℕ) → Contains stay entry → entry.1 ≤ length stay
  pub apart : (entry : ℕ × ℕ) → Contains stay entry → entry.1 ≢ slot
