-- What a cache holds of each page.
use Rattle.std.specs.Prelude.{◌≡◌, ℕ, List, Option, Some, None, IsSome, IfSome, get_or, nat_eq, option_map, option_and_then}
use Rattle.std.specs.Map.{lookup}
use Rattle.page_cache.specs.Slots.{boxed_bytes}
use Rattle.page_cache.specs.declared.cache.PageCache.{PageCache}

-- the slot of a page
abbrev pub slot_of : PageCache → ℕ → Option ℕ
slot_of cache page = lookup (nat_eq page) cache.pages.entries

-- the bytes in a slot
abbrev pub bytes_in : PageCache → ℕ → Option (List ℕ)
bytes_in cache slot = option_map boxed_bytes (get_or cache.slots.items slot None)

-- the bytes that are held of a page
abbrev pub held_bytes : PageCache → ℕ → Option (List ℕ)
held_bytes cache page = option_and_then (λ slot. bytes_in cache slot) (slot_of cache page)

-- each page is held as it was
abbrev pub HoldsAsBefore : PageCache → PageCache → Type 0
HoldsAsBefore old new = (page : ℕ) → held_bytes new page ≡ held_bytes old page

-- what is held of a page was held before
abbrev pub HoldsNoMore : PageCache → PageCache → ℕ → Type 0
HoldsNoMore old new page = IfSome (held_bytes new page) (λ bytes. held_bytes old page ≡ Some bytes)

-- bytes are held of a page, and this is the slot in which they are
abbrev pub IsSlotOf : (page slot : ℕ) → PageCache → PageCache → Type 0
IsSlotOf page slot old new = IsSome (bytes_in new slot) × (held_bytes old page ≡ bytes_in new slot)
