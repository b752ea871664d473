-- Calls on the maps, one after the other.
use Rattle.std.proofs.Common.{◌∙◌, ◌<◌, ◌+◌, ℕ, List, length, get_or, inl, inr, sym, subst, arith}
use Rattle.std.proofs.Math.ListN.{set}
use Rattle.std.proofs.lemmas.Bool.{cases_eq}
use Rattle.std.proofs.lemmas.List.{get_or-set_same, get_or-set_other}
use Rattle.cow_pages.specs.declared.page_map.PageMap.{PageMap}
use Rattle.cow_pages.specs.MapCalls.{KeepsMaps}

pub maps_joined : (old mid new : PageMap) → KeepsMaps old mid → KeepsMaps mid new → KeepsMaps old new
maps_joined old mid new first second = record {
  root = second.root ∙ first.root;
  durable = second.durable ∙ first.durable;
  working = second.working ∙ first.working;
}

-- what is so of each page up to an index is so of one more, where that one is written
pub each_more : (P : ℕ → ℕ → Type 0) (pages : List ℕ) (index page : ℕ) → index < length pages → ((j : ℕ) → j < index → P j (get_or pages j 0)) → P index page
    → (j : ℕ) → j < index + 1 → P j (get_or (set pages index page) j 0)
each_more P pages index page within so_far here j lt = elim (cases_eq j index) [
  | inl is ↦ subst (λ (k : ℕ). P k (get_or (set pages index page) k 0)) (sym is) (subst (λ (x : ℕ). P index x) (sym (get_or-set_same pages index page 0 within)) here)
  | inr apart ↦ subst (λ (x : ℕ). P j x) (sym (get_or-set_other pages index j page 0 apart)) (so_far j (omega (arith, lt, apart)))
]
