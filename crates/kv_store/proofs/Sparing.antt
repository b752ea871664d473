-- Which commits keep the reserve, and which find too few pages.
use Rattle.std.proofs.Common.{◌≡◌, ◌⊎◌, inl, inr, ℕ, List, sym, subst, arith}
use Rattle.sector_device.specs.declared.device.Device.{Ghosts}
use Rattle.page_roots.specs.Root.{RootFields}
use Rattle.cow_pages.specs.declared.cow.CowPages.{CowPages}
use Rattle.cow_pages.specs.Cow.{root_of, durable_map, working_map}
use Rattle.cow_pages.specs.Free.{HasFreePages}
use Rattle.cow_pages.specs.Used.{grown}
use Rattle.store.specs.Records.{Records, Changes}
use Rattle.kv_store.specs.declared.reserve.Reserve.{Reserve}
use Rattle.kv_store.specs.declared.reserve.Reserve.TheVariants.{Kept, Open}
use Rattle.kv_store.specs.Batches.{LacksRoom, LacksRoomForMaps, LacksReserve, HadNoRoom}
use Rattle.kv_store.specs.Reserve.{Spares, KeepsReserve, LeavesReserve, TakesReserve}

-- no page is taken where nothing is changed
pub none_taken : {D : Type 0} {g : Ghosts D} (reserve : Reserve) (p : CowPages D g) → KeepsReserve reserve p p
none_taken {D} {g} Kept p = inl (omega arith)
none_taken {D} {g} Open p = tt

-- the device has as many pages while the changes wait as before them
pub spares_of_old : {D : Type 0} {g : Ghosts D} (reserve : Reserve) (free : ℕ) (old mid : CowPages D g) → root_of mid ≡ root_of old → Spares reserve (root_of mid).pages free (grown (durable_map mid) (working_map mid))
    → Spares reserve (root_of old).pages free (grown (durable_map mid) (working_map mid))
spares_of_old {D} {g} reserve free old mid root spares = subst (λ (r : RootFields). Spares reserve r.pages free (grown (durable_map mid) (working_map mid))) root spares

pub takes_of_old : {D : Type 0} {g : Ghosts D} (free : ℕ) (old mid : CowPages D g) → root_of mid ≡ root_of old → TakesReserve (root_of mid).pages free (grown (durable_map mid) (working_map mid))
    → TakesReserve (root_of old).pages free (grown (durable_map mid) (working_map mid))
takes_of_old {D} {g} free old mid root takes = subst (λ (r : RootFields). TakesReserve r.pages free (grown (durable_map mid) (working_map mid))) root takes

-- what spares the reserve while the changes wait keeps it once they are durable
pub kept_by : {D : Type 0} {g : Ghosts D} (reserve : Reserve) (free : ℕ) (old mid new : CowPages D g) → HasFreePages free old → durable_map mid ≡ durable_map old → durable_map new ≡ working_map mid
    → Spares reserve (root_of old).pages free (grown (durable_map mid) (working_map mid)) → KeepsReserve reserve old new
kept_by {D} {g} Open free old mid new free_is was is spares = tt
kept_by {D} {g} Kept free old mid new free_is was is spares =
    let here : (grown (durable_map old) (durable_map new) ≡ 0) ⊎ LeavesReserve (root_of old).pages free (grown (durable_map old) (durable_map new)) =
    subst (λ (es : List ℕ). (grown (durable_map old) es ≡ 0) ⊎ LeavesReserve (root_of old).pages free (grown (durable_map old) es)) (sym is)
    (subst (λ (es : List ℕ). (grown es (working_map mid) ≡ 0) ⊎ LeavesReserve (root_of old).pages free (grown es (working_map mid))) was spares) in
    elim here [
      | inl none ↦ inl none
      | inr leaves ↦ inr (free, free_is, leaves)
    ]

-- a change found no page
pub no_room : {D : Type 0} {g : Ghosts D} (reserve : Reserve) (changes : Changes) (records : Records) (old : CowPages D g) → LacksRoom changes records old → HadNoRoom reserve changes records old
no_room {D} {g} Kept changes records old lacks = inl lacks
no_room {D} {g} Open changes records old lacks = inl lacks

-- a map page did
pub no_map_room : {D : Type 0} {g : Ghosts D} (reserve : Reserve) (changes : Changes) (records : Records) (old : CowPages D g) → LacksRoomForMaps changes records old → HadNoRoom reserve changes records old
no_map_room {D} {g} Kept changes records old lacks = inr (inl lacks)
no_map_room {D} {g} Open changes records old lacks = inr lacks

-- the reserve was to be kept
pub no_reserve : {D : Type 0} {g : Ghosts D} (reserve : Reserve) (changes : Changes) (records : Records) (old : CowPages D g) → reserve ≡ Kept → LacksReserve changes records old → HadNoRoom reserve changes records old
no_reserve {D} {g} Kept changes records old is lacks = inr (inr lacks)
no_reserve {D} {g} Open changes records old is lacks = absurd cc
