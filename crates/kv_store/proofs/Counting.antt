-- What the calls of a store count.
use Rattle.std.proofs.Common.{◌≡◌, Bool, Result, Ok, Err, refl, sym, ◌∙◌, subst, arith}
use Rattle.std.specs.Prelude.{OnErr}
use Rattle.sector_device.specs.Timeline.{IsPresent}
use Rattle.sector_device.specs.Device.{timeline}
use Rattle.sector_device.specs.declared.device.Device.{Ghosts}
use Rattle.pages.specs.declared.array.PageFault.{PageFault}
use Rattle.cow_pages.specs.declared.cow.CowPages.{CowPages}
use Rattle.cow_pages.proofs.Preserving.{open_holds}
use Rattle.store.specs.Records.{Changes}
use Rattle.store.specs.Store.{Contents}
use Rattle.store.specs.declared.fault.StoreFault.{StoreFault}
use Rattle.store.specs.declared.fault.StoreFault.TheVariants.{Full, Memory, Device, Number}
use Rattle.kv_store.specs.declared.tree_store.TreeStore.{TreeStore}
use Rattle.kv_store.specs.declared.reserve.Reserve.{Reserve}
use Rattle.kv_store.specs.Contents.{HoldsContents}
use Rattle.kv_store.specs.Batches.{CommitsBatch}
use Rattle.kv_store.specs.TreeStore.{CountsNothing, CountsRefusal, CountsAlone, CountsRead}
use Rattle.kv_store.proofs.Batches.{leaves_before}
use Rattle.kv_store.proofs.Sparing.{none_taken}

-- an entry was copied, or memory was refused
pub copy_counts : {D : Type 0} {g : Ghosts D} (result : Result Bool StoreFault) (old new : TreeStore D g) → OnErr result (result ≡ Err Memory) → CountsNothing old new → CountsRead result old new
copy_counts {D} {g} (Ok found) old new refused nothing = nothing
copy_counts {D} {g} (Err fault) old new refused nothing =
    let memory : fault ≡ Memory = cc in
    subst (λ (f : StoreFault). CountsRead {T = Bool} (Err f) old new) (sym memory) nothing

-- a read was refused by a store that had the same counts
pub fault_counts : {D : Type 0} {g : Ghosts D} (T : Type 0) (fault : PageFault) (answer : StoreFault) (mid old new : TreeStore D g) → mid.fulls ≡ old.fulls → mid.failures ≡ old.failures → new.fulls ≡ mid.fulls → CountsRefusal fault answer mid new
    → CountsRead {T = T} (Err answer) old new
fault_counts {D} {g} T fault Full mid old new fulls failures same is = is
fault_counts {D} {g} T fault Memory mid old new fulls failures same is = record { fulls = same ∙ fulls; failures = is.1 ∙ failures }
fault_counts {D} {g} T fault Device mid old new fulls failures same is = same ∙ fulls
fault_counts {D} {g} T fault Number mid old new fulls failures same is = is

-- a commit was refused by a store that had the same counts
pub alone_counts : {D : Type 0} {g : Ghosts D} (fault : StoreFault) (mid old new : TreeStore D g) → mid.fulls ≡ old.fulls → mid.failures ≡ old.failures → CountsAlone fault mid new → CountsAlone fault old new
alone_counts {D} {g} Full mid old new fulls failures is = is ∙ failures
alone_counts {D} {g} Memory mid old new fulls failures is = record { fulls = is.fulls ∙ fulls; failures = is.failures ∙ failures }
alone_counts {D} {g} Device mid old new fulls failures is = is ∙ fulls
alone_counts {D} {g} Number mid old new fulls failures is = record { fulls = is.fulls ∙ fulls; failures = is.failures ∙ failures }

-- nothing is to be committed
pub nothing_committed : {D : Type 0} {g : Ghosts D} → ((device : D) → (g.state device).faithful → IsPresent (timeline (g.state device))) → (reserve : Reserve) (changes : Changes) (contents after : Contents) (p : CowPages D g) → after ≡ contents → HoldsContents contents p
    → CommitsBatch reserve changes (Ok tt) contents after p p
nothing_committed {D} {g} present reserve changes contents after p same holds = subst (λ (c : Contents). CommitsBatch reserve changes (Ok tt) contents c p p) (sym same) (record {
  leaves = leaves_before contents contents p p holds (open_holds p (present p.device holds.is_open.faithful) holds.is_open).now;
  outcome = record { holds = holds; pages = refl; kind = refl; not_back = omega arith; by_one = omega arith; rises = λ differs. absurd (differs refl); spares = none_taken reserve p };
})
