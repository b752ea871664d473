-- What a commit leaves of what the root says of a journal.
use Rattle.std.proofs.Common.{◌≡◌, true, Result, Ok, Err, refl, ap, ◌∙◌}
use Rattle.sector_device.specs.declared.device.Device.{Ghosts}
use Rattle.page_roots.specs.declared.format.Format.{Format}
use Rattle.storage_sizes.specs.declared.record_format.RecordFormat.TheVariants.{V2}
use Rattle.page_roots.specs.declared.format.Format.TheVariants.{One, Two, Three}
use Rattle.page_roots.specs.Formats.{record_format_of, has_journal}
use Rattle.page_roots.specs.Root.{RootFields}
use Rattle.cow_pages.specs.declared.cow.CowPages.{CowPages}
use Rattle.cow_pages.specs.declared.page_map.CommitFault.{CommitFault}
use Rattle.cow_pages.specs.declared.page_map.CommitFault.TheVariants.{Full, Number, NoFirstPage, Device}
use Rattle.cow_pages.specs.Cow.{root_of}
use Rattle.cow_pages.specs.Calls.{Commits}
use Rattle.kv_store.specs.Contents.{is_journaled}
use Rattle.kv_store.specs.Switches.{KeepsKind}

-- the same root says the same
pub same_kind : {D : Type 0} {g : Ghosts D} (old new : CowPages D g) → root_of new ≡ root_of old → is_journaled new ≡ is_journaled old
same_kind {D} {g} old new same = ap (λ (r : RootFields). has_journal r.format) same

-- a commit of pages, by its answer
pub kind_committed : {D : Type 0} {g : Ghosts D} (next : Format) (result : Result (Unit {0}) CommitFault) (old new : CowPages D g) → Commits next result old new → KeepsKind next old new
kind_committed {D} {g} next (Ok x) old new is kind = ap (λ (f : Format). has_journal f) is.format ∙ kind
kind_committed {D} {g} next (Err Full) old new is kind = same_kind old new is.1.memory.root
kind_committed {D} {g} next (Err Number) old new is kind = same_kind old new is.1.memory.root
kind_committed {D} {g} next (Err NoFirstPage) old new is kind = same_kind old new is.1.memory.root
kind_committed {D} {g} next (Err Device) old new is kind = same_kind old new is.memory.root

-- where there is a journal, records are of record format 2
pub journaled_is_second : (format : Format) → has_journal format ≡ true → record_format_of format ≡ V2
journaled_is_second One is = absurd cc
journaled_is_second Two is = absurd cc
journaled_is_second Three is = refl
