-- A whole dump that is read, its head and then its lists.
use Rattle.std.proofs.Common.{◌≤◌, ◌*◌, ℕ, List, Result, Ok, Err, IfErr, OnOk, sym, subst, arith}
use Rattle.sha2.specs.Hashers.{Holds256}
use Rattle.sector_device.specs.Device.{DeviceState, KeepsHistory as DeviceHistory}
use Rattle.store.specs.Records.{Changes}
use Rattle.cow_pages.specs.Held.{KeepsContent}
use Rattle.cow_pages.specs.PreservedLaws.{failed_later}
use Rattle.dumps.specs.Form.{TheDump, head}
use Rattle.dumps.specs.OnDevice.{DumpGoesOn, HoldsDump}
use Rattle.dumps.specs.Reading.{HasHead, IsUnread}
use Rattle.dumps.specs.SeveralLists.{HasAllLists}
use Rattle.dumps.specs.declared.fault.DumpFault.{DumpFault}
use Rattle.dumps.specs.declared.fault.DumpFault.TheVariants as reading
use Rattle.dumps.specs.declared.place.DumpPlace.{DumpPlace}
use Rattle.dumps.proofs.Heads.{goes_on_from_head, head_long}
use Rattle.dumps.proofs.Moved.{moved, moved_back}
use Rattle.dumps.proofs.WholeDumps.{whole_dump}

-- a head and all lists are a dump
pub dump_read : (d : DeviceState) (number : ℕ) (lists : List Changes) (first : DumpPlace) → HasHead d number first → HasAllLists d.sectors d.content (head number) lists first → HoldsDump d (record { number = number; lists = lists })
dump_read d number lists first begun has =
    whole_dump d.sectors d.content number has.after lists first has.last begun.fits begun.whole begun.there (head_long number) begun.page begun.lists has.has has.end

-- a dump that is there goes on behind its head
pub goes_on_behind_head : (d : DeviceState) (number : ℕ) (dump : TheDump) (first : DumpPlace) → HasHead d number first → HoldsDump d dump → DumpGoesOn d.sectors d.content first.page (head number) first.lists dump.lists
goes_on_behind_head d number dump first begun holds =
    subst (λ (n : ℕ). DumpGoesOn d.sectors d.content first.page (head number) n dump.lists) (sym begun.lists)
    (subst (λ (n : ℕ). DumpGoesOn d.sectors d.content n (head number) 0 dump.lists) (sym begun.page) (goes_on_from_head d.sectors d.content number dump begun.there holds))

-- what is read of a device that reading its head left as it was
pub whole_read : (d e : DeviceState) (number : ℕ) (first : DumpPlace) (result : Result (Unit {0}) DumpFault) → DeviceHistory d e → KeepsContent d e → HasHead d number first
    → ((before : List ℕ) → Holds256 first.hasher before → 8 * first.page ≤ e.sectors → OnOk result ((lists : List Changes) × HasAllLists e.sectors e.content before lists first)) → OnOk result ((it : TheDump) × HoldsDump d it)
whole_read d e number first (Err fault) history content begun whole = tt
whole_read d e number first (Ok x) history content begun whole =
    let read = whole (head number) begun.hashed (omega (arith, history.sectors, begun.some, begun.page)) in
    let there = moved (λ n i. HasAllLists n i (head number) read.0 first) d.sectors e.sectors d.content e.content history.sectors content.content read.1 in
    (record { number = number; lists = read.0 }, dump_read d number read.0 first begun there)

unread_later : (fault : DumpFault) (d e f : DeviceState) → DeviceHistory d e → DeviceHistory e f → IsUnread fault e f → IsUnread fault d f
unread_later reading.NotADump d e f first second is = absurd is
unread_later (reading.OtherVersion version) d e f first second is = absurd is
unread_later reading.Damaged d e f first second is = absurd is
unread_later reading.Memory d e f first second is = tt
unread_later reading.Device d e f first second is = failed_later d e f first second is

-- a dump that is there is not refused behind its head
pub unread_since : (result : Result (Unit {0}) DumpFault) (d e f : DeviceState) (dump : TheDump) (number : ℕ) (first : DumpPlace) → DeviceHistory d e → KeepsContent d e → DeviceHistory e f → HasHead d number first → HoldsDump d dump
    → ((before : List ℕ) (lists : List Changes) → Holds256 first.hasher before → DumpGoesOn e.sectors e.content first.page before first.lists lists → IfErr result (λ fault. IsUnread fault e f))
    → IfErr result (λ fault. IsUnread fault d f)
unread_since (Ok x) d e f dump number first history content second begun holds refused = tt
unread_since (Err fault) d e f dump number first history content second begun holds refused =
    unread_later fault d e f history second
    (refused (head number) dump.lists begun.hashed
    (moved_back (λ n i. DumpGoesOn n i first.page (head number) first.lists dump.lists) d.sectors e.sectors d.content e.content history.sectors content.content (goes_on_behind_head d number dump first begun holds)))
