use Rattle.std.proofs.Common.{◌≡◌, ◌∙◌, ◌<◌, ◌≤◌, ◌/◌, ℕ, List, [], length, get_or, refl, sym, ap, subst, arith}
use Rattle.page_roots.specs.Root.{RootFields}
use Rattle.journal.specs.Chain.{Holds, part_of}
use Rattle.journal.specs.Records.{entry_of}
use Rattle.journal.specs.Sectors.{sector_at}
use Rattle.journal_store.specs.Stores.{root_number}
use Rattle.journal_store.proofs.Records.{refused_memory, append_failed, append_done}
use Rattle.journal_store.proofs.stores.JournalStore.append.Goals as goal

pub returns-in_default-clause-commits : goal.returns-in_default-clause-commits
returns-in_default-clause-commits g c = refused_memory g.met.D.Device.only_now c.args.self.now _ _ c.requires.works refl refl refl refl

pub returns-in_default-record-clause-commits : goal.returns-in_default-record-clause-commits
returns-in_default-record-clause-commits g c = refused_memory g.met.D.Device.only_now c.args.self.now _ _ c.requires.works refl c.in_default-record.ensures.err refl refl

-- the sectors spell the record behind the root
spelled_as : (items sectors : List (List ℕ)) (root own number : ℕ) (bytes : List ℕ) → sectors ≡ items → root ≡ own → length items ≤ 6
    → ((room i : ℕ) → 1 ≤ root → length items ≤ room → i < length items → sector_at room (get_or items i []) ≡ Holds (part_of root (entry_of number bytes) i))
    → (i : ℕ) → 1 ≤ own → i < length sectors → sector_at 6 (get_or sectors i []) ≡ Holds (part_of own (entry_of number bytes) i)
spelled_as items sectors root own number bytes same is few read i some lt =
    subst (λ (xs : List (List ℕ)). sector_at 6 (get_or xs i []) ≡ Holds (part_of own (entry_of number bytes) i)) (sym same)
    (subst (λ (r : ℕ). sector_at 6 (get_or items i []) ≡ Holds (part_of r (entry_of number bytes) i)) is
    (read 6 i (omega (arith, some, is)) few (omega (arith, lt, ap (λ (xs : List (List ℕ)). length xs) same))))

pub returns-in_default-write_protected-clause-commits : goal.returns-in_default-write_protected-clause-commits
returns-in_default-write_protected-clause-commits g c =
    let s = c.args.self.now in
    let items = c.in-Ok.sectors.items in
    let sectors = c.deref.result.now in
    let same : sectors ≡ items = c.deref.ensures.value in
    let count : length sectors ≡ length c.args.bytes.now / 488 = ap (λ (xs : List (List ℕ)). length xs) same ∙ c.in-Ok.ensures.count in
    let few : length items ≤ 6 = omega (arith, c.in-Ok.ensures.count, c.requires.fits) in
    append_failed g.met.D.Device.only_now (λ device q faithful lt. g.met.D.Device.content_left device q faithful lt) s _ c.args.batch c.args.number c.args.bytes.now sectors
    c.requires.works c.requires.next c.requires.spells c.requires.some c.requires.fits count
    (spelled_as items sectors c.number-root.result (root_number s) c.args.number c.args.bytes.now same c.number-root.ensures few c.in-Ok.ensures.read)
    c.in-Ok-record.ensures.ok c.write_protected.ensures.device.size c.write_protected.ensures.device.writes c.write_protected.ensures.leaves c.write_protected.ensures.keeps c.in_default-write_protected.ensures.outcome.1

pub returns-clause-commits : goal.returns-clause-commits
returns-clause-commits g c =
    let s = c.args.self.now in
    let items = c.in-Ok.sectors.items in
    let sectors = c.deref.result.now in
    let same : sectors ≡ items = c.deref.ensures.value in
    let count : length sectors ≡ length c.args.bytes.now / 488 = ap (λ (xs : List (List ℕ)). length xs) same ∙ c.in-Ok.ensures.count in
    let few : length items ≤ 6 = omega (arith, c.in-Ok.ensures.count, c.requires.fits) in
    append_done g.met.D.Device.only_now (λ device q faithful lt. g.met.D.Device.content_left device q faithful lt) s _ c.args.batch c.args.number c.args.bytes.now sectors
    c.requires.works c.requires.next c.requires.spells c.requires.some c.requires.fits count
    (spelled_as items sectors c.number-root.result (root_number s) c.args.number c.args.bytes.now same c.number-root.ensures few c.in-Ok.ensures.read)
    c.in-Ok-record.ensures.ok c.write_protected.ensures.device.size c.write_protected.ensures.device.writes c.write_protected.ensures.leaves c.write_protected.ensures.keeps
    refl (omega (arith, c.len.ensures, ap (λ (xs : List (List ℕ)). length xs) same)) c.in-Ok-write_protected.ensures.outcome c.in-Ok-write_protected.ensures.device.written c.in-Ok-write_protected.ensures.device.synced
    (omega (arith, c.requires.fits, count, s.room))

pub returns-clause-record : goal.returns-clause-record
returns-clause-record g c = (ap (λ (r : RootFields). r.number) c.write_protected.ensures.keeps.root, refl)
