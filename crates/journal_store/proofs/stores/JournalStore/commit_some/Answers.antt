use Rattle.std.proofs.Common.{◌≤◌, ◌+◌, ◌/◌, ℕ, List, length, refl, sym, subst, arith}
use Rattle.journal_store.specs.Stores.{end_of_records, root_number}
use Rattle.journal_store.proofs.Records.{refused_memory, refused_number, some_part}
use Rattle.journal_store.proofs.Rooms.{by_record}
use Rattle.journal_store.proofs.stores.JournalStore.commit_some.Goals as goal

pub returns-then-number-clause-commits : goal.returns-then-number-clause-commits
returns-then-number-clause-commits g c = refused_number g.met.D.Device.only_now c.args.self.now _ c.requires.works (omega (arith, c.if-number.true, c.number-number.ensures))

pub returns-in_default-clause-commits : goal.returns-in_default-clause-commits
returns-in_default-clause-commits g c = refused_memory g.met.D.Device.only_now c.args.self.now _ _ c.requires.works refl refl refl refl

pub returns-in_default-try_copy-clause-commits : goal.returns-in_default-try_copy-clause-commits
returns-in_default-try_copy-clause-commits g c = refused_memory g.met.D.Device.only_now c.args.self.now _ _ c.requires.works refl refl refl refl

pub append-requires-clause-some : goal.append-requires-clause-some
append-requires-clause-some g c =
    subst (λ (xs : List ℕ). 1 ≤ length xs / 488) (sym c.deref.ensures.value) (some_part c.in-Ok.bytes.items c.args.batch.now c.requires.some c.in-Ok.ensures)

pub append-requires-clause-fits : goal.append-requires-clause-fits
append-requires-clause-fits g c =
    subst (λ (xs : List ℕ). end_of_records c.args.self.now + length xs / 488 ≤ 6) (sym c.deref.ensures.value) (c.if-not-may_record.ensures.sectors refl c.in-Ok.bytes.items c.in-Ok.ensures)

-- a record of the next number
pub returns-clause-rises : goal.returns-clause-rises
returns-clause-rises g c sound =
    let s = c.args.self.now in
    by_record c.append.result _ (root_number s) s.top c.number-number.result _ _ c.number-number.ensures c.append.ensures.record
