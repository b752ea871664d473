use Rattle.std.proofs.Common.{◌≡◌, false, inl, inr, nat_lt, sym, ◌∙◌, arith}
use Rattle.std.proofs.lemmas.Bool.{ltb-false}
use Rattle.journal_store.proofs.Rooms.{nothing_waits}
use Rattle.journal_store.proofs.stores.JournalStore.waits_under.Goals.{then-self-gt0, else-self-gt0}
use Rattle.journal_store.proofs.stores.JournalStore.waits_under.Goals as goal

-- no record takes a sector, or none has a number above the root's
pub returns-else-number-clause-none : goal.returns-else-number-clause-none
returns-else-number-clause-none g c sound works same none = elim c.if-self-gt0.branch [
  | then-self-gt0 w ↦ inr (let above : nat_lt w.number.result c.args.number ≡ false = sym w.value-is ∙ c.if-number.false in omega (arith, same, ltb-false w.number.result c.args.number above, w.number.ensures))
  | else-self-gt0 w ↦ inl (nothing_waits c.args.self.now sound works (omega (arith, w.if-self-gt0.false)))
]
