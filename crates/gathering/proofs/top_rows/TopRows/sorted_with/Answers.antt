use Rattle.std.proofs.Common.{◌∙◌, ◌-◌, List, Option, length, slice_get, ap, sym, arith}
use Rattle.gathering.specs.declared.keyed_row.KeyedRow.{KeyedRow}
use Rattle.gathering.specs.Entries.{follows}
use Rattle.gathering.proofs.Keeping.{one_more, still_ordered}
use Rattle.gathering.proofs.top_rows.TopRows.sorted_with.Goals as goal

pub returns-then-follows-clause-ordered : goal.returns-then-follows-clause-ordered
returns-then-follows-clause-ordered c =
    one_more c.args.self.now.rows.items c.args.row.now c.args.self.now.sorted c.args.self.now.within (omega arith) c.args.self.now.ordered
    (ap (λ (rows : List KeyedRow). follows (slice_get rows (length rows - 1)) c.args.row.now) (sym c.deref.ensures.value)
    ∙ ap (λ (last : Option KeyedRow). follows last c.args.row.now) (sym c.last.ensures.value)
    ∙ sym c.follows.ensures ∙ c.if-follows.true)

pub returns-else-follows-clause-ordered : goal.returns-else-follows-clause-ordered
returns-else-follows-clause-ordered c = still_ordered c.args.self.now.rows.items c.args.row.now c.args.self.now.sorted c.args.self.now.within c.args.self.now.ordered
