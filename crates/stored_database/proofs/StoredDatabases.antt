-- Each whole database has records.
use Rattle.std.proofs.Common.{◌≡◌, ℕ, suc, List, [], ◌∷◌, ap, arith}
use Rattle.std.specs.declared.cmp.Ordering.TheVariants.{Less}
use Rattle.std.specs.Ordering.{nat_cmp}
use Rattle.store.specs.Records.{Records, IsOrdered}
use Rattle.abstract_database.specs.Lists.{Among}
use Rattle.abstract_database.specs.Database.{Table, Database}
use Rattle.abstract_database.specs.Whole.{Each, IsWhole, clauses_of}
use Rattle.stored_database.specs.Definitions.{TableDefinition}
use Rattle.expr_parser.specs.Written.{IsAsWritten}
use Rattle.stored_database.specs.Records.{StandsFor}
use Rattle.stored_database.specs.Entries.{entries_of}
use Rattle.stored_database.proofs.Spelled.{described_shown}
use Rattle.stored_database.proofs.Numbering.{numbered_from, of_numbered, definitions_of, described}
use Rattle.stored_database.proofs.KeyOrder.{is_less}
use Rattle.stored_database.proofs.OrderedEntries.{NumbersRise, ordered_entries}

numbers_rise : (db : Database) (n : ℕ) (ts : List Table) → NumbersRise (numbered_from db n ts)
numbers_rise db n [] = tt
numbers_rise db n (t ∷ ts) = (before, numbers_rise db (suc n) ts) where
  before : (u : TableDefinition) → Among u (numbered_from db (suc n) ts) → nat_cmp n u.id ≡ Less
  before u among =
      let found = of_numbered db (suc n) ts u among in
      let from = found.from in
      let is : found.number ≡ u.id = ap (λ (v : TableDefinition). v.id) found.is in
      is_less n u.id (omega (arith, from, is))

pub whole_stored : (db : Database) → IsWhole db → Each IsAsWritten (clauses_of db) → (records : Records) × IsOrdered records × StandsFor records db
whole_stored db w written =
    let s = described db w written in
    (entries_of (definitions_of db) s.rows, ordered_entries (definitions_of db) db s (numbers_rise db 1 db.tables), (definitions_of db, described_shown (definitions_of db) db s))
