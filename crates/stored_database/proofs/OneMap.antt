-- Ordered records that show one database with one numbering of its tables are the same.
use Rattle.std.proofs.Common.{◌≡◌, List, [], ◌∷◌, length, refl, ap, sym, ◌∙◌, subst, arith}
use Rattle.std.specs.declared.cmp.Ordering.{Ordering}
use Rattle.std.specs.Cmp.Lexicographic.{nat_list_cmp_total}
use Rattle.sql_types.specs.Row.{Row}
use Rattle.store.specs.Records.{Record, Records, IsOrdered, key_cmp}
use Rattle.abstract_database.specs.Lists.{Among, Rising}
use Rattle.abstract_database.specs.Database.{Table, Database}
use Rattle.stored_database.specs.Definitions.{TableDefinition, Definitions, tables_with}
use Rattle.stored_database.specs.Records.{Shows}
use Rattle.stored_database.specs.Entries.{entries_of}
use Rattle.stored_database.proofs.Lists.{same_cons}
use Rattle.stored_database.proofs.AllRecords.{records_are_entries}
use Rattle.stored_database.proofs.Wholeness.{as_many}
use Rattle.stored_database.proofs.Numbering.{asymmetric, same_rising}
use Rattle.stored_database.proofs.OrderedEntries.{of_before}

abbrev record_cmp : Record → Record → Ordering
record_cmp a b = key_cmp a.0 b.0

ordered_rise : (es : Records) → IsOrdered es → Rising record_cmp es
ordered_rise [] h = tt
ordered_rise (e ∷ es) h = (of_before e.0 es h.0, ordered_rise es h.1)

-- rows are told by the tables that have them
told_rows : (ts : List TableDefinition) (xs ys : List (List Row)) → length xs ≡ length ts → length ys ≡ length ts → tables_with ts xs ≡ tables_with ts ys → xs ≡ ys
told_rows [] [] [] m n h = refl
told_rows [] (x ∷ xs) ys m n h = absurd (omega (arith, m))
told_rows [] [] (y ∷ ys) m n h = absurd (omega (arith, n))
told_rows (t ∷ ts) [] ys m n h = absurd (omega (arith, m))
told_rows (t ∷ ts) (x ∷ xs) [] m n h = absurd (omega (arith, n))
told_rows (t ∷ ts) (x ∷ xs) (y ∷ ys) m n h =
    same_cons (ap rows_of_first h) (told_rows ts xs ys (omega (arith, m)) (omega (arith, n)) (ap rest_of h))
  where
    rows_of_first : List Table → List Row
    rows_of_first [] = []
    rows_of_first (u ∷ us) = u.rows

    rest_of : List Table → List Table
    rest_of [] = []
    rest_of (u ∷ us) = us

pub one_map : (a b : Records) (d : Definitions) (db : Database) → IsOrdered a → IsOrdered b → Shows a d db → Shows b d db → a ≡ b
one_map a b d db p q s r =
    same_rising record_cmp (asymmetric record_cmp (λ x y. nat_list_cmp_total.antisymm x.0 y.0)) a b (ordered_rise a p) (ordered_rise b q)
    (λ e among. (records_are_entries b d e db r).1 (subst (λ (rows : List (List Row)). Among e (entries_of d rows)) rows ((records_are_entries a d e db s).0 among)))
    (λ e among. (records_are_entries a d e db s).1 (subst (λ (rows : List (List Row)). Among e (entries_of d rows)) (sym rows) ((records_are_entries b d e db r).0 among)))
  where
    rows : s.rows ≡ r.rows
    rows = told_rows d.tables s.rows r.rows (as_many a d.tables s.rows s.held) (as_many b d.tables r.rows r.held) (ap (λ (z : Database). z.tables) (sym s.is ∙ r.is))
