-- A table without its guard, where this lets each row pass that may be found.
use Rattle.std.proofs.Common.{◌≡◌, ◌++◌, true, List, [], ◌∷◌, Result, Ok, Err, Bor, ap, sym, subst, ◌∙◌}
use Rattle.sql_types.specs.Row.{Row}
use Rattle.sql_types.specs.declared.state.SqlState.{SqlState}
use Rattle.sql_types.specs.declared.value.Value.TheVariants.{Bool as Boolean}
use Rattle.expressions.specs.Meaning.{UserNames}
use Rattle.expressions.specs.Stages.{◌>>=◌}
use Rattle.abstract_database.specs.Expressions.{passing}
use Rattle.abstract_database.specs.Lists.{Among}
use Rattle.abstract_database.specs.Queries.{product, query}
use Rattle.abstract_database.specs.Whole.{Each}
use Rattle.guards.specs.declared.guard.Formula.{Formula}
use Rattle.guards.specs.declared.guard.Guard.{Guard}
use Rattle.guards.specs.Guards.{row_guard}
use Rattle.gathering.specs.declared.query.Query.{Query}
use Rattle.gathering.specs.Queries.{answered, bound_of}
use Rattle.store.specs.Records.{Records, IsOrdered}
use Rattle.store.specs.declared.fault.Fault.TheVariants.{Memory, Device, Damaged}
use Rattle.store.specs.declared.stop.StatementError.{StatementError}
use Rattle.store.specs.declared.stop.StatementError.TheVariants.{Refused, Failed}
use Rattle.table_rows.specs.declared.target.Target.{Target}
use Rattle.table_rows.specs.Failures.{Answers}
use Rattle.table_rows.specs.Ranged.{FindsRows}
use Rattle.table_rows.specs.Targets.{sees, users_of}
use Rattle.executor.specs.FoundOrder.{MayBeFound}
use Rattle.executor.specs.Known.{without, LetsAllThrough}
use Rattle.executor.specs.Selected.{source_of, AnswersFront, ReadsAs}
use Rattle.executor.proofs.CountedRows.{passes_each}
use Rattle.executor.proofs.FoundOrder.{found_may_be}

module _ (table : Target) (guard : Bor Guard) (none : guard.now.existing ≡ []) (through : LetsAllThrough table (users_of table) []) where
  abbrev other : Target
  other = without table guard

  unguarded : (row : Row) → sees other row ≡ Ok (Boolean true)
  unguarded row = ap (λ (fs : List Formula). row_guard (users_of table) fs row) none

  same_answer : (users : UserNames) (q : Query) (rows : List Row) → Each (MayBeFound table) rows → query (source_of other rows ∷ []) users (bound_of q) ≡ query (source_of table rows ∷ []) users (bound_of q)
  same_answer users q rows each =
      ap (λ (r : Result (List Row) SqlState). (r >>= λ seen. Ok (seen ∷ [])) >>= λ visible. answered users (bound_of q) (product visible))
      (passes_each (sees other) rows (λ row among. unguarded row) ∙ sym (passes_each (sees table) rows (λ row among. (through row (each row among)).seen)))

  same_front : (records : Records) (users : UserNames) (q : Query) (answer : Result (List Row) SqlState) → AnswersFront other records users q answer → AnswersFront table records users q answer
  same_front records users q answer f = record {
    front = f.front;
    behind = f.behind;
    parts = f.parts;
    spelled = f.spelled;
    decides = λ rows rest are rests rising each fit.
        sym (same_answer users q (rows ++ rest) each) ∙ f.decides rows rest are rests rising (λ row among. let may = each row among in record { fits = may.fits; inside = may.inside }) fit;
  }

  same_read : (records : Records) (users : UserNames) (q : Query) (r : Result (List Row) StatementError) → ReadsAs (AnswersFront other records users q) other records r → ReadsAs (AnswersFront table records users q) table records r
  same_read records users q (Ok rows) read = same_front records users q (Ok rows) read
  same_read records users q (Err (Refused code)) read = same_front records users q (Err code) read
  same_read records users q (Err (Failed Memory)) read = tt
  same_read records users q (Err (Failed Device)) read = tt
  same_read records users q (Err (Failed Damaged)) read = read

-- what a walk without the guard answers is answered with it
pub unguarded_answers : (table other : Target) (guard : Bor Guard) (users : UserNames) (q : Query) (records : Records) (rows : List Row) (r : Result (List Row) StatementError) → other ≡ without table guard → guard.now.existing ≡ []
    → LetsAllThrough table (users_of table) [] → IsOrdered records → FindsRows table records rows
    → (FindsRows other records rows → Answers r (query (source_of other rows ∷ []) users (bound_of q))) → Answers r (query (source_of table rows ∷ []) users (bound_of q))
unguarded_answers table other guard users q records rows r is none through ordered found answers =
    let told = subst (λ (t : Target). FindsRows t records rows → Answers r (query (source_of t rows ∷ []) users (bound_of q))) is answers in
    subst (λ (m : Result (List Row) SqlState). Answers r m) (same_answer table guard none through users q rows (found_may_be table records rows ordered found)) (told found)

-- and what it read
pub unguarded_read : (table other : Target) (guard : Bor Guard) (users : UserNames) (q : Query) (records : Records) (r : Result (List Row) StatementError) → other ≡ without table guard → guard.now.existing ≡ []
    → LetsAllThrough table (users_of table) [] → ReadsAs (AnswersFront other records users q) other records r → ReadsAs (AnswersFront table records users q) table records r
unguarded_read table other guard users q records r is none through read =
    same_read table guard none through records users q r (subst (λ (t : Target). ReadsAs (AnswersFront t records users q) t records r) is read)
