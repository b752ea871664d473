-- A statement, from what is promised of its plan.
use Rattle.std.proofs.Common.{◌≡◌, Result, Ok, Err, refl, ap, sym, ◌∙◌, subst}
use Rattle.std.specs.Prelude.{IfOk, IfErr}
use Rattle.sql_types.specs.declared.answer.Answer.{Answer}
use Rattle.sql_ast.specs.declared.statement.RowStatement.{RowStatement}
use Rattle.sql_ast.specs.declared.statement.RowStatement.TheVariants as over_rows
use Rattle.store.specs.Records.{Records}
use Rattle.store.specs.declared.stop.StatementError.{StatementError}
use Rattle.expressions.specs.Meaning.{UserNames}
use Rattle.expressions.specs.Stages.{◌>>=◌}
use Rattle.abstract_database.specs.Lists.{TheName}
use Rattle.abstract_database.specs.Database.{Database}
use Rattle.abstract_database.specs.Statements.{exec_over_rows, performed}
use Rattle.stored_database.specs.Definitions.{Definitions}
use Rattle.stored_database.specs.Records.{Shows}
use Rattle.stored_database.proofs.Wholeness.{shown_described}
use Rattle.catalogue.specs.declared.effect.Effect.{Effect}
use Rattle.catalogue.specs.Executed.{Executes}
use Rattle.planner.specs.declared.plans.Plan.{Plan}
use Rattle.planner.specs.declared.plans.Plan.TheVariants as plan
use Rattle.planner.specs.Plans.{IsPlanOf, Means, HasRowsOfOneLength, checked_of}
use Rattle.table_rows.specs.Failures.{IsDamagedFor}
use Rattle.row_statements.specs.Damage.{StopsForDamage, FindsDamage}
use Rattle.row_statements.specs.Executed.{WritesAsRead, OnlyReads, PlansReads, Performs}
use Rattle.row_statements.specs.Reading.{AnswersBy, ReadsFor}
use Rattle.row_statements.specs.Users.{seen_users}
use Rattle.row_statements.proofs.Meanings.{staged}
use Rattle.row_statements.proofs.Damaging.{damaged_by}

-- the rows of an INSERT that the parser reads have one length
pub one_length : (db : Database) (users : UserNames) (s : RowStatement) → WritesAsRead db users s → HasRowsOfOneLength s
one_length db users (over_rows.Insert s) read = (read tt).1.one_length
one_length db users s read = tt

-- the plan of a SELECT is one
pub plans_reads : (d : Definitions) (current : TheName) (s : RowStatement) (p : Plan) → IsPlanOf d current s p → OnlyReads s → PlansReads p
plans_reads d current (over_rows.Select s) (plan.Select p) planned is = tt
plans_reads d current (over_rows.Select s) p planned is = absurd planned
plans_reads d current s p planned is = absurd is

reads_by : (r : Result Effect StatementError) (P Q : Answer → Type 0) → ((a : Answer) → P a → Q a) → IfOk r (λ effect. P effect.answer) → IfOk r (λ effect. Q effect.answer)
reads_by (Ok effect) P Q f h = f effect.answer h
reads_by (Err failure) P Q f h = tt

module _ (records : Records) (d : Definitions) (current session : TheName) (s : RowStatement) (p : Plan) (users : UserNames) (acts : users ≡ seen_users d.memberships current session) (planned : IsPlanOf d current s p) (result : Result Effect StatementError) where
  pub executed : Means d current s p → Performs records users p result → (db : Database) → Shows records d db → WritesAsRead db (seen_users db.memberships current session) s
      → Executes records d result (exec_over_rows db (seen_users db.memberships current session) s)
  executed means performs db shown read =
      let seen = seen_users db.memberships current session in
      let here : users ≡ seen = acts ∙ ap (λ (x : Database). seen_users x.memberships current session) (sym shown.is) in
      let meant : exec_over_rows db seen s ≡ performed db seen (checked_of p) = staged db seen s ∙ ap (λ r. r >>= performed db seen) (means (one_length db seen s read) db seen (shown_described records d db shown) refl) in
      subst (Executes records d result) (sym meant) (subst (λ (u : UserNames). Performs records u p result) here performs d db s shown planned read)

  pub damaged : StopsForDamage records users p result → IfErr result (IsDamagedFor (FindsDamage records d (seen_users d.memberships current session) s))
  damaged stops = damaged_by result _ _ (λ found. (p, planned, found)) (subst (λ (u : UserNames). StopsForDamage records u p result) acts stops d s planned)

  pub read : IfOk result (λ effect. AnswersBy records users p effect.answer) → IfOk result (λ effect. ReadsFor records d (seen_users d.memberships current session) s effect.answer)
  read h =
      let seen = seen_users d.memberships current session in
      reads_by result (AnswersBy records seen p) (ReadsFor records d seen s) (λ answer by. (p, planned, by)) (subst (λ (u : UserNames). IfOk result (λ effect. AnswersBy records u p effect.answer)) acts h)
