-- What a statement finds where it looks for rows: no record outside its ranges of keys makes it answer that the database is damaged.
use Rattle.std.specs.Prelude.{ℕ, List, [], ◌∷◌, Option, Some, None, Result, IfErr}
use Rattle.sql_types.specs.Row.{Row}
use Rattle.sql_ast.specs.declared.statement.RowStatement.{RowStatement}
use Rattle.expressions.specs.Meaning.{UserNames}
use Rattle.expressions.specs.Types.{TypedTerm}
use Rattle.store.specs.Records.{Records, entries_where, has_prefix}
use Rattle.store.specs.declared.stop.StatementError.{StatementError}
use Rattle.row_codec.specs.Rows.{row_prefix}
use Rattle.stored_database.specs.Definitions.{Definitions}
use Rattle.catalogue.specs.declared.effect.Effect.{Effect}
use Rattle.key_ranges.specs.declared.range.KeyRange.{KeyRange}
use Rattle.key_ranges.specs.Boxes.{AreRolesFor}
use Rattle.key_ranges.specs.Ranges.{records_in}
use Rattle.planner.specs.declared.sources.Source.{Source}
use Rattle.planner.specs.declared.plans.Plan.{Plan}
use Rattle.planner.specs.declared.plans.Plan.TheVariants as plan
use Rattle.planner.specs.Plans.{IsPlanOf}
use Rattle.table_rows.specs.Failures.{IsDamagedFor}
use Rattle.table_rows.specs.HeldRows.{AreRecordsOf}
use Rattle.row_statements.specs.Ranges.{range_where, ranges_among}

-- ---- the records among the keys where rows are looked for

-- the records of the table of this number, or of a range of its keys
abbrev pub records_among : ℕ → Option KeyRange → Records → Records
records_among id None records = entries_where (has_prefix (row_prefix id)) records
records_among id (Some range) records = records_in range records

-- they are those of these rows of the table
abbrev pub FindsRowsIn : Records → Source → Option KeyRange → List Row → Type 0
FindsRowsIn records s range rows = AreRecordsOf s.table.now.id s.table.now.definition.layout rows (records_among s.table.now.id range records)

-- the same of each table, in its range
abbrev pub FindRowsAmong : Records → List Source → List (Option KeyRange) → List (List Row) → Type 0
FindRowsAmong records [] [] [] = Unit {0}
FindRowsAmong records (s ∷ sources) (range ∷ ranges) (rows ∷ more) = FindsRowsIn records s range rows × FindRowsAmong records sources ranges more
FindRowsAmong records _ _ _ = ⊥

-- ---- damage

-- where an UPDATE or a DELETE looks, a record is of no row
abbrev pub IsDamagedWhere : Records → UserNames → List (List ℕ) → Source → Option TypedTerm → Type 0
IsDamagedWhere records users roles s condition = (rows : List Row) → FindsRowsIn records s (range_where users roles s condition) rows → ⊥

-- where a SELECT looks, a record is of no row
abbrev pub IsDamagedAmong : Records → UserNames → List (List ℕ) → List Source → List TypedTerm → Type 0
IsDamagedAmong records users roles sources conditions = (lists : List (List Row)) → FindRowsAmong records sources (ranges_among users roles conditions 0 sources) lists → ⊥

-- where this plan looks, by a role that is in these, a record is of no row: of an INSERT nothing is said
abbrev pub MeetsDamageIn : Records → UserNames → List (List ℕ) → Plan → Type 0
MeetsDamageIn records users roles (plan.Select p) = IsDamagedAmong records users roles p.sources p.query.conditions
MeetsDamageIn records users roles (plan.Insert p) = Unit {0}
MeetsDamageIn records users roles (plan.Update p) = IsDamagedWhere records users roles p.target p.condition
MeetsDamageIn records users roles (plan.Delete p) = IsDamagedWhere records users roles p.target p.condition

-- the same by the roles of these users
pub record MeetsDamage (records : Records) (users : UserNames) (p : Plan) : Type 0 where
  pub roles : List (List ℕ)
  pub are_roles : AreRolesFor users roles
  pub met : MeetsDamageIn records users roles p

-- whatever statement it is a plan of, it stops for damage for this alone
abbrev pub StopsForDamage : Records → UserNames → Plan → Result Effect StatementError → Type 0
StopsForDamage records users p result = (d : Definitions) (s : RowStatement) → IsPlanOf d users.current s p → IfErr result (IsDamagedFor (MeetsDamage records users p))

-- there is a record of no row where a plan of the statement looks
abbrev pub FindsDamage : Records → Definitions → UserNames → RowStatement → Type 0
FindsDamage records d users s = (p : Plan) × IsPlanOf d users.current s p × MeetsDamage records users p
