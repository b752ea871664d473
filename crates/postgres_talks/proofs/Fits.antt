-- That rows fit the columns that were said before them.
use Rattle.std.proofs.Common.{◌≡◌, ℕ, Bool, true, false, ◌&&◌, if◌then◌else◌, List, [], ◌∷◌, ◌++◌, map, length, Option, Some, None, refl, sym, subst}
use Rattle.sql_ast.specs.declared.columns.ColumnType.{ColumnType}
use Rattle.sql_ast.specs.declared.columns.ColumnType.TheVariants as column_type
use Rattle.sql_ast.specs.declared.description.ResultColumn.{ResultColumn}
use Rattle.sql_ast.specs.declared.description.StatementDescription.{StatementDescription}
use Rattle.sql_ast.specs.declared.description.StatementDescription.TheVariants as description
use Rattle.sql_types.specs.declared.value.Value.{Value}
use Rattle.sql_types.specs.declared.value.Value.TheVariants as value
use Rattle.sql_types.specs.declared.answer.Answer.{Answer}
use Rattle.sql_types.specs.declared.answer.Answer.TheVariants as answer
use Rattle.sql_types.specs.declared.state.SqlState.TheVariants as state
use Rattle.sql_types.specs.declared.warning.Warning.{Warning}
use Rattle.talks.specs.declared.want.BlockStanding.{BlockStanding}
use Rattle.talks.specs.declared.want.BlockStanding.TheVariants as standing
use Rattle.talks.specs.declared.want.Reply.TheVariants as reply
use Rattle.postgres_messages.specs.Backend.{TheColumn, portal_suspended}
use Rattle.postgres_messages.specs.declared.backend.ValueFormat.{ValueFormat}
use Rattle.postgres_talks.specs.Formats.{next_format, other_formats}
use Rattle.postgres_talks.specs.declared.fault.TalkFault.{TalkFault}
use Rattle.postgres_talks.specs.declared.fault.TalkFault.TheVariants as fault
use Rattle.postgres_talks.specs.declared.moment.TalkBlock.{TalkBlock}
use Rattle.postgres_talks.specs.declared.moment.TalkBlock.TheVariants as block
use Rattle.postgres_talks.specs.declared.moment.DescribedKind.{DescribedKind}
use Rattle.postgres_talks.specs.declared.moment.DescribedKind.TheVariants as named
use Rattle.postgres_talks.specs.declared.moment.Mode.{Mode}
use Rattle.postgres_talks.specs.declared.moment.Mode.TheVariants as mode
use Rattle.postgres_talks.specs.declared.moment.TalkStage.{TalkStage}
use Rattle.postgres_talks.specs.declared.moment.TalkStage.TheVariants as stage
use Rattle.postgres_talks.specs.declared.moment.TalkMoment.{TalkMoment}
use Rattle.postgres_talks.specs.declared.settled.Settled.{Settled}
use Rattle.postgres_talks.specs.declared.outcome.Outcome.{Outcome}
use Rattle.postgres_talks.specs.declared.outcome.Outcome.TheVariants as outcome
use Rattle.postgres_talks.specs.declared.requests.Request.{Request}
use Rattle.postgres_talks.specs.declared.requests.Request.TheVariants as request
use Rattle.postgres_talks.specs.Fitting.{AreFieldsOf, IsFieldOf, RowsFit, has_type}
use Rattle.postgres_talks.proofs.Typings.{typing_fits}
use Rattle.postgres_talks.specs.Moments.{answer_said, head_told, oids_told, parameters_said, ran, said_answered, said_closing, said_described, said_discarded, said_emptying, said_failed, said_judging, said_nothing_told, said_opened, said_own, said_refusing, said_resuming, said_rolled_back, said_row_told, said_run, said_settling, said_standing, said_to_reply, said_told, settled_columns, settled_head, settled_rows, settled_said, spares, table_said, warnings_said, within_room}
use Rattle.postgres_talks.specs.Labels.{labelled_description}
use Rattle.postgres_talks.specs.Portals.{rows_in}
use Rattle.std.specs.Prelude.{◌==◌, ◌||◌, nat_lt, take, zero, suc}
use Rattle.postgres_talks.specs.Outcomes.{commit_outcome, description_outcome, discard_outcome, outcome_of, table_outcome, warning_of}
use Rattle.postgres_talks.specs.Played.{Input, asked, bad, said_to_input, told}
use Rattle.postgres_talks.specs.Requests.{fault_of, heeded, said_to_done, said_to_request, said_unless}
use Rattle.postgres_talks.specs.Rows.{are_rows_of, data_type_of, described_column, described_columns, is_row_of, is_value_of, row_said, rows_said, select_tag, value_in, values_in}
use Rattle.postgres_talks.specs.Sayings.{Saying, complete_said, message}
use Rattle.postgres_talks.specs.Settled.{settled_tag, told_row}
use Rattle.postgres_talks.specs.Tags.{done_tag}

both : (a b : Bool) → (a && b) ≡ true → (a ≡ true) × (b ≡ true)
both true b is = (refl, is)
both false b is = cc

-- ---- rows

type_kept : (t : ColumnType) (v : Value) → is_value_of t v ≡ true → has_type (data_type_of t) v ≡ true
type_kept column_type.BigInt value.Null is = refl
type_kept column_type.BigInt (value.Int n) is = refl
type_kept column_type.BigInt (value.Text s) is = cc
type_kept column_type.BigInt (value.Bool b) is = cc
type_kept column_type.Text value.Null is = refl
type_kept column_type.Text (value.Int n) is = cc
type_kept column_type.Text (value.Text s) is = refl
type_kept column_type.Text (value.Bool b) is = cc
type_kept column_type.Boolean value.Null is = refl
type_kept column_type.Boolean (value.Int n) is = cc
type_kept column_type.Boolean (value.Text s) is = cc
type_kept column_type.Boolean (value.Bool b) is = refl

field_fits : (f : ValueFormat) (c : ResultColumn) (v : Value) → is_value_of c.column_type v ≡ true → IsFieldOf (described_column f c) (value_in f v)
field_fits f c v is = (v, type_kept c.column_type v is, refl)

row_fits : (fs : List ValueFormat) (cs : List ResultColumn) (row : List Value) → is_row_of cs row ≡ true → AreFieldsOf (described_columns fs cs) (values_in fs row)
row_fits fs [] [] is = tt
row_fits fs [] (v ∷ vs) is = absurd (wrong is) where
  wrong : false ≡ true → ⊥
  wrong e = cc
row_fits fs (c ∷ cs) [] is = absurd (wrong is) where
  wrong : false ≡ true → ⊥
  wrong e = cc
row_fits fs (c ∷ cs) (v ∷ vs) is =
    let parts = both (is_value_of c.column_type v) (is_row_of cs vs) is in
    (field_fits (next_format fs) c v parts.0, row_fits (other_formats fs) cs vs parts.1)

rows_fit : (fs : List ValueFormat) (cs : List ResultColumn) (rows : List (List Value)) (behind : List Saying) → are_rows_of cs rows ≡ true
    → RowsFit (Some (described_columns fs cs)) behind → RowsFit (Some (described_columns fs cs)) (map (row_said fs) rows ++ behind)
rows_fit fs cs [] behind are fit = fit
rows_fit fs cs (row ∷ rows) behind are fit =
    let parts = both (is_row_of cs row) (are_rows_of cs rows) are in
    (row_fits fs cs row parts.0, rows_fit fs cs rows behind parts.1 fit)

all_on : (a b : Bool) → a ≡ true → b ≡ true → (a && b) ≡ true
all_on true b e f = f
all_on false b e f = absurd (cc)

some_rows : (n : ℕ) (cs : List ResultColumn) (rows : List (List Value)) → are_rows_of cs rows ≡ true → are_rows_of cs (take n rows) ≡ true
some_rows zero cs rows are = refl
some_rows (suc n) cs [] are = refl
some_rows (suc n) cs (row ∷ rows) are =
    let parts = both (is_row_of cs row) (are_rows_of cs rows) are in all_on (is_row_of cs row) (are_rows_of cs (take n rows)) parts.0 (some_rows n cs rows parts.1)

limited_fit : (all : Bool) (most : ℕ) (fs : List ValueFormat) (cs : List ResultColumn) (rows : List (List Value)) → are_rows_of cs rows ≡ true
    → RowsFit (Some (described_columns fs cs)) (if all then rows_said fs rows else map (row_said fs) (take most rows) ++ message portal_suspended ∷ [])
limited_fit true most fs cs rows are = rows_fit fs cs rows (complete_said (select_tag (length rows)) ∷ []) are tt
limited_fit false most fs cs rows are = rows_fit fs cs (take most rows) (message portal_suspended ∷ []) (some_rows most cs rows are) tt

-- the rows of an answer that is told
if_done : (b : Bool) → (if b then outcome.Done else outcome.Refused fault.OtherColumns) ≡ outcome.Done → b ≡ true
if_done true is = refl
if_done false is = cc

table_fits : (t : Mode) (most : ℕ) (fs : List ValueFormat) (columns : Option (List ResultColumn)) (rows : List (List Value)) → t ≡ mode.Query → table_outcome t columns rows ≡ outcome.Done
    → RowsFit None (table_said t most fs columns rows)
table_fits mode.Query most fs None rows is done = tt
table_fits mode.Query most fs (Some cs) rows is done = rows_fit [] cs rows (complete_said (select_tag (length rows)) ∷ []) (if_done (are_rows_of cs rows) done) tt
table_fits mode.Batch most fs columns rows is done = absurd (wrong is) where
  wrong : mode.Batch ≡ mode.Query → ⊥
  wrong e = cc
table_fits mode.Skipping most fs columns rows is done = absurd (wrong is) where
  wrong : mode.Skipping ≡ mode.Query → ⊥
  wrong e = cc

-- ---- what is said to replies

warnings_fit : (h : Option (List TheColumn)) (w : Option Warning) (tag : List ℕ) → RowsFit h (warnings_said w ++ complete_said tag ∷ [])
warnings_fit h None tag = tt
warnings_fit h (Some w) tag = tt

-- rows that are told are those of their columns
table_done : (o : Outcome) (m : TalkMoment) (rows : List (List Value)) → within_room o m rows ≡ outcome.Done → o ≡ outcome.Done
table_done outcome.Done m rows is = refl
table_done (outcome.Refused f) m rows is = is
table_done (outcome.Breaks f) m rows is = is

answer_fits : (m : TalkMoment) (a : Answer) → m.mode ≡ mode.Query → ran m a ≡ outcome.Done → RowsFit None (answer_said m a)
answer_fits m (answer.Rows rows) is done = table_fits m.mode m.most m.formats m.columns rows is (table_done (table_outcome m.mode m.columns rows) m rows done)
answer_fits m (answer.Done t count w) is done = warnings_fit None (warning_of m.block t w) (done_tag t count)
answer_fits m (answer.Refused s) is done = tt

run_fits : (m : TalkMoment) (a : Answer) (o : Outcome) → m.mode ≡ mode.Query → ran m a ≡ o → RowsFit None (said_run m a o)
run_fits m a outcome.Done is done = answer_fits m a is done
run_fits m a (outcome.Refused f) is done = tt
run_fits m a (outcome.Breaks f) is done = tt

own_fits : (o : Outcome) → RowsFit None (said_own o)
own_fits outcome.Done = tt
own_fits (outcome.Refused f) = tt
own_fits (outcome.Breaks f) = tt

opened_fits : (process : ℕ) (a : Answer) → RowsFit None (said_opened process a)
opened_fits process (answer.Rows rows) = tt
opened_fits process (answer.Done t count w) = tt
opened_fits process (answer.Refused s) = tt

rolled_back_fits : (a : Answer) → RowsFit None (said_rolled_back a)
rolled_back_fits (answer.Rows rows) = tt
rolled_back_fits (answer.Done t count w) = tt
rolled_back_fits (answer.Refused s) = tt

discarded_fits : (o : Outcome) → RowsFit None (said_discarded o)
discarded_fits outcome.Done = tt
discarded_fits (outcome.Refused f) = tt
discarded_fits (outcome.Breaks f) = tt

answered_fits : (s : TalkStage) (m : TalkMoment) (a : Answer) → m.mode ≡ mode.Query → RowsFit None (said_answered s m a)
answered_fits stage.Opening m a is = opened_fits m.process a
answered_fits stage.Beginning m a is = own_fits (outcome_of m.block a)
answered_fits stage.Running m a is = run_fits m a (ran m a) is refl
answered_fits stage.Committing m a is = own_fits (commit_outcome a)
answered_fits stage.RollingBack m a is = rolled_back_fits a
answered_fits stage.Discarding m a is = discarded_fits (discard_outcome a)
answered_fits (stage.Failing f) m a is = tt
answered_fits stage.Starting m a is = tt
answered_fits stage.Ready m a is = tt
answered_fits (stage.Telling k) m a is = tt
answered_fits (stage.Typing at c) m a is = tt
answered_fits (stage.TellingRow k x) m a is = tt
answered_fits (stage.TellingNothing k) m a is = tt
answered_fits stage.Describing m a is = tt
answered_fits (stage.Refusing f) m a is = tt
answered_fits (stage.Judging f) m a is = tt
answered_fits stage.Closing m a is = tt
answered_fits (stage.Settling x) m a is = tt
answered_fits stage.Emptying m a is = tt
answered_fits stage.Resuming m a is = tt
answered_fits stage.Ended m a is = tt

failed_fits : (b : TalkBlock) (t : Mode) (f : TalkFault) (s : BlockStanding) → RowsFit None (said_failed b t f s)
failed_fits block.Implicit t f s = tt
failed_fits block.Outside mode.Query f s = tt
failed_fits block.Outside mode.Batch f s = tt
failed_fits block.Outside mode.Skipping f s = tt
failed_fits block.Open mode.Query f s = tt
failed_fits block.Open mode.Batch f s = tt
failed_fits block.Open mode.Skipping f s = tt
failed_fits block.Failed mode.Query f s = tt
failed_fits block.Failed mode.Batch f s = tt
failed_fits block.Failed mode.Skipping f s = tt

spared_fits : (x : Bool) (b : TalkBlock) (t : Mode) (f : TalkFault) → RowsFit None (if x then said_failed b t f standing.Inside else [])
spared_fits true b t f = failed_fits b t f standing.Inside
spared_fits false b t f = tt

refusing_fits : (b : TalkBlock) (t : Mode) (f : TalkFault) (s : Option BlockStanding) → RowsFit None (said_refusing b t f s)
refusing_fits b t f None = tt
refusing_fits b t f (Some standing.Inside) = spared_fits (spares f) b t f
refusing_fits b t f (Some standing.Outside) = failed_fits b t f standing.Outside
refusing_fits b t f (Some standing.Failed) = failed_fits b t f standing.Failed

judging_fits : (b : TalkBlock) (t : Mode) (f : TalkFault) (s : Option BlockStanding) → RowsFit None (said_judging b t f s)
judging_fits b t f None = tt
judging_fits b t f (Some standing.Inside) = tt
judging_fits b t f (Some standing.Outside) = failed_fits b t f standing.Outside
judging_fits b t f (Some standing.Failed) = failed_fits b t f standing.Failed

closing_fits : (s : Option BlockStanding) → RowsFit None (said_closing s)
closing_fits None = tt
closing_fits (Some s) = tt

emptying_fits : (s : Option BlockStanding) → RowsFit None (said_emptying s)
emptying_fits None = tt
emptying_fits (Some s) = tt

row_of_text : (r : Option (List ℕ × List ℕ)) (tag : List ℕ) → RowsFit None (settled_columns mode.Query r ++ (settled_rows r ++ complete_said tag ∷ []))
row_of_text None tag = tt
row_of_text (Some r) tag = (((value.Text r.1, refl, refl), tt), tt)

settled_fits : (t : Mode) (ls : List (Option (List ℕ))) (x : Settled) → t ≡ mode.Query → RowsFit None (settled_said t ls x)
settled_fits t ls x is = subst (λ (u : Mode). RowsFit None (settled_said u ls x)) (sym is) (row_of_text (told_row ls x) (settled_tag x))

settling_fits : (b : TalkBlock) (t : Mode) (ls : List (Option (List ℕ))) (x : Settled) (s : Option BlockStanding) → t ≡ mode.Query → RowsFit None (said_settling b t ls x s)
settling_fits b t ls x None is = tt
settling_fits b t ls x (Some standing.Failed) is = failed_fits b t (fault.Refused state.InFailedTransaction) standing.Failed
settling_fits b t ls x (Some standing.Inside) is = settled_fits t ls x is
settling_fits b t ls x (Some standing.Outside) is = settled_fits t ls x is

head_fits : (k : DescribedKind) (oids : List ℕ) (f : ValueFormat) (r : Option (List ℕ × List ℕ)) → RowsFit None (parameters_said k oids ++ settled_head f r)
head_fits named.Statement oids f None = tt
head_fits named.Statement oids f (Some r) = tt
head_fits named.Portal oids f None = tt
head_fits named.Portal oids f (Some r) = tt

row_told_fits : (k : DescribedKind) (oids : List ℕ) (b : TalkBlock) (t : Mode) (f : ValueFormat) (r : Option (List ℕ × List ℕ)) (s : Option BlockStanding) → RowsFit None (said_row_told k oids b t f r s)
row_told_fits k oids b t f r None = tt
row_told_fits k oids b t f r (Some standing.Failed) = failed_fits b t (fault.Refused state.InFailedTransaction) standing.Failed
row_told_fits k oids b t f r (Some standing.Inside) = head_fits k oids f r
row_told_fits k oids b t f r (Some standing.Outside) = head_fits k oids f r

nothing_told_fits : (k : DescribedKind) (oids : List ℕ) (s : Option BlockStanding) → RowsFit None (said_nothing_told k oids s)
nothing_told_fits k oids None = tt
nothing_told_fits named.Statement oids (Some s) = tt
nothing_told_fits named.Portal oids (Some s) = tt

rows_run_fits : (m : TalkMoment) (rows : List (List Value)) (o : Outcome) → m.mode ≡ mode.Query → table_outcome m.mode m.columns rows ≡ o → RowsFit None (said_run m (answer.Rows rows) o)
rows_run_fits m rows outcome.Done is done = table_fits m.mode m.most m.formats m.columns rows is done
rows_run_fits m rows (outcome.Refused f) is done = tt
rows_run_fits m rows (outcome.Breaks f) is done = tt

resuming_fits : (m : TalkMoment) (s : Option BlockStanding) → m.mode ≡ mode.Query → RowsFit None (said_resuming m s)
resuming_fits m None is = tt
resuming_fits m (Some standing.Outside) is = tt
resuming_fits m (Some standing.Failed) is = tt
resuming_fits m (Some standing.Inside) is = rows_run_fits m (rows_in m.portal) (table_outcome m.mode m.columns (rows_in m.portal)) is refl

standing_fits : (t : TalkStage) (m : TalkMoment) (s : Option BlockStanding) → m.mode ≡ mode.Query → RowsFit None (said_standing t m s)
standing_fits (stage.Refusing f) m s is = refusing_fits m.block m.mode f s
standing_fits (stage.Judging f) m s is = judging_fits m.block m.mode f s
standing_fits stage.Closing m s is = closing_fits s
standing_fits (stage.Settling x) m s is = settling_fits m.block m.mode m.labels x s is
standing_fits stage.Emptying m s is = emptying_fits s
standing_fits stage.Resuming m s is = resuming_fits m s is
standing_fits (stage.TellingRow k x) m s is = row_told_fits k (oids_told m) m.block m.mode (next_format m.formats) (told_row m.labels x) s
standing_fits (stage.TellingNothing k) m s is = nothing_told_fits k (oids_told m) s
standing_fits (stage.Telling k) m s is = tt
standing_fits (stage.Typing at c) m s is = tt
standing_fits stage.Discarding m s is = tt
standing_fits stage.Starting m s is = tt
standing_fits stage.Opening m s is = tt
standing_fits stage.Ready m s is = tt
standing_fits stage.Describing m s is = tt
standing_fits stage.Beginning m s is = tt
standing_fits stage.Running m s is = tt
standing_fits stage.Committing m s is = tt
standing_fits stage.RollingBack m s is = tt
standing_fits (stage.Failing f) m s is = tt
standing_fits stage.Ended m s is = tt

head_told_fits : (k : DescribedKind) (oids : List ℕ) (fs : List ValueFormat) (d : StatementDescription) → RowsFit None (head_told k oids fs d)
head_told_fits named.Statement oids fs (description.Rows columns) = tt
head_told_fits named.Portal oids fs (description.Rows columns) = tt
head_told_fits named.Statement oids fs description.NoRows = tt
head_told_fits named.Portal oids fs description.NoRows = tt
head_told_fits named.Statement oids fs (description.Refused s) = tt
head_told_fits named.Portal oids fs (description.Refused s) = tt

told_fits : (k : DescribedKind) (oids : List ℕ) (fs : List ValueFormat) (d : StatementDescription) (o : Outcome) → RowsFit None (said_told k oids fs d o)
told_fits k oids fs d outcome.Done = head_told_fits k oids fs d
told_fits k oids fs d (outcome.Refused f) = tt
told_fits k oids fs d (outcome.Breaks f) = tt

described_fits : (s : TalkStage) (m : TalkMoment) (d : StatementDescription) → RowsFit None (said_described s m d)
described_fits stage.Describing m d = own_fits (description_outcome m.columns m.formats d)
described_fits (stage.Typing at c) m d = typing_fits None at c m d
described_fits (stage.Telling k) m d = told_fits k (oids_told m) m.formats d (description_outcome None m.formats d)
described_fits (stage.TellingRow k x) m d = tt
described_fits (stage.TellingNothing k) m d = tt
described_fits stage.Opening m d = tt
described_fits stage.Beginning m d = tt
described_fits stage.Running m d = tt
described_fits stage.Committing m d = tt
described_fits stage.RollingBack m d = tt
described_fits (stage.Failing f) m d = tt
described_fits stage.Starting m d = tt
described_fits stage.Ready m d = tt
described_fits (stage.Refusing f) m d = tt
described_fits (stage.Judging f) m d = tt
described_fits stage.Closing m d = tt
described_fits (stage.Settling x) m d = tt
described_fits stage.Emptying m d = tt
described_fits stage.Resuming m d = tt
described_fits stage.Discarding m d = tt
described_fits stage.Ended m d = tt

done_fits : (h : Option (List TheColumn)) (r : Request) → RowsFit h (said_to_done r)
done_fits h request.Encryption = tt
done_fits h (request.Login role) = tt
done_fits h (request.Statements pieces) = tt
done_fits h (request.Prepare name p) = tt
done_fits h (request.PrepareTemplate name t) = tt
done_fits h (request.Bind name prepared bound fs) = tt
done_fits h (request.Execute name n) = tt
done_fits h (request.DescribeStatement name) = tt
done_fits h (request.DescribePortal name) = tt
done_fits h (request.CloseStatement name) = tt
done_fits h (request.ClosePortal name) = tt
done_fits h request.Sync = tt
done_fits h request.Nothing = tt
done_fits h request.Leave = tt
done_fits h (request.Fails t f) = tt
done_fits h (request.Breaks f) = tt

unless_fits : (h : Option (List TheColumn)) (o : Option TalkFault) (r : Request) → RowsFit h (said_unless o r)
unless_fits h (Some f) r = tt
unless_fits h None r = done_fits h r

request_fits : (h : Option (List TheColumn)) (r : Request) (m : TalkMoment) → RowsFit h (said_to_request r m)
request_fits h r m = unless_fits h (fault_of (heeded m.mode r) m) (heeded m.mode r)

pub fit_in_queries : (m : TalkMoment) (i : Input) → m.mode ≡ mode.Query → RowsFit None (said_to_input m i)
fit_in_queries m (asked r) is = request_fits None r m
fit_in_queries m (told (reply.Answer a)) is = answered_fits m.stage m a is
fit_in_queries m (told (reply.Standing s)) is = standing_fits m.stage m s is
fit_in_queries m (told (reply.Description d)) is = described_fits m.stage m (labelled_description m.labels d)
fit_in_queries m (told (reply.Verifier v)) is = tt
fit_in_queries m bad is = tt

-- ---- batches

-- by these columns in these formats
abbrev by : List ValueFormat → List ResultColumn → Option (List TheColumn)
by fs cs = Some (described_columns fs cs)

batch_table_fits : (t : Mode) (most : ℕ) (fs : List ValueFormat) (o : Option (List ResultColumn)) (cs : List ResultColumn) (rows : List (List Value)) → t ≡ mode.Batch → o ≡ Some cs
    → table_outcome t o rows ≡ outcome.Done → RowsFit (by fs cs) (table_said t most fs o rows)
batch_table_fits t most fs o cs rows is known done =
    let here : table_outcome mode.Batch (Some cs) rows ≡ outcome.Done
    = subst (λ (u : Mode). table_outcome u (Some cs) rows ≡ outcome.Done) is (subst (λ (p : Option (List ResultColumn)). table_outcome t p rows ≡ outcome.Done) known done) in
    subst (λ (p : Option (List ResultColumn)). RowsFit (by fs cs) (table_said t most fs p rows)) (sym known)
    (subst (λ (u : Mode). RowsFit (by fs cs) (table_said u most fs (Some cs) rows)) (sym is)
    (limited_fit (most == 0 || nat_lt (length rows) most) most fs cs rows (if_done (are_rows_of cs rows) here)))

batch_answer_fits : (m : TalkMoment) (cs : List ResultColumn) (a : Answer) → m.mode ≡ mode.Batch → m.columns ≡ Some cs → ran m a ≡ outcome.Done
    → RowsFit (by m.formats cs) (answer_said m a)
batch_answer_fits m cs (answer.Rows rows) is known done =
    batch_table_fits m.mode m.most m.formats m.columns cs rows is known (table_done (table_outcome m.mode m.columns rows) m rows done)
batch_answer_fits m cs (answer.Done t count w) is known done = warnings_fit (by m.formats cs) (warning_of m.block t w) (done_tag t count)
batch_answer_fits m cs (answer.Refused s) is known done = tt

batch_run_fits : (m : TalkMoment) (cs : List ResultColumn) (a : Answer) (o : Outcome) → m.mode ≡ mode.Batch → m.columns ≡ Some cs → ran m a ≡ o
    → RowsFit (by m.formats cs) (said_run m a o)
batch_run_fits m cs a outcome.Done is known done = batch_answer_fits m cs a is known done
batch_run_fits m cs a (outcome.Refused f) is known done = tt
batch_run_fits m cs a (outcome.Breaks f) is known done = tt

pub fit_in_batches : (m : TalkMoment) (cs : List ResultColumn) (a : Answer) → m.mode ≡ mode.Batch → m.stage ≡ stage.Running → m.columns ≡ Some cs
    → RowsFit (Some (described_columns m.formats cs)) (said_to_reply m (reply.Answer a))
fit_in_batches m cs a is at known = subst (λ (s : TalkStage). RowsFit (by m.formats cs) (said_answered s m a)) (sym at) (batch_run_fits m cs a (ran m a) is known refl)

batch_rows_fit : (m : TalkMoment) (cs : List ResultColumn) (rows : List (List Value)) (o : Outcome) → m.mode ≡ mode.Batch → m.columns ≡ Some cs → table_outcome m.mode m.columns rows ≡ o
    → RowsFit (by m.formats cs) (said_run m (answer.Rows rows) o)
batch_rows_fit m cs rows outcome.Done is known done = batch_table_fits m.mode m.most m.formats m.columns cs rows is known done
batch_rows_fit m cs rows (outcome.Refused f) is known done = tt
batch_rows_fit m cs rows (outcome.Breaks f) is known done = tt

resumed_fits : (m : TalkMoment) (cs : List ResultColumn) (s : Option BlockStanding) → m.mode ≡ mode.Batch → m.columns ≡ Some cs → RowsFit (by m.formats cs) (said_resuming m s)
resumed_fits m cs None is known = tt
resumed_fits m cs (Some standing.Outside) is known = tt
resumed_fits m cs (Some standing.Failed) is known = tt
resumed_fits m cs (Some standing.Inside) is known = batch_rows_fit m cs (rows_in m.portal) (table_outcome m.mode m.columns (rows_in m.portal)) is known refl

pub fit_in_portals : (m : TalkMoment) (cs : List ResultColumn) (s : Option BlockStanding) → m.mode ≡ mode.Batch → m.stage ≡ stage.Resuming → m.columns ≡ Some cs
    → RowsFit (Some (described_columns m.formats cs)) (said_to_reply m (reply.Standing s))
fit_in_portals m cs s is at known = subst (λ (t : TalkStage). RowsFit (by m.formats cs) (said_standing t m s)) (sym at) (resumed_fits m cs s is known)
