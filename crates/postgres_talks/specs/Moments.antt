-- How a connection stands, and what it says to what it learns.
use Rattle.std.specs.Prelude.{ℕ, nat_lt, Bool, true, false, if◌then◌else◌, List, [], ◌∷◌, ◌++◌, length, drop, map, codes, Option, Some, None}
use Rattle.sql_ast.specs.declared.description.ResultColumn.{ResultColumn}
use Rattle.sql_ast.specs.declared.description.StatementDescription.{StatementDescription}
use Rattle.sql_ast.specs.declared.description.StatementDescription.TheVariants as description
use Rattle.sql_types.specs.declared.value.Value.{Value}
use Rattle.sql_types.specs.declared.answer.Answer.{Answer}
use Rattle.sql_types.specs.declared.answer.Answer.TheVariants as answer
use Rattle.sql_types.specs.declared.state.SqlState.TheVariants.{ConnectionDoesNotExist, InFailedTransaction}
use Rattle.sql_types.specs.declared.tag.Tag.{Tag}
use Rattle.sql_types.specs.declared.tag.Tag.TheVariants as tag
use Rattle.sql_types.specs.declared.warning.Warning.{Warning}
use Rattle.talks.specs.declared.want.BlockStanding.{BlockStanding}
use Rattle.talks.specs.declared.want.BlockStanding.TheVariants as standing
use Rattle.talks.specs.declared.want.Want.{Want}
use Rattle.talks.specs.declared.want.Want.TheVariants as want
use Rattle.talks.specs.declared.want.Reply.{Reply}
use Rattle.talks.specs.declared.want.Reply.TheVariants as reply
use Rattle.postgres_messages.specs.Backend.{TheColumn, authentication_ok, backend_key_data, data_row, empty_query_response, no_data, parameter_description, parameter_status, row_description}
use Rattle.postgres_messages.specs.declared.backend.DataType.TheVariants as data_type
use Rattle.postgres_messages.specs.declared.backend.ValueFormat.{ValueFormat}
use Rattle.postgres_messages.specs.declared.backend.ValueFormat.TheVariants as format
use Rattle.postgres_talks.specs.Formats.{next_format}
use Rattle.statement_parameters.specs.Types.{oid_of}
use Rattle.postgres_texts.specs.declared.settings.SessionSetting.{SessionSetting}
use Rattle.postgres_texts.specs.declared.settings.SessionSetting.TheVariants as setting
use Rattle.postgres_texts.specs.Settings.{name_of, initial_value}
use Rattle.postgres_talks.specs.declared.fault.TalkFault.{TalkFault}
use Rattle.postgres_talks.specs.declared.fault.TalkFault.TheVariants as fault
use Rattle.postgres_talks.specs.declared.moment.TalkBlock.{TalkBlock}
use Rattle.postgres_talks.specs.declared.moment.TalkBlock.TheVariants as block
use Rattle.postgres_talks.specs.declared.moment.DescribedKind.{DescribedKind}
use Rattle.postgres_talks.specs.declared.moment.DescribedKind.TheVariants as named
use Rattle.postgres_talks.specs.declared.moment.Mode.{Mode}
use Rattle.postgres_talks.specs.declared.moment.Mode.TheVariants as mode
use Rattle.postgres_talks.specs.declared.moment.TalkStage.{TalkStage}
use Rattle.postgres_talks.specs.declared.moment.TalkStage.TheVariants as stage
use Rattle.postgres_talks.specs.declared.moment.TalkMoment.{TalkMoment}
use Rattle.postgres_talks.specs.declared.named_pieces.NamedPiece.{NamedPiece}
use Rattle.postgres_talks.specs.declared.parameters.TypedTemplate.{TypedTemplate}
use Rattle.postgres_talks.specs.declared.piece.LabelledText.{LabelledText}
use Rattle.postgres_talks.specs.declared.piece.StatementPiece.{StatementPiece}
use Rattle.postgres_talks.specs.declared.piece.StatementPiece.TheVariants as piece
use Rattle.postgres_talks.specs.declared.settled.Settled.{Settled}
use Rattle.postgres_talks.specs.declared.outcome.Outcome.{Outcome}
use Rattle.postgres_talks.specs.declared.outcome.Outcome.TheVariants as outcome
use Rattle.postgres_talks.specs.Outcomes.{commit_outcome, description_outcome, discard_outcome, outcome_of, table_outcome, warning_of}
use Rattle.postgres_talks.specs.Portals.{held_behind, held_in, is_kept, kept_outcome, rows_in, suspend}
use Rattle.postgres_talks.specs.Sayings.{Saying, message, error_said, fatal_said, warning_said, ready_said, complete_said}
use Rattle.postgres_talks.specs.Rows.{columns_said}
pub use Rattle.postgres_talks.specs.Rows.{headed_said, table_said}
use Rattle.postgres_talks.specs.Labels.{labelled_description}
use Rattle.postgres_talks.specs.Named.{find, tell}
use Rattle.postgres_talks.specs.Settled.{settled_tag, settled_row, told_row}
use Rattle.postgres_talks.specs.Tags.{done_tag}
pub use Rattle.postgres_talks.specs.Steps.{asks, describes, looks, listens, ends}
use Rattle.postgres_talks.specs.Typing.{after_typing, said_typing, template_in}

-- nothing was heard
abbrev pub first_moment : ℕ → TalkMoment
first_moment process = record { process = process; stage = stage.Starting; block = block.Outside; mode = mode.Query; left = []; columns = None; labels = []; formats = []; most = 0; name = []; statements = []; portal = None; portals = []; read_only = false; want = want.Message }

-- ---- where it goes

-- Several statements outside a block are one block, which is begun before them and committed behind them; so are those of a batch. One that stands
-- alone is one event.
abbrev pub is_several_in : Mode → ℕ → Bool
is_several_in mode.Query left = nat_lt 1 left
is_several_in m left = nat_lt 0 left

abbrev pub is_several : TalkBlock → Mode → ℕ → Bool
is_several block.Outside m left = is_several_in m left
is_several b m left = false

-- a batch goes on up to Sync
abbrev pub finishes : TalkBlock → Mode → TalkMoment → TalkMoment
finishes block.Implicit mode.Query m = asks stage.Committing (codes "COMMIT") m
finishes b mode.Query m = looks stage.Closing m
finishes b t m = listens m

-- before a SELECT is run its columns are asked for, but in a batch where its client was told none and has not told one format for each
abbrev pub selects_known : Option (List ResultColumn) → LabelledText → TalkMoment → TalkMoment
selects_known None t m = if nat_lt 1 (length m.formats) then describes stage.Describing t m else asks stage.Running t.text m
selects_known (Some columns) t m = describes stage.Describing t m

abbrev pub selects : Mode → LabelledText → TalkMoment → TalkMoment
selects mode.Query t m = describes stage.Describing t (record m { columns = None; formats = [] })
selects s t m = selects_known m.columns t m

-- in a block that only reads nothing is written
abbrev pub writes_unless : Bool → List ℕ → TalkMoment → TalkMoment
writes_unless true text m = looks (stage.Refusing fault.OnlyReads) m
writes_unless false text m = asks stage.Running text (record m { columns = None })

-- what was prepared is forgotten in no block
abbrev pub discards : TalkBlock → TalkMoment → TalkMoment
discards block.Outside m = asks stage.Discarding (codes "RESET ROLE") m
discards block.Failed m = looks (stage.Refusing (fault.Refused InFailedTransaction)) m
discards b m = looks (stage.Refusing fault.InsideBlock) m

-- a text that needs no machine is answered once it is known how the block stands
abbrev pub starts_on : StatementPiece → TalkMoment → TalkMoment
starts_on (piece.Statement text) m = writes_unless m.read_only text m
starts_on (piece.Control text) m = asks stage.Running text (record m { columns = None })
starts_on piece.BeginReadOnly m = asks stage.Running (codes "BEGIN") (record m { columns = None; read_only = true })
starts_on piece.DiscardAll m = discards m.block m
starts_on (piece.Select t) m = selects m.mode t m
starts_on (piece.Settled s ls) m = looks (stage.Settling s) (record m { labels = ls })
starts_on (piece.Faulty f) m = looks (stage.Refusing f) m
starts_on piece.Empty m = looks stage.Emptying m

-- what Describe asks for is told once it is known
abbrev pub describes_settled : DescribedKind → Settled → List (Option (List ℕ)) → Option (List ℕ × List ℕ) → TalkMoment → TalkMoment
describes_settled k x ls None m = looks (stage.TellingNothing k) m
describes_settled k x ls (Some r) m = looks (stage.TellingRow k x) (record m { labels = ls })

abbrev pub describes_piece : DescribedKind → StatementPiece → TalkMoment → TalkMoment
describes_piece k (piece.Select t) m = describes (stage.Telling k) t m
describes_piece k (piece.Settled x ls) m = describes_settled k x ls (settled_row x) m
describes_piece k (piece.Faulty f) m = looks (stage.Refusing f) m
describes_piece k p m = looks (stage.TellingNothing k) m

abbrev pub describes_found : DescribedKind → Option NamedPiece → TalkMoment → TalkMoment
describes_found k None m = m
describes_found k (Some n) m = describes_piece k n.piece m

abbrev pub goes_on_with : List StatementPiece → TalkMoment → TalkMoment
goes_on_with [] m = finishes m.block m.mode m
goes_on_with (p ∷ ps) m = starts_on p (record m { left = ps })

-- with what is left of the statements of a message
abbrev pub goes_on : TalkMoment → TalkMoment
goes_on m = if is_several m.block m.mode (length m.left) then asks stage.Beginning (codes "BEGIN") m else goes_on_with m.left m

-- ---- blocks

-- by what a statement has done
abbrev pub block_after : TalkBlock → Tag → TalkBlock
block_after b tag.Commit = block.Outside
block_after b tag.Rollback = block.Outside
block_after block.Failed tag.Begin = block.Failed
block_after b tag.Begin = block.Open
block_after b t = b

-- one of the connection's own is begun, and ends
abbrev pub entered : TalkBlock → TalkBlock
entered block.Outside = block.Implicit
entered b = b

abbrev pub came_out : TalkBlock → TalkBlock
came_out block.Implicit = block.Outside
came_out b = b

-- nothing was done, and a block stays as it is: a client asks for catalogues that its user has not asked for
abbrev pub spares : TalkFault → Bool
spares fault.Catalogue = true
spares f = false

-- by an error that was said: one of the client's fails
abbrev pub spoiled_by : Bool → TalkBlock → TalkBlock
spoiled_by false block.Open = block.Failed
spoiled_by spared b = b

-- that nothing is written holds up to the end of a block
abbrev pub still_reads : TalkBlock → Bool → Bool
still_reads block.Outside reads = false
still_reads b reads = reads

-- ---- answers

abbrev pub warnings_said : Option Warning → List Saying
warnings_said None = []
warnings_said (Some w) = warning_said w ∷ []

-- what is said of an answer that is no refusal
abbrev pub answer_said : TalkMoment → Answer → List Saying
answer_said m (answer.Rows rows) = table_said m.mode m.most m.formats m.columns rows
answer_said m (answer.Done t count w) = warnings_said (warning_of m.block t w) ++ complete_said (done_tag t count) ∷ []
answer_said m (answer.Refused s) = []

-- the settings that are told at the start
abbrev pub setting_said : SessionSetting → Saying
setting_said s = message (parameter_status (name_of s) (initial_value s))

abbrev pub told_settings : List SessionSetting
told_settings = setting.ClientEncoding ∷ setting.DateStyle ∷ setting.IntegerDatetimes ∷ setting.ServerEncoding ∷ setting.ServerVersion ∷ setting.StandardConformingStrings ∷ setting.TimeZone ∷ []

-- that the session is open
abbrev pub greeting : ℕ → List Saying
greeting process = message authentication_ok ∷ (map setting_said told_settings ++ message (backend_key_data process 0) ∷ ready_said standing.Outside ∷ [])

-- to a statement of a client
abbrev pub said_run : TalkMoment → Answer → Outcome → List Saying
said_run m a outcome.Done = answer_said m a
said_run m a (outcome.Refused f) = []
said_run m a (outcome.Breaks f) = fatal_said f ∷ []

-- what it comes to: what is left of its rows has its place
abbrev pub within_room : Outcome → TalkMoment → List (List Value) → Outcome
within_room outcome.Done m rows = kept_outcome (is_kept m.block m.mode m.most (length rows)) m.portals (drop m.most rows)
within_room o m rows = o

abbrev pub ran : TalkMoment → Answer → Outcome
ran m (answer.Rows rows) = within_room (table_outcome m.mode m.columns rows) m rows
ran m a = outcome_of m.block a

-- to a step of the connection's own
abbrev pub said_own : Outcome → List Saying
said_own (outcome.Breaks f) = fatal_said f ∷ []
said_own o = []

-- the role of the login is set, and all that was prepared is forgotten
abbrev pub said_discarded : Outcome → List Saying
said_discarded outcome.Done = complete_said (codes "DISCARD ALL") ∷ []
said_discarded (outcome.Refused f) = []
said_discarded (outcome.Breaks f) = fatal_said f ∷ []

-- a block that cannot be rolled back ends the connection
abbrev pub said_rolled_back : Answer → List Saying
said_rolled_back (answer.Refused s) = fatal_said (fault.Refused s) ∷ []
said_rolled_back a = []

abbrev pub said_opened : ℕ → Answer → List Saying
said_opened process (answer.Refused s) = fatal_said (fault.Refused s) ∷ []
said_opened process a = greeting process

abbrev pub said_answered : TalkStage → TalkMoment → Answer → List Saying
said_answered stage.Opening m a = said_opened m.process a
said_answered stage.Beginning m a = said_own (outcome_of m.block a)
said_answered stage.Running m a = said_run m a (ran m a)
said_answered stage.Committing m a = said_own (commit_outcome a)
said_answered stage.RollingBack m a = said_rolled_back a
said_answered stage.Discarding m a = said_discarded (discard_outcome a)
said_answered s m a = []

-- a refusal is told once the block has failed
abbrev pub after_outcome : Outcome → TalkMoment → TalkMoment → TalkMoment
after_outcome outcome.Done m next = next
after_outcome (outcome.Refused f) m next = looks (stage.Refusing f) m
after_outcome (outcome.Breaks f) m next = ends m

abbrev pub after_opened : Answer → TalkMoment → TalkMoment
after_opened (answer.Refused s) m = ends m
after_opened a m = listens m

abbrev pub closes_or_listens : Mode → TalkMoment → TalkMoment
closes_or_listens mode.Query m = looks stage.Closing m
closes_or_listens t m = listens m

abbrev pub after_rolled_back : Answer → TalkMoment → TalkMoment
after_rolled_back (answer.Refused s) m = ends m
after_rolled_back a m = closes_or_listens m.mode (record m { block = came_out m.block; portals = []; read_only = false })

-- the rows behind those that were told stay with their portal
abbrev pub keeps_if : Bool → List (List Value) → TalkMoment → TalkMoment
keeps_if false rows m = record m { portal = None }
keeps_if true rows m = record m { portal = None; portals = suspend m.portal (drop m.most rows) m.portals }

abbrev pub keeps_rows : List (List Value) → TalkMoment → TalkMoment
keeps_rows rows m = keeps_if (is_kept m.block m.mode m.most (length rows)) rows m

abbrev pub keeps_answer : Answer → TalkMoment → TalkMoment
keeps_answer (answer.Rows rows) m = keeps_rows rows m
keeps_answer (answer.Done t count w) m =
    record m { block = block_after m.block t; portals = held_behind t m.portals; read_only = still_reads (block_after m.block t) m.read_only }
keeps_answer (answer.Refused s) m = m

-- where nothing stands against it
abbrev pub after_done : TalkStage → Answer → TalkMoment → TalkMoment
after_done stage.Beginning a m = goes_on (record m { block = entered m.block })
after_done s a m = goes_on (keeps_answer a m)

-- its block has ended, and it is to be said how the session stands
abbrev pub closes : TalkMoment → TalkMoment
closes m = looks stage.Closing (record m { block = came_out m.block; portals = []; read_only = false })

abbrev pub forgets : TalkMoment → TalkMoment
forgets m = record m { statements = []; portal = None; portals = [] }

abbrev pub after_answer : TalkStage → TalkMoment → Answer → TalkMoment
after_answer stage.Opening m a = after_opened a m
after_answer stage.Beginning m a = after_outcome (outcome_of m.block a) m (after_done stage.Beginning a m)
after_answer stage.Running m a = after_outcome (ran m a) m (after_done stage.Running a m)
after_answer stage.Committing m a = after_outcome (commit_outcome a) m (closes m)
after_answer stage.RollingBack m a = after_rolled_back a m
after_answer stage.Discarding m a = after_outcome (discard_outcome a) m (goes_on (forgets m))
after_answer (stage.Failing f) m a = looks (stage.Judging f) m
after_answer s m a = ends m

-- ---- descriptions

-- the numbers of the types of a statement's parameters
abbrev pub oids_of : Option TypedTemplate → List ℕ
oids_of None = []
oids_of (Some t) = map oid_of t.types

-- of what is described
abbrev pub oids_told : TalkMoment → List ℕ
oids_told m = oids_of (template_in (find m.name m.statements))

abbrev pub parameters_said : DescribedKind → List ℕ → List Saying
parameters_said named.Statement oids = message (parameter_description oids) ∷ []
parameters_said named.Portal oids = []

-- to Describe
abbrev pub head_told : DescribedKind → List ℕ → List ValueFormat → StatementDescription → List Saying
head_told k oids fs (description.Rows columns) = parameters_said k oids ++ columns_said fs columns ∷ []
head_told k oids fs d = parameters_said k oids ++ message no_data ∷ []

abbrev pub said_told : DescribedKind → List ℕ → List ValueFormat → StatementDescription → Outcome → List Saying
said_told k oids fs d outcome.Done = head_told k oids fs d
said_told k oids fs d o = said_own o

abbrev pub said_described : TalkStage → TalkMoment → StatementDescription → List Saying
said_described stage.Describing m d = said_own (description_outcome m.columns m.formats d)
said_described (stage.Telling k) m d = said_told k (oids_told m) m.formats d (description_outcome None m.formats d)
said_described (stage.Typing at c) m d = said_typing at c m d
said_described s m d = []

-- the columns that it tells, if it tells some
abbrev pub columns_in : StatementDescription → Option (List ResultColumn)
columns_in (description.Rows columns) = Some columns
columns_in d = None

-- the statement is run of which it was wanted what it would answer
abbrev pub runs_described : Want → TalkMoment → TalkMoment
runs_described (want.Description session text) m = asks stage.Running text m
runs_described w m = ends m

-- its client knows these columns now
abbrev pub tells : DescribedKind → Option (List ResultColumn) → TalkMoment → TalkMoment
tells named.Statement columns m = record m { statements = tell m.name columns m.statements }
tells named.Portal columns m = record m { portals = tell m.name columns m.portals }

abbrev pub after_told : DescribedKind → TalkMoment → StatementDescription → TalkMoment
after_told k m d = after_outcome (description_outcome None m.formats d) m (listens (tells k (columns_in d) m))

abbrev pub after_described_run : TalkMoment → StatementDescription → TalkMoment
after_described_run m d = after_outcome (description_outcome m.columns m.formats d) m (runs_described m.want (record m { columns = columns_in d }))

abbrev pub after_described : TalkStage → TalkMoment → StatementDescription → TalkMoment
after_described stage.Describing m d = after_described_run m d
after_described (stage.Telling k) m d = after_told k m d
after_described (stage.Typing at c) m d = after_typing at c m d
after_described s m d = ends m

-- ---- how the block stands

-- the error is told; a block of the connection's own is rolled back, and what follows in a batch is passed over
abbrev pub ready_unless_batch : Mode → BlockStanding → List Saying
ready_unless_batch mode.Query s = ready_said s ∷ []
ready_unless_batch t s = []

abbrev pub ready_behind : TalkBlock → Mode → BlockStanding → List Saying
ready_behind block.Implicit t s = []
ready_behind b t s = ready_unless_batch t s

abbrev pub said_failed : TalkBlock → Mode → TalkFault → BlockStanding → List Saying
said_failed b t f s = error_said f ∷ ready_behind b t s

abbrev pub skipping : Mode → Mode
skipping mode.Query = mode.Query
skipping t = mode.Skipping

abbrev pub after_failed : TalkBlock → TalkFault → TalkMoment → TalkMoment
after_failed block.Implicit f m = asks stage.RollingBack (codes "ROLLBACK") (record m { left = []; mode = skipping m.mode; portal = None; portals = []; read_only = false })
after_failed b f m =
    listens (record m { left = []; mode = skipping m.mode; block = spoiled_by (spares f) b; portal = None; portals = held_in (spoiled_by (spares f) b) m.portals; read_only = still_reads (spoiled_by (spares f) b) m.read_only })

-- a block that an error leaves open is failed by a text that is no statement
abbrev pub said_refusing : TalkBlock → Mode → TalkFault → Option BlockStanding → List Saying
said_refusing b t f None = fatal_said f ∷ []
said_refusing b t f (Some standing.Inside) = if spares f then said_failed b t f standing.Inside else []
said_refusing b t f (Some s) = said_failed b t f s

abbrev pub after_refusing : TalkFault → TalkMoment → Option BlockStanding → TalkMoment
after_refusing f m None = ends m
after_refusing f m (Some standing.Inside) = if spares f then after_failed m.block f m else asks (stage.Failing f) [] m
after_refusing f m (Some s) = after_failed m.block f m

-- and where it is open still, the connection ends
abbrev pub said_judging : TalkBlock → Mode → TalkFault → Option BlockStanding → List Saying
said_judging b t f None = fatal_said f ∷ []
said_judging b t f (Some standing.Inside) = fatal_said f ∷ []
said_judging b t f (Some s) = said_failed b t f s

abbrev pub after_judging : TalkFault → TalkMoment → Option BlockStanding → TalkMoment
after_judging f m None = ends m
after_judging f m (Some standing.Inside) = ends m
after_judging f m (Some s) = after_failed m.block f m

abbrev pub said_closing : Option BlockStanding → List Saying
said_closing None = fatal_said (fault.Refused ConnectionDoesNotExist) ∷ []
said_closing (Some s) = ready_said s ∷ []

abbrev pub after_closing : TalkMoment → Option BlockStanding → TalkMoment
after_closing m None = ends m
after_closing m (Some s) = listens m

-- one row, if it has one, of one column of text
abbrev pub text_column : ValueFormat → List ℕ → TheColumn
text_column f name = record { name = name; data_type = data_type.Text; format = f }

abbrev pub settled_head : ValueFormat → Option (List ℕ × List ℕ) → List Saying
settled_head f None = []
settled_head f (Some r) = message (row_description (text_column f r.0 ∷ [])) ∷ []

abbrev pub settled_columns : Mode → Option (List ℕ × List ℕ) → List Saying
settled_columns mode.Query r = settled_head format.Text r
settled_columns t r = []

abbrev pub settled_rows : Option (List ℕ × List ℕ) → List Saying
settled_rows (Some r) = message (data_row (Some r.1 ∷ [])) ∷ []
settled_rows None = []

abbrev pub settled_said : Mode → List (Option (List ℕ)) → Settled → List Saying
settled_said t ls s = settled_columns t (told_row ls s) ++ (settled_rows (told_row ls s) ++ complete_said (settled_tag s) ∷ [])

-- in a block that has failed it is refused
abbrev pub said_settling : TalkBlock → Mode → List (Option (List ℕ)) → Settled → Option BlockStanding → List Saying
said_settling b t ls x None = fatal_said (fault.Refused ConnectionDoesNotExist) ∷ []
said_settling b t ls x (Some standing.Failed) = said_failed b t (fault.Refused InFailedTransaction) standing.Failed
said_settling b t ls x (Some s) = settled_said t ls x

abbrev pub after_settling : TalkMoment → Option BlockStanding → TalkMoment
after_settling m None = ends m
after_settling m (Some standing.Failed) = after_failed m.block (fault.Refused InFailedTransaction) m
after_settling m (Some s) = goes_on m

-- Describe of what needs no machine: in a block that has failed it tells no columns
abbrev pub said_row_told : DescribedKind → List ℕ → TalkBlock → Mode → ValueFormat → Option (List ℕ × List ℕ) → Option BlockStanding → List Saying
said_row_told k oids b t f r None = fatal_said (fault.Refused ConnectionDoesNotExist) ∷ []
said_row_told k oids b t f r (Some standing.Failed) = said_failed b t (fault.Refused InFailedTransaction) standing.Failed
said_row_told k oids b t f r (Some s) = parameters_said k oids ++ settled_head f r

abbrev pub after_row_told : TalkMoment → Option BlockStanding → TalkMoment
after_row_told m None = ends m
after_row_told m (Some standing.Failed) = after_failed m.block (fault.Refused InFailedTransaction) m
after_row_told m (Some s) = listens m

abbrev pub said_nothing_told : DescribedKind → List ℕ → Option BlockStanding → List Saying
said_nothing_told k oids None = fatal_said (fault.Refused ConnectionDoesNotExist) ∷ []
said_nothing_told k oids (Some s) = parameters_said k oids ++ message no_data ∷ []

abbrev pub said_emptying : Option BlockStanding → List Saying
said_emptying None = fatal_said (fault.Refused ConnectionDoesNotExist) ∷ []
said_emptying (Some s) = message empty_query_response ∷ []

abbrev pub after_emptying : TalkMoment → Option BlockStanding → TalkMoment
after_emptying m None = ends m
after_emptying m (Some s) = goes_on m

-- What is left of the answer to a portal is told where its block is open.
abbrev pub resumed : TalkMoment → Option BlockStanding → Outcome
resumed m None = outcome.Breaks (fault.Refused ConnectionDoesNotExist)
resumed m (Some standing.Outside) = outcome.Refused fault.UnknownPortal
resumed m (Some standing.Failed) = outcome.Refused (fault.Refused InFailedTransaction)
resumed m (Some standing.Inside) = table_outcome m.mode m.columns (rows_in m.portal)

abbrev pub said_resuming : TalkMoment → Option BlockStanding → List Saying
said_resuming m s = said_run m (answer.Rows (rows_in m.portal)) (resumed m s)

abbrev pub after_resuming : TalkMoment → Option BlockStanding → TalkMoment
after_resuming m s = after_outcome (resumed m s) m (goes_on (keeps_rows (rows_in m.portal) m))

abbrev pub said_standing : TalkStage → TalkMoment → Option BlockStanding → List Saying
said_standing (stage.Refusing f) m s = said_refusing m.block m.mode f s
said_standing (stage.Judging f) m s = said_judging m.block m.mode f s
said_standing stage.Closing m s = said_closing s
said_standing (stage.Settling x) m s = said_settling m.block m.mode m.labels x s
said_standing stage.Emptying m s = said_emptying s
said_standing stage.Resuming m s = said_resuming m s
said_standing (stage.TellingRow k x) m s = said_row_told k (oids_told m) m.block m.mode (next_format m.formats) (told_row m.labels x) s
said_standing (stage.TellingNothing k) m s = said_nothing_told k (oids_told m) s
said_standing t m s = []

abbrev pub after_standing : TalkStage → TalkMoment → Option BlockStanding → TalkMoment
after_standing (stage.Refusing f) m s = after_refusing f m s
after_standing (stage.Judging f) m s = after_judging f m s
after_standing stage.Closing m s = after_closing m s
after_standing (stage.Settling x) m s = after_settling m s
after_standing stage.Emptying m s = after_emptying m s
after_standing stage.Resuming m s = after_resuming m s
after_standing (stage.TellingRow k x) m s = after_row_told m s
after_standing (stage.TellingNothing k) m s = after_closing m s
after_standing t m s = ends m

-- ---- what it learns: the labels of a text are the names of the columns that it would answer

abbrev pub said_to_reply : TalkMoment → Reply → List Saying
said_to_reply m (reply.Answer a) = said_answered m.stage m a
said_to_reply m (reply.Standing s) = said_standing m.stage m s
said_to_reply m (reply.Description d) = said_described m.stage m (labelled_description m.labels d)
said_to_reply m (reply.Verifier v) = []

abbrev pub after_reply : TalkMoment → Reply → TalkMoment
after_reply m (reply.Answer a) = after_answer m.stage m a
after_reply m (reply.Standing s) = after_standing m.stage m s
after_reply m (reply.Description d) = after_described m.stage m (labelled_description m.labels d)
after_reply m (reply.Verifier v) = ends m
