-- What an error does to a block of the connection's own.
use Rattle.std.proofs.Common.{◌≡◌, ◌∙◌, ◌⊎◌, ℕ, Bool, true, false, ◌||◌, if◌then◌else◌, List, [], ◌∷◌, ◌++◌, map, length, Option, Some, None, inl, inr, refl, ap, sym, subst}
use Rattle.std.specs.List.{list_any}
use Rattle.sql_ast.specs.declared.description.ResultColumn.{ResultColumn}
use Rattle.sql_ast.specs.declared.description.StatementDescription.{StatementDescription}
use Rattle.sql_ast.specs.declared.description.StatementDescription.TheVariants as description
use Rattle.sql_types.specs.declared.value.Value.{Value}
use Rattle.sql_types.specs.declared.answer.Answer.{Answer}
use Rattle.sql_types.specs.declared.answer.Answer.TheVariants as answer
use Rattle.sql_types.specs.declared.state.SqlState.{SqlState}
use Rattle.sql_types.specs.declared.state.SqlState.TheVariants as state
use Rattle.sql_types.specs.declared.tag.Tag.TheVariants as tag
use Rattle.sql_types.specs.declared.warning.Warning.{Warning}
use Rattle.talks.specs.declared.want.BlockStanding.{BlockStanding}
use Rattle.talks.specs.declared.want.BlockStanding.TheVariants as standing
use Rattle.talks.specs.declared.want.Want.TheVariants as want
use Rattle.talks.specs.declared.want.Reply.TheVariants as reply
use Rattle.postgres_messages.specs.declared.backend.ValueFormat.{ValueFormat}
use Rattle.postgres_messages.specs.declared.backend.ValueFormat.TheVariants as format
use Rattle.postgres_talks.specs.Formats.{next_format}
use Rattle.postgres_talks.specs.declared.fault.TalkFault.{TalkFault}
use Rattle.postgres_talks.specs.declared.fault.TalkFault.TheVariants as fault
use Rattle.postgres_talks.specs.declared.moment.TalkBlock.{TalkBlock}
use Rattle.postgres_talks.specs.declared.moment.TalkBlock.TheVariants as block
use Rattle.postgres_talks.specs.declared.moment.DescribedKind.{DescribedKind}
use Rattle.postgres_talks.specs.declared.moment.DescribedKind.TheVariants as named
use Rattle.postgres_talks.specs.declared.moment.Mode.{Mode}
use Rattle.postgres_talks.specs.declared.moment.Mode.TheVariants as mode
use Rattle.postgres_talks.specs.declared.moment.TalkStage.{TalkStage}
use Rattle.postgres_talks.specs.declared.moment.TalkStage.TheVariants as stage
use Rattle.postgres_talks.specs.declared.moment.TalkMoment.{TalkMoment}
use Rattle.postgres_talks.specs.declared.settled.Settled.{Settled}
use Rattle.postgres_talks.specs.declared.outcome.Outcome.{Outcome}
use Rattle.postgres_talks.specs.declared.outcome.Outcome.TheVariants as outcome
use Rattle.postgres_talks.specs.declared.requests.Request.{Request}
use Rattle.postgres_talks.specs.declared.requests.Request.TheVariants as request
use Rattle.postgres_talks.specs.Moments.{after_answer, after_failed, after_judging, after_outcome, after_refusing, after_reply, after_rolled_back, after_row_told, after_settling, after_standing, answer_said, asks, came_out, closes, closes_or_listens, head_told, headed_said, oids_told, parameters_said, ran, resumed, said_answered, said_closing, said_described, said_discarded, said_emptying, said_failed, said_judging, said_opened, said_nothing_told, said_own, said_refusing, said_resuming, said_rolled_back, said_row_told, said_run, said_settling, said_standing, said_told, settled_columns, settled_head, settled_rows, settled_said, spares, table_said, warnings_said}
use Rattle.postgres_talks.specs.Outcomes.{commit_outcome, description_outcome, discard_outcome, outcome_of, refusal, warning_of}
use Rattle.postgres_talks.specs.Labels.{labelled_description}
use Rattle.postgres_talks.specs.Portals.{rows_in}
use Rattle.postgres_talks.specs.Played.{Input, after_input, asked, bad, said_to_input, told}
use Rattle.postgres_talks.specs.Requests.{fault_of, heeded, said_to_done, said_to_request, said_unless}
use Rattle.postgres_talks.specs.Rows.{row_said, rows_said, select_tag}
use Rattle.std.specs.Prelude.{◌==◌, nat_lt, take}
use Rattle.postgres_messages.specs.Backend.{portal_suspended}
use Rattle.postgres_talks.specs.Sayings.{Saying, complete_said, message}
use Rattle.postgres_talks.specs.Settled.{settled_tag, told_row}
use Rattle.postgres_talks.specs.Tags.{done_tag}
use Rattle.postgres_talks.proofs.Typings.{typing_quiet}
use Rattle.postgres_talks.specs.Units.{IsCommitAnswer, RollsBack, SaysError, is_error}

-- ---- what says no error

abbrev IsQuiet : List Saying → Type 0
IsQuiet said = list_any is_error said ≡ false

no_error : (said : List Saying) → IsQuiet said → SaysError said → ⊥
no_error said quiet says = let wrong : true ≡ false = sym says ∙ quiet in cc

any_behind : (xs ys : List Saying) → list_any is_error (xs ++ ys) ≡ (list_any is_error xs || list_any is_error ys)
    → (b : Bool) → (b || list_any is_error (xs ++ ys)) ≡ ((b || list_any is_error xs) || list_any is_error ys)
any_behind xs ys later true = refl
any_behind xs ys later false = later

any_on : (xs ys : List Saying) → list_any is_error (xs ++ ys) ≡ (list_any is_error xs || list_any is_error ys)
any_on [] ys = refl
any_on (x ∷ xs) ys = any_behind xs ys (any_on xs ys) (is_error x)

quiet_on : (xs ys : List Saying) → IsQuiet xs → IsQuiet ys → IsQuiet (xs ++ ys)
quiet_on xs ys first last = any_on xs ys ∙ ap (λ (b : Bool). b || list_any is_error ys) first ∙ last

quiet_rows : (fs : List ValueFormat) (rows : List (List Value)) → IsQuiet (map (row_said fs) rows)
quiet_rows fs [] = refl
quiet_rows fs (row ∷ rows) = quiet_rows fs rows

quiet_all_rows : (fs : List ValueFormat) (rows : List (List Value)) → IsQuiet (rows_said fs rows)
quiet_all_rows fs rows = quiet_on (map (row_said fs) rows) (complete_said (select_tag (length rows)) ∷ []) (quiet_rows fs rows) refl

quiet_headed : (columns : Option (List ResultColumn)) (rows : List (List Value)) → IsQuiet (headed_said columns rows)
quiet_headed None rows = refl
quiet_headed (Some columns) rows = quiet_all_rows [] rows

quiet_by : (all : Bool) (most : ℕ) (fs : List ValueFormat) (rows : List (List Value))
    → IsQuiet (if all then rows_said fs rows else map (row_said fs) (take most rows) ++ message portal_suspended ∷ [])
quiet_by true most fs rows = quiet_all_rows fs rows
quiet_by false most fs rows = quiet_on (map (row_said fs) (take most rows)) (message portal_suspended ∷ []) (quiet_rows fs (take most rows)) refl

quiet_table : (t : Mode) (most : ℕ) (fs : List ValueFormat) (columns : Option (List ResultColumn)) (rows : List (List Value)) → IsQuiet (table_said t most fs columns rows)
quiet_table mode.Query most fs columns rows = quiet_headed columns rows
quiet_table mode.Batch most fs columns rows = quiet_by (most == 0 || nat_lt (length rows) most) most fs rows
quiet_table mode.Skipping most fs columns rows = quiet_by (most == 0 || nat_lt (length rows) most) most fs rows

quiet_warnings : (w : Option Warning) (ys : List Saying) → IsQuiet ys → IsQuiet (warnings_said w ++ ys)
quiet_warnings None ys quiet = quiet
quiet_warnings (Some w) ys quiet = quiet

quiet_answer : (m : TalkMoment) (a : Answer) → IsQuiet (answer_said m a)
quiet_answer m (answer.Rows rows) = quiet_table m.mode m.most m.formats m.columns rows
quiet_answer m (answer.Done x count w) = quiet_warnings (warning_of m.block x w) (complete_said (done_tag x count) ∷ []) refl
quiet_answer m (answer.Refused s) = refl

quiet_run : (m : TalkMoment) (a : Answer) (o : Outcome) → IsQuiet (said_run m a o)
quiet_run m a outcome.Done = quiet_answer m a
quiet_run m a (outcome.Refused f) = refl
quiet_run m a (outcome.Breaks f) = refl

quiet_own : (o : Outcome) → IsQuiet (said_own o)
quiet_own outcome.Done = refl
quiet_own (outcome.Refused f) = refl
quiet_own (outcome.Breaks f) = refl

quiet_opened : (process : ℕ) (a : Answer) → IsQuiet (said_opened process a)
quiet_opened process (answer.Rows rows) = refl
quiet_opened process (answer.Done t count w) = refl
quiet_opened process (answer.Refused s) = refl

quiet_rolled_back : (a : Answer) → IsQuiet (said_rolled_back a)
quiet_rolled_back (answer.Rows rows) = refl
quiet_rolled_back (answer.Done t count w) = refl
quiet_rolled_back (answer.Refused s) = refl

quiet_discarded : (o : Outcome) → IsQuiet (said_discarded o)
quiet_discarded outcome.Done = refl
quiet_discarded (outcome.Refused f) = refl
quiet_discarded (outcome.Breaks f) = refl

quiet_answered : (s : TalkStage) (m : TalkMoment) (a : Answer) → IsQuiet (said_answered s m a)
quiet_answered stage.Opening m a = quiet_opened m.process a
quiet_answered stage.Beginning m a = quiet_own (outcome_of m.block a)
quiet_answered stage.Running m a = quiet_run m a (ran m a)
quiet_answered stage.Committing m a = quiet_own (commit_outcome a)
quiet_answered stage.RollingBack m a = quiet_rolled_back a
quiet_answered stage.Discarding m a = quiet_discarded (discard_outcome a)
quiet_answered (stage.Failing f) m a = refl
quiet_answered stage.Starting m a = refl
quiet_answered stage.Ready m a = refl
quiet_answered (stage.Telling k) m a = refl
quiet_answered (stage.Typing at c) m a = refl
quiet_answered (stage.TellingRow k x) m a = refl
quiet_answered (stage.TellingNothing k) m a = refl
quiet_answered stage.Describing m a = refl
quiet_answered (stage.Refusing f) m a = refl
quiet_answered (stage.Judging f) m a = refl
quiet_answered stage.Closing m a = refl
quiet_answered (stage.Settling x) m a = refl
quiet_answered stage.Emptying m a = refl
quiet_answered stage.Resuming m a = refl
quiet_answered stage.Ended m a = refl

quiet_head_told : (k : DescribedKind) (oids : List ℕ) (fs : List ValueFormat) (d : StatementDescription) → IsQuiet (head_told k oids fs d)
quiet_head_told named.Statement oids fs (description.Rows columns) = refl
quiet_head_told named.Portal oids fs (description.Rows columns) = refl
quiet_head_told named.Statement oids fs description.NoRows = refl
quiet_head_told named.Portal oids fs description.NoRows = refl
quiet_head_told named.Statement oids fs (description.Refused s) = refl
quiet_head_told named.Portal oids fs (description.Refused s) = refl

quiet_told : (k : DescribedKind) (oids : List ℕ) (fs : List ValueFormat) (d : StatementDescription) (o : Outcome) → IsQuiet (said_told k oids fs d o)
quiet_told k oids fs d outcome.Done = quiet_head_told k oids fs d
quiet_told k oids fs d (outcome.Refused f) = refl
quiet_told k oids fs d (outcome.Breaks f) = refl

quiet_described : (s : TalkStage) (m : TalkMoment) (d : StatementDescription) → IsQuiet (said_described s m d)
quiet_described stage.Describing m d = quiet_own (description_outcome m.columns m.formats d)
quiet_described (stage.Typing at c) m d = typing_quiet at c m d
quiet_described (stage.Telling k) m d = quiet_told k (oids_told m) m.formats d (description_outcome None m.formats d)
quiet_described (stage.TellingRow k x) m d = refl
quiet_described (stage.TellingNothing k) m d = refl
quiet_described stage.Opening m d = refl
quiet_described stage.Beginning m d = refl
quiet_described stage.Running m d = refl
quiet_described stage.Committing m d = refl
quiet_described stage.RollingBack m d = refl
quiet_described (stage.Failing f) m d = refl
quiet_described stage.Starting m d = refl
quiet_described stage.Ready m d = refl
quiet_described (stage.Refusing f) m d = refl
quiet_described (stage.Judging f) m d = refl
quiet_described stage.Closing m d = refl
quiet_described (stage.Settling x) m d = refl
quiet_described stage.Emptying m d = refl
quiet_described stage.Resuming m d = refl
quiet_described stage.Discarding m d = refl
quiet_described stage.Ended m d = refl

quiet_done : (r : Request) → IsQuiet (said_to_done r)
quiet_done request.Encryption = refl
quiet_done (request.Login role) = refl
quiet_done (request.Statements pieces) = refl
quiet_done (request.Prepare name p) = refl
quiet_done (request.PrepareTemplate name t) = refl
quiet_done (request.Bind name prepared bound fs) = refl
quiet_done (request.Execute name n) = refl
quiet_done (request.DescribeStatement name) = refl
quiet_done (request.DescribePortal name) = refl
quiet_done (request.CloseStatement name) = refl
quiet_done (request.ClosePortal name) = refl
quiet_done request.Sync = refl
quiet_done request.Nothing = refl
quiet_done request.Leave = refl
quiet_done (request.Fails t f) = refl
quiet_done (request.Breaks f) = refl

quiet_unless : (o : Option TalkFault) (r : Request) → IsQuiet (said_unless o r)
quiet_unless (Some f) r = refl
quiet_unless None r = quiet_done r

quiet_request : (r : Request) (m : TalkMoment) → IsQuiet (said_to_request r m)
quiet_request r m = quiet_unless (fault_of (heeded m.mode r) m) (heeded m.mode r)

quiet_head : (f : ValueFormat) (r : Option (List ℕ × List ℕ)) → IsQuiet (settled_head f r)
quiet_head f (Some r) = refl
quiet_head f None = refl

quiet_columns : (t : Mode) (r : Option (List ℕ × List ℕ)) → IsQuiet (settled_columns t r)
quiet_columns mode.Query r = quiet_head format.Text r
quiet_columns mode.Batch r = refl
quiet_columns mode.Skipping r = refl

quiet_row : (r : Option (List ℕ × List ℕ)) (ys : List Saying) → IsQuiet ys → IsQuiet (settled_rows r ++ ys)
quiet_row None ys quiet = quiet
quiet_row (Some r) ys quiet = quiet

quiet_settled : (t : Mode) (ls : List (Option (List ℕ))) (x : Settled) → IsQuiet (settled_said t ls x)
quiet_settled t ls x = quiet_on (settled_columns t (told_row ls x)) (settled_rows (told_row ls x) ++ complete_said (settled_tag x) ∷ []) (quiet_columns t (told_row ls x))
    (quiet_row (told_row ls x) (complete_said (settled_tag x) ∷ []) refl)

-- ---- what says an error

implicit_rolls : (f : TalkFault) (m : TalkMoment) → RollsBack (after_failed block.Implicit f m)
implicit_rolls f m = record { at = refl; wanted = refl; left = refl }

failed_rolls : (f : TalkFault) (m : TalkMoment) → m.block ≡ block.Implicit → RollsBack (after_failed m.block f m)
failed_rolls f m is = subst (λ (b : TalkBlock). RollsBack (after_failed b f m)) (sym is) (implicit_rolls f m)

spared_rolls : (x : Bool) (f : TalkFault) (m : TalkMoment) → m.block ≡ block.Implicit
    → SaysError (if x then said_failed m.block m.mode f standing.Inside else []) → RollsBack (if x then after_failed m.block f m else asks (stage.Failing f) [] m)
spared_rolls true f m is says = failed_rolls f m is
spared_rolls false f m is says = absurd (no_error [] refl says)

refusing_rolls : (f : TalkFault) (m : TalkMoment) (s : Option BlockStanding) → m.block ≡ block.Implicit
    → SaysError (said_refusing m.block m.mode f s) → RollsBack (after_refusing f m s)
refusing_rolls f m None is says = absurd (no_error (said_refusing m.block m.mode f None) refl says)
refusing_rolls f m (Some standing.Inside) is says = spared_rolls (spares f) f m is says
refusing_rolls f m (Some standing.Outside) is says = failed_rolls f m is
refusing_rolls f m (Some standing.Failed) is says = failed_rolls f m is

judging_rolls : (f : TalkFault) (m : TalkMoment) (s : Option BlockStanding) → m.block ≡ block.Implicit
    → SaysError (said_judging m.block m.mode f s) → RollsBack (after_judging f m s)
judging_rolls f m None is says = absurd (no_error (said_judging m.block m.mode f None) refl says)
judging_rolls f m (Some standing.Inside) is says = absurd (no_error (said_judging m.block m.mode f (Some standing.Inside)) refl says)
judging_rolls f m (Some standing.Outside) is says = failed_rolls f m is
judging_rolls f m (Some standing.Failed) is says = failed_rolls f m is

settling_rolls : (x : Settled) (m : TalkMoment) (s : Option BlockStanding) → m.block ≡ block.Implicit
    → SaysError (said_settling m.block m.mode m.labels x s) → RollsBack (after_settling m s)
settling_rolls x m None is says = absurd (no_error (said_settling m.block m.mode m.labels x None) refl says)
settling_rolls x m (Some standing.Failed) is says = failed_rolls (fault.Refused state.InFailedTransaction) m is
settling_rolls x m (Some standing.Inside) is says = absurd (no_error (settled_said m.mode m.labels x) (quiet_settled m.mode m.labels x) says)
settling_rolls x m (Some standing.Outside) is says = absurd (no_error (settled_said m.mode m.labels x) (quiet_settled m.mode m.labels x) says)

quiet_emptying : (s : Option BlockStanding) → IsQuiet (said_emptying s)
quiet_emptying None = refl
quiet_emptying (Some s) = refl

quiet_closing : (s : Option BlockStanding) → IsQuiet (said_closing s)
quiet_closing None = refl
quiet_closing (Some s) = refl

quiet_row_told : (k : DescribedKind) (oids : List ℕ) (f : ValueFormat) (r : Option (List ℕ × List ℕ)) → IsQuiet (parameters_said k oids ++ settled_head f r)
quiet_row_told named.Statement oids f r = quiet_head f r
quiet_row_told named.Portal oids f r = quiet_head f r

row_told_rolls : (k : DescribedKind) (f : ValueFormat) (r : Option (List ℕ × List ℕ)) (m : TalkMoment) (s : Option BlockStanding) → m.block ≡ block.Implicit
    → SaysError (said_row_told k (oids_told m) m.block m.mode f r s) → RollsBack (after_row_told m s)
row_told_rolls k f r m None is says = absurd (no_error (said_row_told k (oids_told m) m.block m.mode f r None) refl says)
row_told_rolls k f r m (Some standing.Failed) is says = failed_rolls (fault.Refused state.InFailedTransaction) m is
row_told_rolls k f r m (Some standing.Inside) is says = absurd (no_error (parameters_said k (oids_told m) ++ settled_head f r) (quiet_row_told k (oids_told m) f r) says)
row_told_rolls k f r m (Some standing.Outside) is says = absurd (no_error (parameters_said k (oids_told m) ++ settled_head f r) (quiet_row_told k (oids_told m) f r) says)

quiet_nothing_told : (k : DescribedKind) (oids : List ℕ) (s : Option BlockStanding) → IsQuiet (said_nothing_told k oids s)
quiet_nothing_told k oids None = refl
quiet_nothing_told named.Statement oids (Some s) = refl
quiet_nothing_told named.Portal oids (Some s) = refl

standing_rolls : (t : TalkStage) (m : TalkMoment) (s : Option BlockStanding) → m.block ≡ block.Implicit
    → SaysError (said_standing t m s) → RollsBack (after_standing t m s)
standing_rolls (stage.Refusing f) m s is says = refusing_rolls f m s is says
standing_rolls (stage.Judging f) m s is says = judging_rolls f m s is says
standing_rolls (stage.Settling x) m s is says = settling_rolls x m s is says
standing_rolls stage.Closing m s is says = absurd (no_error (said_closing s) (quiet_closing s) says)
standing_rolls stage.Emptying m s is says = absurd (no_error (said_emptying s) (quiet_emptying s) says)
standing_rolls stage.Resuming m s is says = absurd (no_error (said_resuming m s) (quiet_run m (answer.Rows (rows_in m.portal)) (resumed m s)) says)
standing_rolls stage.Discarding m s is says = absurd (no_error [] refl says)
standing_rolls stage.Starting m s is says = absurd (no_error [] refl says)
standing_rolls stage.Opening m s is says = absurd (no_error [] refl says)
standing_rolls (stage.TellingRow k x) m s is says = row_told_rolls k (next_format m.formats) (told_row m.labels x) m s is says
standing_rolls (stage.TellingNothing k) m s is says = absurd (no_error (said_nothing_told k (oids_told m) s) (quiet_nothing_told k (oids_told m) s) says)
standing_rolls (stage.Telling k) m s is says = absurd (no_error [] refl says)
standing_rolls (stage.Typing at c) m s is says = absurd (no_error [] refl says)
standing_rolls stage.Ready m s is says = absurd (no_error [] refl says)
standing_rolls stage.Describing m s is says = absurd (no_error [] refl says)
standing_rolls stage.Beginning m s is says = absurd (no_error [] refl says)
standing_rolls stage.Running m s is says = absurd (no_error [] refl says)
standing_rolls stage.Committing m s is says = absurd (no_error [] refl says)
standing_rolls stage.RollingBack m s is says = absurd (no_error [] refl says)
standing_rolls (stage.Failing f) m s is says = absurd (no_error [] refl says)
standing_rolls stage.Ended m s is says = absurd (no_error [] refl says)

pub error_rolls_back : (m : TalkMoment) (i : Input) → m.block ≡ block.Implicit → SaysError (said_to_input m i) → RollsBack (after_input m i)
error_rolls_back m (asked r) is says = absurd (no_error (said_to_request r m) (quiet_request r m) says)
error_rolls_back m (told (reply.Answer a)) is says = absurd (no_error (said_answered m.stage m a) (quiet_answered m.stage m a) says)
error_rolls_back m (told (reply.Standing s)) is says = standing_rolls m.stage m s is says
error_rolls_back m (told (reply.Description d)) is says =
    absurd (no_error (said_described m.stage m (labelled_description m.labels d)) (quiet_described m.stage m (labelled_description m.labels d)) says)
error_rolls_back m (told (reply.Verifier v)) is says = absurd (no_error [] refl says)
error_rolls_back m bad is says = absurd (no_error (said_to_input m bad) refl says)

-- ---- the end of a block

comes_out : (t : Mode) (m : TalkMoment) → m.block ≡ block.Outside → (closes_or_listens t m).block ≡ block.Outside
comes_out mode.Query m is = is
comes_out mode.Batch m is = is
comes_out mode.Skipping m is = is

ended_by : (m : TalkMoment) (a : Answer) → m.block ≡ block.Implicit
    → ((after_rolled_back a m).block ≡ block.Outside) ⊎ ((after_rolled_back a m).want ≡ want.End false)
ended_by m (answer.Refused s) is = inr refl
ended_by m (answer.Rows rows) is = inl (comes_out m.mode (record m { block = came_out m.block; portals = []; read_only = false }) (ap came_out is))
ended_by m (answer.Done t count w) is = inl (comes_out m.mode (record m { block = came_out m.block; portals = []; read_only = false }) (ap came_out is))

pub rolled_back_ends : (m : TalkMoment) (a : Answer) → m.stage ≡ stage.RollingBack → m.block ≡ block.Implicit
    → ((after_reply m (reply.Answer a)).block ≡ block.Outside) ⊎ ((after_reply m (reply.Answer a)).want ≡ want.End false)
rolled_back_ends m a at is =
    subst (λ (s : TalkStage). ((after_answer s m a).block ≡ block.Outside) ⊎ ((after_answer s m a).want ≡ want.End false)) (sym at) (ended_by m a is)

no_break : (f : TalkFault) → outcome.Breaks f ≡ outcome.Done → ⊥
no_break f is = cc

no_refusal : (s : SqlState) → refusal s ≡ outcome.Done → ⊥
no_refusal state.SyntaxError is = cc
no_refusal state.NameTooLong is = cc
no_refusal state.UndefinedTable is = cc
no_refusal state.UndefinedColumn is = cc
no_refusal state.AmbiguousColumn is = cc
no_refusal state.DuplicateAlias is = cc
no_refusal state.UndefinedObject is = cc
no_refusal state.DuplicateTable is = cc
no_refusal state.DuplicateObject is = cc
no_refusal state.DuplicateColumn is = cc
no_refusal state.DatatypeMismatch is = cc
no_refusal state.InsufficientPrivilege is = cc
no_refusal state.InvalidGrantOperation is = cc
no_refusal state.DependentPrivileges is = cc
no_refusal state.DependentObjects is = cc
no_refusal state.DivisionByZero is = cc
no_refusal state.NumericValueOutOfRange is = cc
no_refusal state.NotNullViolation is = cc
no_refusal state.UniqueViolation is = cc
no_refusal state.InFailedTransaction is = cc
no_refusal state.LockNotAvailable is = cc
no_refusal state.InvalidAuthorization is = cc
no_refusal state.ProgramLimitExceeded is = cc
no_refusal state.TooManyConnections is = cc
no_refusal state.DiskFull is = cc
no_refusal state.OutOfMemory is = cc
no_refusal state.IoError is = cc
no_refusal state.ProtocolViolation is = cc
no_refusal state.ConnectionDoesNotExist is = cc
no_refusal state.ConnectionNameInUse is = cc

done_commits : (a : Answer) → commit_outcome a ≡ outcome.Done → IsCommitAnswer a
done_commits (answer.Refused s) is = absurd (no_refusal s is)
done_commits (answer.Rows rows) is = absurd (no_break fault.Internal is)
done_commits (answer.Done tag.Open count w) is = absurd (no_break fault.Internal is)
done_commits (answer.Done tag.Close count w) is = absurd (no_break fault.Internal is)
done_commits (answer.Done tag.CreateRole count w) is = absurd (no_break fault.Internal is)
done_commits (answer.Done tag.DropRole count w) is = absurd (no_break fault.Internal is)
done_commits (answer.Done tag.GrantRole count w) is = absurd (no_break fault.Internal is)
done_commits (answer.Done tag.RevokeRole count w) is = absurd (no_break fault.Internal is)
done_commits (answer.Done tag.Set count w) is = absurd (no_break fault.Internal is)
done_commits (answer.Done tag.Reset count w) is = absurd (no_break fault.Internal is)
done_commits (answer.Done tag.CreateTable count w) is = absurd (no_break fault.Internal is)
done_commits (answer.Done tag.DropTable count w) is = absurd (no_break fault.Internal is)
done_commits (answer.Done tag.AlterTable count w) is = absurd (no_break fault.Internal is)
done_commits (answer.Done tag.CreatePolicy count w) is = absurd (no_break fault.Internal is)
done_commits (answer.Done tag.DropPolicy count w) is = absurd (no_break fault.Internal is)
done_commits (answer.Done tag.Grant count w) is = absurd (no_break fault.Internal is)
done_commits (answer.Done tag.Revoke count w) is = absurd (no_break fault.Internal is)
done_commits (answer.Done tag.Begin count w) is = absurd (no_break fault.Internal is)
done_commits (answer.Done tag.Commit count w) is = tt
done_commits (answer.Done tag.Rollback count w) is = absurd (no_break fault.Internal is)
done_commits (answer.Done tag.Insert count w) is = absurd (no_break fault.Internal is)
done_commits (answer.Done tag.Update count w) is = absurd (no_break fault.Internal is)
done_commits (answer.Done tag.Delete count w) is = absurd (no_break fault.Internal is)

closes_done : (o : Outcome) (m next : TalkMoment) → (after_outcome o m next).stage ≡ stage.Closing → o ≡ outcome.Done
closes_done outcome.Done m next closed = refl
closes_done (outcome.Refused f) m next closed = let wrong : stage.Refusing f ≡ stage.Closing = closed in cc
closes_done (outcome.Breaks f) m next closed = let wrong : stage.Ended ≡ stage.Closing = closed in cc

committed_by : (m : TalkMoment) (a : Answer) → (after_answer stage.Committing m a).stage ≡ stage.Closing → IsCommitAnswer a
committed_by m a closed = done_commits a (closes_done (commit_outcome a) m (closes m) closed)

pub closed_by_commit : (m : TalkMoment) (a : Answer) → m.stage ≡ stage.Committing → (after_reply m (reply.Answer a)).stage ≡ stage.Closing → IsCommitAnswer a
closed_by_commit m a at closed = committed_by m a (subst (λ (s : TalkStage). (after_answer s m a).stage ≡ stage.Closing) at closed)
