-- What a client sees of its blocks, and what is said behind a bad message.
use Rattle.std.proofs.Common.{◌≡◌, ◌∙◌, ℕ, Bool, true, false, if◌then◌else◌, List, [], ◌∷◌, ◌++◌, Option, Some, None, option_and_then, IsSome, refl, ap, sym, subst}
use Rattle.sql_ast.specs.declared.description.ResultColumn.{ResultColumn}
use Rattle.sql_ast.specs.declared.description.StatementDescription.{StatementDescription}
use Rattle.sql_ast.specs.declared.description.StatementDescription.TheVariants as description
use Rattle.sql_types.specs.declared.value.Value.{Value}
use Rattle.sql_types.specs.declared.answer.Answer.{Answer}
use Rattle.sql_types.specs.declared.answer.Answer.TheVariants as answer
use Rattle.sql_types.specs.declared.state.SqlState.TheVariants as state
use Rattle.sql_types.specs.declared.tag.Tag.{Tag}
use Rattle.sql_types.specs.declared.tag.Tag.TheVariants as tag
use Rattle.sql_types.specs.declared.warning.Warning.{Warning}
use Rattle.talks.specs.declared.want.BlockStanding.{BlockStanding}
use Rattle.talks.specs.declared.want.BlockStanding.TheVariants as standing
use Rattle.talks.specs.declared.want.Want.{Want}
use Rattle.talks.specs.declared.want.Want.TheVariants as want
use Rattle.talks.specs.declared.want.Reply.TheVariants as reply
use Rattle.postgres_messages.specs.declared.backend.Severity.TheVariants.{Error}
use Rattle.postgres_messages.specs.declared.backend.ValueFormat.{ValueFormat}
use Rattle.postgres_messages.specs.declared.backend.ValueFormat.TheVariants as format
use Rattle.postgres_talks.specs.Formats.{next_format}
use Rattle.postgres_talks.specs.declared.fault.TalkFault.{TalkFault}
use Rattle.postgres_talks.specs.declared.fault.TalkFault.TheVariants as fault
use Rattle.postgres_talks.specs.declared.moment.TalkBlock.{TalkBlock}
use Rattle.postgres_talks.specs.declared.moment.TalkBlock.TheVariants as block
use Rattle.postgres_talks.specs.declared.moment.DescribedKind.{DescribedKind}
use Rattle.postgres_talks.specs.declared.moment.DescribedKind.TheVariants as named
use Rattle.postgres_talks.specs.declared.moment.Mode.{Mode}
use Rattle.postgres_talks.specs.declared.moment.Mode.TheVariants as mode
use Rattle.postgres_talks.specs.declared.moment.TalkStage.{TalkStage}
use Rattle.postgres_talks.specs.declared.moment.TalkStage.TheVariants as stage
use Rattle.postgres_talks.specs.declared.moment.TalkMoment.{TalkMoment}
use Rattle.postgres_talks.specs.declared.piece.StatementPiece.TheVariants as piece
use Rattle.postgres_talks.specs.declared.settled.Settled.{Settled}
use Rattle.postgres_talks.specs.declared.settled.Settled.TheVariants as settled
use Rattle.postgres_talks.specs.declared.outcome.Outcome.{Outcome}
use Rattle.postgres_talks.specs.declared.outcome.Outcome.TheVariants as outcome
use Rattle.postgres_talks.specs.declared.requests.Request.{Request}
use Rattle.postgres_talks.specs.declared.requests.Request.TheVariants as request
use Rattle.postgres_talks.proofs.Excused.{text_spares}
use Rattle.postgres_talks.proofs.SeenRows.{seen_on, table_seen, warnings_seen}
use Rattle.postgres_talks.specs.Blocks.{Seen, outside, clean, spoilt, seen_all, seen_tag, seen_report, is_excused}
use Rattle.postgres_talks.specs.Faults.{fault_text}
use Rattle.postgres_talks.specs.Moments.{first_moment, asks, goes_on, closes, spares, spoiled_by, ready_unless_batch, ran, columns_in, runs_described, said_described, after_described, settled_head, settled_columns, settled_rows, settled_said, oids_told, parameters_said, said_row_told, after_row_told, said_nothing_told, said_told, after_told, head_told, tells, listens, said_settling, after_settling, said_emptying, after_emptying, block_after, entered, came_out, keeps_answer, keeps_rows, warnings_said, answer_said, said_run, said_own, said_opened, said_rolled_back, said_discarded, forgets, after_outcome, after_opened, after_rolled_back, after_done, resumed, said_answered, after_answer, said_failed, after_failed, said_refusing, after_refusing, said_judging, after_judging, said_closing, after_closing, said_standing, after_standing}
use Rattle.postgres_talks.specs.Outcomes.{commit_outcome, description_outcome, discard_outcome, outcome_of, warning_of}
use Rattle.postgres_talks.specs.Played.{Input, asked, told, bad, said_in, said_to_input, after_input, after_all}
use Rattle.postgres_talks.specs.Requests.{executes, formats_in, heeded, fault_of, mode_for, said_to_done, said_unless, after_done_request, after_unless, said_to_request, after_request}
use Rattle.postgres_talks.specs.Named.{find, put}
use Rattle.postgres_talks.specs.Labels.{labelled_description}
use Rattle.postgres_talks.specs.Portals.{held_in, rows_in}
use Rattle.postgres_talks.proofs.Staying.{carries_block, closes_block, describes_block, finishes_block, goes_on_block, rows_block}
use Rattle.postgres_talks.specs.Typing.{new_template}
use Rattle.postgres_talks.proofs.Typings.{begins_block, typing_block, typing_seen}
use Rattle.postgres_talks.specs.Settled.{settled_tag, told_row}
use Rattle.postgres_talks.specs.Tags.{done_tag}
use Rattle.postgres_talks.specs.Sayings.{Saying, error_said, complete_said}

-- ---- blocks

-- how a client sees the block that is open
abbrev seen_as : TalkBlock → Seen
seen_as block.Outside = outside
seen_as block.Implicit = outside
seen_as block.Open = clean
seen_as block.Failed = spoilt

entered_seen : (b : TalkBlock) → seen_as (entered b) ≡ seen_as b
entered_seen block.Outside = refl
entered_seen block.Implicit = refl
entered_seen block.Open = refl
entered_seen block.Failed = refl

came_out_seen : (b : TalkBlock) → seen_as (came_out b) ≡ seen_as b
came_out_seen block.Outside = refl
came_out_seen block.Implicit = refl
came_out_seen block.Open = refl
came_out_seen block.Failed = refl

-- that a step keeps what a client sees
abbrev Keeps : TalkBlock → List Saying → TalkBlock → Type 0
Keeps b said c = seen_all (seen_as b) said ≡ Some (seen_as c)

as_before : (m n : TalkMoment) → n.block ≡ m.block → Some (seen_as m.block) ≡ Some (seen_as n.block)
as_before m n same = ap (λ (b : TalkBlock). Some (seen_as b)) (sym same)

request_done_keeps : (r : Request) (m : TalkMoment) → Keeps m.block (said_to_done r) (after_done_request r m).block
request_done_keeps request.Encryption m = refl
request_done_keeps (request.Login role) m = refl
request_done_keeps (request.Statements pieces) m = ap (λ (b : TalkBlock). Some (seen_as b)) (sym (goes_on_block (record m { left = pieces; most = 0 })))
request_done_keeps (request.Prepare name p) m = refl
request_done_keeps (request.PrepareTemplate name t) m = ap (λ (b : TalkBlock). Some (seen_as b)) (sym (begins_block t (record m { name = name; statements = put (new_template name piece.Empty t) m.statements })))
request_done_keeps (request.Bind name prepared bound fs) m = refl
request_done_keeps (request.Execute name n) m = ap (λ (b : TalkBlock). Some (seen_as b)) (sym (carries_block (find name m.portals) (executes (find name m.portals) name n m)))
request_done_keeps (request.DescribeStatement name) m = ap (λ (b : TalkBlock). Some (seen_as b)) (sym (describes_block named.Statement (find name m.statements) (record m { name = name; formats = [] })))
request_done_keeps (request.DescribePortal name) m = ap (λ (b : TalkBlock). Some (seen_as b)) (sym (describes_block named.Portal (find name m.portals) (record m { name = name; formats = formats_in (find name m.portals) })))
request_done_keeps (request.CloseStatement name) m = refl
request_done_keeps (request.ClosePortal name) m = refl
request_done_keeps request.Sync m = ap (λ (b : TalkBlock). Some (seen_as b)) (sym (finishes_block m.block m.mode (record m { portals = held_in m.block m.portals })))
request_done_keeps request.Nothing m = refl
request_done_keeps request.Leave m = refl
request_done_keeps (request.Fails t f) m = refl
request_done_keeps (request.Breaks f) m = refl

unless_keeps : (o : Option TalkFault) (r : Request) (m : TalkMoment) → Keeps m.block (said_unless o r) (after_unless o r m).block
unless_keeps (Some f) r m = refl
unless_keeps None r m = request_done_keeps r (record m { mode = mode_for r m.mode })

request_keeps : (r : Request) (m : TalkMoment) → Keeps m.block (said_to_request r m) (after_request r m).block
request_keeps r m = unless_keeps (fault_of (heeded m.mode r) m) (heeded m.mode r) m

-- the tag of a statement that is done, where it commits no block in which an error was said
tag_seen : (b : TalkBlock) (t : Tag) (count : Option ℕ) → outcome_of b (answer.Done t count None) ≡ outcome.Done → seen_tag (seen_as b) (done_tag t count) ≡ Some (seen_as (block_after b t))
tag_seen b tag.Open count is = refl
tag_seen b tag.Close count is = refl
tag_seen b tag.CreateRole count is = refl
tag_seen b tag.DropRole count is = refl
tag_seen b tag.GrantRole count is = refl
tag_seen b tag.RevokeRole count is = refl
tag_seen b tag.Set count is = refl
tag_seen b tag.Reset count is = refl
tag_seen b tag.CreateTable count is = refl
tag_seen b tag.DropTable count is = refl
tag_seen b tag.AlterTable count is = refl
tag_seen b tag.CreatePolicy count is = refl
tag_seen b tag.DropPolicy count is = refl
tag_seen b tag.Grant count is = refl
tag_seen b tag.Revoke count is = refl
tag_seen block.Outside tag.Begin count is = refl
tag_seen block.Implicit tag.Begin count is = refl
tag_seen block.Open tag.Begin count is = refl
tag_seen block.Failed tag.Begin count is = refl
tag_seen block.Outside tag.Commit count is = refl
tag_seen block.Implicit tag.Commit count is = refl
tag_seen block.Open tag.Commit count is = refl
tag_seen block.Failed tag.Commit count is = cc
tag_seen b tag.Rollback count is = refl
tag_seen b tag.Insert None is = refl
tag_seen b tag.Insert (Some n) is = refl
tag_seen b tag.Update None is = refl
tag_seen b tag.Update (Some n) is = refl
tag_seen b tag.Delete None is = refl
tag_seen b tag.Delete (Some n) is = refl

done_keeps : (b : TalkBlock) (t : Tag) (count : Option ℕ) (w : Option Warning) → outcome_of b (answer.Done t count w) ≡ outcome.Done
    → Keeps b (warnings_said (warning_of b t w) ++ complete_said (done_tag t count) ∷ []) (block_after b t)
done_keeps b t count w is =
    warnings_seen (seen_as b) (warning_of b t w) (complete_said (done_tag t count) ∷ [])
    ∙ ap (option_and_then (λ c. seen_all c [])) (tag_seen b t count (same_outcome b t count w ∙ is))
  where
    same_outcome : (b : TalkBlock) (t : Tag) (count : Option ℕ) (w : Option Warning) → outcome_of b (answer.Done t count None) ≡ outcome_of b (answer.Done t count w)
    same_outcome block.Failed tag.Commit count w = refl
    same_outcome block.Outside t count w = refl
    same_outcome block.Implicit t count w = refl
    same_outcome block.Open t count w = refl
    same_outcome block.Failed tag.Open count w = refl
    same_outcome block.Failed tag.Close count w = refl
    same_outcome block.Failed tag.CreateRole count w = refl
    same_outcome block.Failed tag.DropRole count w = refl
    same_outcome block.Failed tag.GrantRole count w = refl
    same_outcome block.Failed tag.RevokeRole count w = refl
    same_outcome block.Failed tag.Set count w = refl
    same_outcome block.Failed tag.Reset count w = refl
    same_outcome block.Failed tag.CreateTable count w = refl
    same_outcome block.Failed tag.DropTable count w = refl
    same_outcome block.Failed tag.AlterTable count w = refl
    same_outcome block.Failed tag.CreatePolicy count w = refl
    same_outcome block.Failed tag.DropPolicy count w = refl
    same_outcome block.Failed tag.Grant count w = refl
    same_outcome block.Failed tag.Revoke count w = refl
    same_outcome block.Failed tag.Begin count w = refl
    same_outcome block.Failed tag.Rollback count w = refl
    same_outcome block.Failed tag.Insert count w = refl
    same_outcome block.Failed tag.Update count w = refl
    same_outcome block.Failed tag.Delete count w = refl

answer_keeps : (m : TalkMoment) (a : Answer) → ran m a ≡ outcome.Done → Keeps m.block (answer_said m a) (keeps_answer a m).block
answer_keeps m (answer.Rows rows) is =
    table_seen m.mode m.most m.formats m.columns (seen_as m.block) rows ∙ as_before m (keeps_rows rows m) (rows_block rows m)
answer_keeps m (answer.Done t count w) is = done_keeps m.block t count w is
answer_keeps m (answer.Refused s) is = refl

run_keeps : (m : TalkMoment) (a : Answer) (o : Outcome) → ran m a ≡ o
    → Keeps m.block (said_run m a o) (after_outcome o m (after_done stage.Running a m)).block
run_keeps m a outcome.Done is = answer_keeps m a is ∙ ap (λ (b : TalkBlock). Some (seen_as b)) (sym (goes_on_block (keeps_answer a m)))
run_keeps m a (outcome.Refused f) is = refl
run_keeps m a (outcome.Breaks f) is = refl

resumed_keeps : (m : TalkMoment) (rows : List (List Value)) (o : Outcome)
    → Keeps m.block (said_run m (answer.Rows rows) o) (after_outcome o m (goes_on (keeps_rows rows m))).block
resumed_keeps m rows outcome.Done =
    table_seen m.mode m.most m.formats m.columns (seen_as m.block) rows ∙ as_before m (goes_on (keeps_rows rows m)) (goes_on_block (keeps_rows rows m) ∙ rows_block rows m)
resumed_keeps m rows (outcome.Refused f) = refl
resumed_keeps m rows (outcome.Breaks f) = refl

own_keeps : (m next : TalkMoment) (o : Outcome) → seen_as next.block ≡ seen_as m.block → Keeps m.block (said_own o) (after_outcome o m next).block
own_keeps m next outcome.Done same = ap Some (sym same)
own_keeps m next (outcome.Refused f) same = refl
own_keeps m next (outcome.Breaks f) same = refl

opened_keeps : (m : TalkMoment) (a : Answer) → Keeps m.block (said_opened m.process a) (after_opened a m).block
opened_keeps m (answer.Rows rows) = refl
opened_keeps m (answer.Done t count w) = refl
opened_keeps m (answer.Refused s) = refl

rolled_back_keeps : (m : TalkMoment) (a : Answer) → Keeps m.block (said_rolled_back a) (after_rolled_back a m).block
rolled_back_keeps m (answer.Rows rows) = ap Some (sym (ap seen_as (closes_block m.mode (record m { block = came_out m.block; portals = []; read_only = false })) ∙ came_out_seen m.block))
rolled_back_keeps m (answer.Done t count w) = ap Some (sym (ap seen_as (closes_block m.mode (record m { block = came_out m.block; portals = []; read_only = false })) ∙ came_out_seen m.block))
rolled_back_keeps m (answer.Refused s) = refl

discarded_keeps : (m : TalkMoment) (o : Outcome) → Keeps m.block (said_discarded o) (after_outcome o m (goes_on (forgets m))).block
discarded_keeps m outcome.Done = as_before m (goes_on (forgets m)) (goes_on_block (forgets m))
discarded_keeps m (outcome.Refused f) = refl
discarded_keeps m (outcome.Breaks f) = refl

answered_keeps : (s : TalkStage) (m : TalkMoment) (a : Answer) → Keeps m.block (said_answered s m a) (after_answer s m a).block
answered_keeps stage.Opening m a = opened_keeps m a
answered_keeps stage.Beginning m a = own_keeps m (after_done stage.Beginning a m) (outcome_of m.block a) (ap seen_as (goes_on_block (record m { block = entered m.block })) ∙ entered_seen m.block)
answered_keeps stage.Running m a = run_keeps m a (ran m a) refl
answered_keeps stage.Committing m a = own_keeps m (closes m) (commit_outcome a) (came_out_seen m.block)
answered_keeps stage.RollingBack m a = rolled_back_keeps m a
answered_keeps stage.Discarding m a = discarded_keeps m (discard_outcome a)
answered_keeps (stage.Failing f) m a = refl
answered_keeps stage.Starting m a = refl
answered_keeps stage.Ready m a = refl
answered_keeps (stage.Telling k) m a = refl
answered_keeps (stage.Typing at c) m a = refl
answered_keeps (stage.TellingRow k x) m a = refl
answered_keeps (stage.TellingNothing k) m a = refl
answered_keeps stage.Describing m a = refl
answered_keeps (stage.Refusing f) m a = refl
answered_keeps (stage.Judging f) m a = refl
answered_keeps stage.Closing m a = refl
answered_keeps (stage.Settling x) m a = refl
answered_keeps stage.Emptying m a = refl
answered_keeps stage.Resuming m a = refl
answered_keeps stage.Ended m a = refl

report_seen : (b : TalkBlock) (x : Bool) → seen_report Error x (seen_as b) ≡ seen_as (spoiled_by x b)
report_seen block.Outside true = refl
report_seen block.Outside false = refl
report_seen block.Implicit true = refl
report_seen block.Implicit false = refl
report_seen block.Open true = refl
report_seen block.Open false = refl
report_seen block.Failed true = refl
report_seen block.Failed false = refl

ready_seen : (t : Mode) (s : BlockStanding) (b : Seen) → seen_all b (ready_unless_batch t s) ≡ Some b
ready_seen mode.Query s b = refl
ready_seen mode.Batch s b = refl
ready_seen mode.Skipping s b = refl

-- an error, and what follows it
error_keeps : (b : TalkBlock) (t : Mode) (f : TalkFault) (s : BlockStanding) → Keeps b (error_said f ∷ ready_unless_batch t s) (spoiled_by (spares f) b)
error_keeps b t f s =
    ready_seen t s (seen_report Error (is_excused (fault_text f)) (seen_as b))
    ∙ ap Some (ap (λ (x : Bool). seen_report Error x (seen_as b)) (text_spares f) ∙ report_seen b (spares f))

implicit_kept : (x : Bool) → seen_as (spoiled_by x block.Implicit) ≡ outside
implicit_kept true = refl
implicit_kept false = refl

failed_keeps : (b : TalkBlock) (m : TalkMoment) (f : TalkFault) (s : BlockStanding) → m.block ≡ b → Keeps b (said_failed b m.mode f s) (after_failed b f m).block
failed_keeps block.Outside m f s is = error_keeps block.Outside m.mode f s
failed_keeps block.Open m f s is = error_keeps block.Open m.mode f s
failed_keeps block.Failed m f s is = error_keeps block.Failed m.mode f s
failed_keeps block.Implicit m f s is = error_keeps block.Implicit mode.Batch f s ∙ ap Some (implicit_kept (spares f)) ∙ ap (λ (b : TalkBlock). Some (seen_as b)) (sym is)

spared_keeps : (x : Bool) (f : TalkFault) (m : TalkMoment)
    → Keeps m.block (if x then said_failed m.block m.mode f standing.Inside else []) (if x then after_failed m.block f m else asks (stage.Failing f) [] m).block
spared_keeps true f m = failed_keeps m.block m f standing.Inside refl
spared_keeps false f m = refl

refusing_keeps : (f : TalkFault) (m : TalkMoment) (s : Option BlockStanding) → Keeps m.block (said_refusing m.block m.mode f s) (after_refusing f m s).block
refusing_keeps f m None = refl
refusing_keeps f m (Some standing.Inside) = spared_keeps (spares f) f m
refusing_keeps f m (Some standing.Outside) = failed_keeps m.block m f standing.Outside refl
refusing_keeps f m (Some standing.Failed) = failed_keeps m.block m f standing.Failed refl

judging_keeps : (f : TalkFault) (m : TalkMoment) (s : Option BlockStanding) → Keeps m.block (said_judging m.block m.mode f s) (after_judging f m s).block
judging_keeps f m None = refl
judging_keeps f m (Some standing.Inside) = refl
judging_keeps f m (Some standing.Outside) = failed_keeps m.block m f standing.Outside refl
judging_keeps f m (Some standing.Failed) = failed_keeps m.block m f standing.Failed refl

settled_tag_seen : (b : Seen) (s : Settled) → seen_tag b (settled_tag s) ≡ Some b
settled_tag_seen b settled.Set = refl
settled_tag_seen b settled.Reset = refl
settled_tag_seen b settled.CloseAll = refl
settled_tag_seen b settled.DeallocateAll = refl
settled_tag_seen b settled.UnlistenAll = refl
settled_tag_seen b settled.AdvisoryUnlockAll = refl
settled_tag_seen b settled.CurrentSchema = refl
settled_tag_seen b settled.Version = refl
settled_tag_seen b (settled.Show x) = refl

head_seen : (f : ValueFormat) (r : Option (List ℕ × List ℕ)) (b : Seen) (ys : List Saying) → seen_all b (settled_head f r ++ ys) ≡ seen_all b ys
head_seen f (Some r) b ys = refl
head_seen f None b ys = refl

columns_seen : (t : Mode) (r : Option (List ℕ × List ℕ)) (b : Seen) (ys : List Saying) → seen_all b (settled_columns t r ++ ys) ≡ seen_all b ys
columns_seen mode.Query r b ys = head_seen format.Text r b ys
columns_seen mode.Batch r b ys = refl
columns_seen mode.Skipping r b ys = refl

row_seen : (r : Option (List ℕ × List ℕ)) (b : Seen) (ys : List Saying) → seen_all b (settled_rows r ++ ys) ≡ seen_all b ys
row_seen (Some r) b ys = refl
row_seen None b ys = refl

settled_keeps : (m : TalkMoment) (x : Settled) → Keeps m.block (settled_said m.mode m.labels x) (goes_on m).block
settled_keeps m x =
    columns_seen m.mode (told_row m.labels x) (seen_as m.block) (settled_rows (told_row m.labels x) ++ complete_said (settled_tag x) ∷ [])
    ∙ row_seen (told_row m.labels x) (seen_as m.block) (complete_said (settled_tag x) ∷ [])
    ∙ ap (option_and_then (λ c. seen_all c [])) (settled_tag_seen (seen_as m.block) x)
    ∙ ap (λ (b : TalkBlock). Some (seen_as b)) (sym (goes_on_block m))

settling_keeps : (m : TalkMoment) (x : Settled) (s : Option BlockStanding) → Keeps m.block (said_settling m.block m.mode m.labels x s) (after_settling m s).block
settling_keeps m x None = refl
settling_keeps m x (Some standing.Failed) = failed_keeps m.block m (fault.Refused state.InFailedTransaction) standing.Failed refl
settling_keeps m x (Some standing.Inside) = settled_keeps m x
settling_keeps m x (Some standing.Outside) = settled_keeps m x

emptying_keeps : (m : TalkMoment) (s : Option BlockStanding) → Keeps m.block (said_emptying s) (after_emptying m s).block
emptying_keeps m None = refl
emptying_keeps m (Some s) = ap (λ (b : TalkBlock). Some (seen_as b)) (sym (goes_on_block m))

closing_keeps : (m : TalkMoment) (s : Option BlockStanding) → Keeps m.block (said_closing s) (after_closing m s).block
closing_keeps m None = refl
closing_keeps m (Some s) = refl

row_told_seen : (k : DescribedKind) (oids : List ℕ) (f : ValueFormat) (r : Option (List ℕ × List ℕ)) (b : Seen) → seen_all b (parameters_said k oids ++ settled_head f r) ≡ Some b
row_told_seen named.Statement oids f None b = refl
row_told_seen named.Statement oids f (Some r) b = refl
row_told_seen named.Portal oids f None b = refl
row_told_seen named.Portal oids f (Some r) b = refl

row_told_keeps : (k : DescribedKind) (m : TalkMoment) (x : Settled) (s : Option BlockStanding) → Keeps m.block (said_row_told k (oids_told m) m.block m.mode (next_format m.formats) (told_row m.labels x) s) (after_row_told m s).block
row_told_keeps k m x None = refl
row_told_keeps k m x (Some standing.Failed) = failed_keeps m.block m (fault.Refused state.InFailedTransaction) standing.Failed refl
row_told_keeps k m x (Some standing.Inside) = row_told_seen k (oids_told m) (next_format m.formats) (told_row m.labels x) (seen_as m.block)
row_told_keeps k m x (Some standing.Outside) = row_told_seen k (oids_told m) (next_format m.formats) (told_row m.labels x) (seen_as m.block)

nothing_told_keeps : (k : DescribedKind) (m : TalkMoment) (s : Option BlockStanding) → Keeps m.block (said_nothing_told k (oids_told m) s) (after_closing m s).block
nothing_told_keeps k m None = refl
nothing_told_keeps named.Statement m (Some s) = refl
nothing_told_keeps named.Portal m (Some s) = refl

standing_keeps : (t : TalkStage) (m : TalkMoment) (s : Option BlockStanding) → Keeps m.block (said_standing t m s) (after_standing t m s).block
standing_keeps (stage.Refusing f) m s = refusing_keeps f m s
standing_keeps (stage.Judging f) m s = judging_keeps f m s
standing_keeps stage.Closing m s = closing_keeps m s
standing_keeps (stage.Settling x) m s = settling_keeps m x s
standing_keeps stage.Emptying m s = emptying_keeps m s
standing_keeps stage.Resuming m s = resumed_keeps m (rows_in m.portal) (resumed m s)
standing_keeps stage.Discarding m s = refl
standing_keeps stage.Starting m s = refl
standing_keeps stage.Opening m s = refl
standing_keeps (stage.TellingRow k x) m s = row_told_keeps k m x s
standing_keeps (stage.TellingNothing k) m s = nothing_told_keeps k m s
standing_keeps (stage.Telling k) m s = refl
standing_keeps (stage.Typing at c) m s = refl
standing_keeps stage.Ready m s = refl
standing_keeps stage.Describing m s = refl
standing_keeps stage.Beginning m s = refl
standing_keeps stage.Running m s = refl
standing_keeps stage.Committing m s = refl
standing_keeps stage.RollingBack m s = refl
standing_keeps (stage.Failing f) m s = refl
standing_keeps stage.Ended m s = refl

runs_block : (w : Want) (m : TalkMoment) → (runs_described w m).block ≡ m.block
runs_block want.Message m = refl
runs_block (want.Event e) m = refl
runs_block (want.Open session login entry) m = refl
runs_block (want.Standing session) m = refl
runs_block (want.Description session text) m = refl
runs_block (want.Verifier table role) m = refl
runs_block (want.End late) m = refl
runs_block want.OutOfMemory m = refl

tells_block : (k : DescribedKind) (columns : Option (List ResultColumn)) (m : TalkMoment) → (tells k columns m).block ≡ m.block
tells_block named.Statement columns m = refl
tells_block named.Portal columns m = refl

head_told_seen : (k : DescribedKind) (oids : List ℕ) (fs : List ValueFormat) (b : Seen) (d : StatementDescription) → seen_all b (head_told k oids fs d) ≡ Some b
head_told_seen named.Statement oids fs b (description.Rows columns) = refl
head_told_seen named.Portal oids fs b (description.Rows columns) = refl
head_told_seen named.Statement oids fs b description.NoRows = refl
head_told_seen named.Portal oids fs b description.NoRows = refl
head_told_seen named.Statement oids fs b (description.Refused s) = refl
head_told_seen named.Portal oids fs b (description.Refused s) = refl

outcome_told : (k : DescribedKind) (m : TalkMoment) (d : StatementDescription) (o : Outcome)
    → Keeps m.block (said_told k (oids_told m) m.formats d o) (after_outcome o m (listens (tells k (columns_in d) m))).block
outcome_told k m d outcome.Done = head_told_seen k (oids_told m) m.formats (seen_as m.block) d ∙ ap (λ (b : TalkBlock). Some (seen_as b)) (sym (tells_block k (columns_in d) m))
outcome_told k m d (outcome.Refused f) = refl
outcome_told k m d (outcome.Breaks f) = refl

told_keeps : (k : DescribedKind) (m : TalkMoment) (d : StatementDescription) → Keeps m.block (said_told k (oids_told m) m.formats d (description_outcome None m.formats d)) (after_told k m d).block
told_keeps k m d = outcome_told k m d (description_outcome None m.formats d)

described_keeps : (t : TalkStage) (m : TalkMoment) (d : StatementDescription) → Keeps m.block (said_described t m d) (after_described t m d).block
described_keeps stage.Describing m d =
    own_keeps m (runs_described m.want (record m { columns = columns_in d })) (description_outcome m.columns m.formats d) (ap seen_as (runs_block m.want (record m { columns = columns_in d })))
described_keeps (stage.Telling k) m d = told_keeps k m d
described_keeps (stage.Typing at c) m d = typing_seen (seen_as m.block) at c m d ∙ ap (λ (b : TalkBlock). Some (seen_as b)) (sym (typing_block at c m d))
described_keeps (stage.TellingRow k x) m d = refl
described_keeps (stage.TellingNothing k) m d = refl
described_keeps (stage.Refusing f) m d = refl
described_keeps (stage.Judging f) m d = refl
described_keeps (stage.Settling x) m d = refl
described_keeps stage.Closing m d = refl
described_keeps stage.Emptying m d = refl
described_keeps stage.Resuming m d = refl
described_keeps stage.Discarding m d = refl
described_keeps stage.Starting m d = refl
described_keeps stage.Opening m d = refl
described_keeps stage.Ready m d = refl
described_keeps stage.Beginning m d = refl
described_keeps stage.Running m d = refl
described_keeps stage.Committing m d = refl
described_keeps stage.RollingBack m d = refl
described_keeps (stage.Failing f) m d = refl
described_keeps stage.Ended m d = refl

input_keeps : (m : TalkMoment) (i : Input) → Keeps m.block (said_to_input m i) (after_input m i).block
input_keeps m (asked r) = request_keeps r m
input_keeps m (told (reply.Answer a)) = answered_keeps m.stage m a
input_keeps m (told (reply.Standing s)) = standing_keeps m.stage m s
input_keeps m (told (reply.Description d)) = described_keeps m.stage m (labelled_description m.labels d)
input_keeps m (told (reply.Verifier v)) = refl
input_keeps m bad = refl

all_kept : (m : TalkMoment) (inputs : List Input) → seen_all (seen_as m.block) (said_in m inputs) ≡ Some (seen_as (after_all m inputs).block)
all_kept m [] = refl
all_kept m (i ∷ is) =
    seen_on (seen_as m.block) (said_to_input m i) (said_in (after_input m i) is)
    ∙ ap (option_and_then (λ c. seen_all c (said_in (after_input m i) is))) (input_keeps m i)
    ∙ all_kept (after_input m i) is

pub never_committed : (process : ℕ) (inputs : List Input) → IsSome (seen_all outside (said_in (first_moment process) inputs))
never_committed process inputs = subst IsSome (sym (all_kept (first_moment process) inputs)) refl
