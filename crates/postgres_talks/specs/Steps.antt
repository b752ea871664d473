-- Where a connection goes: its stage, and what it wants.
use Rattle.std.specs.Prelude.{ℕ, false, List}
use Rattle.sql_types.specs.declared.event.Event.TheVariants as event
use Rattle.talks.specs.declared.want.Want.TheVariants as want
use Rattle.postgres_talks.specs.declared.moment.TalkStage.{TalkStage}
use Rattle.postgres_talks.specs.declared.moment.TalkStage.TheVariants as stage
use Rattle.postgres_talks.specs.declared.moment.TalkMoment.{TalkMoment}
use Rattle.postgres_talks.specs.declared.piece.LabelledText.{LabelledText}

-- the event of this text is wanted; the session of a connection has the number 1
abbrev pub asks : TalkStage → List ℕ → TalkMoment → TalkMoment
asks s text m = record m { stage = s; want = want.Event (event.Statement 1 text) }

-- it is wanted what the statement of this text would answer, whose columns have these labels
abbrev pub describes : TalkStage → LabelledText → TalkMoment → TalkMoment
describes s t m = record m { stage = s; labels = t.labels; want = want.Description 1 t.text }

-- it is wanted how the block stands
abbrev pub looks : TalkStage → TalkMoment → TalkMoment
looks s m = record m { stage = s; want = want.Standing 1 }

-- the next message is wanted
abbrev pub listens : TalkMoment → TalkMoment
listens m = record m { stage = stage.Ready; want = want.Message }

-- the end of the connection is wanted
abbrev pub ends : TalkMoment → TalkMoment
ends m = record m { stage = stage.Ended; want = want.End false }
