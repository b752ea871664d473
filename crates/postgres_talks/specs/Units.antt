-- What an error does to a block of the connection's own.
use Rattle.std.specs.Prelude.{◌≡◌, Bool, true, false, List, [], codes}
use Rattle.std.specs.List.{list_any}
use Rattle.sql_types.specs.declared.answer.Answer.{Answer}
use Rattle.sql_types.specs.declared.answer.Answer.TheVariants as answer
use Rattle.sql_types.specs.declared.event.Event.TheVariants as event
use Rattle.sql_types.specs.declared.tag.Tag.TheVariants as tag
use Rattle.talks.specs.declared.want.Want.TheVariants as want
use Rattle.postgres_messages.specs.Backend.{error_response}
use Rattle.postgres_messages.specs.declared.backend.Severity.{Severity}
use Rattle.postgres_messages.specs.declared.backend.Severity.TheVariants.{Error}
use Rattle.postgres_talks.specs.declared.moment.TalkStage.TheVariants as stage
use Rattle.postgres_talks.specs.declared.moment.TalkMoment.{TalkMoment}
use Rattle.postgres_talks.specs.Sayings.{Saying, message}

-- of a statement: the connection goes on behind it
abbrev pub is_error_of : Severity → Bool
is_error_of Error = true
is_error_of severity = false

abbrev pub is_error : Saying → Bool
is_error (message (error_response r)) = is_error_of r.severity
is_error s = false

-- one was said
abbrev pub SaysError : List Saying → Type 0
SaysError said = list_any is_error said ≡ true

-- the event ROLLBACK is wanted, and nothing is left of the statements that were to be carried out
pub record RollsBack (m : TalkMoment) : Type 0 where
  pub at : m.stage ≡ stage.RollingBack
  pub wanted : m.want ≡ want.Event (event.Statement 1 (codes "ROLLBACK"))
  pub left : m.left ≡ []

-- a block was committed
abbrev pub IsCommitAnswer : Answer → Type 0
IsCommitAnswer (answer.Done tag.Commit count w) = Unit {0}
IsCommitAnswer a = ⊥
