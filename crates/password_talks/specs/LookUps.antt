-- What is looked up before each session: whether it is the verifier whose password was shown.
use Rattle.std.specs.Prelude.{◌&&◌, Bool, false, bytes_eq, if◌then◌else◌, Some, Ok, Err}
use Rattle.sql_types.specs.declared.state.SqlState.{SqlState}
use Rattle.sql_types.specs.declared.state.SqlState.TheVariants.{InvalidAuthorization}
use Rattle.talks.specs.declared.want.Want.{Want}
use Rattle.talks.specs.declared.want.Want.TheVariants as want
use Rattle.talks.specs.declared.want.Reply.{Reply}
use Rattle.talks.specs.declared.want.Reply.TheVariants as reply
use Rattle.password_talks.specs.declared.stage.LoginStage.{LoginStage}
use Rattle.password_talks.specs.declared.stage.LoginStage.TheVariants as stage

-- a session is wanted for the role whose password was shown, and what was found is the verifier whose password that is
abbrev pub is_as_shown : LoginStage → Want → Reply → Bool
is_as_shown (stage.Admitted role text) (want.Open session login entry) (reply.Verifier (Ok (Some found))) = bytes_eq login role && bytes_eq found text
is_as_shown _ _ _ = false

-- why a session is refused: the verifier could not be looked up; or the session is for another role, or the password was not shown
abbrev pub refusal : LoginStage → Want → Reply → SqlState
refusal (stage.Admitted role text) (want.Open session login entry) (reply.Verifier (Err state)) = if bytes_eq login role then state else InvalidAuthorization
refusal _ _ _ = InvalidAuthorization
