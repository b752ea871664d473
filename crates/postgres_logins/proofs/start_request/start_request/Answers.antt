use Rattle.std.proofs.Common.{◌≡◌, ℕ, List, None, Some, Err, refl, subst}
use Rattle.std.proofs.lemmas.Result.{IfOk-weaker}
use Rattle.sql_types.specs.declared.state.SqlState.TheVariants.{ProtocolViolation}
use Rattle.postgres_messages.specs.StartReading.{IsReadStart, viewed_start}
use Rattle.postgres_messages.specs.declared.read_error.ReadError.{ReadError}
use Rattle.postgres_messages.specs.declared.read_error.ReadError.TheVariants as errors
use Rattle.postgres_logins.specs.declared.start_request.StartRequest.TheVariants as request
use Rattle.postgres_logins.specs.EntryMessages.{AsksAtStart}
use Rattle.postgres_logins.proofs.start_request.start_request.Goals as goal

of_none : (bytes : List ℕ) (e : ReadError) → e ≡ errors.Malformed → IsReadStart bytes (Err e) → AsksAtStart bytes (request.Unfit ProtocolViolation)
of_none bytes e is none = (None, subst (λ (f : ReadError). IsReadStart bytes (Err f)) is none, refl)

pub returns-in-Ok : goal.returns-in-Ok
returns-in-Ok c =
    IfOk-weaker c.packet_request.result _ _ (λ asked is. (Some (viewed_start c.in-Ok.packet), c.in-Ok.ensures, is)) c.packet_request.ensures

pub returns-in-Err-Malformed : goal.returns-in-Err-Malformed
returns-in-Err-Malformed c = of_none c.args.message.now _ c.in-Err-Malformed.field-0-is c.in-Err-Malformed.ensures
