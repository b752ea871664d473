use Rattle.std.proofs.Common.{◌≡◌, ℕ, List, Err, sym, subst}
use Rattle.std.proofs.lemmas.Result.{IfOk-weaker}
use Rattle.postgres_messages.specs.StartReading.{IsReadStart, viewed_start}
use Rattle.postgres_messages.specs.declared.read_error.ReadError.{ReadError}
use Rattle.postgres_messages.specs.declared.read_error.ReadError.TheVariants as errors
use Rattle.postgres_talks.specs.declared.requests.Request.{Request}
use Rattle.postgres_talks.specs.Requests.{IsStartRequest, a_packet, no_packet, broken}
use Rattle.postgres_talks.proofs.requests.start_request.Goals as goal

of_none : (bytes : List ℕ) (e : ReadError) (r : Request) → e ≡ errors.Malformed → r ≡ broken → IsReadStart bytes (Err e) → IsStartRequest bytes r
of_none bytes e r is same none = subst (λ (q : Request). IsStartRequest bytes q) (sym same) (no_packet (subst (λ (f : ReadError). IsReadStart bytes (Err f)) is none))

pub returns-in-Ok : goal.returns-in-Ok
returns-in-Ok c =
    IfOk-weaker c.packet_request.result _ _ (λ asked is. subst (λ (q : Request). IsStartRequest c.args.bytes.now q) (sym is) (a_packet (viewed_start c.in-Ok.packet) c.in-Ok.ensures)) c.packet_request.ensures

pub returns-in-Err-Malformed : goal.returns-in-Err-Malformed
returns-in-Err-Malformed c = of_none c.args.bytes.now _ _ c.in-Err-Malformed.field-0-is c.broken-in-Err-Malformed.ensures c.in-Err-Malformed.ensures
