use Rattle.std.proofs.Common.{◌≡◌, ℕ, List, Err, sym, subst}
use Rattle.std.proofs.lemmas.Result.{IfOk-weaker}
use Rattle.postgres_messages.specs.Messages.{IsMessageRead}
use Rattle.postgres_messages.specs.Views.{viewed_message}
use Rattle.postgres_messages.specs.declared.read_error.ReadError.{ReadError}
use Rattle.postgres_messages.specs.declared.read_error.ReadError.TheVariants as errors
use Rattle.postgres_talks.specs.declared.fault.TalkFault.TheVariants as fault
use Rattle.postgres_talks.specs.declared.moment.Mode.{Mode}
use Rattle.postgres_talks.specs.declared.named_pieces.NamedPiece.{NamedPiece}
use Rattle.postgres_talks.specs.declared.requests.Request.{Request}
use Rattle.postgres_talks.specs.declared.requests.Request.TheVariants as request
use Rattle.postgres_talks.specs.Requests.{IsMessageRequest, a_message, no_text, no_message, broken, mode_of}
use Rattle.postgres_talks.proofs.requests.message_request.Goals as goal

of_bytes : (ns : List NamedPiece) (bytes : List ℕ) (e : ReadError) (m : Mode) → e ≡ errors.NotText → m ≡ mode_of bytes → IsMessageRead bytes (Err e) → IsMessageRequest ns bytes (request.Fails m fault.NotText)
of_bytes ns bytes e m is same read =
    let one = subst (λ (f : ReadError). IsMessageRead bytes (Err f)) is read in
    subst (λ (n : Mode). IsMessageRequest ns bytes (request.Fails n fault.NotText)) (sym same) (no_text one.0 one.1 one.2)

of_none : (ns : List NamedPiece) (bytes : List ℕ) (e : ReadError) (r : Request) → e ≡ errors.Malformed → r ≡ broken → IsMessageRead bytes (Err e) → IsMessageRequest ns bytes r
of_none ns bytes e r is same none = subst (λ (q : Request). IsMessageRequest ns bytes q) (sym same) (no_message (subst (λ (f : ReadError). IsMessageRead bytes (Err f)) is none))

pub returns-in-Ok : goal.returns-in-Ok
returns-in-Ok c = IfOk-weaker c.asked_by.result _ _ (λ asked is. a_message (viewed_message c.in-Ok.message) c.in-Ok.ensures.0 c.in-Ok.ensures.1 is) c.asked_by.ensures

pub returns-in-Err-NotText : goal.returns-in-Err-NotText
returns-in-Err-NotText c = of_bytes c.args.statements.now c.args.bytes.now _ _ c.in-Err-NotText.field-0-is c.mode_of.ensures c.in-Err-NotText.ensures

pub returns-in-Err-Malformed : goal.returns-in-Err-Malformed
returns-in-Err-Malformed c = of_none c.args.statements.now c.args.bytes.now _ _ c.in-Err-Malformed.field-0-is c.broken.ensures c.in-Err-Malformed.ensures
