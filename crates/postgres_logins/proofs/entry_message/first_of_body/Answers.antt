use Rattle.std.proofs.Common.{◌≡◌, ◌∙◌, ℕ, Bool, true, false, if◌then◌else◌, List, refl, ap, sym, subst}
use Rattle.std.specs.Prelude.{Option, Some, None, Err, bytes_eq, codes}
use Rattle.std.specs.Char.{encode_utf8}
use Rattle.std.specs.Str.{chars, is_utf8}
use Rattle.std.proofs.lemmas.Slice.Eq.{bytes_eq-Decides}
use Rattle.postgres_messages.specs.Sasl.{IsReadInitial, TheInitial, viewed_initial}
use Rattle.postgres_messages.specs.declared.read_error.ReadError.{ReadError}
use Rattle.postgres_messages.specs.declared.read_error.ReadError.TheVariants as errors
use Rattle.postgres_logins.specs.EntryMessages.{CarriesFirstIn, first_of}
use Rattle.postgres_logins.proofs.entry_message.first_of_body.Goals as goal

is_text : is_utf8 (codes "SCRAM-SHA-256") ≡ true
unfolding is_utf8 chars encode_utf8
is_text = refl

-- a mechanism that is no text is not the one that was offered
no_mechanism : (mechanism : List ℕ) (response : Option (List ℕ)) (b : Bool) → bytes_eq mechanism (codes "SCRAM-SHA-256") ≡ b → is_utf8 mechanism ≡ false → None ≡ (if b then response else None)
no_mechanism mechanism response false is other = refl
no_mechanism mechanism response true is other =
    let same : mechanism ≡ codes "SCRAM-SHA-256" = (bytes_eq-Decides mechanism (codes "SCRAM-SHA-256")).0 is in
    let wrong : true ≡ false = sym is_text ∙ ap is_utf8 (sym same) ∙ other in cc

of_other : (body : List ℕ) (e : ReadError) → e ≡ errors.NotText → IsReadInitial body (Err e) → CarriesFirstIn (Some body) None
of_other body e is read =
    let it = subst (λ (f : ReadError). IsReadInitial body (Err f)) is read in
    (Some it.0, it.1, no_mechanism it.0.mechanism it.0.response (bytes_eq it.0.mechanism (codes "SCRAM-SHA-256")) refl it.2)

pub returns-in-Ok : goal.returns-in-Ok
returns-in-Ok c = (Some (viewed_initial c.in-Ok.initial), c.in-Ok.ensures.0, c.first_of.ensures)

pub returns-in-Err-NotText : goal.returns-in-Err-NotText
returns-in-Err-NotText c = of_other c.args.body.now _ c.in-Err-NotText.field-0-is c.in-Err-NotText.ensures
