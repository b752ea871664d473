use Rattle.std.proofs.Common.{◌≡◌, ◌∙◌, ℕ, Bool, true, false, List, ap, refl, sym, Result, Ok, Err}
use Rattle.std.specs.Prelude.{◌==◌, if◌then◌else◌}
use Rattle.std.specs.List.{list_any}
use Rattle.std.specs.Str.{is_utf8}
use Rattle.std.proofs.lemmas.Str.{IsUtf8-from_is_utf8, is_utf8-from_IsUtf8}
use Rattle.sql_types.specs.declared.value.Value.{Value}
use Rattle.sql_types.specs.declared.value.Value.TheVariants as value
use Rattle.statement_parameters.specs.declared.received.ValueFault.{ValueFault}
use Rattle.statement_parameters.specs.declared.received.ValueFault.TheVariants as fault
use Rattle.statement_parameters.proofs.received.text_value.Goals as goal

abbrev by_tests : Bool → Bool → List ℕ → Result Value ValueFault
by_tests z u bytes = if z then Err fault.NotText else (if u then Ok (value.Text bytes) else Err fault.NotText)

is_text : (bytes text : List ℕ) (z u : Bool) → z ≡ false → u ≡ true → text ≡ bytes → Ok (value.Text text) ≡ by_tests z u bytes
is_text bytes text false true e f is = ap (λ (t : List ℕ). Ok (value.Text t)) is
is_text bytes text true u e f is = absurd (cc)
is_text bytes text false false e f is = absurd (cc)

no_text : (bytes : List ℕ) (z u : Bool) → (u ≡ true → ⊥) → Err fault.NotText ≡ by_tests z u bytes
no_text bytes true u other = refl
no_text bytes false true other = absurd (other refl)
no_text bytes false false other = refl

pub returns-in_ok-from_str-in-Ok : goal.returns-in_ok-from_str-in-Ok
returns-in_ok-from_str-in-Ok c =
    let bytes = c.args.bytes.now in
    is_text bytes _ (list_any (λ b. b == 0) bytes) (is_utf8 bytes) (sym c.contains.ensures.value ∙ c.if-contains.false) (is_utf8-from_IsUtf8 bytes c.in-Ok.ensures.cases.1)
    (c.in_ok-from_str-in-Ok.ensures ∙ c.in-Ok.ensures.cases.0)

pub returns-in-Err : goal.returns-in-Err
returns-in-Err c =
    let bytes = c.args.bytes.now in
    no_text bytes (list_any (λ b. b == 0) bytes) (is_utf8 bytes) (λ e. c.in-Err.ensures.cases.0 (IsUtf8-from_is_utf8 bytes e))
