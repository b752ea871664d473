-- A written text is read in one way.
use Rattle.std.proofs.Common.{◌≡◌, ◌∙◌, ℕ, Bool, true, false, List, [], length, refl, sym, ap, subst, Option, Some, None, Result, Ok, Err, IsUtf8}
use Rattle.std.specs.Prelude.{nat_lt}
use Rattle.sql_types.specs.declared.state.SqlState.{SqlState}
use Rattle.sql_lexer.specs.Lexeme.{Lexeme}
use Rattle.sql_lexer.specs.Lexing.{Lexes}
use Rattle.select_labels.specs.declared.unlabelled.Unlabelled.{Unlabelled}
use Rattle.select_labels.specs.Unlabelled.{IsUnlabelledUnless, IsWithoutLabels, without_labels_if}
use Rattle.statement_parameters.specs.declared.fault.TemplateFault.{TemplateFault}
use Rattle.statement_parameters.specs.declared.fault.TemplateFault.TheVariants as fault
use Rattle.statement_parameters.specs.declared.template.LabelledTemplate.{LabelledTemplate}
use Rattle.statement_parameters.specs.Masks.{masked}
use Rattle.statement_parameters.specs.Readings.{IsShownReading, IsTemplateReading, IsTemplateWith, IsTemplateWithout, labelled}
use Rattle.statement_parameters.specs.Templates.{Fragment, IsTemplateOf, template_of}

-- a text has one list of tokens
pub record OneLexing : Type 0 where
  pub one : (source : List ℕ) (r s : Result (List Lexeme) SqlState) → Lexes source r → Lexes source s → r ≡ s

one_unlabelled_if : OneLexing → (shown : List ℕ) (b : Bool) (o p : Option Unlabelled) → IsUnlabelledUnless b shown o → IsUnlabelledUnless b shown p → o ≡ p
one_unlabelled_if known shown true o p k h = k ∙ sym h
one_unlabelled_if known shown false o p k h = k.is ∙ ap (without_labels_if shown) (known.one shown k.tokens h.tokens k.lexes h.lexes) ∙ sym h.is

one_unlabelled : OneLexing → (shown : List ℕ) (o p : Option Unlabelled) → IsWithoutLabels shown o → IsWithoutLabels shown p → o ≡ p
one_unlabelled known shown o p k h = one_unlabelled_if known shown (nat_lt 65536 (length shown)) o p k h

one_template : OneLexing → (text shown : List ℕ) (r s : Result (List Fragment) TemplateFault) → IsTemplateOf text shown r → IsTemplateOf text shown s → r ≡ s
one_template known text shown r s k h = k.template_is ∙ ap (template_of text shown) (known.one shown k.tokens h.tokens k.lexes h.lexes) ∙ sym h.template_is

one_with : OneLexing → (text shown : List ℕ) (ls : List (Option (List ℕ))) (r s : Result LabelledTemplate TemplateFault) → IsTemplateWith text shown ls r → IsTemplateWith text shown ls s → r ≡ s
one_with known text shown ls r s k h = k.is ∙ ap (labelled ls) (one_template known text shown k.template h.template k.is_of h.is_of) ∙ sym h.is

one_without : OneLexing → (text shown : List ℕ) (o : Option Unlabelled) (r s : Result LabelledTemplate TemplateFault) → IsTemplateWithout o text shown r → IsTemplateWithout o text shown s → r ≡ s
one_without known text shown None r s k h = one_with known text shown [] r s k h
one_without known text shown (Some u) r s k h = one_with known text u.text u.labels r s k h

one_shown : OneLexing → (text shown : List ℕ) (r s : Result LabelledTemplate TemplateFault) → IsShownReading text shown r → IsShownReading text shown s → r ≡ s
one_shown known text shown r s k h =
    let same : k.unlabelled ≡ h.unlabelled = one_unlabelled known shown k.unlabelled h.unlabelled k.without h.without in
    one_without known text shown h.unlabelled r s (subst (λ (o : Option Unlabelled). IsTemplateWithout o text shown r) same k.template_is) h.template_is

shown_by : (text : List ℕ) (r : Result LabelledTemplate TemplateFault) → IsUtf8 (masked text) → IsTemplateReading text r → IsShownReading text (masked text) r
shown_by text (Ok t) utf8 k = k.1
shown_by text (Err (fault.Refused s)) utf8 k = k.1
shown_by text (Err fault.UnknownParameter) utf8 k = k.1
shown_by text (Err fault.NotText) utf8 k = absurd (k utf8)

pub once : OneLexing → (text : List ℕ) (r s : Result LabelledTemplate TemplateFault) → IsTemplateReading text r → IsTemplateReading text s → r ≡ s
once known text (Ok t) s k h = one_shown known text (masked text) (Ok t) s k.1 (shown_by text s k.0 h)
once known text (Err (fault.Refused e)) s k h = one_shown known text (masked text) (Err (fault.Refused e)) s k.1 (shown_by text s k.0 h)
once known text (Err fault.UnknownParameter) s k h = one_shown known text (masked text) (Err fault.UnknownParameter) s k.1 (shown_by text s k.0 h)
once known text (Err fault.NotText) (Ok t) k h = absurd (k h.0)
once known text (Err fault.NotText) (Err (fault.Refused e)) k h = absurd (k h.0)
once known text (Err fault.NotText) (Err fault.UnknownParameter) k h = absurd (k h.0)
once known text (Err fault.NotText) (Err fault.NotText) k h = refl
