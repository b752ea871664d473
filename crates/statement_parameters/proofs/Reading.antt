-- A template is what the tokens of the masked text make of a text.
use Rattle.std.proofs.Common.{◌≡◌, ◌∙◌, ◌++◌, ◌∷◌, [], ℕ, List, refl, sym, ap, subst, Option, Some, None, Result, Ok, Err, IsUtf8}
use Rattle.std.specs.Option.{ok_or}
use Rattle.std.proofs.lemmas.List.{map-append}
use Rattle.sql_types.specs.declared.state.SqlState.{SqlState}
use Rattle.sql_lexer.specs.Lexeme.{Lexeme}
use Rattle.select_labels.specs.declared.unlabelled.Unlabelled.{Unlabelled}
use Rattle.statement_parameters.specs.declared.fault.TemplateFault.{TemplateFault}
use Rattle.statement_parameters.specs.declared.fault.TemplateFault.TheVariants as fault
use Rattle.statement_parameters.specs.declared.span.PartSpan.{PartSpan}
use Rattle.statement_parameters.specs.declared.template.LabelledTemplate.{LabelledTemplate}
use Rattle.statement_parameters.specs.Masks.{masked}
use Rattle.statement_parameters.specs.Parts.{appended}
use Rattle.statement_parameters.specs.Spans.{fragment_in, fragments_in}
use Rattle.statement_parameters.specs.Readings.{IsShownReading, IsTemplateReading, IsTemplateWith, IsTemplateWithout, labelled}
use Rattle.statement_parameters.specs.Templates.{Fragment, IsTemplateOf, template_of, with_fragment, fragments_from}
use Rattle.statement_parameters.proofs.Lists.{put_behind}

numbers_alone : (o : Option (List Fragment)) → Err fault.NotText ≡ ok_or o fault.UnknownParameter → ⊥
numbers_alone None e = cc
numbers_alone (Some fs) e = cc

not_told : (text m : List ℕ) (ts : Result (List Lexeme) SqlState) → Err fault.NotText ≡ template_of text m ts → ⊥
not_told text m (Ok ts) e = numbers_alone (fragments_from text m 0 ts) e
not_told text m (Err s) e = cc

not_labelled : (text m : List ℕ) (ls : List (Option (List ℕ))) (o : Result (List Fragment) TemplateFault) → IsTemplateOf text m o → Err fault.NotText ≡ labelled ls o → ⊥
not_labelled text m ls (Ok fs) k e = cc
not_labelled text m ls (Err fault.NotText) k e = not_told text m k.tokens k.template_is
not_labelled text m ls (Err fault.UnknownParameter) k e = cc
not_labelled text m ls (Err (fault.Refused s)) k e = cc

not_with : (text m : List ℕ) (ls : List (Option (List ℕ))) → IsTemplateWith text m ls (Err fault.NotText) → ⊥
not_with text m ls k = not_labelled text m ls k.template k.is_of k.is

not_without : (text m : List ℕ) (o : Option Unlabelled) → IsTemplateWithout o text m (Err fault.NotText) → ⊥
not_without text m None k = not_with text m [] k
not_without text m (Some u) k = not_with text u.text u.labels k

pub reading : (text : List ℕ) (r : Result LabelledTemplate TemplateFault) → IsUtf8 (masked text) → IsShownReading text (masked text) r → IsTemplateReading text r
reading text (Ok fs) utf8 k = (utf8, k)
reading text (Err (fault.Refused s)) utf8 k = (utf8, k)
reading text (Err fault.UnknownParameter) utf8 k = (utf8, k)
reading text (Err fault.NotText) utf8 k = absurd (not_without text (masked text) k.unlabelled k.template_is)

pub reading_of : (text shown : List ℕ) (r : Result LabelledTemplate TemplateFault) → shown ≡ masked text → IsUtf8 shown → IsShownReading text shown r → IsTemplateReading text r
reading_of text shown r e utf8 k = reading text r (subst IsUtf8 e utf8) (subst (λ m. IsShownReading text m r) e k)

-- ---- a loop over tokens

first_behind : (f : Fragment) (r : Option (List Fragment)) → with_fragment (Some f) r ≡ appended (Some (f ∷ [])) r
first_behind f None = refl
first_behind f (Some fs) = refl

pub fragment_more : (all rest : Option (List Fragment)) (here : Option Fragment) (m : List ℕ) (spans new : List PartSpan) (s : PartSpan) → new ≡ spans ++ s ∷ []
    → Some (fragment_in m s) ≡ here → all ≡ appended (Some (fragments_in m spans)) (with_fragment here rest) → all ≡ appended (Some (fragments_in m new)) rest
fragment_more all rest here m spans new s put found whole =
    let made : fragments_in m new ≡ fragments_in m spans ++ fragment_in m s ∷ [] = ap (fragments_in m) put ∙ map-append (fragment_in m) spans (s ∷ []) in
    whole
    ∙ ap (λ h. appended (Some (fragments_in m spans)) (with_fragment h rest)) (sym found)
    ∙ ap (appended (Some (fragments_in m spans))) (first_behind (fragment_in m s) rest)
    ∙ put_behind (fragments_in m spans) (fragment_in m s ∷ []) rest
    ∙ ap (λ fs. appended (Some fs) rest) (sym made)

pub fragment_missing : (all rest : Option (List Fragment)) (here : Option Fragment) (fs : List Fragment) → None ≡ here
    → all ≡ appended (Some fs) (with_fragment here rest) → Err fault.UnknownParameter ≡ ok_or all fault.UnknownParameter
fragment_missing all rest here fs missing whole =
    let none : all ≡ None = whole ∙ ap (λ h. appended (Some fs) (with_fragment h rest)) (sym missing) in
    sym (ap (λ o. ok_or o fault.UnknownParameter) none)
