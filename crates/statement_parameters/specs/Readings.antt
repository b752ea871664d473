-- How a written text is read: its masked text without the labels of its columns is a template.
use Rattle.std.specs.Prelude.{◌≡◌, ℕ, List, [], Option, Some, None, Result, Ok, Err, IsUtf8}
use Rattle.select_labels.specs.declared.unlabelled.Unlabelled.{Unlabelled}
use Rattle.select_labels.specs.Unlabelled.{IsWithoutLabels}
use Rattle.statement_parameters.specs.declared.fault.TemplateFault.{TemplateFault}
use Rattle.statement_parameters.specs.declared.fault.TemplateFault.TheVariants as fault
use Rattle.statement_parameters.specs.declared.template.LabelledTemplate.{LabelledTemplate}
use Rattle.statement_parameters.specs.Masks.{masked}
use Rattle.statement_parameters.specs.Templates.{Fragment, IsTemplateOf}

-- with these labels
abbrev pub labelled : List (Option (List ℕ)) → Result (List Fragment) TemplateFault → Result LabelledTemplate TemplateFault
labelled ls (Ok fs) = Ok (record { template = fs; labels = ls })
labelled ls (Err f) = Err f

-- the tokens of a text without labels, with labels that were taken out of it
pub record IsTemplateWith (text shown : List ℕ) (ls : List (Option (List ℕ))) (r : Result LabelledTemplate TemplateFault) : Type 0 where
  pub template : Result (List Fragment) TemplateFault
  pub is_of : IsTemplateOf text shown template
  pub is : r ≡ labelled ls template

-- a text that has no labels stays as it is
abbrev pub IsTemplateWithout : Option Unlabelled → List ℕ → List ℕ → Result LabelledTemplate TemplateFault → Type 0
IsTemplateWithout None text shown r = IsTemplateWith text shown [] r
IsTemplateWithout (Some u) text shown r = IsTemplateWith text u.text u.labels r

-- what a masked text makes of a written one
pub record IsShownReading (text shown : List ℕ) (r : Result LabelledTemplate TemplateFault) : Type 0 where
  pub unlabelled : Option Unlabelled
  pub without : IsWithoutLabels shown unlabelled
  pub template_is : IsTemplateWithout unlabelled text shown r

-- the template of a text whose masked text is UTF-8, or why it is none
abbrev pub IsTemplateReading : List ℕ → Result LabelledTemplate TemplateFault → Type 0
IsTemplateReading text (Err fault.NotText) = ¬ (IsUtf8 (masked text))
IsTemplateReading text r = IsUtf8 (masked text) × IsShownReading text (masked text) r
