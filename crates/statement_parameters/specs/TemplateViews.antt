-- What the program finds of a written text, as the template that it is.
use Rattle.std.specs.Prelude.{ℕ, List, Result, Ok, Err, Vec}
use Rattle.std.specs.declared.alloc.Global.{Global}
use Rattle.statement_parameters.specs.declared.fault.TemplateFault.{TemplateFault}
use Rattle.statement_parameters.specs.declared.span.PartSpan.{PartSpan}
use Rattle.statement_parameters.specs.Templates.{Fragment}
use Rattle.statement_parameters.specs.Spans.{fragments_in}

abbrev pub viewed_template : List ℕ → Result (Vec PartSpan Global) TemplateFault → Result (List Fragment) TemplateFault
viewed_template masked_text (Ok spans) = Ok (fragments_in masked_text spans.items)
viewed_template masked_text (Err fault) = Err fault
