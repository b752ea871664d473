use Rattle.std.proofs.Common.{◌∙◌, ap, ℕ, Vec, string_bytes}
use Rattle.std.specs.declared.alloc.Global.{Global}
use Rattle.std.proofs.lemmas.Result.{IfOk-weaker}
use Rattle.std.proofs.lemmas.Str.{IsUtf8-string_bytes}
use Rattle.statement_parameters.specs.Masks.{masked}
use Rattle.statement_parameters.proofs.Reading.{reading_of}
use Rattle.statement_parameters.proofs.template.Template.read.Goals as goal

pub returns-in-Ok : goal.returns-in-Ok
returns-in-Ok c =
    IfOk-weaker c.of_masked.result _ _
    (λ read is. reading_of c.args.text.now (string_bytes c.in-Ok.shown) read (ap (λ (v : Vec ℕ Global). v.items) c.in-Ok.ensures.ok ∙ c.in_ok-shown.ensures ∙ ap masked c.as_bytes.ensures.value)
    (IsUtf8-string_bytes c.in-Ok.shown) is)
    c.of_masked.ensures
