use Rattle.std.proofs.Common.{◌≡◌, ◌∙◌, ℕ, List, Bool, false, sym, subst, ap, Result, Err}
use Rattle.std.proofs.lemmas.Result.{IfOk-weaker}
use Rattle.statement_parameters.specs.declared.fault.TemplateFault.{TemplateFault}
use Rattle.statement_parameters.specs.declared.fault.TemplateFault.TheVariants as unread
use Rattle.statement_parameters.specs.declared.template.LabelledTemplate.{LabelledTemplate}
use Rattle.statement_parameters.specs.Masks.{is_plain}
use Rattle.statement_parameters.specs.Readings.{IsTemplateReading}
use Rattle.postgres_talks.specs.declared.requests.Request.{Request}
use Rattle.postgres_talks.specs.Requests.{IsParse, IsParseBy, IsParseOf, IsPlainParse}
use Rattle.postgres_talks.proofs.parsing.parse_request.Goals as goal

no_text : (name text oids : List ℕ) (r : Request) (plain : Bool) (read : Result LabelledTemplate TemplateFault) (f : TemplateFault) → plain ≡ is_plain text → plain ≡ false
    → read ≡ Err f → f ≡ unread.NotText → IsTemplateReading text read → IsPlainParse name text r → IsParse name text oids r
no_text name text oids r plain read f is other found none reads parse =
    subst (λ (b : Bool). IsParseBy b name text oids r) (sym other ∙ is)
    (read, reads, subst (λ (o : Result LabelledTemplate TemplateFault). IsParseOf o name text oids r) (sym (found ∙ ap Err none)) parse)

pub returns-in-Err-NotText : goal.returns-in-Err-NotText
returns-in-Err-NotText c =
    IfOk-weaker c.plain_parse-in-Err-NotText.result _ _
    (λ asked parse. no_text c.args.name.now c.args.text.now c.args.oids.now asked c.is_plain.result c.in_ok-read.field-0 c.in-Err-NotText.field-0 c.is_plain.ensures c.if-is_plain.false
    c.in-Err-NotText.is c.in-Err-NotText.field-0-is c.in_ok-read.ensures parse)
    c.plain_parse-in-Err-NotText.ensures
