use Rattle.std.proofs.Common.{◌∙◌, Bool, sym, subst}
use Rattle.std.specs.Prelude.{IfOk}
use Rattle.std.proofs.lemmas.Bool.{ne_eqb}
use Rattle.statement_parameters.specs.Templates.{parameter_count}
use Rattle.postgres_talks.specs.Requests.{IsCountedParse}
use Rattle.postgres_talks.proofs.parsing.counted_parse.Goals as goal

pub returns-else-parameter_count-eq0 : goal.returns-else-parameter_count-eq0
returns-else-parameter_count-eq0 c =
    subst (λ (none : Bool). IfOk c.template_parse.result (λ asked. IsCountedParse none c.args.name.now c.args.text.now c.args.read c.args.oids.now asked))
    (sym (ne_eqb (parameter_count c.args.read.template) 0 (λ none. c.if-parameter_count-eq0.false (c.parameter_count.ensures ∙ none))))
    c.template_parse.ensures
