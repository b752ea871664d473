use Rattle.std.proofs.Common.{ap, sym, subst, ◌∙◌, Some}
use Rattle.std.specs.Option.{option_map}
use Rattle.std.proofs.lemmas.List.{take_rest}
use Rattle.std.proofs.lemmas.Result.{IfOk-weaker}
use Rattle.sql_lexer.specs.Lexeme.{lexemes}
use Rattle.select_labels.specs.Labels.{label_tokens}
use Rattle.select_labels.specs.Standing.{StandIn}
use Rattle.select_labels.specs.Unlabelled.{made_by}
use Rattle.select_labels.specs.Views.{viewed_labels}
use Rattle.select_labels.proofs.Standing.{made_so, stand_so}
use Rattle.select_labels.proofs.unlabelled.of_tokens.Goals as goal

pub made_by-requires : goal.made_by-requires
made_by-requires c =
    subst (λ ls. StandIn c.args.text.now 0 (label_tokens ls)) (sym (ap viewed_labels c.deref.ensures.value))
    (stand_so c.args.text.now c.args.tokens.now _ c.split_at.result.0.now _ _ _ c.utf8.text c.requires c.in-len1-up.len_at_least (take_rest c.args.tokens.now 1) c.list_length.ensures.value c.split_at.ensures.front
    c.in_ok-labels.ensures (ap (option_map (λ v. viewed_labels v.items)) c.in-Some.is))

pub returns-in-Some : goal.returns-in-Some
returns-in-Some c =
    IfOk-weaker c.made_by.result _ _
    (λ made is. is ∙ ap (λ ls. made_by c.args.text.now (lexemes c.split_at.result.1.now) (Some ls)) (ap viewed_labels c.deref.ensures.value)
    ∙ made_so c.args.text.now c.args.tokens.now _ c.split_at.result.0.now c.split_at.result.1.now _ _ _ _ _ c.in-len1-up.len_at_least (take_rest c.args.tokens.now 1) c.is_select.ensures c.if-not-is_select.false
    c.list_length.ensures.value c.split_at.ensures.front c.split_at.ensures.back c.in_ok-labels.ensures (ap (option_map (λ v. viewed_labels v.items)) c.in-Some.is))
    c.made_by.ensures
