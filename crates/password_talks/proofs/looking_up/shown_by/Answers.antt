use Rattle.password_talks.proofs.Steps.{shown_so}
use Rattle.password_talks.proofs.looking_up.shown_by.Goals as goal

pub returns : goal.returns
returns c = shown_so c.finish.result (λ shown. shown.text) (λ shown. shown.message.items) c.args.exchange.now _ c.args.last.now _ c.args.stored c.as_slice.ensures c.lent_text.ensures c.finish.ensures
