use Rattle.std.proofs.Common.{◌==◌, ◌∙◌, ℕ, List, sym, ap}
use Rattle.std.specs.List.{list_any}
use Rattle.polled_clients.proofs.Queueing.{put_there, put_new}
use Rattle.polled_clients.proofs.waiting.put_last.Goals as goal

pub returns-then-contains-clause-ok : goal.returns-then-contains-clause-ok
returns-then-contains-clause-ok c =
    let client = c.args.client in
    sym (put_there client c.args.waiting.now.items (ap (λ (l : List ℕ). list_any (λ d. d == client) l) (sym c.deref.ensures.value) ∙ sym c.contains.ensures.value ∙ c.if-contains.true))

pub returns-clause-ok : goal.returns-clause-ok
returns-clause-ok c =
    let client = c.args.client in
    c.in_ok-push.ensures.items
    ∙ sym (put_new client c.args.waiting.now.items (ap (λ (l : List ℕ). list_any (λ d. d == client) l) (sym c.deref.ensures.value) ∙ sym c.contains.ensures.value ∙ c.if-contains.false))
