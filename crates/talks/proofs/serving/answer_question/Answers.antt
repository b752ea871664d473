use Rattle.std.proofs.Common.{inl}
use Rattle.talks.specs.Wants.{WantsQuestion}
use Rattle.talks.specs.Conversations.{wanted}
use Rattle.talks.specs.Turns.{asks}
use Rattle.talks.proofs.Turning.{same_want, exchange}
use Rattle.talks.proofs.serving.answer_question.Goals as goal

pub returns : goal.returns
returns g c =
    let w = c.want.result.now in
    let client = c.args.client in (
      asks (exchange client w c.ask-told.result),
      (
        c.want.ensures,
        same_want WantsQuestion (wanted g.T.Talk (g.C.ServedClients.at c.args.clients.now client)) c.requires.0 w c.requires.1 c.want.ensures c.requires.2,
        c.ask-told.ensures.tells,
        c.learn.ensures.learnt,
        c.learn.ensures.waiting,
        c.requires.3,
        c.requires.4,
      ),
      record { passed = c.learn.ensures.passed w c.want.ensures; alone = λ d is. inl (c.learn.ensures.gone d is); contention = c.learn.ensures.contention; maker = c.learn.ensures.maker; expected = c.learn.ensures.expected },
    )
