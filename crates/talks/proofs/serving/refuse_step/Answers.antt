use Rattle.std.proofs.Common.{inl, inr, refl, sym, subst}
use Rattle.std.proofs.lemmas.List.{append-nil}
use Rattle.std.specs.Prelude.{List, []}
use Rattle.talks.specs.Wants.{Learnt, WantsStep}
use Rattle.talks.specs.Conversations.{wanted, Passes}
use Rattle.talks.specs.Turns.{steps, learnt_of}
use Rattle.talks.proofs.Turning.{same_want, exchange}
use Rattle.talks.proofs.serving.refuse_step.Goals as goal

pub returns : goal.returns
returns g c =
    let w = c.want.result.now in
    let client = c.args.client in
    let at = g.C.ServedClients.at in
    let wants = wanted g.T.Talk (at c.args.clients.now client) in
    let d = exchange client w c.refuse_for_memory-refusal.result in (
      steps d [],
      (
        (
          c.refuse_for_memory-refusal.new.self,
          c.want.ensures,
          same_want WantsStep wants c.requires.0 w c.requires.1 c.want.ensures c.requires.2,
          inr c.refuse_for_memory-refusal.ensures.refused,
          c.refuse_for_memory-refusal.ensures.steps,
          refl,
          λ dropped. refl,
        ),
        (c.learn.new.self, c.learn.ensures.learnt, refl),
        c.learn.ensures.waiting,
        (c.requires.4, tt),
        c.requires.5,
      ),
      record {
        passed = λ e. subst (λ (xs : List Learnt). Passes g.T.Talk (g.C.ServedClients.makes (g.C.ServedClients.maker c.args.clients.now)) (at c.args.clients.now e) xs (at c.learn.new.self e)) (sym (append-nil (learnt_of e d))) (c.learn.ensures.passed w c.want.ensures e);
        alone = λ e is. inl (c.learn.ensures.gone e is);
        contention = (g.C.ServedClients.contention c.learn.new.self, c.learn.ensures.contention, refl);
        maker = c.learn.ensures.maker;
        expected = c.learn.ensures.expected;
      },
    )
