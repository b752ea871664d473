use Rattle.std.proofs.Common.{◌≡◌, ◌∙◌, ℕ, List, [], ◌++◌, refl, ap, sym, subst}
use Rattle.std.specs.Prelude.{Option, None}
use Rattle.std.proofs.lemmas.List.{append-nil}
use Rattle.postgres_logins.specs.Logins.{start_in}
use Rattle.postgres_logins.specs.PostgresLoginTalks.{HearsStartOf}
use Rattle.postgres_logins.proofs.postgres_login_talk.PostgresLoginTalk.step.Goals as goal

pub returns-in-None : goal.returns-in-None
returns-in-None g c =
    let it = c.in_ok-learn.ensures.ok in
    let none : start_in c.learn.new.self.stage ≡ None = sym c.in-None.ensures in
    record {
      own = it.0;
      inner = [];
      learns = it.1;
      starts = subst (λ (o : Option (List ℕ)). HearsStartOf g.T.Talk o c.args.self.now.talk [] c.args.self.now.talk) (sym none) (refl, refl);
      said_is = it.2 ∙ ap (λ (l : List ℕ). l ++ it.0) c.requires ∙ sym (append-nil it.0);
      is_found = refl;
    }
