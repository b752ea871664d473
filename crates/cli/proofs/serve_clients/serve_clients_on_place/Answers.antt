use Rattle.std.proofs.Common.{rules, ◌≡◌, ◌∙◌, ◌++◌, ℕ, true, ap, refl, subst, Option, Some, None, is_some}
use Rattle.std.specs.declared.time.Duration.{Duration}
use Rattle.std.specs.Io.KnownBytes.{Appends}
use Rattle.cli.specs.OpenPlaces.{open_lines}
use Rattle.cli.specs.Serving.{listening_text}
use Rattle.cli.specs.ServingClients.{IsLimitOf, uncontended}
use Rattle.cli.proofs.serve_clients.serve_clients_on_place.Goals as goal

is_limited : (limit : Option Duration) (seconds : ℕ) → IsLimitOf (Some seconds) limit → uncontended (is_some limit) ≡ uncontended true
is_limited None seconds is = absurd is
is_limited (Some limit) seconds is = refl

pub returns : goal.returns
returns g c =
    let told : Appends (g.E.Write.contents c.args.err.now) (g.E.Write.contents c.tell_places.new.err) (listening_text c.args.place ++ open_lines c.args.told.now) = search rules in (
      told,
      record {
        before = c.new-clients.result;
        after = c.serve_clients_on-left.new.clients;
        coming = c.new-clients.ensures.at;
        expected = ap Some (c.new-clients.ensures.expected ∙ c.limits-limits.ensures.limits.connections);
        none_waits = c.new-clients.ensures.waiting;
        none_contends = c.new-clients.ensures.contention ∙ is_limited c.limits-limits.result.block c.args.many.block c.limits-limits.ensures.limits.block;
        none_refused = c.new-clients.ensures.refusals;
        none_looked = c.new-clients.ensures.looks;
        made = λ talk made. subst (λ m. g.F.TalkMaker.makes m talk) c.new-clients.ensures.maker made;
        serves = c.serve_clients_on-left.ensures;
        closed = c.into_attend.ensures;
      },
    )
