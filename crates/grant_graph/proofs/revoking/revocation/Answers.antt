use Rattle.std.proofs.Common.{◌≡◌, ◌∙◌, map, filter, length, inr, ap, refl}
use Rattle.std.proofs.lemmas.Bool.{both_ways}
use Rattle.std.proofs.lemmas.List.{length-map}
use Rattle.abstract_database.specs.Privileges.{is_taken_by}
use Rattle.grant_graph.specs.Supports.{MarkSupported}
use Rattle.grant_graph.specs.Revoking.{Stay, Loses, in_place}
use Rattle.grant_graph.proofs.Revokes.{revoked_ok, revoked_err, staying_is, stays_by}
use Rattle.grant_graph.proofs.revoking.revocation.Goals as goal

pub returns-then-is_refused-clause-refused : goal.returns-then-is_refused-clause-refused
returns-then-is_refused-clause-refused c =
    let ds = c.args.descriptors.now in
    let option = c.args.grant_option_for in
    let N = c.args.named.now in
    let named = c.in_ok-named.named.items in
    let reached = c.in_ok-reached.reached.items in
    let is : named ≡ map (is_taken_by N) ds = c.in_ok-named.ensures in
    let are : MarkSupported named ds reached = rw (c.as_slice.ensures.value) at c.in_ok-reached.ensures in
    let why = c.is_refused.ensures.0 c.if-is_refused.true in
    let lost : Loses option reached named = rw (c.as_slice-4.ensures.value, c.as_slice-5.ensures.value) at why.1 in
    inr (revoked_err option c.args.behavior N ds named reached c.in_ok-staying.staying.items is are why.0 lost)

pub returns-clause-taking : goal.returns-clause-taking
returns-clause-taking c =
    let ds = c.args.descriptors.now in
    let option = c.args.grant_option_for in
    let N = c.args.named.now in
    let named = c.in_ok-named.named.items in
    let reached = c.in_ok-reached.reached.items in
    let staying = c.in_ok-staying.staying.items in
    let is : named ≡ map (is_taken_by N) ds = c.in_ok-named.ensures in
    let are : MarkSupported named ds reached = rw (c.as_slice.ensures.value) at c.in_ok-reached.ensures in
    let stay : Stay (length reached) option reached named staying = rw (c.as_slice-2.ensures.value, c.as_slice-3.ensures.value) at c.in_ok-staying.ensures in
    let stays = stays_by (is_taken_by N) ds named reached staying is are option in
    record {
      named = is;
      count = (ap length is ∙ length-map ds (is_taken_by N), stay.count ∙ are.count);
      stays = stays;
      staying = staying_is (is_taken_by N) ds named reached staying is are option stay;
      left = revoked_ok option c.args.behavior N ds named reached staying is are
          (λ h. both_ways c.is_refused.result c.if-is_refused.false (c.is_refused.ensures.1 (rw (c.as_slice-4.ensures.value, c.as_slice-5.ensures.value) h)))
          (filter stays (in_place option (is_taken_by N) ds)) refl;
    }
