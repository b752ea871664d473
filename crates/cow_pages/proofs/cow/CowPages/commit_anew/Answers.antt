use Rattle.std.proofs.Common.{◌≡◌, ◌*◌, ℕ, List, inl, inr, refl, sym, ap, ◌∙◌}
use Rattle.sector_device.specs.Device.{timeline, history_none}
use Rattle.sector_device.specs.Timeline.{LeavesOnly, weakened}
use Rattle.cow_pages.specs.Commit.{IsEither}
use Rattle.cow_pages.specs.Cow.{IsOpen, durable_array, working_array}
use Rattle.cow_pages.specs.Image.{array_of}
use Rattle.cow_pages.specs.Dirty.{overlaid_array}
use Rattle.cow_pages.specs.DirtyPages.{dirty_bytes}
use Rattle.cow_pages.proofs.Along.{leaves_none}
use Rattle.cow_pages.specs.PreservedLaws.{same_settled}
use Rattle.cow_pages.proofs.Changing.{next_as, can_commit, recoverable_was, either_was}
use Rattle.cow_pages.proofs.Overlaid.{none_dirty, nothing_dirty}
use Rattle.cow_pages.proofs.Answered.{never_ok, not_both}
use Rattle.cow_pages.proofs.Putting.{outside_kept, sized_kept}
use Rattle.std.proofs.lemmas.Result.{err_from_is_err_and}
use Rattle.cow_pages.proofs.Preserving.{broken_still, commit_refused}
use Rattle.cow_pages.proofs.cow.CowPages.commit_anew.Given.{Over}
use Rattle.cow_pages.proofs.cow.CowPages.commit_anew.Goals.{After-write_changes-written}
use Rattle.cow_pages.proofs.cow.CowPages.commit_anew.Goals as goal

pub returns-in_err-next-clause-any_moment : goal.returns-in_err-next-clause-any_moment
returns-in_err-next-clause-any_moment g c was =
    weakened _ _ _ _ (λ image means. inl means) (leaves_none _ _ _ (g.met.D.Device.only_now c.args.self.now.device was.faithful) was.settled)

pub returns-in_err-next-clause-outcome : goal.returns-in_err-next-clause-outcome
returns-in_err-next-clause-outcome g c =
    let s = c.args.self.now in
    let is = c.prepare.ensures.preserved in
    let fault = c.in_err-next.field-0.0 in
    commit_refused c.args.format c.from_residual.result s _ fault (err_from_is_err_and c.from_residual.result c.from_residual.ensures.1) (record {
      memory = record { root = is.root; durable = is.durable; working = is.working; dirty = refl };
      device = refl;
      has_not_failed = c.if-self.false;
    }) c.in_err-next.ensures.outcome

-- the way over the device leaves what was durable or what was worked on
leaves_either : (g : Over) (c : After-write_changes-written g) → IsOpen c.args.self.now
    → LeavesOnly (IsEither c.args.self.now.map.root.pages c.args.self.now.map.root.format c.args.self.now.map.root.number c.args.format (durable_array c.args.self.now) (working_array c.args.self.now))
    (timeline (g.D.Device.state c.args.self.now.device)) (timeline (g.D.Device.state c.write_changes-written.new.device))
leaves_either g c was =
    let s = c.args.self.now in
    let is = c.prepare.ensures.preserved in
    let d = g.D.Device.state s.device in
    either_was s.map c.prepare.new.self is d (g.D.Device.state c.write_changes-written.new.device) (dirty_bytes s.dirty) c.in_ok-next.next.format c.args.format c.in_ok-next.ensures.format
    (c.write_changes-written.ensures.writes (can_commit s.map c.prepare.new.self is d c.in_ok-next.next was.faithful was.settled c.in_ok-next.ensures.outcome)).any_moment

pub returns-in-Ok-clause-any_moment : goal.returns-in-Ok-clause-any_moment
returns-in-Ok-clause-any_moment g c was = leaves_either g (goal.at.returns-in-Ok-clause-any_moment g c).After-write_changes-written was

pub returns-in-Ok-clause-outcome : goal.returns-in-Ok-clause-outcome
returns-in-Ok-clause-outcome g c =
    let s = c.args.self.now in
    let m = s.map in
    let p = c.prepare.new.self in
    let a = c.advance.new.self in
    let d = g.D.Device.state s.device in
    let e = g.D.Device.state c.write_changes-written.new.device in
    let is = c.prepare.ensures.preserved in
    let next = c.in_ok-next.next in
    let next_is = c.in_ok-next.ensures.outcome in
    record {
      has_not_failed = c.if-self.false;
      format = ap (λ r. r.format) c.advance.ensures.root ∙ c.in_ok-next.ensures.format;
      map = c.advance.ensures.durable ∙ is.working;
      same_maps = c.advance.ensures.working ∙ sym c.advance.ensures.durable;
      space = c.clear.ensures.space;
      durable = λ was.
          let can = can_commit m p is d next was.faithful was.settled next_is in
          let written = (c.in-Ok.ensures.writes can).outcome in
          let now : (l : ℕ) → array_of e.content p.working.items l ≡ overlaid_array (dirty_bytes s.dirty) d.content m.working.items l =
          λ l. written.1 l ∙ ap (λ (es : List ℕ). overlaid_array (dirty_bytes s.dirty) d.content es l) is.working in
          record {
            is_open = record {
              faithful = c.write_changes-written.ensures.history.faithful was.faithful;
              has_not_failed = was.has_not_failed;
              settled = same_settled e next a.root p.working.items a.durable.items (sym c.advance.ensures.root) (sym c.advance.ensures.durable) written.0;
            };
            pages = ap (λ r. r.pages) c.advance.ensures.root ∙ next_is.pages_is;
            numbered = inr (ap (λ r. r.number) c.advance.ensures.root ∙ next_is.number_is);
            durable = λ l. ap (λ (es : List ℕ). array_of e.content es l) c.advance.ensures.durable ∙ now l;
            working = λ l. nothing_dirty (dirty_bytes c.clear.new.self) e.content a.working.items c.clear.ensures.empty l
                ∙ ap (λ (es : List ℕ). array_of e.content es l) c.advance.ensures.working ∙ now l;
          };
    }

pub returns-in-Err-clause-any_moment : goal.returns-in-Err-clause-any_moment
returns-in-Err-clause-any_moment g c was = leaves_either g (goal.at.returns-in-Err-clause-any_moment g c).After-write_changes-written was

pub returns-in-Err-clause-outcome : goal.returns-in-Err-clause-outcome
returns-in-Err-clause-outcome g c =
    let s = c.args.self.now in
    let m = s.map in
    let p = c.prepare.new.self in
    let d = g.D.Device.state s.device in
    let is = c.prepare.ensures.preserved in
    let back = c.unreserve.ensures.preserved in
    record {
      memory = record { root = back.root ∙ is.root; durable = back.durable ∙ is.durable; working = back.working ∙ is.working; dirty = refl };
      faulted = record { has_failed = refl; cause = inr c.in-Err.ensures.cause };
      recoverable = λ was.
          recoverable_was m p is (g.D.Device.state c.write_changes-written.new.device)
          (c.in-Err.ensures.writes (can_commit m p is d c.in_ok-next.next was.faithful was.settled c.in_ok-next.ensures.outcome)).outcome.0;
      same = λ was l.
          let e = g.D.Device.state c.write_changes-written.new.device in
          let still = (c.in-Err.ensures.writes (can_commit m p is d c.in_ok-next.next was.faithful was.settled c.in_ok-next.ensures.outcome)).outcome.1 in
          ap (λ (es : List ℕ). array_of e.content es l) back.durable ∙ still l ∙ ap (λ (es : List ℕ). array_of d.content es l) is.durable;
    }

pub returns-then-self-clause-history : goal.returns-then-self-clause-history
returns-then-self-clause-history g c = history_none (g.D.Device.state c.args.self.now.device)

pub returns-in_err-next-clause-history : goal.returns-in_err-next-clause-history
returns-in_err-next-clause-history g c = history_none (g.D.Device.state c.args.self.now.device)

pub returns-in-Ok-clause-history : goal.returns-in-Ok-clause-history
returns-in-Ok-clause-history g c = c.write_changes-written.ensures.history

pub returns-in-Err-clause-history : goal.returns-in-Err-clause-history
returns-in-Err-clause-history g c = c.write_changes-written.ensures.history

-- after a failure nothing is done
pub returns-then-self-clause-any_moment : goal.returns-then-self-clause-any_moment
returns-then-self-clause-any_moment g c was = not_both _ was.has_not_failed c.if-self.true

pub returns-then-self-clause-outcome : goal.returns-then-self-clause-outcome
returns-then-self-clause-outcome g c = broken_still c.args.self.now c.if-self.true

pub returns-then-self-clause-anew : goal.returns-then-self-clause-anew
returns-then-self-clause-anew g c = tt

pub returns-then-self-clause-closed : goal.returns-then-self-clause-closed
returns-then-self-clause-closed g c was = (refl, refl)

pub invariant_of-self : goal.invariant_of-self
invariant_of-self g c =
    let s = c.args.self.now in
    let is = c.prepare.ensures.preserved in
    record {
      sized = sized_kept _ _ _ is.root s.sized;
      idle = c.in_err-next.ensures.idle;
      outside = outside_kept _ _ _ _ is.root is.durable _ s.outside;
      cached = s.cached;
    }

pub returns-in_err-next-clause-anew : goal.returns-in_err-next-clause-anew
returns-in_err-next-clause-anew g c =
    let back = err_from_is_err_and c.from_residual.result c.from_residual.ensures.1 in
    never_ok _ _ _ back.1

pub returns-in_err-next-clause-closed : goal.returns-in_err-next-clause-closed
returns-in_err-next-clause-closed g c was = not_both _ c.if-self.false was

pub write_changes-written-requires-clause-sized : goal.write_changes-written-requires-clause-sized
write_changes-written-requires-clause-sized g c = sized_kept _ _ _ c.prepare.ensures.preserved.root c.args.self.now.sized

pub write_changes-written-requires-clause-outside : goal.write_changes-written-requires-clause-outside
write_changes-written-requires-clause-outside g c =
    let is = c.prepare.ensures.preserved in
    outside_kept _ _ _ _ is.root is.durable _ c.args.self.now.outside

pub advance-requires : goal.advance-requires
advance-requires g c = record { next = next_as c.args.self.now.map c.prepare.new.self c.prepare.ensures.preserved c.in_ok-next.next c.in_ok-next.ensures.outcome }

pub invariant_of-self-in-Ok : goal.invariant_of-self-in-Ok
invariant_of-self-in-Ok g c =
    let s = c.args.self.now in
    let history = c.write_changes-written.ensures.history in
    record {
      sized = history.sectors ∙ s.sized ∙ ap (λ (k : ℕ). 8 * k) (sym (ap (λ r. r.pages) c.advance.ensures.root ∙ c.in_ok-next.ensures.outcome.pages_is));
      idle = c.advance.ensures.idle;
      outside = λ page some. absurd (none_dirty _ (c.clear.ensures.empty page) some);
      cached = λ now. let was = history.was_faithful now in c.write_changes-written.ensures.cached was (s.cached was);
    }

pub invariant_of-self-in-Err : goal.invariant_of-self-in-Err
invariant_of-self-in-Err g c =
    let s = c.args.self.now in
    let is = c.prepare.ensures.preserved in
    let back = c.unreserve.ensures.preserved in
    let history = c.write_changes-written.ensures.history in
    record {
      sized = history.sectors ∙ sized_kept _ _ _ (back.root ∙ is.root) s.sized;
      idle = c.unreserve.ensures.idle;
      outside = outside_kept _ _ _ _ (back.root ∙ is.root) (back.durable ∙ is.durable) _ s.outside;
      cached = λ now. let was = history.was_faithful now in c.write_changes-written.ensures.cached was (s.cached was);
    }

pub returns-in-Ok-clause-anew : goal.returns-in-Ok-clause-anew
returns-in-Ok-clause-anew g c = ap (λ r. r.number) c.advance.ensures.root ∙ c.in_ok-next.ensures.outcome.number_is

pub returns-in-Ok-clause-closed : goal.returns-in-Ok-clause-closed
returns-in-Ok-clause-closed g c was = not_both _ c.if-self.false was

pub returns-in-Err-clause-anew : goal.returns-in-Err-clause-anew
returns-in-Err-clause-anew g c = tt

pub returns-in-Err-clause-closed : goal.returns-in-Err-clause-closed
returns-in-Err-clause-closed g c was = not_both _ c.if-self.false was

pub prepare-requires : goal.prepare-requires
prepare-requires g c = record { idle = c.args.self.now.idle }
