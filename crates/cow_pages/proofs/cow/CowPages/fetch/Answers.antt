use Rattle.std.proofs.Common.{◌≡◌, ℕ, List, [], Option, Some, None, IsSome, unwrap_or, get_or, refl, sym, ap, ◌∙◌, inl, inr, arith}
use Rattle.std.proofs.lemmas.List.{get_or_default}
use Rattle.page_cache.specs.Held.{bytes_in}
use Rattle.cow_pages.specs.Cached.{AgreesWith}
use Rattle.cow_pages.specs.Dirty.{overlaid_page}
use Rattle.cow_pages.specs.DirtyPages.{dirty_bytes}
use Rattle.cow_pages.specs.PreservedLaws.{preserved_same}
use Rattle.cow_pages.specs.ReadingLaws.{pages_read_none}
use Rattle.cow_pages.proofs.Reading.{reads_none, reads_alone}
use Rattle.cow_pages.proofs.Preserving.{preserved_read, preserved_still}
use Rattle.cow_pages.proofs.Overlaid.{none_dirty, page_dirty, page_unless, overlaid_read}
use Rattle.cow_pages.proofs.Answered.{not_both}
use Rattle.cow_pages.proofs.Writing.{page_there}
use Rattle.cow_pages.proofs.Bytes.{page_is}
use Rattle.cow_pages.proofs.Cached.{same_agrees, read_agrees, read_there, put_agrees}
use Rattle.cow_pages.proofs.cow.CowPages.fetch.Given.{Over}
use Rattle.cow_pages.proofs.cow.CowPages.fetch.Goals.{After-read_page}
use Rattle.cow_pages.proofs.cow.CowPages.fetch.Goals as goal

-- the bytes that there are, whatever stands for none
unwrapped : (bytes : Option (List ℕ)) (none : List ℕ) → IsSome bytes → bytes ≡ Some (unwrap_or bytes none)
unwrapped (Some bytes) none some = refl
unwrapped None none some = absurd cc

pub returns-then-self-clause-preserved : goal.returns-then-self-clause-preserved
returns-then-self-clause-preserved g c = preserved_same c.args.self.now

pub returns-then-self-clause-only_reads : goal.returns-then-self-clause-only_reads
returns-then-self-clause-only_reads g c = pages_read_none c.args.self.now (g.met.D.Device.only_now c.args.self.now.device)

pub returns-then-self-clause-outcome : goal.returns-then-self-clause-outcome
returns-then-self-clause-outcome g c = record { has_failed = c.if-self.true; cause = inl c.if-self.true }

pub returns-then-physical-eq0-clause-preserved : goal.returns-then-physical-eq0-clause-preserved
returns-then-physical-eq0-clause-preserved g c = preserved_same c.args.self.now

pub returns-then-physical-eq0-clause-only_reads : goal.returns-then-physical-eq0-clause-only_reads
returns-then-physical-eq0-clause-only_reads g c = pages_read_none c.args.self.now (g.met.D.Device.only_now c.args.self.now.device)

pub returns-then-physical-eq0-clause-outcome : goal.returns-then-physical-eq0-clause-outcome
returns-then-physical-eq0-clause-outcome g c =
    let s = c.args.self.now in
    (ap (λ (p : ℕ). overlaid_page (dirty_bytes s.dirty) (g.D.Device.state s.device).content p) (sym c.page-physical.ensures.page ∙ c.if-physical-eq0.true), c.if-self.false)

pub returns-then-physical-eq0-clause-closed : goal.returns-then-physical-eq0-clause-closed
returns-then-physical-eq0-clause-closed g c was = not_both _ c.if-self.false was

pub invariant_of-self : goal.invariant_of-self
invariant_of-self g c =
    let s = c.args.self.now in
    record { sized = s.sized; idle = s.idle; outside = s.outside; cached = s.cached }

pub returns-in-Some-clause-preserved : goal.returns-in-Some-clause-preserved
returns-in-Some-clause-preserved g c = preserved_still g.met.D.Device.only_now _ _ refl refl refl refl

pub returns-in-Some-clause-only_reads : goal.returns-in-Some-clause-only_reads
returns-in-Some-clause-only_reads g c = record {
  map = refl;
  dirty = refl;
  content = λ first. reads_none _ (g.met.D.Device.only_now c.args.self.now.device first);
  array = λ first l. refl;
}

pub returns-in-Some-clause-outcome : goal.returns-in-Some-clause-outcome
returns-in-Some-clause-outcome g c =
    let s = c.args.self.now in
    let d = g.D.Device.state s.device in
    let physical = c.page-physical.result in
    let index = c.in-Some.index in
    let is = c.in-Some.ensures.some in
    record {
      has_not_failed = c.if-self.false;
      found = λ first. ap (λ (p : ℕ). overlaid_page (dirty_bytes s.dirty) d.content p) (sym c.page-physical.ensures.page)
          ∙ page_dirty (dirty_bytes s.dirty) d.content physical (get_or s.dirty.bytes.items index []) (omega (arith, c.if-physical-eq0.false)) is.bytes
          ∙ ap (λ (b : List ℕ). Some b) (get_or_default s.dirty.bytes.items index [] s.page is.inside);
    }

pub returns-in-Some-clause-closed : goal.returns-in-Some-clause-closed
returns-in-Some-clause-closed g c was = not_both _ c.if-self.false was

pub invariant_of-self-in-Some-find : goal.invariant_of-self-in-Some-find
invariant_of-self-in-Some-find g c =
    let s = c.args.self.now in
    record {
      sized = s.sized;
      idle = s.idle;
      outside = s.outside;
      cached = λ now. same_agrees s.cache c.find-2.new.self (g.D.Device.state s.device).content (s.cached now) c.find-2.ensures.kept;
    }

pub returns-in-Some-find-clause-preserved : goal.returns-in-Some-find-clause-preserved
returns-in-Some-find-clause-preserved g c = preserved_still g.met.D.Device.only_now _ _ refl refl refl refl

pub returns-in-Some-find-clause-only_reads : goal.returns-in-Some-find-clause-only_reads
returns-in-Some-find-clause-only_reads g c = record {
  map = refl;
  dirty = refl;
  content = λ first. reads_none _ (g.met.D.Device.only_now c.args.self.now.device first);
  array = λ first l. refl;
}

pub returns-in-Some-find-clause-outcome : goal.returns-in-Some-find-clause-outcome
returns-in-Some-find-clause-outcome g c =
    let s = c.args.self.now in
    let d = g.D.Device.state s.device in
    let physical = c.page-physical.result in
    let slot = bytes_in c.find-2.new.self c.in-Some-find.slot in
    let is = c.in-Some-find.ensures.found in
    record {
      has_not_failed = c.if-self.false;
      found = λ first. ap (λ (p : ℕ). overlaid_page (dirty_bytes s.dirty) d.content p) (sym c.page-physical.ensures.page)
          ∙ page_unless (dirty_bytes s.dirty) d.content physical (λ positive some. none_dirty (dirty_bytes s.dirty physical) c.in_default.ensures.none some)
          ∙ page_there d.content physical (omega (arith, c.if-physical-eq0.false))
          ∙ ap (λ (b : List ℕ). Some b) (s.cached first physical (unwrap_or slot s.page) (omega (arith, c.if-physical-eq0.false)) (is.1 ∙ unwrapped slot s.page is.0));
    }

pub returns-in-Some-find-clause-closed : goal.returns-in-Some-find-clause-closed
returns-in-Some-find-clause-closed g c was = not_both _ c.if-self.false was

-- what is in the cache is what the device holds, also once a page was read
agrees_still : (g : Over) (c : After-read_page g) → (g.D.Device.state c.read_page.new.device).faithful → AgreesWith c.find-2.new.self (g.D.Device.state c.read_page.new.device).content
agrees_still g c now =
    let s = c.args.self.now in
    let d = g.D.Device.state s.device in
    let e = g.D.Device.state c.read_page.new.device in
    let first = c.read_page.ensures.history.was_faithful now in
    let reads = reads_alone d e (c.read_page.ensures.alone first) (c.read_page.ensures.any_moment first) in
    let cache = c.find-2.new.self in
    read_agrees d e reads cache (same_agrees s.cache cache d.content (s.cached first) c.find-2.ensures.kept)

pub invariant_of-self-in-Err-clause-cached : goal.invariant_of-self-in-Err-clause-cached
invariant_of-self-in-Err-clause-cached g c now = agrees_still g (goal.at.invariant_of-self-in-Err-clause-cached g c).After-read_page now

pub returns-in-Ok-clause-closed : goal.returns-in-Ok-clause-closed
returns-in-Ok-clause-closed g c was = not_both _ c.if-self.false was

pub returns-in-Err-clause-outcome : goal.returns-in-Err-clause-outcome
returns-in-Err-clause-outcome g c = record { has_failed = refl; cause = inr c.in-Err.ensures.cause }

pub returns-in-Err-clause-closed : goal.returns-in-Err-clause-closed
returns-in-Err-clause-closed g c was = not_both _ c.if-self.false was

pub invariant_of-self-in-Ok-clause-cached : goal.invariant_of-self-in-Ok-clause-cached
invariant_of-self-in-Ok-clause-cached g c now =
    let first = c.read_page.ensures.history.was_faithful now in
    let d = g.D.Device.state c.args.self.now.device in
    let e = g.D.Device.state c.read_page.new.device in
    let reads = reads_alone d e (c.read_page.ensures.alone first) (c.read_page.ensures.any_moment first) in
    put_agrees c.find-2.new.self c.put.new.self e.content (agrees_still g (goal.at.invariant_of-self-in-Ok-clause-cached g c).After-read_page now)
    c.page-physical.result c.read_page.new.bytes (read_there d e reads c.page-physical.result ∙ page_is d.content c.page-physical.result ∙ sym (c.in-Ok.ensures.page first)) c.put.ensures.here c.put.ensures.others

pub returns-in-Ok-clause-preserved : goal.returns-in-Ok-clause-preserved
returns-in-Ok-clause-preserved g c =
    preserved_read g.met.D.Device.only_now _ _ (record { history = c.read_page.ensures.history; root = refl; durable = refl }) (λ is. inl is) (λ is. is)
    (λ first. reads_alone _ _ (c.read_page.ensures.alone first) (c.read_page.ensures.any_moment first))

pub returns-in-Ok-clause-only_reads : goal.returns-in-Ok-clause-only_reads
returns-in-Ok-clause-only_reads g c = record {
  map = refl;
  dirty = refl;
  content = λ first. reads_alone _ _ (c.read_page.ensures.alone first) (c.read_page.ensures.any_moment first);
  array = λ first l. overlaid_read (dirty_bytes c.args.self.now.dirty) _ _ (reads_alone _ _ (c.read_page.ensures.alone first) (c.read_page.ensures.any_moment first)) c.args.self.now.map.working.items l;
}

pub returns-in-Ok-clause-outcome : goal.returns-in-Ok-clause-outcome
returns-in-Ok-clause-outcome g c =
    let s = c.args.self.now in
    let d = g.D.Device.state s.device in
    let physical = c.page-physical.result in
    record {
      has_not_failed = c.if-self.false;
      found = λ first. ap (λ (p : ℕ). overlaid_page (dirty_bytes s.dirty) d.content p) (sym c.page-physical.ensures.page)
          ∙ page_unless (dirty_bytes s.dirty) d.content physical (λ positive some. none_dirty (dirty_bytes s.dirty physical) c.in_default.ensures.none some)
          ∙ page_there d.content physical (omega (arith, c.if-physical-eq0.false))
          ∙ ap (λ (b : List ℕ). Some b) (page_is d.content physical ∙ sym (c.in-Ok.ensures.page first));
    }

pub returns-in-Err-clause-preserved : goal.returns-in-Err-clause-preserved
returns-in-Err-clause-preserved g c =
    preserved_read g.met.D.Device.only_now _ _ (record { history = c.read_page.ensures.history; root = refl; durable = refl }) (λ is. inr c.in-Err.ensures.cause) (λ is. refl)
    (λ first. reads_alone _ _ (c.read_page.ensures.alone first) (c.read_page.ensures.any_moment first))

pub returns-in-Err-clause-only_reads : goal.returns-in-Err-clause-only_reads
returns-in-Err-clause-only_reads g c = record {
  map = refl;
  dirty = refl;
  content = λ first. reads_alone _ _ (c.read_page.ensures.alone first) (c.read_page.ensures.any_moment first);
  array = λ first l. overlaid_read (dirty_bytes c.args.self.now.dirty) _ _ (reads_alone _ _ (c.read_page.ensures.alone first) (c.read_page.ensures.any_moment first)) c.args.self.now.map.working.items l;
}

pub returns-then-self-clause-no_device_call : goal.returns-then-self-clause-no_device_call
returns-then-self-clause-no_device_call g c held = refl

pub returns-then-self-clause-closed : goal.returns-then-self-clause-closed
returns-then-self-clause-closed g c was = (refl, refl)

pub returns-then-physical-eq0-clause-no_device_call : goal.returns-then-physical-eq0-clause-no_device_call
returns-then-physical-eq0-clause-no_device_call g c held = refl

pub returns-in-Some-clause-no_device_call : goal.returns-in-Some-clause-no_device_call
returns-in-Some-clause-no_device_call g c held = refl

pub returns-in-Some-find-clause-no_device_call : goal.returns-in-Some-find-clause-no_device_call
returns-in-Some-find-clause-no_device_call g c held = refl

pub invariant_of-self-in-Err-clause-sized : goal.invariant_of-self-in-Err-clause-sized
invariant_of-self-in-Err-clause-sized g c = c.read_page.ensures.history.sectors ∙ c.args.self.now.sized

pub invariant_of-self-in-Err-clause-idle : goal.invariant_of-self-in-Err-clause-idle
invariant_of-self-in-Err-clause-idle g c = c.args.self.now.idle

pub invariant_of-self-in-Err-clause-outside : goal.invariant_of-self-in-Err-clause-outside
invariant_of-self-in-Err-clause-outside g c = c.args.self.now.outside

pub invariant_of-self-in-Ok-clause-sized : goal.invariant_of-self-in-Ok-clause-sized
invariant_of-self-in-Ok-clause-sized g c = c.read_page.ensures.history.sectors ∙ c.args.self.now.sized

pub invariant_of-self-in-Ok-clause-idle : goal.invariant_of-self-in-Ok-clause-idle
invariant_of-self-in-Ok-clause-idle g c = c.args.self.now.idle

pub invariant_of-self-in-Ok-clause-outside : goal.invariant_of-self-in-Ok-clause-outside
invariant_of-self-in-Ok-clause-outside g c = c.args.self.now.outside
