use Rattle.std.proofs.Common.{◌≡◌, ◌≢◌, ◌⊎◌, ◌+◌, ℕ, Result, Ok, Err, OnOk, inl, inr, false, refl, sym, ap, ◌∙◌, subst, arith}
use Rattle.std.proofs.lemmas.Bool.{false≢true}
use Rattle.std.proofs.lemmas.Result.{MatchResult-weaker}
use Rattle.sector_device.specs.Device.{history_joined}
use Rattle.sector_device.specs.declared.device.Device.{Ghosts}
use Rattle.page_roots.specs.Formats.{record_format_of}
use Rattle.page_roots.specs.Root.{RootFields}
use Rattle.pages.specs.declared.array.PageFault.{PageFault}
use Rattle.pages.specs.declared.array.PageFault.TheVariants.{Memory, Malformed}
use Rattle.cow_pages.specs.declared.cow.CowPages.{CowPages}
use Rattle.cow_pages.specs.Cow.{IsOpen, LeavesDurable, StaysDurable, durable_array, working_array, has_failed}
use Rattle.cow_pages.specs.Preserved.{FailedWith, IsPreserved}
use Rattle.page_tree.specs.Calls.{IsCaused}
use Rattle.page_tree.specs.Forest.{Represents}
use Rattle.page_tree.proofs.Represented.{map_rises}
use Rattle.store.specs.Records.{Records, Changes}
use Rattle.store.specs.Contents.{changed_in}
use Rattle.store.specs.Store.{Contents}
use Rattle.kv_store.specs.Contents.{HoldsContents}
use Rattle.kv_store.specs.Batches.{applied_in_turn, LacksRoom, LacksReserve}
use Rattle.kv_store.specs.TreeLaws.{ordered_is}
use Rattle.kv_store.proofs.InTurn.{in_turn_is}
use Rattle.kv_store.proofs.Batches.{working_holds, first_used, still_represents, leaves_either, abandoned_back, abandoned_lost, abandoned_leaves, committed, cannot_commit}
use Rattle.kv_store.proofs.Numbering.{before_still, numbered_by, numbered_failed}
use Rattle.kv_store.proofs.Sparing.{spares_of_old, takes_of_old, kept_by, no_room, no_reserve}
use Rattle.kv_store.proofs.commit.commit_batch.Given.{Over}
use Rattle.kv_store.proofs.commit.commit_batch.Goals.{After-preserved_stays, In-Ok}
use Rattle.kv_store.proofs.commit.commit_batch.Goals as goal

-- the pages stand, whatever became of the changes
module _ (g : Over) (c : After-preserved_stays g) (contents : Contents) (holds : HoldsContents contents c.args.pages.now) (preserved : IsPreserved c.args.pages.now c.make_pieces-made.new.pages) where
  leaves : LeavesDurable c.args.pages.now c.make_pieces-made.new.pages
  leaves = c.preserved_stays.ensures.leaves c.args.pages.now holds.is_open preserved

  stays : StaysDurable c.args.pages.now c.make_pieces-made.new.pages
  stays = c.preserved_stays.ensures.stays c.args.pages.now holds.is_open preserved

-- the changes are made
module _ (g : Over) (c : In-Ok g) (contents : Contents) (holds : HoldsContents contents c.args.pages.now) where
  opened : IsOpen c.make_pieces-made.new.pages
  opened = c.preserved_stays.ensures.open c.args.pages.now holds.is_open c.in-Ok.ensures.preserved (c.in-Ok.ensures.works holds.is_open.has_not_failed)

  stand : Represents (applied_in_turn c.args.batch.now contents.records) (working_array c.make_pieces-made.new.pages)
  stand = subst (λ (cs : Changes). Represents (applied_in_turn cs contents.records) (working_array c.make_pieces-made.new.pages)) c.pieces.ensures.changes
      (c.in-Ok.ensures.made holds.is_open.faithful contents.records (working_holds contents c.args.pages.now holds)).1

  represents : Represents (changed_in (record_format_of c.args.format) c.args.batch.now contents).records (working_array c.make_pieces-made.new.pages)
  represents =
      let in_order = ordered_is contents.records (map_rises (durable_array c.args.pages.now) contents.records holds.durable) in
      subst (λ (es : Records). Represents es (working_array c.make_pieces-made.new.pages)) (in_turn_is c.args.batch.now contents.records c.pieces.ensures.ordered in_order) stand

pub returns-else-not-may_commit-clause-batch : goal.returns-else-not-may_commit-clause-batch
returns-else-not-may_commit-clause-batch g c contents holds =
    let at = goal.at.returns-else-not-may_commit-clause-batch g c in
    let old = c.args.pages.now in
    let mid = c.make_pieces-made.new.pages in
    let new = c.finish.new.pages in
    let preserved = c.in-Ok.ensures.preserved in
    let after = changed_in (record_format_of c.args.format) c.args.batch.now contents in
    let left = leaves g at.After-preserved_stays contents holds preserved in
    let stay = stays g at.After-preserved_stays contents holds preserved in
    let open_still = opened g at.In-Ok contents holds in
    let stands = represents g at.In-Ok contents holds in
    let is = c.finish.ensures.finished open_still (first_used after.records mid stands) in
    record {
      leaves = leaves_either contents after old mid new c.args.format refl c.requires preserved.preserved.root holds (still_represents contents old mid holds preserved left stay) left stands is.leaves;
      outcome = MatchResult-weaker c.finish.result is.outcome
          (λ x done. committed contents old mid holds preserved left stay after new c.args.format refl c.requires stands open_still c.args.reserve
          (kept_by c.args.reserve c.free_pages-free.result old mid new c.free_pages-free.ensures preserved.preserved.durable done.map
          (spares_of_old (c.args.reserve) c.free_pages-free.result old mid preserved.preserved.root (c.may_commit.ensures.spares c.if-not-may_commit.false))) done)
          (λ fault not. cannot_commit contents old mid holds preserved left stay after new c.args.format refl c.requires stands open_still c.args.reserve c.args.batch.now (stand g at.In-Ok contents holds) c.finish.ensures.history fault not);
    }

pub returns-then-not-may_commit-clause-batch : goal.returns-then-not-may_commit-clause-batch
returns-then-not-may_commit-clause-batch g c contents holds =
    let at = goal.at.returns-then-not-may_commit-clause-batch g c in
    let old = c.args.pages.now in
    let mid = c.make_pieces-made.new.pages in
    let new = c.abandon.new.self in
    let preserved = c.in-Ok.ensures.preserved in
    let left = leaves g at.After-preserved_stays contents holds preserved in
    let stay = stays g at.After-preserved_stays contents holds preserved in
    let takes = c.may_commit.ensures.takes c.if-not-may_commit.true in
    let lacks : LacksReserve c.args.batch.now contents.records old = record {
      mid = mid;
      preserved = preserved;
      holds = stand g at.In-Ok contents holds;
      free = c.free_pages-free.result;
      free_is = c.free_pages-free.ensures;
      takes = takes_of_old c.free_pages-free.result old mid preserved.preserved.root takes.1;
    } in
    record {
      leaves = abandoned_leaves contents old mid holds preserved left stay new c.abandon.ensures.outcome c.abandon.ensures.preserved (changed_in (record_format_of c.args.format) c.args.batch.now contents);
      outcome = (
        no_reserve c.args.reserve c.args.batch.now contents.records old takes.0 lacks,
        abandoned_back contents old mid holds preserved left stay new c.abandon.ensures.outcome c.abandon.ensures.preserved (opened g at.In-Ok contents holds),
      );
    }

pub returns-then-not-may_commit-clause-numbered : goal.returns-then-not-may_commit-clause-numbered
returns-then-not-may_commit-clause-numbered g c contents holds =
    let old = c.args.pages.now in
    before_still contents contents old c.make_pieces-made.new.pages holds (c.preserved_stays.ensures.leaves old holds.is_open c.in-Ok.ensures.preserved) c.abandon.new.self c.abandon.ensures.outcome.device

pub returns-else-not-may_commit-clause-history : goal.returns-else-not-may_commit-clause-history
returns-else-not-may_commit-clause-history g c = history_joined _ _ _ c.in-Ok.ensures.preserved.preserved.history c.finish.ensures.history

-- the number is that of the root before the changes, and one
on_ok_number : {T E : Type 0} (r : Result T E) (old mid new : ℕ) → mid ≡ old → OnOk r (new ≡ mid + 1) → OnOk r (new ≡ old + 1)
on_ok_number (Ok x) old mid new same is = omega (arith, same, is)
on_ok_number (Err e) old mid new same is = tt

-- why a change was not made, where it is this fault
cause_of : {D : Type 0} {g : Ghosts D} (old mid : CowPages D g) (fault is : PageFault) → fault ≡ is → IsCaused (λ f. FailedWith old mid f) fault → (is ≢ Malformed) × ((is ≡ Memory) ⊎ FailedWith old mid is)
cause_of {D} {g} old mid fault is same caused =
    let now = subst (λ (f : PageFault). IsCaused (λ x. FailedWith old mid x) f) same caused in
    (now.well_formed, now.cause)

pub returns-then-has_failed-clause-batch : goal.returns-then-has_failed-clause-batch
returns-then-has_failed-clause-batch g c contents holds =
    let old = c.args.pages.now in
    let mid = c.make_pieces-made.new.pages in
    let new = c.abandon-in-Err.new.self in
    let preserved = c.in-Err.ensures.preserved in
    let at = goal.at.returns-then-has_failed-clause-batch g c in
    let left = leaves g at.After-preserved_stays contents holds preserved in
    let stay = stays g at.After-preserved_stays contents holds preserved in
    record {
      leaves = abandoned_leaves contents old mid holds preserved left stay new c.abandon-in-Err.ensures.outcome c.abandon-in-Err.ensures.preserved (changed_in (record_format_of c.args.format) c.args.batch.now contents);
      outcome = abandoned_lost contents old mid holds preserved left stay new c.abandon-in-Err.ensures.outcome c.abandon-in-Err.ensures.preserved
          (sym c.has_failed.ensures ∙ c.if-has_failed.true);
    }

pub returns-in-Full-clause-batch : goal.returns-in-Full-clause-batch
returns-in-Full-clause-batch g c contents holds =
    let old = c.args.pages.now in
    let mid = c.make_pieces-made.new.pages in
    let new = c.abandon-in-Err.new.self in
    let preserved = c.in-Err.ensures.preserved in
    let abandoned = c.abandon-in-Err.ensures.outcome in
    let at = goal.at.returns-in-Full-clause-batch g c in
    let left = leaves g at.After-preserved_stays contents holds preserved in
    let stay = stays g at.After-preserved_stays contents holds preserved in
    let works : has_failed mid ≡ false = sym abandoned.has_failed ∙ sym c.has_failed.ensures ∙ c.if-has_failed.false in
    let lacks : LacksRoom c.args.batch.now contents.records old =
    subst (λ (cs : Changes). LacksRoom cs contents.records old) c.pieces.ensures.changes
    (c.in-Err.ensures.room holds.is_open.faithful contents.records (working_holds contents old holds) c.in-Full.is) in
    record {
      leaves = abandoned_leaves contents old mid holds preserved left stay new abandoned c.abandon-in-Err.ensures.preserved (changed_in (record_format_of c.args.format) c.args.batch.now contents);
      outcome = (
        no_room c.args.reserve c.args.batch.now contents.records old lacks,
        abandoned_back contents old mid holds preserved left stay new abandoned c.abandon-in-Err.ensures.preserved
            (c.preserved_stays.ensures.open old holds.is_open preserved works),
      );
    }

pub returns-in-Memory-clause-batch : goal.returns-in-Memory-clause-batch
returns-in-Memory-clause-batch g c contents holds =
    let old = c.args.pages.now in
    let mid = c.make_pieces-made.new.pages in
    let new = c.abandon-in-Err.new.self in
    let preserved = c.in-Err.ensures.preserved in
    let abandoned = c.abandon-in-Err.ensures.outcome in
    let at = goal.at.returns-in-Memory-clause-batch g c in
    let left = leaves g at.After-preserved_stays contents holds preserved in
    let stay = stays g at.After-preserved_stays contents holds preserved in
    let works : has_failed mid ≡ false = sym abandoned.has_failed ∙ sym c.has_failed.ensures ∙ c.if-has_failed.false in
    record {
      leaves = abandoned_leaves contents old mid holds preserved left stay new abandoned c.abandon-in-Err.ensures.preserved (changed_in (record_format_of c.args.format) c.args.batch.now contents);
      outcome = abandoned_back contents old mid holds preserved left stay new abandoned c.abandon-in-Err.ensures.preserved
          (c.preserved_stays.ensures.open old holds.is_open preserved works);
    }

pub returns-in-Device-clause-batch : goal.returns-in-Device-clause-batch
returns-in-Device-clause-batch g c contents holds =
    let old = c.args.pages.now in
    let mid = c.make_pieces-made.new.pages in
    let abandoned = c.abandon-in-Err.ensures.outcome in
    let works : has_failed mid ≡ false = sym abandoned.has_failed ∙ sym c.has_failed.ensures ∙ c.if-has_failed.false in
    let made = c.in-Err.ensures.made holds.is_open.faithful contents.records (working_holds contents old holds) in
    elim c.in-Device.is [
      | inl device ↦ elim (cause_of old mid _ _ device made).1 [
        | inl memory ↦ absurd cc
        | inr failed ↦ absurd (false≢true (sym works ∙ failed.1.has_failed))
      ]
      | inr malformed ↦ absurd ((cause_of old mid _ _ malformed made).0 refl)
    ]

pub returns-else-not-may_commit-clause-anew : goal.returns-else-not-may_commit-clause-anew
returns-else-not-may_commit-clause-anew g c is =
    let number = ap (λ (r : RootFields). r.number) c.in-Ok.ensures.preserved.preserved.root in
    on_ok_number c.finish.result _ _ _ number (c.finish.ensures.anew is)

pub returns-else-not-may_commit-clause-number : goal.returns-else-not-may_commit-clause-number
returns-else-not-may_commit-clause-number g c is =
    let number = ap (λ (r : RootFields). r.number) c.in-Ok.ensures.preserved.preserved.root in
    sym number ∙ c.finish.ensures.number is

pub returns-else-not-may_commit-clause-numbered : goal.returns-else-not-may_commit-clause-numbered
returns-else-not-may_commit-clause-numbered g c contents holds =
    let at = goal.at.returns-else-not-may_commit-clause-numbered g c in
    let old = c.args.pages.now in
    let mid = c.make_pieces-made.new.pages in
    let preserved = c.in-Ok.ensures.preserved in
    let after = changed_in (record_format_of c.args.format) c.args.batch.now contents in
    let left = leaves g at.After-preserved_stays contents holds preserved in
    let stands = represents g at.In-Ok contents holds in
    let is = c.finish.ensures.finished (opened g at.In-Ok contents holds) (first_used after.records mid stands) in
    numbered_by contents after old mid holds left c.args.format refl c.requires preserved.preserved.root (still_represents contents old mid holds preserved left (stays g at.After-preserved_stays contents holds preserved)) stands c.finish.new.pages c.finish.result is.leaves is.outcome

pub returns-then-has_failed-clause-numbered : goal.returns-then-has_failed-clause-numbered
returns-then-has_failed-clause-numbered g c contents holds =
    let old = c.args.pages.now in
    numbered_failed contents _ old c.make_pieces-made.new.pages holds (c.preserved_stays.ensures.leaves old holds.is_open c.in-Err.ensures.preserved) c.abandon-in-Err.new.self c.abandon-in-Err.ensures.outcome.device

pub returns-in-Full-clause-numbered : goal.returns-in-Full-clause-numbered
returns-in-Full-clause-numbered g c contents holds =
    let old = c.args.pages.now in
    before_still contents contents old c.make_pieces-made.new.pages holds (c.preserved_stays.ensures.leaves old holds.is_open c.in-Err.ensures.preserved) c.abandon-in-Err.new.self c.abandon-in-Err.ensures.outcome.device

pub returns-in-Memory-clause-numbered : goal.returns-in-Memory-clause-numbered
returns-in-Memory-clause-numbered g c contents holds =
    let old = c.args.pages.now in
    before_still contents contents old c.make_pieces-made.new.pages holds (c.preserved_stays.ensures.leaves old holds.is_open c.in-Err.ensures.preserved) c.abandon-in-Err.new.self c.abandon-in-Err.ensures.outcome.device

pub returns-in-Device-clause-numbered : goal.returns-in-Device-clause-numbered
returns-in-Device-clause-numbered g c contents holds =
    let old = c.args.pages.now in
    numbered_failed contents _ old c.make_pieces-made.new.pages holds (c.preserved_stays.ensures.leaves old holds.is_open c.in-Err.ensures.preserved) c.abandon-in-Err.new.self c.abandon-in-Err.ensures.outcome.device
