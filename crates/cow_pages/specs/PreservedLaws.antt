-- What calls that are no commit preserve, over several calls.
use Rattle.std.specs.Prelude.{◌≡◌, ◌<◌, ◌-◌, ◌^◌, ℕ, List, IsSome, length}
use Rattle.std.proofs.Common.{◌∙◌, ap, subst, refl, inl, inr, arith}
use Rattle.std.proofs.lemmas.Bool.{cases_lt, false≢true}
use Rattle.std.proofs.lemmas.List.{get_or_past}
use Rattle.sector_device.specs.Timeline.{joined, weakened}
use Rattle.sector_device.specs.Device.{DeviceState, Image, KeepsHistory, HasFailed, timeline, history_joined, history_none}
use Rattle.sector_device.specs.declared.device.Device.{Ghosts}
use Rattle.page_roots.specs.declared.format.Format.{Format}
use Rattle.page_roots.specs.Root.{RootFields}
use Rattle.page_roots.specs.Reach.{IsSound}
use Rattle.cow_pages.specs.declared.cow.CowPages.{CowPages}
use Rattle.pages.specs.declared.array.PageFault.{PageFault}
use Rattle.pages.specs.declared.array.PageFault.TheVariants.{Full, Memory, Device, Malformed}
use Rattle.pages.specs.State.{Array}
use Rattle.cow_pages.specs.Image.{map_in, Means}
use Rattle.cow_pages.specs.Dirty.{DirtyBytes, overlaid_array, overlaid_page}
use Rattle.cow_pages.specs.DirtyPages.{dirty_bytes}
use Rattle.cow_pages.specs.Held.{IsSettled}
use Rattle.cow_pages.specs.Cow.{working_array, durable_array, KeepsRoot, LeavesDurable, StaysDurable}
use Rattle.cow_pages.specs.Preserved.{IsPreserved, FailedWith}

-- a failure in the earlier or in the later of two calls
pub failed_before : (old mid new : DeviceState) → KeepsHistory mid new → HasFailed old mid → HasFailed old new
failed_before old mid new second failed = elim failed [
  | inl rose ↦ inl (omega (arith, second.failures, rose))
  | inr most ↦ inr most
]

pub failed_later : (old mid new : DeviceState) → KeepsHistory old mid → KeepsHistory mid new → HasFailed mid new → HasFailed old new
failed_later old mid new first second failed = elim failed [
  | inl rose ↦ inl (omega (arith, first.failures, rose))
  | inr most ↦ elim (cases_lt old.failures (2 ^ 64 - 1)) [
    | inl lt ↦ inl (omega (arith, lt, most, second.failures))
    | inr past ↦ inr (omega (arith, past, most, first.failures))
  ]
]

-- an image means an array by what is in it
same_means : (pages others : ℕ) (f g : Format) (number other : ℕ) (a b : Array) (image : Image) → pages ≡ others → f ≡ g → number ≡ other → ((l : ℕ) → a l ≡ b l)
    → Means pages f number a image → Means others g other b image
same_means pages others f g number other a b image same_pages same_format same_number same means = record {
  root = means.root;
  chosen = means.chosen;
  format_is = means.format_is ∙ same_format;
  number_is = means.number_is ∙ same_number;
  pages_is = means.pages_is ∙ same_pages;
  sound = subst (λ (n : ℕ). IsSound n means.root.maps (map_in image means.root.maps)) same_pages means.sound;
  array_is = λ l. means.array_is l ∙ same l;
}

pub same_settled : (d : DeviceState) (root other : RootFields) (entries others : List ℕ) → root ≡ other → entries ≡ others → IsSettled d root entries → IsSettled d other others
same_settled d root other entries others same_root same_entries settled =
    subst (λ (es : List ℕ). IsSettled d other es) same_entries (subst (λ (r : RootFields). IsSettled d r entries) same_root settled)

module _ {D : Type 0} {g : Ghosts D} (p q : CowPages D g) (preserved : KeepsRoot p q) (stays : StaysDurable p q) where
  means_before : (image : Image) → Means q.map.root.pages q.map.root.format q.map.root.number (durable_array q) image
      → Means p.map.root.pages p.map.root.format p.map.root.number (durable_array p) image
  means_before image means = same_means q.map.root.pages p.map.root.pages q.map.root.format p.map.root.format q.map.root.number p.map.root.number (durable_array q) (durable_array p) image
      (ap (λ r. r.pages) preserved.root) (ap (λ r. r.format) preserved.root) (ap (λ r. r.number) preserved.root) stays.same means

  leaves_joined : (r : CowPages D g) → LeavesDurable p q → LeavesDurable q r → LeavesDurable p r
  leaves_joined r first second =
      let means = Means p.map.root.pages p.map.root.format p.map.root.number (durable_array p) in
      joined means (timeline (g.state p.device)) (timeline (g.state q.device)) (timeline (g.state r.device)) first
      (weakened (Means q.map.root.pages q.map.root.format q.map.root.number (durable_array q)) means (timeline (g.state q.device)) (timeline (g.state r.device)) means_before second)

  stays_joined : (r : CowPages D g) → StaysDurable q r → StaysDurable p r
  stays_joined r second = record {
    settled = same_settled (g.state r.device) q.map.root p.map.root q.map.durable.items p.map.durable.items preserved.root preserved.durable second.settled;
    same = λ l. second.same l ∙ stays.same l;
  }

-- no call at all
pub preserved_same : {D : Type 0} {g : Ghosts D} (p : CowPages D g) → IsPreserved p p
preserved_same {D} {g} p = record {
  preserved = record {
    history = history_none _;
    root = refl;
    durable = refl;
  };
  leaves = λ holds. holds.now;
  stays = λ holds. record { settled = holds.settled; same = λ l. refl };
  holds = λ holds. holds;
  cause = λ failed. inl failed;
  remains = λ failed. failed;
}

-- calls, and then calls
pub preserved_joined : {D : Type 0} {g : Ghosts D} (p q r : CowPages D g) → IsPreserved p q → IsPreserved q r → IsPreserved p r
preserved_joined {D} {g} p q r first second =
    let d = g.state p.device in
    let e = g.state q.device in
    let f = g.state r.device in
    record {
      preserved = record {
        history = history_joined d e f first.preserved.history second.preserved.history;
        root = second.preserved.root ∙ first.preserved.root;
        durable = second.preserved.durable ∙ first.preserved.durable;
      };
      leaves = λ holds. leaves_joined p q first.preserved (first.stays holds) r (first.leaves holds) (second.leaves (first.holds holds));
      stays = λ holds. stays_joined p q first.preserved (first.stays holds) r (second.stays (first.holds holds));
      holds = λ holds. second.holds (first.holds holds);
      cause = λ failed. elim (second.cause failed) [
        | inl was ↦ elim (first.cause was) [
          | inl before ↦ inl before
          | inr failing ↦ inr (failed_before d e f second.preserved.history failing)
        ]
        | inr failing ↦ inr (failed_later d e f first.preserved.history second.preserved.history failing)
      ];
      remains = λ failed. second.remains (first.remains failed);
    }

-- the cause of a fault is the same from an earlier state on
pub failed_with_later : {D : Type 0} {g : Ghosts D} (p q r : CowPages D g) (fault : PageFault) → IsPreserved p q → FailedWith q r fault → FailedWith p r fault
failed_with_later {D} {g} p q r Full preserved given = given
failed_with_later {D} {g} p q r Memory preserved given = given
failed_with_later {D} {g} p q r Device preserved given =
    let d = g.state p.device in
    let e = g.state q.device in
    let f = g.state r.device in (
      history_joined d e f preserved.preserved.history given.0,
      record {
        has_failed = given.1.has_failed;
        cause = elim given.1.cause [
          | inl was ↦ elim (preserved.cause was) [
            | inl before ↦ inl before
            | inr failing ↦ inr (failed_before d e f given.0 failing)
          ]
          | inr failing ↦ inr (failed_later d e f preserved.preserved.history given.0 failing)
        ];
      },
    )
failed_with_later {D} {g} p q r Malformed preserved given = given

-- after the end of a map no page is in use
pub in_map : (w : DirtyBytes) (content : Image) (entries : List ℕ) (l : ℕ) → IsSome (overlaid_array w content entries l) → l < length entries
in_map w content entries l some = elim (cases_lt l (length entries)) [
  | inl lt ↦ lt
  | inr past ↦ absurd (false≢true (subst (λ (p : ℕ). IsSome (overlaid_page w content p)) (get_or_past entries l 0 past) some))
]

-- a page in use has a number of 16 bits
pub few : {D : Type 0} {g : Ghosts D} (p : CowPages D g) (l : ℕ) → IsSome (working_array p l) → l < 65536
few {D} {g} p l some =
    let lt : l < length p.map.working.items = in_map (dirty_bytes p.dirty) (g.state p.device).content p.map.working.items l some in
    omega (arith, lt, p.map.consistent.working_count)
