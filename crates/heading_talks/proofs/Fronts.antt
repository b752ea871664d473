-- Frames that ask, as frames of events.
use Rattle.std.proofs.Common.{◌≡◌, ◌+◌, ◌-◌, ◌==◌, ◌∙◌, ℕ, true, List, take, drop, slice_index, ap, sym, arith}
use Rattle.std.specs.Int.{w32, from_be_bytes}
use Rattle.std.proofs.lemmas.Bool.Decides.{nat_tests}
use Rattle.wire.specs.Frame.{bad, frame_of_kind, next_frame}
use Rattle.wire.proofs.NextFrames.{carried_there}
use Rattle.heading_talks.specs.FrontLaws.{heading_case, waits, unfit, unlike, there, part_asks, other_asks}
use Rattle.heading_talks.specs.HeadingFrames.{asks, next_heading}

-- no event has this kind
no_event : (kind session : ℕ) (payload : List ℕ) (size : ℕ) → (kind == 8) ≡ true → frame_of_kind kind session payload size ≡ bad
no_event kind session payload size like =
    let is : kind ≡ 8 = grind (arith, nat_tests) in
    ap (λ (k : ℕ). frame_of_kind k session payload size) is

pub asks_bad : (bytes text : List ℕ) (session size : ℕ) → next_heading bytes ≡ asks session text size → next_frame bytes ≡ bad
asks_bad bytes text session size h = elim (heading_case bytes) [
  | waits is ↦ part_asks (sym is ∙ h)
  | unfit le unfits is ↦ other_asks (sym is ∙ h)
  | unlike le fits not_so is ↦ other_asks (sym is ∙ h)
  | there le fits like enough is ↦
      carried_there bytes (omega (arith, le)) fits enough
      ∙ no_event (slice_index bytes 4) (from_be_bytes w32 (drop 5 bytes)) (take (from_be_bytes w32 bytes - 5) (drop 9 bytes)) (4 + from_be_bytes w32 bytes) like
]
