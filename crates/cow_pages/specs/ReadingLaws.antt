-- Calls that write nothing, over several calls.
use Rattle.std.proofs.Common.{◌∙◌, inl, refl, arith}
use Rattle.sector_device.specs.Timeline.{IsPresent, joined, weakened}
use Rattle.sector_device.specs.Device.{DeviceState, KeepsHistory, IsLeft, timeline}
use Rattle.sector_device.specs.declared.device.Device.{Ghosts}
use Rattle.cow_pages.specs.declared.cow.CowPages.{CowPages}
use Rattle.cow_pages.specs.Held.{KeepsContent}
use Rattle.cow_pages.specs.Calls.{OnlyReadsPages}
use Rattle.cow_pages.specs.Preserved.{IsPreserved}

-- two runs of calls of a device that write nothing
pub reads_joined : (old mid new : DeviceState) → KeepsHistory old mid → KeepsContent old mid → KeepsContent mid new → KeepsContent old new
reads_joined old mid new history first second = record {
  content = λ s. second.content s ∙ first.content s;
  left = λ s c now. first.left s c (second.left s c now);
  leaves = joined (IsLeft old) (timeline old) (timeline mid) (timeline new) first.leaves
      (weakened (IsLeft mid) (IsLeft old) (timeline mid) (timeline new)
      (λ image left s inside. first.left s (image s) (left s (omega (arith, inside, history.sectors)))) second.leaves);
}

-- no call at all
pub reads_none : (d : DeviceState) → IsPresent (timeline d) → KeepsContent d d
reads_none d present = record {
  content = λ s. refl;
  left = λ s c now. now;
  leaves = record {
    later = omega arith;
    past = λ a b x le stop. stop;
    each = present;
    now = λ x left. left;
    before = λ a x le stop. inl stop;
  };
}

-- pages on which no call is made
pub pages_read_none : {D : Type 0} {g : Ghosts D} (p : CowPages D g) → ((g.state p.device).faithful → IsPresent (timeline (g.state p.device))) → OnlyReadsPages p p
pages_read_none {D} {g} p present = record {
  map = refl;
  dirty = refl;
  content = λ faithful. reads_none (g.state p.device) (present faithful);
  array = λ faithful l. refl;
}

-- pages that are read, and read again
pub pages_read_joined : {D : Type 0} {g : Ghosts D} (p q r : CowPages D g) → IsPreserved p q → OnlyReadsPages p q → OnlyReadsPages q r → OnlyReadsPages p r
pages_read_joined {D} {g} p q r preserved first second =
    let history = preserved.preserved.history in
    record {
      map = second.map ∙ first.map;
      dirty = second.dirty ∙ first.dirty;
      content = λ faithful. reads_joined (g.state p.device) (g.state q.device) (g.state r.device) history (first.content faithful) (second.content (history.faithful faithful));
      array = λ faithful l. second.array (history.faithful faithful) l ∙ first.array faithful l;
    }
