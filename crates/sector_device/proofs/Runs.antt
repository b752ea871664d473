-- Laws of runs of calls.
use Rattle.std.proofs.Common.{inl, inr, ⊎_elim, arith}
use Rattle.sector_device.specs.Timeline.{Timeline, Elapses, LeavesOnly, IsPresent, Implies, read_by}

-- before the first call
pub started : {X : Type 0} (P : X → Type 0) (old : Timeline X) → IsPresent old → Implies old.left P → LeavesOnly P old old
started P old present here = record {
  later = omega arith;
  past = λ a b x le stop. stop;
  each = λ x stop. here x (present x stop);
  now = here;
  before = λ a x le stop. inl stop;
}

-- one call more, after which a stop leaves what has P
pub goes_on : {X : Type 0} (P : X → Type 0) (old mid new : Timeline X) → LeavesOnly P old mid → Elapses mid new → Implies new.left P → LeavesOnly P old new
goes_on P old mid new so_far time here = record {
  later = omega (arith, so_far.later, time.later);
  past = λ a b x le stop. so_far.past a b x le (time.past a b x (omega (arith, le, so_far.later)) stop);
  each = λ x stop. ⊎_elim (so_far.each x) (here x) (time.adds old.moment x so_far.later stop);
  now = here;
  before = λ a x le stop. ⊎_elim (so_far.before a x le) (λ left. inr (here x left)) (time.adds a x (omega (arith, le, so_far.later)) stop);
}

-- one call alone
pub once : {X : Type 0} (P : X → Type 0) (old new : Timeline X) → IsPresent old → Implies old.left P → Elapses old new → Implies new.left P → LeavesOnly P old new
once P old new present before time after = goes_on P old old new (started P old present before) time after

-- what is said of what is left is said of what it stands for
pub lifted : {X Y : Type 0} (stands_for : X → Y → Type 0) (P : X → Type 0) (Q : Y → Type 0) (old new : Timeline X)
    → ((x : X) (y : Y) → P x → stands_for x y → Q y) → LeavesOnly P old new → LeavesOnly Q (read_by stands_for old) (read_by stands_for new)
lifted stands_for P Q old new means leaves = record {
  later = leaves.later;
  past = λ a b y le stop. (stop.0, leaves.past a b stop.0 le stop.1, stop.2);
  each = λ y stop. means stop.0 y (leaves.each stop.0 stop.1) stop.2;
  now = λ y left. means left.0 y (leaves.now left.0 left.1) left.2;
  before = λ a y le stop. ⊎_elim (λ was. inl (stop.0, was, stop.2)) (λ p. inr (means stop.0 y p stop.2)) (leaves.before a stop.0 le stop.1);
}

-- a call that passes below passes above
pub elapses_lifted : {X Y : Type 0} (stands_for : X → Y → Type 0) (old new : Timeline X) → Elapses old new → Elapses (read_by stands_for old) (read_by stands_for new)
elapses_lifted stands_for old new time = record {
  later = time.later;
  past = λ a b y le stop. (stop.0, time.past a b stop.0 le stop.1, stop.2);
  adds = λ a y le stop. ⊎_elim (λ was. inl (stop.0, was, stop.2)) (λ left. inr (stop.0, left, stop.2)) (time.adds a stop.0 le stop.1);
}

-- the present below is the present above
pub present_lifted : {X Y : Type 0} (stands_for : X → Y → Type 0) (t : Timeline X) → IsPresent t → IsPresent (read_by stands_for t)
present_lifted stands_for t present y stop = (stop.0, present stop.0 stop.1, stop.2)
