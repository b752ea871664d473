-- One call more of a device with a history.
use Rattle.std.proofs.Common.{◌≡◌, ◌≢◌, ◌≤◌, ◌<◌, ◌+◌, inl, inr, ⊎_elim, ℕ, Bool, cond, List, [], ◌∷◌, ◌++◌, length, take, refl, sym, ◌∙◌, ap, subst, arith, length-append, get_or, set, get_or-set_same, get_or-set_other}
use Rattle.std.proofs.lemmas.Bool.{eq-eqb, ne_eqb, cases_lt, cases_eq}
use Rattle.std.proofs.lemmas.List.{take-append-le, take_all}
use Rattle.sector_device.specs.Timeline.{Elapses}
use Rattle.sector_device.specs.Device.{Image, timeline, OnlyReads, Writes, IsSynced}
use Rattle.sector_device.specs.History.{Held, zeros, changed, changed_by, after, MayLeave, history_state}
use Rattle.sector_device.specs.HistoryLaws.{content_left}
use Rattle.sector_device.specs.declared.call.Call.{Call}
use Rattle.sector_device.specs.declared.call.Call.TheVariants.{Read, Write, Sync}

pub changed_by-append : (held : Held) (calls more : List Call) → changed_by held (calls ++ more) ≡ changed_by (changed_by held calls) more
changed_by-append held [] more = refl
changed_by-append held (call ∷ calls) more = changed_by-append (changed held call) calls more

-- what is there after one call more
pub after_more : (calls new : List Call) (call : Call) → new ≡ calls ++ call ∷ [] → after new ≡ changed (after calls) call
after_more calls new call is = ap (λ (cs : List Call). after cs) is ∙ changed_by-append zeros calls (call ∷ [])

-- the content and what is left after one call more
content_more : (calls new : List Call) (call : Call) (s : ℕ) → new ≡ calls ++ call ∷ [] → (after new).content s ≡ (changed (after calls) call).content s
content_more calls new call s is = ap (λ (h : Held). h.content s) (after_more calls new call is)

left_more : (calls new : List Call) (call : Call) (s : ℕ) (c : List ℕ) → new ≡ calls ++ call ∷ [] → (after new).left s c → (changed (after calls) call).left s c
left_more calls new call s c is left = subst (λ (h : Held). h.left s c) (after_more calls new call is) left

-- a stop at a moment up to the call's start leaves what it did
earlier : (calls new : List Call) (call : Call) (sectors k : ℕ) (image : Image) → new ≡ calls ++ call ∷ [] → k ≤ length calls → MayLeave sectors (take k new) image → MayLeave sectors (take k calls) image
earlier calls new call sectors k image is le may =
    subst (λ (cs : List Call). MayLeave sectors cs image) (ap (λ (cs : List Call). take k cs) is ∙ take-append-le k calls (call ∷ []) le) may

-- the clock moves by one
pub elapses_more : (sectors failures failures' : ℕ) (calls new : List Call) (call : Call) → new ≡ calls ++ call ∷ []
    → Elapses (timeline (history_state sectors calls failures)) (timeline (history_state sectors new failures'))
elapses_more sectors failures failures' calls new call is =
    let longer : length new ≡ length calls + 1 = ap (λ (cs : List Call). length cs) is ∙ length-append calls (call ∷ []) in
    record {
      later = omega (arith, longer);
      past = λ a b image le stop. (stop.0, stop.1, stop.2, omega (arith, le, stop.2), earlier calls new call sectors stop.0 image is (omega (arith, le, stop.2)) stop.4);
      adds = λ a image le stop. ⊎_elim
          (λ now. inr (subst (λ (cs : List Call). MayLeave sectors cs image) (take_all stop.0 new (omega (arith, longer, now))) stop.4))
          (λ before. inl (stop.0, stop.1, before, before, earlier calls new call sectors stop.0 image is before stop.4))
          (cases_lt (length calls) stop.0);
    }

-- the clock stands still
pub elapses_none : (sectors failures failures' : ℕ) (calls new : List Call) → new ≡ calls
    → Elapses (timeline (history_state sectors calls failures)) (timeline (history_state sectors new failures'))
elapses_none sectors failures failures' calls new is =
    subst (λ (cs : List Call). Elapses (timeline (history_state sectors calls failures)) (timeline (history_state sectors cs failures'))) (sym is)
    (record { later = omega arith; past = λ a b image le stop. stop; adds = λ a image le stop. inl stop })

-- a call that failed for want of memory did nothing
pub no_reads : (sectors failures failures' : ℕ) (calls new : List Call) → new ≡ calls → OnlyReads (history_state sectors calls failures) (history_state sectors new failures')
no_reads sectors failures failures' calls new is = record {
  content = λ s. ap (λ (cs : List Call). (after cs).content s) is;
  left = λ s c left. subst (λ (cs : List Call). (after cs).left s c) is left;
  time = elapses_none sectors failures failures' calls new is;
}

pub writes_none : (sectors failures failures' sector : ℕ) (bytes : List ℕ) (calls new : List Call) → new ≡ calls → Writes sector bytes (history_state sectors calls failures) (history_state sectors new failures')
writes_none sectors failures failures' sector bytes calls new is =
    let only_reads = no_reads sectors failures failures' calls new is in
    record {
      content = inr (only_reads.content sector);
      left = λ c left. inl (only_reads.left sector c left);
      others = λ s other. only_reads.content s;
      others_left = λ s c other left. only_reads.left s c left;
      time = only_reads.time;
    }

-- a read
pub read_noted : (sectors failures failures' : ℕ) (calls new : List Call) → new ≡ calls ++ Read ∷ [] → OnlyReads (history_state sectors calls failures) (history_state sectors new failures')
read_noted sectors failures failures' calls new is = record {
  content = λ s. content_more calls new Read s is;
  left = λ s c left. left_more calls new Read s c is left;
  time = elapses_more sectors failures failures' calls new Read is;
}

-- a sync
pub sync_noted : (sectors failures failures' : ℕ) (calls new : List Call) → new ≡ calls ++ Sync ∷ [] → OnlyReads (history_state sectors calls failures) (history_state sectors new failures')
sync_noted sectors failures failures' calls new is = record {
  content = λ s. content_more calls new Sync s is;
  left = λ s c left. subst (λ (x : List ℕ). (after calls).left s x) (sym (left_more calls new Sync s c is left)) (content_left calls s);
  time = elapses_more sectors failures failures' calls new Sync is;
}

pub synced_sync : (sectors failures : ℕ) (calls new : List Call) → new ≡ calls ++ Sync ∷ [] → IsSynced (history_state sectors new failures)
synced_sync sectors failures calls new is s inside c left = left_more calls new Sync s c is left ∙ sym (content_more calls new Sync s is)

-- a write
pub written_here : (sector : ℕ) (bytes : List ℕ) (calls new : List Call) → new ≡ calls ++ Write sector bytes ∷ [] → (after new).content sector ≡ bytes
written_here sector bytes calls new is =
    content_more calls new (Write sector bytes) sector is ∙ ap (λ (b : Bool). cond b bytes ((after calls).content sector)) (eq-eqb sector sector refl)

pub written_elsewhere : (sector s : ℕ) (bytes : List ℕ) (calls new : List Call) → new ≡ calls ++ Write sector bytes ∷ [] → s ≢ sector → (after new).content s ≡ (after calls).content s
written_elsewhere sector s bytes calls new is other =
    content_more calls new (Write sector bytes) s is ∙ ap (λ (b : Bool). cond b bytes ((after calls).content s)) (ne_eqb s sector other)

pub writes_write : (sectors failures failures' sector : ℕ) (bytes : List ℕ) (calls new : List Call) → new ≡ calls ++ Write sector bytes ∷ [] → Writes sector bytes (history_state sectors calls failures) (history_state sectors new failures')
writes_write sectors failures failures' sector bytes calls new is = record {
  content = inl (written_here sector bytes calls new is);
  left = λ c left. ⊎_elim (λ was. inl was) (λ now. inr now.1) (left_more calls new (Write sector bytes) sector c is left);
  others = λ s other. written_elsewhere sector s bytes calls new is other;
  others_left = λ s c other left. ⊎_elim (λ was. was) (λ now. absurd (other now.0)) (left_more calls new (Write sector bytes) s c is left);
  time = elapses_more sectors failures failures' calls new (Write sector bytes) is;
}

-- what is kept as the last contents is what the calls have left there
pub holds_after : (calls new : List Call) (call : Call) (s : ℕ) (c : List ℕ) → new ≡ calls ++ call ∷ [] → (changed (after calls) call).content s ≡ (after calls).content s
    → c ≡ (after calls).content s → c ≡ (after new).content s
holds_after calls new call s c is same holds = holds ∙ sym same ∙ sym (content_more calls new call s is)

pub holds_write : (last : List (List ℕ)) (sector s : ℕ) (bytes : List ℕ) (calls new : List Call) → new ≡ calls ++ Write sector bytes ∷ [] → sector < length last
    → get_or last s [] ≡ (after calls).content s → get_or (set last sector bytes) s [] ≡ (after new).content s
holds_write last sector s bytes calls new is inside holds = ⊎_elim
    (λ same. ap (λ (i : ℕ). get_or (set last sector bytes) i []) same ∙ get_or-set_same last sector bytes [] inside
    ∙ sym (ap (λ (i : ℕ). (after new).content i) same ∙ written_here sector bytes calls new is))
    (λ other. get_or-set_other last sector s bytes [] other ∙ holds ∙ sym (written_elsewhere sector s bytes calls new is other))
    (cases_eq s sector)
