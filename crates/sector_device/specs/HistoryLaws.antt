-- What holds of a device with a history, whatever its calls.
use Rattle.std.proofs.Common.{◌≡◌, ◌⊎◌, eqb, inl, inr, ℕ, Bool, true, false, cond, List, [], ◌∷◌, take, refl, subst}
use Rattle.std.proofs.lemmas.Bool.{eqb-true}
use Rattle.std.proofs.lemmas.List.{take_all}
use Rattle.sector_device.specs.Timeline.{IsPresent}
use Rattle.sector_device.specs.Device.{timeline}
use Rattle.sector_device.specs.History.{Held, zeros, changed, changed_by, after, MayLeave, history_state}
use Rattle.sector_device.specs.declared.call.Call.{Call}
use Rattle.sector_device.specs.declared.call.Call.TheVariants.{Read, Write, Sync}

-- a stop may leave what is there
abbrev LeavesContent : Held → Type 0
LeavesContent held = (s : ℕ) → held.left s (held.content s)

-- either content of a sector is among what a stop may leave after a write
written : (b : Bool) (s sector : ℕ) (old bytes : List ℕ) (left : List ℕ → Type 0) → (b ≡ true → s ≡ sector) → left old
    → left (cond b bytes old) ⊎ ((s ≡ sector) × (cond b bytes old ≡ bytes))
written true s sector old bytes left same here = inr (same refl, refl)
written false s sector old bytes left same here = inl here

leaves_changed : (held : Held) (call : Call) → LeavesContent held → LeavesContent (changed held call)
leaves_changed held Read leaves s = leaves s
leaves_changed held (Write sector bytes) leaves s = written (eqb s sector) s sector (held.content s) bytes (held.left s) (eqb-true s sector) (leaves s)
leaves_changed held Sync leaves s = refl

leaves_content : (held : Held) (calls : List Call) → LeavesContent held → LeavesContent (changed_by held calls)
leaves_content held [] leaves = leaves
leaves_content held (call ∷ calls) leaves = leaves_content (changed held call) calls (leaves_changed held call leaves)

-- after any calls a stop may leave what is there
pub content_left : (calls : List Call) (s : ℕ) → (after calls).left s ((after calls).content s)
content_left calls s = leaves_content zeros calls (λ s. refl) s

-- of the present moment no more is said than what a stop may leave now
pub only_now : (sectors : ℕ) (calls : List Call) (failures : ℕ) → IsPresent (timeline (history_state sectors calls failures))
only_now sectors calls failures image stop =
    let all : take stop.0 calls ≡ calls = take_all stop.0 calls stop.1 in
    subst (λ (cs : List Call). MayLeave sectors cs image) all stop.4
