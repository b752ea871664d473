-- What is said of a device, of one with as many sectors of the same content.
use Rattle.std.proofs.Common.{◌≡◌, ℕ, Result, Ok, Err, IfErr, sym, subst}
use Rattle.std.proofs.Math.Path.{fun_ext}
use Rattle.sector_device.specs.Device.{DeviceState, HasFailed, Image, KeepsHistory}
use Rattle.cow_pages.specs.PreservedLaws.{failed_later}
use Rattle.store.specs.declared.fault.Fault.{Fault}
use Rattle.store.specs.declared.fault.Fault.TheVariants.{Device}

pub moved : (P : ℕ → Image → Type 0) (sectors others : ℕ) (image other : Image) → others ≡ sectors → ((s : ℕ) → other s ≡ image s) → P others other → P sectors image
moved P sectors others image other size same is = subst (λ (i : Image). P sectors i) (fun_ext same) (subst (λ (n : ℕ). P n other) size is)

pub moved_back : (P : ℕ → Image → Type 0) (sectors others : ℕ) (image other : Image) → others ≡ sectors → ((s : ℕ) → other s ≡ image s) → P sectors image → P others other
moved_back P sectors others image other size same is = subst (λ (n : ℕ). P n other) (sym size) (subst (λ (i : Image). P sectors i) (sym (fun_ext same)) is)

-- the device failed, since an earlier moment
pub cause_later : {T : Type 0} (result : Result T Fault) (old mid new : DeviceState) → KeepsHistory old mid → KeepsHistory mid new → IfErr result (λ fault. fault ≡ Device → HasFailed mid new) → IfErr result (λ fault. fault ≡ Device → HasFailed old new)
cause_later (Ok x) old mid new first second cause = tt
cause_later (Err fault) old mid new first second cause = λ is. failed_later old mid new first second (cause is)
