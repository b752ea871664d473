use Rattle.std.proofs.Common.{◌≡◌, ℕ, List, [], ◌∷◌, ◌++◌, inl, inr, refl, sym, subst}
use Rattle.sector_device.specs.History.{Held, zeros, changed, changed_by, after, HasNoSync}
use Rattle.sector_device.specs.HistoryLaws.{content_left}
use Rattle.sector_device.proofs.Histories.{changed_by-append}
use Rattle.sector_device.specs.declared.call.Call.{Call}
use Rattle.sector_device.specs.declared.call.Call.TheVariants.{Read, Write, Sync}
use Rattle.sector_device.proofs.history_laws.both_contents_are_left.Goals as goal

-- what a stop may leave, it may leave until a sync succeeds
left_until_sync : (held : Held) (since : List Call) (s : ℕ) (c : List ℕ) → HasNoSync since → held.left s c → (changed_by held since).left s c
left_until_sync held [] s c none left = left
left_until_sync held (Read ∷ since) s c none left = left_until_sync held since s c none left
left_until_sync held (Write sector bytes ∷ since) s c none left = left_until_sync (changed held (Write sector bytes)) since s c none (inl left)
left_until_sync held (Sync ∷ since) s c none left = absurd none

both : (before since : List Call) (sector : ℕ) (bytes : List ℕ) → HasNoSync since
    → (after (before ++ Write sector bytes ∷ since)).left sector bytes × (after (before ++ Write sector bytes ∷ since)).left sector ((after before).content sector)
both before since sector bytes none =
    let written = changed (after before) (Write sector bytes) in
    let whole : after (before ++ Write sector bytes ∷ since) ≡ changed_by written since = changed_by-append zeros before (Write sector bytes ∷ since) in
    let here : (c : List ℕ) → written.left sector c → (after (before ++ Write sector bytes ∷ since)).left sector c
    = λ c left. subst (λ (h : Held). h.left sector c) (sym whole) (left_until_sync written since sector c none left) in
    (here bytes (inr (refl, refl)), here ((after before).content sector) (inl (content_left before sector)))

pub returns : goal.returns
returns c before since sector bytes is none =
    subst (λ (calls : List Call). (after calls).left sector bytes × (after calls).left sector ((after before).content sector)) (sym is) (both before since sector bytes none)
