-- A device that is read page by page.
use Rattle.std.proofs.Common.{◌≡◌, ℕ, ◌+◌, ◌*◌, List, ◌++◌, sym, ap, ◌∙◌, arith}
use Rattle.sector_device.specs.Timeline.{LeavesOnly}
use Rattle.sector_device.specs.Device.{DeviceState, IsLeft, timeline}
use Rattle.sector_device.specs.Page.{IsAlone, page_at}
use Rattle.cow_pages.specs.Held.{KeepsContent}
use Rattle.dumps.specs.OnDevice.{bytes_from}
use Rattle.dumps.proofs.Sectors.{page_more, same_bytes}

pub kept_by_page : (old new : DeviceState) → LeavesOnly (IsLeft old) (timeline old) (timeline new) → ((s : ℕ) → IsAlone old new s) → KeepsContent old new
kept_by_page old new leaves alone = record { content = λ s. (alone s).content; left = λ s c. (alone s).left c; leaves = leaves }

-- one page more was read of a device whose content is as it was
pub page_read : (old mid : DeviceState) (page i : ℕ) (bytes more part : List ℕ) → ((s : ℕ) → mid.content s ≡ old.content s) → bytes ≡ bytes_from old.content (8 * page) (8 * i)
    → part ≡ page_at mid.content (8 * (page + i)) → more ≡ bytes ++ part → more ≡ bytes_from old.content (8 * page) (8 * (i + 1))
page_read old mid page i bytes more part same so_far read grown =
    let place : 8 * (page + i) ≡ 8 * page + 8 * i = omega arith in
    let here : part ≡ page_at old.content (8 * page + 8 * i) = read ∙ same_bytes mid.content old.content 8 (8 * (page + i)) (λ k lt. same (8 * (page + i) + k)) ∙ ap (λ (s : ℕ). page_at old.content s) place in
    grown ∙ ap (λ (l : List ℕ). l ++ part) so_far ∙ ap (λ (l : List ℕ). bytes_from old.content (8 * page) (8 * i) ++ l) here ∙ sym (page_more old.content (8 * page) i)
