-- A device that is written page by page.
use Rattle.std.proofs.Common.{◌≡◌, ℕ, ◌+◌, ◌*◌, inl, inr, List, ◌++◌, take, drop, sym, ap, ◌∙◌, arith}
use Rattle.std.proofs.Math.Seq.{take-add}
use Rattle.sector_device.specs.Device.{DeviceState}
use Rattle.sector_device.specs.Page.{IsAlone, IsOutside, page_at}
use Rattle.dumps.specs.OnDevice.{bytes_from}
use Rattle.dumps.proofs.Sectors.{page_more, same_bytes}

-- one page more was written, and no sector outside it
pub page_written : (mid new : DeviceState) (page i : ℕ) (bytes part : List ℕ) → ((s : ℕ) → IsOutside (8 * (page + i)) 8 s → IsAlone mid new s)
    → bytes_from mid.content (8 * page) (8 * i) ≡ take (4096 * i) bytes → page_at new.content (8 * (page + i)) ≡ part → part ≡ take 4096 (drop (4096 * i) bytes)
    → bytes_from new.content (8 * page) (8 * (i + 1)) ≡ take (4096 * (i + 1)) bytes
page_written mid new page i bytes part alone so_far written is =
    let place : 8 * page + 8 * i ≡ 8 * (page + i) = omega arith in
    let count : 4096 * (i + 1) ≡ 4096 * i + 4096 = omega arith in
    let before : bytes_from new.content (8 * page) (8 * i) ≡ take (4096 * i) bytes =
    same_bytes new.content mid.content (8 * i) (8 * page) (λ k lt. (alone (8 * page + k) (inl (omega (arith, lt)))).content) ∙ so_far in
    page_more new.content (8 * page) i
    ∙ ap (λ (l : List ℕ). l ++ page_at new.content (8 * page + 8 * i)) before
    ∙ ap (λ (l : List ℕ). take (4096 * i) bytes ++ l) (ap (λ (s : ℕ). page_at new.content s) place ∙ written ∙ is)
    ∙ sym (ap (λ (n : ℕ). take n bytes) count ∙ take-add (4096 * i) 4096 bytes)

-- what is outside of all pages so far, and of the next, is as it was
pub outside_more : (old mid new : DeviceState) (page i : ℕ) → ((s : ℕ) → IsOutside (8 * (page + i)) 8 s → IsAlone mid new s)
    → ((s : ℕ) → IsOutside (8 * page) (8 * i) s → mid.content s ≡ old.content s) → (s : ℕ) → IsOutside (8 * page) (8 * (i + 1)) s → new.content s ≡ old.content s
outside_more old mid new page i alone so_far s (inl before) = (alone s (inl (omega (arith, before)))).content ∙ so_far s (inl before)
outside_more old mid new page i alone so_far s (inr behind) = (alone s (inr (omega (arith, behind)))).content ∙ so_far s (inr (omega (arith, behind)))
