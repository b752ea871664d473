use Rattle.std.proofs.Common.{◌≡◌, ◌<◌, ◌*◌, ℕ, List, ⊎_elim, ap, sym, ◌∙◌, replicate, get_or, []}
use Rattle.std.proofs.lemmas.List.{get_or-replicate}
use Rattle.sector_device.proofs.memory.MemDevice.new.Goals as goal

zero_at : (xs : List (List ℕ)) (n s : ℕ) → xs ≡ replicate n (replicate 512 0) → s < n → get_or xs s [] ≡ replicate 512 0
zero_at xs n s is inside = ap (λ (l : List (List ℕ)). get_or l s []) is ∙ get_or-replicate n s (replicate 512 0) [] inside

pub returns-clause-zeros : goal.returns-clause-zeros
returns-clause-zeros c s inside = zero_at _ (8 * c.args.pages) s c.in_ok-last.ensures inside

pub returns-clause-synced : goal.returns-clause-synced
returns-clause-synced c s inside content left =
    ⊎_elim (λ last. last) (λ synced. synced ∙ zero_at _ (8 * c.args.pages) s c.in_ok-synced.ensures inside ∙ sym (zero_at _ (8 * c.args.pages) s c.in_ok-last.ensures inside)) left
