use Rattle.std.proofs.Common.{◌≡◌, ◌+◌, List, ℕ, length, take, arith, ap, sym, ◌∙◌, refl}
use Rattle.std.specs.Prelude.{slice_index, get_or}
use Rattle.std.specs.Int.Bits.{xor_self}
use Rattle.std.proofs.lemmas.List.{take_more_same, get_or-take, take-take}
use Rattle.scram_hashes.proofs.Xor.{or-xor-zero}
use Rattle.scram_hashes.proofs.bytes.are_equal.Goals as goal

pub loop-i-preserved : goal.loop-i-preserved
loop-i-preserved c =
    let xs = c.args.bytes.now in let ys = c.args.others.now in let i = c.loop-i.i in
    let size : length xs ≡ 32 = c.told-bytes in
    let other : length ys ≡ 32 = c.told-others in (
      (λ e. let none = or-xor-zero c.loop-i.differences (slice_index xs i) (slice_index ys i) e in
          take_more_same xs ys i 0 (omega arith) (omega arith) (c.loop-i.invariant.0 none.0) none.1),
      (λ e.
          let byte : slice_index xs i ≡ slice_index ys i =
          sym (get_or-take (i + 1) xs i 0 (omega arith)) ∙ ap (λ (l : List ℕ). get_or l i 0) e ∙ get_or-take (i + 1) ys i 0 (omega arith) in
          let before : take i xs ≡ take i ys = sym (take-take i (i + 1) xs (omega arith)) ∙ ap (λ (l : List ℕ). take i l) e ∙ take-take i (i + 1) ys (omega arith) in
          let none : c.loop-i.differences ≡ 0 = c.loop-i.invariant.1 before in
          rw (none, byte, xor_self (slice_index ys i)) refl),
    )
