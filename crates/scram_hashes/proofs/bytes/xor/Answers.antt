use Rattle.std.proofs.Common.{◌≡◌, ◌++◌, ◌∷◌, [], List, ℕ, length, arith, sym, ap, ◌∙◌}
use Rattle.std.specs.Prelude.{bit_xor, slice_index}
use Rattle.std.proofs.lemmas.List.{length-set, take_all, take_more, take_more_set}
use Rattle.scram_hashes.specs.Pbkdf2.{xor_bytes}
use Rattle.scram_hashes.proofs.Xor.{length-xor_bytes, get_or-xor_bytes}
use Rattle.scram_hashes.proofs.bytes.xor.Goals as goal

pub loop-i-preserved : goal.loop-i-preserved
loop-i-preserved c =
    let xs = c.args.bytes.now in let ys = c.args.others.now in let i = c.loop-i.i in
    let byte = bit_xor (slice_index xs i) (slice_index ys i) in
    let size : length xs ≡ 32 = c.told-bytes in
    let other : length ys ≡ 32 = c.told-others in
    let same : length (xor_bytes xs ys) ≡ length xs = length-xor_bytes xs ys (omega arith) in
    let next = take_more (xor_bytes xs ys) i 0 (omega arith) in (
      length-set _ _ _ ∙ c.loop-i.invariant.0,
      take_more_set c.loop-i.mixed i byte (omega arith) ∙ ap (λ (l : List ℕ). l ++ byte ∷ []) c.loop-i.invariant.1
          ∙ sym (rw (get_or-xor_bytes xs ys i 0 (omega arith) (omega arith)) at next),
    )

pub returns : goal.returns
returns c =
    let xs = c.args.bytes.now in let ys = c.args.others.now in
    let size : length xs ≡ 32 = c.told-bytes in
    let other : length ys ≡ 32 = c.told-others in
    let same : length (xor_bytes xs ys) ≡ length xs = length-xor_bytes xs ys (omega arith) in
    let done : c.loop-i.i ≡ 32 = omega arith in
    let whole = rw done at c.loop-i.invariant.1 in
    sym (take_all 32 c.loop-i.mixed (omega arith)) ∙ whole ∙ take_all 32 (xor_bytes xs ys) (omega arith)
