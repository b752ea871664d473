use Rattle.std.proofs.Common.{◌≡◌, ℕ, List, ◌++◌, drop, sym, ap, ◌∙◌}
use Rattle.byteorder.specs.Endian.{big_number, big_bytes}
use Rattle.byteorder.specs.Numbers.{big_number-reads_back}
use Rattle.row_codec.proofs.laws.prefixes.Goals as goal

pub returns : goal.returns
returns c a b small_a small_b keys_a keys_b same =
    let after : big_bytes 4 a ++ keys_a ≡ big_bytes 4 b ++ keys_b = ap (λ (zs : List ℕ). drop 1 zs) same in
    sym (big_number-reads_back 4 a keys_a small_a) ∙ ap (λ (zs : List ℕ). big_number 4 zs) after ∙ big_number-reads_back 4 b keys_b small_b
