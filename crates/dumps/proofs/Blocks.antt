-- The block of a list, and what stands in it.
use Rattle.std.proofs.Common.{◌≡◌, ℕ, ◌+◌, ◌*◌, ◌/◌, ◌<◌, ◌≤◌, ◌^◌, List, ◌∷◌, ◌++◌, length, take, drop, replicate, refl, sym, ap, subst, ◌∙◌, arith, length-append}
use Rattle.std.proofs.lemmas.List.{append_assoc, take_at, drop_at, length-replicate}
use Rattle.byteorder.specs.Endian.{big_number, big_bytes}
use Rattle.byteorder.specs.Numbers.{big_number-reads_back, length-bytes_high_first}
use Rattle.store.specs.Records.{Changes}
use Rattle.journal.specs.Changes.{Spells}
use Rattle.dumps.specs.Form.{IsBlock, block_of, fill, in_pages}

-- what a block has behind its first byte
abbrev pub padding : List ℕ → List ℕ
padding spelled = replicate (fill (length (1 ∷ (big_bytes 4 (length spelled) ++ spelled)))) 0

-- a block by its parts
pub block_is : (spelled : List ℕ) → block_of spelled ≡ 1 ∷ (big_bytes 4 (length spelled) ++ (spelled ++ padding spelled))
unfolding block_of in_pages
block_is spelled = ap (λ (l : List ℕ). 1 ∷ l) (append_assoc (big_bytes 4 (length spelled)) spelled (padding spelled))

-- the length of what spells the changes stands behind the first byte
pub length_in_block : (spelled bytes : List ℕ) → bytes ≡ block_of spelled → length spelled < 2 ^ 26 → big_number 4 (drop 1 bytes) ≡ length spelled
length_in_block spelled bytes is short =
    ap (λ (l : List ℕ). big_number 4 (drop 1 l)) (is ∙ block_is spelled) ∙ big_number-reads_back 4 (length spelled) (spelled ++ padding spelled) (omega (arith, short))

-- and behind that it itself
pub spelled_in_block : (spelled bytes : List ℕ) → bytes ≡ block_of spelled → take (length spelled) (drop 5 bytes) ≡ spelled
spelled_in_block spelled bytes is =
    let behind : drop 5 bytes ≡ spelled ++ padding spelled =
    ap (λ (l : List ℕ). drop 5 l) (is ∙ block_is spelled) ∙ drop_at (big_bytes 4 (length spelled)) (spelled ++ padding spelled) 4 (length-bytes_high_first 4 (length spelled)) in
    ap (λ (l : List ℕ). take (length spelled) l) behind ∙ take_at spelled (padding spelled) (length spelled) refl

-- so it is no shorter than both
pub block_long : (spelled bytes : List ℕ) → bytes ≡ block_of spelled → 5 + length spelled ≤ length bytes
block_long spelled bytes is =
    let whole : length bytes ≡ length (1 ∷ (big_bytes 4 (length spelled) ++ (spelled ++ padding spelled))) = ap length (is ∙ block_is spelled) in
    let parts : length (big_bytes 4 (length spelled) ++ (spelled ++ padding spelled)) ≡ 4 + (length spelled + length (padding spelled)) =
    length-append (big_bytes 4 (length spelled)) (spelled ++ padding spelled) ∙ ap (λ (n : ℕ). n + length (spelled ++ padding spelled)) (length-bytes_high_first 4 (length spelled)) ∙ ap (λ (n : ℕ). 4 + n) (length-append spelled (padding spelled)) in
    omega (arith, whole, parts)

-- the changes of a block are one
pub one_list : (bytes : List ℕ) (changes other : Changes) → ((spelled : List ℕ) (a b : Changes) → Spells spelled a → Spells spelled b → a ≡ b) → IsBlock bytes changes → IsBlock bytes other → changes ≡ other
one_list bytes changes other one a b =
    let same_length : length a.spelled ≡ length b.spelled = sym (length_in_block a.spelled bytes a.is a.short) ∙ length_in_block b.spelled bytes b.is b.short in
    let same : a.spelled ≡ b.spelled = sym (spelled_in_block a.spelled bytes a.is) ∙ ap (λ (n : ℕ). take n (drop 5 bytes)) same_length ∙ spelled_in_block b.spelled bytes b.is in
    one b.spelled changes other (subst (λ (s : List ℕ). Spells s changes) same a.spells) b.spells

-- and so are the bytes that spell it
pub one_block : (bytes others : List ℕ) (changes : Changes) → ((x y : List ℕ) (cs : Changes) → Spells x cs → Spells y cs → x ≡ y) → IsBlock bytes changes → IsBlock others changes → bytes ≡ others
one_block bytes others changes one a b = a.is ∙ ap block_of (one a.spelled b.spelled changes a.spells b.spells) ∙ sym b.is

-- ---- whole pages

-- bytes in whole pages
pub in_pages_long : (bytes : List ℕ) → length (in_pages bytes) ≡ 4096 * ((length bytes + 4095) / 4096)
unfolding in_pages
in_pages_long bytes =
    let parts = length-append bytes (replicate (fill (length bytes)) 0) in
    let zeros : length (replicate {A = ℕ} (fill (length bytes)) 0) ≡ fill (length bytes) = length-replicate (fill (length bytes)) 0 in
    omega (arith, parts, zeros)

pub block_pages : (spelled : List ℕ) → length (block_of spelled) ≡ 4096 * ((length spelled + 4100) / 4096)
unfolding block_of
block_pages spelled =
    let fields : length (1 ∷ (big_bytes 4 (length spelled) ++ spelled)) ≡ 5 + length spelled =
    omega (arith, length-append (big_bytes 4 (length spelled)) spelled, length-bytes_high_first 4 (length spelled)) in
    in_pages_long (1 ∷ (big_bytes 4 (length spelled) ++ spelled)) ∙ ap (λ (n : ℕ). 4096 * ((n + 4095) / 4096)) fields ∙ ap (λ (n : ℕ). 4096 * (n / 4096)) (omega arith)
