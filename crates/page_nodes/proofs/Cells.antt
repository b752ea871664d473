-- Cells spelled at a place.
use Rattle.std.proofs.Common.{◌≡◌, ℕ, ◌+◌, ◌^◌, ◌<◌, ◌≤◌, List, ◌++◌, length, drop, take, refl, sym, ap, ◌∙◌, append_assoc, arith, length-append, length-drop}
use Rattle.std.proofs.Math.Seq.{drop-append_seam, take-append_seam}
use Rattle.std.proofs.lemmas.List.{drop-drop, take-append-drop, length-take-le}
use Rattle.byteorder.specs.Endian.{big_number}
use Rattle.byteorder.specs.Numbers.{big_number-reads_back}
use Rattle.page_nodes.specs.declared.cell.NodeKind.{NodeKind}
use Rattle.page_nodes.specs.declared.cell.NodeKind.TheVariants.{Leaf, Inner}
use Rattle.page_nodes.specs.Map.{Entry}
use Rattle.page_nodes.specs.Node.{two_bytes, four_bytes, cell_bytes, IsCellAt}

pub two_same : (n m : ℕ) (r s : List ℕ) → n < 65536 → m < 65536 → two_bytes n ++ r ≡ two_bytes m ++ s → n ≡ m
two_same n m r s a b e = sym (big_number-reads_back 2 n r a) ∙ (ap (λ (xs : List ℕ). big_number 2 xs) e ∙ big_number-reads_back 2 m s b)

pub four_same : (n m : ℕ) (r s : List ℕ) → n < 2 ^ 32 → m < 2 ^ 32 → four_bytes n ++ r ≡ four_bytes m ++ s → n ≡ m
four_same n m r s a b e = sym (big_number-reads_back 4 n r a) ∙ (ap (λ (xs : List ℕ). big_number 4 xs) e ∙ big_number-reads_back 4 m s b)

-- what is ahead, in two parts
pub parts : (at n : ℕ) (bytes : List ℕ) → drop at bytes ≡ take n (drop at bytes) ++ drop (at + n) bytes
parts at n bytes = sym (take-append-drop n (drop at bytes)) ∙ ap (λ (zs : List ℕ). take n (drop at bytes) ++ zs) (drop-drop n at bytes)

part_long : (at n : ℕ) (bytes : List ℕ) → at + n ≤ length bytes → length (take n (drop at bytes)) ≡ n
part_long at n bytes fits = length-take-le n (drop at bytes) (omega (arith, length-drop at bytes, fits))

-- past a part of what is ahead
pub ahead_more : (at n : ℕ) (bytes xs ys : List ℕ) → length xs ≡ n → drop at bytes ≡ xs ++ ys → drop (at + n) bytes ≡ ys
ahead_more at n bytes xs ys len ahead = sym (drop-drop n at bytes) ∙ (ap (λ (zs : List ℕ). drop n zs) ahead ∙ (ap (λ m. drop m (xs ++ ys)) (sym len) ∙ drop-append_seam xs ys))

-- that part
pub part_ahead : (at n : ℕ) (bytes xs ys : List ℕ) → length xs ≡ n → drop at bytes ≡ xs ++ ys → take n (drop at bytes) ≡ xs
part_ahead at n bytes xs ys len ahead = ap (λ (zs : List ℕ). take n zs) ahead ∙ (ap (λ m. take m (xs ++ ys)) (sym len) ∙ take-append_seam xs ys)

leaf_there : (at kl vl : ℕ) (bytes : List ℕ) → drop at bytes ≡ two_bytes kl ++ drop (at + 2) bytes → drop (at + 2) bytes ≡ two_bytes vl ++ drop (at + 2 + 2) bytes
    → at + 4 + kl + vl ≤ length bytes
    → drop at bytes ≡ cell_bytes Leaf (take kl (drop (at + 4) bytes), take vl (drop (at + 4 + kl) bytes)) ++ drop (at + 4 + kl + vl) bytes
unfolding cell_bytes
leaf_there at kl vl bytes one two fits =
    let key = take kl (drop (at + 4) bytes) in
    let payload = take vl (drop (at + 4 + kl) bytes) in
    let end = drop (at + 4 + kl + vl) bytes in
    let key_long : length key ≡ kl = part_long (at + 4) kl bytes (omega arith) in
    let payload_long : length payload ≡ vl = part_long (at + 4 + kl) vl bytes (omega arith) in
    let seam : drop (at + 2 + 2) bytes ≡ drop (at + 4) bytes = let e : at + 2 + 2 ≡ at + 4 = omega arith in ap (λ i. drop i bytes) e in
    let three : drop (at + 4) bytes ≡ (key ++ payload) ++ end =
    parts (at + 4) kl bytes ∙ (ap (λ (zs : List ℕ). key ++ zs) (parts (at + 4 + kl) vl bytes) ∙ sym (append_assoc key payload end)) in
    let all : drop at bytes ≡ two_bytes kl ++ (two_bytes vl ++ ((key ++ payload) ++ end)) =
    one ∙ ap (λ (zs : List ℕ). two_bytes kl ++ zs) (two ∙ ap (λ (zs : List ℕ). two_bytes vl ++ zs) (seam ∙ three)) in
    all ∙ (ap (λ n. two_bytes n ++ (two_bytes vl ++ ((key ++ payload) ++ end))) (sym key_long) ∙ ap (λ n. two_bytes (length key) ++ (two_bytes n ++ ((key ++ payload) ++ end))) (sym payload_long))

pub leaf_found : (at kl vl n m end : ℕ) (bytes : List ℕ) → drop at bytes ≡ two_bytes kl ++ drop (at + 2) bytes → drop (at + 2) bytes ≡ two_bytes vl ++ drop (at + 2 + 2) bytes
    → n ≡ kl → m ≡ vl → end ≡ at + 4 + kl + vl → 1 ≤ kl → kl ≤ 205 → vl ≤ 1200 → end ≤ length bytes
    → IsCellAt Leaf bytes at (take n (drop (at + 4) bytes)) (take m (drop (at + 4 + kl) bytes)) end
leaf_found at kl vl n m end bytes one two is_n is_m is_end some short value_short fits =
    let inside : at + 4 + kl + vl ≤ length bytes = omega (arith, fits, is_end) in
    let key_long = part_long (at + 4) kl bytes (omega (arith, inside)) in
    let payload_long = part_long (at + 4 + kl) vl bytes (omega (arith, inside)) in
    rw (is_n, is_m, is_end) (record {
      key_size = (omega (arith, key_long, some), omega (arith, key_long, short));
      payload_size = omega (arith, payload_long, value_short);
      spelled = leaf_there at kl vl bytes one two inside;
      order = omega arith;
      inside = inside;
    })

inner_there : (at kl : ℕ) (bytes : List ℕ) → drop at bytes ≡ two_bytes kl ++ drop (at + 2) bytes → at + 6 + kl ≤ length bytes
    → drop at bytes ≡ cell_bytes Inner (take kl (drop (at + 6) bytes), take 4 (drop (at + 2) bytes)) ++ drop (at + 6 + kl) bytes
unfolding cell_bytes
inner_there at kl bytes one fits =
    let key = take kl (drop (at + 6) bytes) in
    let payload = take 4 (drop (at + 2) bytes) in
    let end = drop (at + 6 + kl) bytes in
    let key_long : length key ≡ kl = part_long (at + 6) kl bytes (omega arith) in
    let seam : drop (at + 2 + 4) bytes ≡ drop (at + 6) bytes = let e : at + 2 + 4 ≡ at + 6 = omega arith in ap (λ i. drop i bytes) e in
    let two : drop (at + 2) bytes ≡ (payload ++ key) ++ end =
    parts (at + 2) 4 bytes ∙ (ap (λ (zs : List ℕ). payload ++ zs) (seam ∙ parts (at + 6) kl bytes) ∙ sym (append_assoc payload key end)) in
    one ∙ (ap (λ (zs : List ℕ). two_bytes kl ++ zs) two ∙ ap (λ n. two_bytes n ++ ((payload ++ key) ++ end)) (sym key_long))

pub inner_found : (at kl n m end : ℕ) (bytes : List ℕ) → drop at bytes ≡ two_bytes kl ++ drop (at + 2) bytes → n ≡ kl → m ≡ 4 → end ≡ at + 6 + kl
    → 1 ≤ kl → kl ≤ 205 → end ≤ length bytes → IsCellAt Inner bytes at (take n (drop (at + 6) bytes)) (take m (drop (at + 2) bytes)) end
inner_found at kl n m end bytes one is_n is_m is_end some short fits =
    let inside : at + 6 + kl ≤ length bytes = omega (arith, fits, is_end) in
    let key_long = part_long (at + 6) kl bytes inside in
    rw (is_n, is_m, is_end) (record {
      key_size = (omega (arith, key_long, some), omega (arith, key_long, short));
      payload_size = part_long (at + 2) 4 bytes (omega (arith, inside));
      spelled = inner_there at kl bytes one inside;
      order = omega arith;
      inside = inside;
    })

-- how long a cell is
pub cell_long : (kind : NodeKind) (c : Entry) → length (cell_bytes kind c) ≡ (elim kind as (λ _. ℕ) [ Leaf ↦ 4 | Inner ↦ 2 ]) + length c.0 + length c.1
unfolding cell_bytes
cell_long Leaf c = omega (arith, length-append c.0 c.1)
cell_long Inner c = omega (arith, length-append c.1 c.0)

-- the lengths that a spelled cell begins with
pub record LeafAhead (at : ℕ) (bytes : List ℕ) (c : Entry) : Type 0 where
  pub after : List ℕ
  pub key_len : drop at bytes ≡ two_bytes (length c.0) ++ after
  pub behind_two : List ℕ
  pub value_len : drop (at + 2) bytes ≡ two_bytes (length c.1) ++ behind_two

pub leaf_ahead : (at : ℕ) (bytes : List ℕ) (c : Entry) (rest : List ℕ) → drop at bytes ≡ cell_bytes Leaf c ++ rest → LeafAhead at bytes c
unfolding cell_bytes
leaf_ahead at bytes c rest spelled =
    let all : drop at bytes ≡ two_bytes (length c.0) ++ (two_bytes (length c.1) ++ ((c.0 ++ c.1) ++ rest)) = spelled in
    record {
      after = two_bytes (length c.1) ++ ((c.0 ++ c.1) ++ rest);
      key_len = all;
      behind_two = (c.0 ++ c.1) ++ rest;
      value_len = ahead_more at 2 bytes (two_bytes (length c.0)) (two_bytes (length c.1) ++ ((c.0 ++ c.1) ++ rest)) refl all;
    }

pub inner_ahead : (at : ℕ) (bytes : List ℕ) (c : Entry) (rest : List ℕ) → drop at bytes ≡ cell_bytes Inner c ++ rest → drop at bytes ≡ two_bytes (length c.0) ++ ((c.1 ++ c.0) ++ rest)
unfolding cell_bytes
inner_ahead at bytes c rest spelled = spelled

-- a cell that is ahead is within the bytes
pub cell_inside : (kind : NodeKind) (at : ℕ) (bytes : List ℕ) (c : Entry) (rest : List ℕ) → at ≤ length bytes → drop at bytes ≡ cell_bytes kind c ++ rest → at + length (cell_bytes kind c) ≤ length bytes
cell_inside kind at bytes c rest inside spelled =
    let long = ap (λ (xs : List ℕ). length xs) spelled in
    omega (arith, long, length-drop at bytes, length-append (cell_bytes kind c) rest)
