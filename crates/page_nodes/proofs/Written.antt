-- A page that is written over another.
use Rattle.std.proofs.Common.{◌≡◌, ℕ, ◌+◌, ◌-◌, ◌≤◌, List, [], ◌∷◌, ◌++◌, length, drop, take, set, replicate, refl, sym, ap, ◌∙◌, arith, append_assoc, length-append, length-drop}
use Rattle.std.proofs.Math.Seq.{take-append_seam, drop-append_seam, drop-append-add}
use Rattle.std.proofs.lemmas.List.{drop-drop, drop_all, take_all, append-nil, length-replicate}
use borrow.Rule.Slice.PartMut.{put_mid}
use Rattle.page_nodes.specs.declared.cell.NodeKind.{NodeKind}
use Rattle.page_nodes.specs.declared.cell.NodeKind.TheVariants.{Leaf, Inner}
use Rattle.page_nodes.specs.Map.{Entry}
use Rattle.page_nodes.specs.Node.{two_bytes, cells_bytes, front_bytes, HasSizes, IsFirst, IsNode, tag, start}

-- bytes written after a front, over others
put_after : (pre rest ys : List ℕ) (a k : ℕ) → a ≡ length pre → k ≡ length ys → put_mid a k (pre ++ rest) ys ≡ (pre ++ ys) ++ drop (length ys) rest
put_after pre rest ys a k is_a is_k =
    let front : take a (pre ++ rest) ≡ pre = ap (λ m. take m (pre ++ rest)) is_a ∙ take-append_seam pre rest in
    let back : drop k (drop a (pre ++ rest)) ≡ drop (length ys) rest = drop-drop k a (pre ++ rest) ∙ (rw (is_a, is_k) (drop-append-add pre rest (length ys))) in
    let all : take a (pre ++ rest) ++ (ys ++ drop k (drop a (pre ++ rest))) ≡ pre ++ (ys ++ drop (length ys) rest) = rw (front, back) refl in
    all ∙ sym (append_assoc pre ys (drop (length ys) rest))

-- the last bytes are written over all that is left
put_last : (pre rest ys : List ℕ) (a k : ℕ) → a ≡ length pre → k ≡ length ys → length rest ≡ length ys → put_mid a k (pre ++ rest) ys ≡ pre ++ ys
put_last pre rest ys a k is_a is_k long =
    put_after pre rest ys a k is_a is_k ∙ (ap (λ (xs : List ℕ). (pre ++ ys) ++ xs) (drop_all (length ys) rest (omega (arith, long))) ∙ append-nil (pre ++ ys))

head_is : (t count : ℕ) (base w : List ℕ) → 4 ≤ length base → w ≡ two_bytes count ++ drop 2 (take 2 (drop 2 (set (set base 0 t) 1 0))) → put_mid 2 2 (set (set base 0 t) 1 0) w ≡ (t ∷ 0 ∷ two_bytes count) ++ drop 4 base
head_is t count [] w four is = absurd (omega (arith, four))
head_is t count (a ∷ []) w four is = absurd (omega (arith, four))
head_is t count (a ∷ b ∷ []) w four is = absurd (omega (arith, four))
head_is t count (a ∷ b ∷ c ∷ []) w four is = absurd (omega (arith, four))
head_is t count (a ∷ b ∷ c ∷ d ∷ rest) w four is = rw is refl

first_long : (kind : NodeKind) (first : List ℕ) → IsFirst kind first → start kind ≡ 4 + length first
first_long Leaf first long = omega (arith, long)
first_long Inner first long = omega (arith, long)

-- a page with its head, its first child and its cells written over it
abbrev pub over : List ℕ → List ℕ → List ℕ → ℕ → List ℕ → List ℕ → List ℕ → List ℕ
over first cells base t w a b =
    put_mid (4 + length first) (4 + length first + length cells - (4 + length first)) (put_mid 4 (4 + length first - 4) (put_mid 2 2 (set (set base 0 t) 1 0) w) a) b

pub written : (kind : NodeKind) (count t : ℕ) (first cells base w a b z : List ℕ) (cs : List Entry) → length base ≡ 4096 → t ≡ tag kind → w ≡ two_bytes count ++ drop 2 (take 2 (drop 2 (set (set base 0 t) 1 0))) → a ≡ first → b ≡ cells
    → z ≡ replicate (length (take (4096 - (4 + length first + length cells)) (drop (4 + length first + length cells) (over first cells base t w a b)))) 0
    → IsFirst kind first → start kind + length cells ≤ 4096 → HasSizes kind cs → cells ≡ cells_bytes kind cs → count ≡ length cs
    → IsNode kind first cs (put_mid (4 + length first + length cells) (4096 - (4 + length first + length cells)) (over first cells base t w a b) z)
written kind count t first cells base w a b z cs whole is_tag is_w is_a is_b is_z first_size room sizes is is_count =
    let head = t ∷ 0 ∷ two_bytes count in
    let end = 4 + length first + length cells in
    let fits : end ≤ 4096 = omega (arith, room, first_long kind first first_size) in
    let rest = drop (length cells) (drop (length first) (drop 4 base)) in
    let pre = (head ++ first) ++ cells in
    let one = head_is t count base w (omega (arith, whole)) is_w in
    let two : put_mid 4 (4 + length first - 4) (head ++ drop 4 base) first ≡ (head ++ first) ++ drop (length first) (drop 4 base) = put_after head (drop 4 base) first 4 (4 + length first - 4) refl (omega arith) in
    let three : put_mid (4 + length first) (end - (4 + length first)) ((head ++ first) ++ drop (length first) (drop 4 base)) cells ≡ pre ++ rest =
    put_after (head ++ first) (drop (length first) (drop 4 base)) cells (4 + length first) (end - (4 + length first)) (omega (arith, length-append head first)) (omega arith) in
    let all : over first cells base t w a b ≡ pre ++ rest = rw (is_a, is_b, one, two) three in
    let pre_long : length pre ≡ end = omega (arith, length-append (head ++ first) cells, length-append head first) in
    let rest_long : length rest ≡ 4096 - end = omega (arith, length-drop (length cells) (drop (length first) (drop 4 base)), length-drop (length first) (drop 4 base), length-drop 4 base, whole) in
    let behind : drop end (pre ++ rest) ≡ rest = ap (λ n. drop n (pre ++ rest)) (sym pre_long) ∙ drop-append_seam pre rest in
    let part : take (4096 - end) (drop end (over first cells base t w a b)) ≡ rest = ap (λ (xs : List ℕ). take (4096 - end) (drop end xs)) all ∙ (ap (λ (xs : List ℕ). take (4096 - end) xs) behind ∙ take_all (4096 - end) rest (omega (arith, rest_long))) in
    let zeros : z ≡ replicate (4096 - end) 0 = is_z ∙ ap (λ n. replicate n 0) (ap (λ (xs : List ℕ). length xs) part ∙ rest_long) in
    let zeros_long : length z ≡ 4096 - end = ap (λ (xs : List ℕ). length xs) zeros ∙ length-replicate (4096 - end) 0 in
    let last : put_mid end (4096 - end) (over first cells base t w a b) z ≡ pre ++ z =
    ap (λ (xs : List ℕ). put_mid end (4096 - end) xs z) all ∙ put_last pre rest z end (4096 - end) (sym pre_long) (sym zeros_long) (rest_long ∙ sym zeros_long) in
    let front : pre ≡ front_bytes kind first cs = append_assoc head first cells ∙ (rw (is, is_count, is_tag) refl) in
    let long : length (front_bytes kind first cs) ≡ end = sym (ap (λ (xs : List ℕ). length xs) front) ∙ pre_long in
    record {
      first_size = first_size;
      sizes = sizes;
      fits = omega (arith, long, fits);
      spelled = last ∙ (ap (λ (xs : List ℕ). xs ++ z) front ∙ ap (λ (xs : List ℕ). front_bytes kind first cs ++ xs) (zeros ∙ ap (λ n. replicate (4096 - n) 0) (sym long)));
    }
