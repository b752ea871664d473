-- A row is known from its bytes.
use Rattle.std.proofs.Common.{◌≡◌, ℕ, suc, ◌+◌, ◌^◌, ◌<◌, ◌≤◌, Bool, true, false, nat_eq, IsTrue, List, [], ◌∷◌, ◌++◌, map, length, take, drop, get_or, refl, ap, sym, ◌∙◌, arith, append_assoc, slice_get, if◌then◌else◌}
use Rattle.std.specs.Prelude.{ℤ, pos, negsuc, FitsSigned}
use Rattle.std.specs.List.{AllByRecursion, list_any, list_all}
use Rattle.std.specs.Int.{w64, cast_unsigned}
use Rattle.std.proofs.Math.Seq.{take-append_seam, drop-append_seam}
use Rattle.byteorder.specs.Endian.{big_bytes, big_number}
use Rattle.byteorder.specs.Numbers.{big_number-reads_back}
use Rattle.sql_types.specs.declared.value.Value.{Value}
use Rattle.sql_types.specs.declared.value.Value.TheVariants.{Null, Int, Text, Bool as Boolean}
use Rattle.sql_ast.specs.declared.columns.Column.{Column}
use Rattle.sql_ast.specs.declared.columns.ColumnType.{ColumnType}
use Rattle.sql_ast.specs.declared.columns.ColumnType.TheVariants as type
use Rattle.sql_ast.specs.Layout.{Layout, IsLayout, is_not_null_at}
use Rattle.sql_types.specs.Domain.{HasNoZero}
use Rattle.sql_ast.specs.Fits.{IsOfType, FitsColumn, FitsColumnIfAny, FitsColumns}
use Rattle.row_codec.specs.Cells.{key_cell, value_cell, rank}
use Rattle.sql_types.specs.Row.{Row, value_at}
use Rattle.sql_ast.specs.Rows.{record_size_from, value_cell_size}
use Rattle.row_codec.specs.Rows.{key_bytes, value_bytes, Spells}
use Rattle.row_codec.proofs.Layouts.{all_at, and_parts}
use Rattle.row_codec.proofs.Order.{rank_fits, of_one_type}
use Rattle.row_codec.proofs.Zero.{same_parts, zero_after}

-- ---- numbers

same_number : (a b : ℕ) (r s : List ℕ) → a < 2 ^ 64 → b < 2 ^ 64 → big_bytes 8 a ++ r ≡ big_bytes 8 b ++ s → (a ≡ b) × (r ≡ s)
same_number a b r s small_a small_b same =
    (sym (big_number-reads_back 8 a r small_a) ∙ ap (λ (zs : List ℕ). big_number 8 zs) same ∙ big_number-reads_back 8 b s small_b, ap (λ (zs : List ℕ). drop 8 zs) same)

same_length : (a b : ℕ) (r s : List ℕ) → a < 65536 → b < 65536 → big_bytes 2 a ++ r ≡ big_bytes 2 b ++ s → (a ≡ b) × (r ≡ s)
same_length a b r s small_a small_b same =
    (sym (big_number-reads_back 2 a r small_a) ∙ ap (λ (zs : List ℕ). big_number 2 zs) same ∙ big_number-reads_back 2 b s small_b, ap (λ (zs : List ℕ). drop 2 zs) same)

same_rank : (x y : ℤ) → FitsSigned w64 x → FitsSigned w64 y → rank x ≡ rank y → x ≡ y
same_rank (pos m) (pos n) fits_x fits_y e = let same : m ≡ n = omega arith in ap pos same
same_rank (pos m) (negsuc n) fits_x fits_y e = absurd (omega arith)
same_rank (negsuc m) (pos n) fits_x fits_y e = absurd (omega arith)
same_rank (negsuc m) (negsuc n) fits_x fits_y e = let same : m ≡ n = omega arith in ap negsuc same

bits_fit : (x : ℤ) → FitsSigned w64 x → cast_unsigned w64 x < 2 ^ 64
bits_fit (pos m) fits = omega arith
bits_fit (negsuc m) fits = omega arith

same_bits : (x y : ℤ) → FitsSigned w64 x → FitsSigned w64 y → cast_unsigned w64 x ≡ cast_unsigned w64 y → x ≡ y
same_bits (pos m) (pos n) fits_x fits_y e = let same : m ≡ n = omega arith in ap pos same
same_bits (pos m) (negsuc n) fits_x fits_y e = absurd (omega arith)
same_bits (negsuc m) (pos n) fits_x fits_y e = absurd (omega arith)
same_bits (negsuc m) (negsuc n) fits_x fits_y e = let same : m ≡ n = omega arith in ap negsuc same

-- ---- texts

same_text : (s t xs ys : List ℕ) → HasNoZero s → HasNoZero t → s ++ 0 ∷ xs ≡ t ++ 0 ∷ ys → (s ≡ t) × (xs ≡ ys)
same_text s t xs ys free_s free_t same =
    let at = zero_after s xs free_s in
    let first = same_parts (s ++ 0 ∷ xs) s xs (length s) at free_s refl in
    let second = same_parts (s ++ 0 ∷ xs) t ys (length s) at free_t same in
    (sym first.0 ∙ second.0, sym first.1 ∙ second.1)

same_front : (s t xs ys : List ℕ) → length s ≡ length t → s ++ xs ≡ t ++ ys → (s ≡ t) × (xs ≡ ys)
same_front s t xs ys long same = (
  sym (take-append_seam s xs) ∙ ap (λ (zs : List ℕ). take (length s) zs) same ∙ ap (λ n. take n (t ++ ys)) long ∙ take-append_seam t ys,
  sym (drop-append_seam s xs) ∙ ap (λ (zs : List ℕ). drop (length s) zs) same ∙ ap (λ n. drop n (t ++ ys)) long ∙ drop-append_seam t ys,
)

-- ---- cells

after_tag : (a b : ℕ) (r s : List ℕ) → a ∷ r ≡ b ∷ s → r ≡ s
after_tag a b r s same = ap (λ (zs : List ℕ). drop 1 zs) same

same_tag : (a b : ℕ) (r s : List ℕ) → a ∷ r ≡ b ∷ s → a ≡ b
same_tag a b r s same = ap (λ (zs : List ℕ). get_or zs 0 0) same

same_key_cell : (t : ColumnType) (v w : Value) (r s : List ℕ) → IsOfType t v → IsOfType t w → key_cell v ++ r ≡ key_cell w ++ s → (v ≡ w) × (r ≡ s)
same_key_cell type.BigInt (Int a) (Int b) r s p q same =
    let parts = same_number (rank a) (rank b) r s (rank_fits a p) (rank_fits b q) same in (ap Int (same_rank a b p q parts.0), parts.1)
same_key_cell type.Text (Text t) (Text u) r s p q same =
    let parts = same_text t u r s p.no_zero q.no_zero (sym (append_assoc t (0 ∷ []) r) ∙ same ∙ append_assoc u (0 ∷ []) s) in (ap Text parts.0, parts.1)
same_key_cell type.Boolean (Boolean false) (Boolean false) r s p q same = (refl, after_tag 0 0 r s same)
same_key_cell type.Boolean (Boolean true) (Boolean true) r s p q same = (refl, after_tag 1 1 r s same)
same_key_cell type.Boolean (Boolean false) (Boolean true) r s p q same = absurd (omega (arith, same_tag 0 1 r s same))
same_key_cell type.Boolean (Boolean true) (Boolean false) r s p q same = absurd (omega (arith, same_tag 1 0 r s same))
same_key_cell type.BigInt Null w r s p q same = absurd p
same_key_cell type.BigInt (Int a) Null r s p q same = absurd q
same_key_cell type.BigInt (Int a) (Text t) r s p q same = absurd q
same_key_cell type.BigInt (Int a) (Boolean b) r s p q same = absurd q
same_key_cell type.BigInt (Text t) w r s p q same = absurd p
same_key_cell type.BigInt (Boolean b) w r s p q same = absurd p
same_key_cell type.Text Null w r s p q same = absurd p
same_key_cell type.Text (Int a) w r s p q same = absurd p
same_key_cell type.Text (Text t) Null r s p q same = absurd q
same_key_cell type.Text (Text t) (Int b) r s p q same = absurd q
same_key_cell type.Text (Text t) (Boolean b) r s p q same = absurd q
same_key_cell type.Text (Boolean b) w r s p q same = absurd p
same_key_cell type.Boolean Null w r s p q same = absurd p
same_key_cell type.Boolean (Int a) w r s p q same = absurd p
same_key_cell type.Boolean (Text t) w r s p q same = absurd p
same_key_cell type.Boolean (Boolean false) Null r s p q same = absurd q
same_key_cell type.Boolean (Boolean false) (Int b) r s p q same = absurd q
same_key_cell type.Boolean (Boolean false) (Text t) r s p q same = absurd q
same_key_cell type.Boolean (Boolean true) Null r s p q same = absurd q
same_key_cell type.Boolean (Boolean true) (Int b) r s p q same = absurd q
same_key_cell type.Boolean (Boolean true) (Text t) r s p q same = absurd q

int_fits : (t : ColumnType) (z : ℤ) → IsOfType t (Int z) → FitsSigned w64 z
int_fits type.BigInt z p = p
int_fits type.Text z p = absurd p
int_fits type.Boolean z p = absurd p

abbrev tag : Value → ℕ
tag Null = 0
tag (Int z) = 1
tag (Text t) = 2
tag (Boolean false) = 3
tag (Boolean true) = 4

tag_first : (v : Value) (r : List ℕ) → get_or (value_cell v ++ r) 0 0 ≡ tag v
tag_first Null r = refl
tag_first (Int z) r = refl
tag_first (Text t) r = refl
tag_first (Boolean false) r = refl
tag_first (Boolean true) r = refl

same_tags : (v w : Value) (r s : List ℕ) → value_cell v ++ r ≡ value_cell w ++ s → tag v ≡ tag w
same_tags v w r s same = sym (tag_first v r) ∙ ap (λ (zs : List ℕ). get_or zs 0 0) same ∙ tag_first w s

same_value_cell : (c : Column) (v w : Value) (r s : List ℕ) → FitsColumn c v → FitsColumn c w → value_cell_size v < 65536 → value_cell_size w < 65536
    → value_cell v ++ r ≡ value_cell w ++ s → (v ≡ w) × (r ≡ s)
same_value_cell c Null Null r s p q short_v short_w same = (refl, after_tag 0 0 r s same)
same_value_cell c (Int a) (Int b) r s p q short_v short_w same =
    let fits_a : FitsSigned w64 a = int_fits c.column_type a p in
    let fits_b : FitsSigned w64 b = int_fits c.column_type b q in
    let parts = same_number (cast_unsigned w64 a) (cast_unsigned w64 b) r s (bits_fit a fits_a) (bits_fit b fits_b) (after_tag 1 1 _ _ same) in
    (ap Int (same_bits a b fits_a fits_b parts.0), parts.1)
same_value_cell c (Text t) (Text u) r s p q short_v short_w same =
    let lengths = same_length (length t) (length u) (t ++ r) (u ++ s) (omega arith) (omega arith) (after_tag 2 2 _ _ same) in
    let parts = same_front t u r s lengths.0 lengths.1 in
    (ap Text parts.0, parts.1)
same_value_cell c (Boolean false) (Boolean false) r s p q short_v short_w same = (refl, after_tag 3 3 r s same)
same_value_cell c (Boolean true) (Boolean true) r s p q short_v short_w same = (refl, after_tag 4 4 r s same)
same_value_cell c Null (Boolean false) r s p q short_v short_w same = let tags = same_tags Null (Boolean false) r s same in absurd (omega (arith, tags))
same_value_cell c Null (Boolean true) r s p q short_v short_w same = let tags = same_tags Null (Boolean true) r s same in absurd (omega (arith, tags))
same_value_cell c (Int a) (Boolean false) r s p q short_v short_w same = let tags = same_tags (Int a) (Boolean false) r s same in absurd (omega (arith, tags))
same_value_cell c (Int a) (Boolean true) r s p q short_v short_w same = let tags = same_tags (Int a) (Boolean true) r s same in absurd (omega (arith, tags))
same_value_cell c (Text t) (Boolean false) r s p q short_v short_w same = let tags = same_tags (Text t) (Boolean false) r s same in absurd (omega (arith, tags))
same_value_cell c (Text t) (Boolean true) r s p q short_v short_w same = let tags = same_tags (Text t) (Boolean true) r s same in absurd (omega (arith, tags))
same_value_cell c (Boolean false) Null r s p q short_v short_w same = let tags = same_tags (Boolean false) Null r s same in absurd (omega (arith, tags))
same_value_cell c (Boolean false) (Int b) r s p q short_v short_w same = let tags = same_tags (Boolean false) (Int b) r s same in absurd (omega (arith, tags))
same_value_cell c (Boolean false) (Text u) r s p q short_v short_w same = let tags = same_tags (Boolean false) (Text u) r s same in absurd (omega (arith, tags))
same_value_cell c (Boolean false) (Boolean true) r s p q short_v short_w same = let tags = same_tags (Boolean false) (Boolean true) r s same in absurd (omega (arith, tags))
same_value_cell c (Boolean true) Null r s p q short_v short_w same = let tags = same_tags (Boolean true) Null r s same in absurd (omega (arith, tags))
same_value_cell c (Boolean true) (Int b) r s p q short_v short_w same = let tags = same_tags (Boolean true) (Int b) r s same in absurd (omega (arith, tags))
same_value_cell c (Boolean true) (Text u) r s p q short_v short_w same = let tags = same_tags (Boolean true) (Text u) r s same in absurd (omega (arith, tags))
same_value_cell c (Boolean true) (Boolean false) r s p q short_v short_w same = let tags = same_tags (Boolean true) (Boolean false) r s same in absurd (omega (arith, tags))
same_value_cell c v w r s p q short_v short_w same = let tags = same_tags v w r s same in absurd (omega (arith, tags))

-- ---- rows

same_keys : (columns : List Column) (key : List ℕ) (a b : Row) → IsTrue (list_all (is_not_null_at columns) key) → FitsColumns columns a → FitsColumns columns b
    → key_bytes (map (value_at a) key) ≡ key_bytes (map (value_at b) key) → AllByRecursion (λ p. value_at a p ≡ value_at b p) key
same_keys columns [] a b marked fits_a fits_b same = tt
same_keys columns (p ∷ key) a b marked fits_a fits_b same =
    let parts = and_parts (is_not_null_at columns p) (list_all (is_not_null_at columns) key) marked in
    let one = of_one_type columns p a b parts.0 fits_a fits_b in
    let cells = same_key_cell one.kind (value_at a p) (value_at b p) (key_bytes (map (value_at a) key)) (key_bytes (map (value_at b) key)) one.first one.second same in
    (cells.0, same_keys columns key a b parts.1 fits_a fits_b cells.1)

same_others : (columns : List Column) (key : List ℕ) (index : ℕ) (a b : Row) → length a ≡ length columns → length b ≡ length columns
    → ((q : ℕ) → FitsColumnIfAny (slice_get columns q) (value_at a q)) → ((q : ℕ) → FitsColumnIfAny (slice_get columns q) (value_at b q))
    → record_size_from key index a ≤ 1200 → record_size_from key index b ≤ 1200
    → ((q n : ℕ) → n ≡ index + q → list_any (nat_eq n) key ≡ true → value_at a q ≡ value_at b q)
    → value_bytes key index a ≡ value_bytes key index b → a ≡ b
same_others [] key index [] [] long_a long_b fits_a fits_b small_a small_b of_key same = refl
same_others [] key index (x ∷ a) b long_a long_b fits_a fits_b small_a small_b of_key same = absurd (omega arith)
same_others [] key index [] (y ∷ b) long_a long_b fits_a fits_b small_a small_b of_key same = absurd (omega arith)
same_others (c ∷ columns) key index [] b long_a long_b fits_a fits_b small_a small_b of_key same = absurd (omega arith)
same_others (c ∷ columns) key index (x ∷ a) [] long_a long_b fits_a fits_b small_a small_b of_key same = absurd (omega arith)
same_others (c ∷ columns) key index (x ∷ a) (y ∷ b) long_a long_b fits_a fits_b small_a small_b of_key same =
    go (list_any (nat_eq index) key) refl small_a small_b same (λ rest_a rest_b rest.
    same_others columns key (index + 1) a b (omega arith) (omega arith) (λ q. fits_a (suc q)) (λ q. fits_b (suc q)) rest_a rest_b (λ q n at in_key. of_key (suc q) n (omega arith) in_key) rest)
  where
    go : (in_key : Bool) → in_key ≡ list_any (nat_eq index) key
        → (if in_key then 0 else value_cell_size x) + record_size_from key (index + 1) a ≤ 1200 → (if in_key then 0 else value_cell_size y) + record_size_from key (index + 1) b ≤ 1200
        → (if in_key then [] else value_cell x) ++ value_bytes key (index + 1) a ≡ (if in_key then [] else value_cell y) ++ value_bytes key (index + 1) b
        → (record_size_from key (index + 1) a ≤ 1200 → record_size_from key (index + 1) b ≤ 1200 → value_bytes key (index + 1) a ≡ value_bytes key (index + 1) b → a ≡ b)
        → x ∷ a ≡ y ∷ b
    go true among low_a low_b eq later =
        let first : x ≡ y = of_key 0 index (omega arith) (sym among) in
        let rest : a ≡ b = later (omega arith) (omega arith) eq in
        ap (λ z. z ∷ a) first ∙ ap (λ (zs : List Value). y ∷ zs) rest
    go false among low_a low_b eq later =
        let cells = same_value_cell c x y (value_bytes key (index + 1) a) (value_bytes key (index + 1) b) (fits_a 0) (fits_b 0) (omega arith) (omega arith) eq in
        let rest : a ≡ b = later (omega arith) (omega arith) cells.1 in
        ap (λ z. z ∷ a) cells.0 ∙ ap (λ (zs : List Value). y ∷ zs) rest

pub same_row_spelled : (layout : Layout) (key value : List ℕ) (a b : Row) → IsLayout layout → Spells layout key value a → Spells layout key value b → a ≡ b
same_row_spelled layout key value a b is of_a of_b =
    let keys = same_keys layout.columns layout.key a b is.key_not_null of_a.fits.columns of_b.fits.columns (sym of_a.key_spelled ∙ of_b.key_spelled) in
    same_others layout.columns layout.key 0 a b of_a.fits.columns.width of_b.fits.columns.width of_a.fits.columns.each of_b.fits.columns.each of_a.fits.limits.others of_b.fits.limits.others
    (λ q n at in_key. all_at (λ p. value_at a p ≡ value_at b p) q layout.key (let at_q : n ≡ q = omega arith in ap (λ m. list_any (nat_eq m) layout.key) (sym at_q) ∙ in_key) keys)
    (sym of_a.value_spelled ∙ of_b.value_spelled)
