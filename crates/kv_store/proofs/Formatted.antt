-- A new store: the leaf of its first record.
use Rattle.std.proofs.Common.{◌≡◌, ◌≤◌, ◌++◌, ℕ, suc, zero, false, inl, inr, List, [], ◌∷◌, length, refl, sym, ap, ◌∙◌, arith}
use Rattle.std.specs.Prelude.{IsSome}
use Rattle.std.proofs.lemmas.List.{append-nil}
use Rattle.sector_device.specs.Timeline.{LeavesOnly, weakened}
use Rattle.sector_device.specs.Device.{DeviceState, Image, KeepsHistory, timeline}
use Rattle.sector_device.specs.Page.{IsAlone, IsOutside}
use Rattle.storage_sizes.specs.declared.record_format.RecordFormat.{RecordFormat}
use Rattle.storage_sizes.specs.declared.record_format.RecordFormat.TheVariants.{V1, V2}
use Rattle.page_roots.specs.Formats.{format_of, record_format_of, has_journal}
use Rattle.cow_pages.specs.Image.{Means, one_page}
use Rattle.cow_pages.specs.Formatting.{IsBlank, IsNoneOrFirst as IsNoneOrFirstPage}
use Rattle.page_nodes.specs.declared.cell.NodeKind.TheVariants.{Leaf}
use Rattle.page_nodes.specs.Node.{cell_bytes, cells_bytes, IsNode, FitsPage, HasSizes}
use Rattle.page_nodes.proofs.Cells.{cell_long}
use Rattle.page_tree.proofs.Represented.{leaf_is_tree}
use Rattle.store.specs.Records.{Record, IsKeySize}
use Rattle.kv_store.specs.Formatting.{HasFirst, IsNoneOrFirst, WritesStore}

pub cells_are : (e : Record) (cells items fresh k v : List ℕ) → cells ≡ items → items ≡ fresh ++ cell_bytes Leaf (k, v) → fresh ≡ [] → k ≡ e.0 → v ≡ e.1 → cells ≡ cell_bytes Leaf e
cells_are e cells items fresh k v same is none key value =
    same ∙ (is ∙ (ap (λ (xs : List ℕ). xs ++ cell_bytes Leaf (k, v)) none ∙ (ap (λ (x : List ℕ). cell_bytes Leaf (x, v)) key ∙ ap (λ (x : List ℕ). cell_bytes Leaf (e.0, x)) value)))

pub leaf_fits : (e : Record) (cells : List ℕ) → IsKeySize e.0 → length e.1 ≤ 1200 → cells ≡ [] ++ cell_bytes Leaf e → FitsPage Leaf (length cells)
leaf_fits e cells key value is = omega (arith, cell_long Leaf e, key.1, value, ap (λ (xs : List ℕ). length xs) is)

pub leaf_written : (e : Record) (cells page : List ℕ) → IsKeySize e.0 → length e.1 ≤ 1200 → cells ≡ [] ++ cell_bytes Leaf e
    → ((cs : List Record) → HasSizes Leaf cs → cells ≡ cells_bytes Leaf cs → 1 ≡ length cs → IsNode Leaf [] cs page) → IsNode Leaf [] (e ∷ []) page
leaf_written e cells page key value is writes = writes (e ∷ []) (key, value, tt) (is ∙ sym (append-nil (cell_bytes Leaf e))) refl

pub only_first : (page : List ℕ) (l : ℕ) → IsSome (one_page page l) → l ≡ 0
only_first page zero some = refl
only_first page (suc l) some = absurd (let bad = some in cc)

-- the format of a record format has it
spelled_so : (record_format : RecordFormat) → record_format_of (format_of record_format) ≡ record_format
spelled_so V1 = refl
spelled_so V2 = refl

plain : (record_format : RecordFormat) → has_journal (format_of record_format) ≡ false
plain V1 = refl
plain V2 = refl

-- an image of the first page has the record of its leaf
pub has_first : (pages : ℕ) (record_format : RecordFormat) (e : Record) (page : List ℕ) → IsNode Leaf [] (e ∷ []) page → (image : Image) → Means pages (format_of record_format) 1 (one_page page) image → HasFirst pages record_format e image
has_first pages record_format e page node image means = (
  record { format = format_of record_format; number = 1; array = one_page page; means = means; kind = plain record_format; spelled = spelled_so record_format; represents = leaf_is_tree (one_page page) (e ∷ []) page refl (only_first page) node (tt, tt) },
  refl,
)

none_or_first : (sectors : ℕ) (record_format : RecordFormat) (e : Record) (page : List ℕ) → IsNode Leaf [] (e ∷ []) page → (image : Image) → IsNoneOrFirstPage sectors (format_of record_format) page image → IsNoneOrFirst sectors record_format e image
none_or_first sectors record_format e page node image is = elim is [
  | inl none ↦ inl none
  | inr means ↦ inr (has_first _ record_format e page node image means)
]

pub written : (record_format : RecordFormat) (e : Record) (page : List ℕ) (d f : DeviceState) → IsNode Leaf [] (e ∷ []) page → KeepsHistory d f → (d.faithful → IsBlank d → LeavesOnly (IsNoneOrFirstPage d.sectors (format_of record_format) page) (timeline d) (timeline f))
    → (d.faithful → (s : ℕ) → 2 ≤ s → IsOutside 8 16 s → IsAlone d f s) → WritesStore record_format e d f
written record_format e page d f node history moments others = record {
  history = history;
  any_moment = λ faithful blank. weakened _ _ (timeline d) (timeline f) (none_or_first d.sectors record_format e page node) (moments faithful blank);
  others = others;
}
