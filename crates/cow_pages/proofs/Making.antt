-- The way over the device while a new array is made, one call at a time.
use Rattle.std.proofs.Common.{◌≡◌, ◌≢◌, ◌<◌, ◌≤◌, ◌*◌, ◌/◌, ℕ, zero, List, ◌∷◌, Some, true, false, replicate, refl, sym, ap, subst, ◌∙◌, arith, inl, inr}
use Rattle.std.proofs.lemmas.Bool.{cases_eq}
use Rattle.sector_device.specs.Timeline.{LeavesOnly, IsPresent, joined, weakened}
use Rattle.sector_device.proofs.Runs.{started, goes_on}
use Rattle.sector_device.specs.Device.{DeviceState, Image, IsLeft, IsSynced, KeepsHistory, OnlyReads, Writes, history_joined, timeline, history_none}
use Rattle.sector_device.proofs.Devices.{read_leaves}
use Rattle.sector_device.specs.Page.{IsAlone, IsOutside, AgreesOutside}
use Rattle.page_roots.specs.declared.format.Format.{Format}
use Rattle.page_roots.specs.Root.{RootFields}
use Rattle.page_roots.specs.Sector.{root_at, begins_with_magic, zeros}
use Rattle.page_roots.specs.MapPage.{entries_in}
use Rattle.page_roots.specs.declared.sector.RootSector.TheVariants.{Empty, Found}
use Rattle.cow_pages.specs.Image.{bytes_of_page, first_fault, is_size}
use Rattle.cow_pages.specs.Formatting.{IsUnmarked, IsBlank, IsLeftOrHasRoot, IsNoneOrFirst, first_root}
use Rattle.cow_pages.specs.declared.open.OpenFault.TheVariants.{NotADatabase}
use Rattle.cow_pages.proofs.Formatted.{content_means, size_is}
use Rattle.cow_pages.proofs.Writing.{root_page}

pub alone_joined : (d e f : DeviceState) (s : ℕ) → IsAlone d e s → IsAlone e f s → IsAlone d f s
alone_joined d e f s one two = record { content = two.content ∙ one.content; left = λ c now. one.left c (two.left c now) }

pub alone_reads : (d e : DeviceState) → OnlyReads d e → (s : ℕ) → IsAlone d e s
alone_reads d e only_reads s = record { content = only_reads.content s; left = only_reads.left s }

pub alone_writes : (x : ℕ) (bytes : List ℕ) (d e : DeviceState) → Writes x bytes d e → (s : ℕ) → s ≢ x → IsAlone d e s
alone_writes x bytes d e writes s other = record { content = writes.others s other; left = λ c now. writes.others_left s c other now }

zeros_unmarked : begins_with_magic zeros ≡ false
zeros_unmarked = refl

pub blank_left : (d : DeviceState) → 2 ≤ d.sectors → IsBlank d → (image : Image) → IsLeft d image → IsUnmarked image
blank_left d room blank image left s lt = blank s lt (image s) (left s (omega (arith, lt, room)))

-- before the first sync, on a device that was blank
pub record LaysOut (old new : DeviceState) : Type 0 where
  pub history : KeepsHistory old new
  pub leaves : IsBlank old → LeavesOnly IsUnmarked (timeline old) (timeline new)
  pub blank : IsBlank old → IsBlank new
  pub alone : (s : ℕ) → 1 ≤ s → IsOutside 8 16 s → IsAlone old new s

pub nothing_yet : (d : DeviceState) → 2 ≤ d.sectors → IsPresent (timeline d) → LaysOut d d
nothing_yet d room only_now = record {
  history = history_none _;
  leaves = λ blank. started IsUnmarked (timeline d) only_now (blank_left d room blank);
  blank = λ blank. blank;
  alone = λ s some outside. record { content = refl; left = λ c now. now };
}

-- one of the two pages is written
module _ (old mid new : DeviceState) (room : 2 ≤ old.sectors) (so_far : LaysOut old mid) (history : KeepsHistory mid new) where
  both_stand : KeepsHistory old new
  both_stand = history_joined old mid new so_far.history history

  module _ (q : ℕ) (some : 1 ≤ q) (most : q ≤ 2) (leaves : LeavesOnly (AgreesOutside (8 * q) 8 mid) (timeline mid) (timeline new)) (alone : (s : ℕ) → IsOutside (8 * q) 8 s → IsAlone mid new s) where
    agrees_unmarked : IsBlank mid → (image : Image) → AgreesOutside (8 * q) 8 mid image → IsUnmarked image
    agrees_unmarked blank image agrees s lt = blank s lt (image s) (agrees s (omega (arith, lt, room, so_far.history.sectors)) (root_page q s some lt))

    outside_page : (s : ℕ) → IsOutside 8 16 s → IsOutside (8 * q) 8 s
    outside_page s outside = elim outside [
      | inl below ↦ inl (omega (arith, below, some))
      | inr above ↦ inr (omega (arith, above, most))
    ]

    pub page_laid : LaysOut old new
    page_laid = record {
      history = both_stand;
      leaves = λ blank. joined IsUnmarked (timeline old) (timeline mid) (timeline new) (so_far.leaves blank) (weakened _ _ (timeline mid) (timeline new) (agrees_unmarked (so_far.blank blank)) leaves);
      blank = λ blank s lt c now. so_far.blank blank s lt c ((alone s (root_page q s some lt)).left c now);
      alone = λ s after outside. alone_joined old mid new s (so_far.alone s after outside) (alone s (outside_page s outside));
    }

  -- the even root sector is written empty
  pub even_laid : (bytes : List ℕ) → bytes ≡ zeros → Writes 0 bytes mid new → LaysOut old new
  even_laid bytes zero_is writes =
      let blank_now : IsBlank old → IsBlank new = λ blank s lt c now. elim (cases_eq s 0) [
        | inl is ↦ elim (writes.left c (subst (λ (t : ℕ). new.left t c) is now)) [
          | inl was ↦ so_far.blank blank 0 (omega arith) c was
          | inr bytes_are ↦ ap (λ (b : List ℕ). begins_with_magic b) (bytes_are ∙ zero_is) ∙ zeros_unmarked
        ]
        | inr other ↦ so_far.blank blank s lt c (writes.others_left s c other now)
      ] in
      record {
        history = both_stand;
        leaves = λ blank. goes_on IsUnmarked (timeline old) (timeline mid) (timeline new) (so_far.leaves blank) writes.time
            (blank_left new (omega (arith, room, both_stand.sectors)) (blank_now blank));
        blank = blank_now;
        alone = λ s some outside. alone_joined old mid new s (so_far.alone s some outside) (alone_writes 0 bytes mid new writes s (omega (arith, some)));
      }

-- the first root is written: what was written before it is synced first
module _ (old : DeviceState) (root : RootFields) (room : 2 ≤ old.sectors) (only_now : IsPresent (timeline old)) (mid : DeviceState) (history : KeepsHistory old mid) (only_reads : OnlyReads old mid) where
  pub leaves_synced : LeavesOnly (IsLeftOrHasRoot old root) (timeline old) (timeline mid)
  leaves_synced = weakened _ _ (timeline old) (timeline mid) (λ image left. inl left) (read_leaves old mid only_now history only_reads)

  module _ (synced : IsSynced mid) (new : DeviceState) (stands_now : KeepsHistory mid new) (bytes : List ℕ) (found : root_at 1 bytes ≡ Found root) (writes : Writes 1 bytes mid new) where
    root_left : (image : Image) → IsLeft new image → IsLeftOrHasRoot old root image
    root_left image left =
        let here : (s : ℕ) → s < old.sectors → new.left s (image s) = λ s lt. left s (omega (arith, lt, history.sectors, stands_now.sectors)) in
        let before : (s : ℕ) → s < old.sectors → s ≢ 1 → mid.left s (image s) = λ s lt other. writes.others_left s (image s) other (here s lt) in
        elim (writes.left (image 1) (here 1 (omega (arith, room)))) [
          | inl was ↦ inl (λ s lt. elim (cases_eq s 1) [
            | inl is ↦ subst (λ (t : ℕ). old.left t (image t)) (sym is) (only_reads.left 1 (image 1) was)
            | inr other ↦ only_reads.left s (image s) (before s lt other)
          ])
          | inr is ↦ inr (record {
            here = ap (λ (b : List ℕ). root_at 1 b) is ∙ found;
            others = λ s lt other. synced s (omega (arith, lt, history.sectors)) (image s) (before s lt other) ∙ only_reads.content s;
          })
        ]

    pub leaves_root : LeavesOnly (IsLeftOrHasRoot old root) (timeline old) (timeline new)
    leaves_root = goes_on (IsLeftOrHasRoot old root) (timeline old) (timeline mid) (timeline new) leaves_synced writes.time root_left

    pub leaves_read_across : (last : DeviceState) → KeepsHistory new last → OnlyReads new last → LeavesOnly (IsLeftOrHasRoot old root) (timeline old) (timeline last)
    leaves_read_across last stands_last looks_last = goes_on (IsLeftOrHasRoot old root) (timeline old) (timeline new) (timeline last) leaves_root looks_last.time
        (λ image left. root_left image (λ s inside. looks_last.left s (image s) (left s (omega (arith, inside, stands_last.sectors)))))

-- no root sector has the magic of a root
none_there : (sectors : ℕ) (image : Image) → is_size sectors ≡ true → IsUnmarked image → first_fault sectors image ≡ Some NotADatabase
none_there sectors image size unmarked = rw size (rw (unmarked 0 (omega arith)) (rw (unmarked 1 (omega arith)) refl))

pub leaves_none : (sectors : ℕ) (format : Format) (first : List ℕ) (old mid : DeviceState) → is_size sectors ≡ true → LeavesOnly IsUnmarked (timeline old) (timeline mid) → LeavesOnly (IsNoneOrFirst sectors format first) (timeline old) (timeline mid)
leaves_none sectors format first old mid size leaves = weakened _ _ (timeline old) (timeline mid) (λ image unmarked. inl (none_there sectors image size unmarked)) leaves

module _ (sectors : ℕ) (format : Format) (n : ℕ) (first : List ℕ) (root : RootFields) (mid : DeviceState) (size : is_size sectors ≡ true) (sectors_are : mid.sectors ≡ sectors) (root_is : root ≡ first_root (sectors / 8) format)
    (blank : IsBlank mid) (even : root_at 0 (mid.content 0) ≡ Empty) (page : bytes_of_page mid.content 1 ≡ first) (map : entries_in (bytes_of_page mid.content 2) ≡ 1 ∷ replicate n zero) where
  finish_left : (image : Image) → IsLeftOrHasRoot mid root image → IsNoneOrFirst sectors format first image
  finish_left image is =
      let sizes = size_is sectors size in
      elim is [
        | inl left ↦ inl (none_there sectors image size (blank_left mid (omega (arith, sectors_are, sizes.0, sizes.1)) blank image left))
        | inr has ↦ inr (content_means mid.content image (sectors / 8) format n first (omega (arith, sizes.1)) (λ s lt other. has.others s (omega (arith, lt, sectors_are, sizes.0)) other) (has.here ∙ ap Found root_is) even page map)
      ]

  pub leaves_first : (old new : DeviceState) → LeavesOnly IsUnmarked (timeline old) (timeline mid) → LeavesOnly (IsLeftOrHasRoot mid root) (timeline mid) (timeline new) → LeavesOnly (IsNoneOrFirst sectors format first) (timeline old) (timeline new)
  leaves_first old new before after = joined _ (timeline old) (timeline mid) (timeline new) (leaves_none sectors format first old mid size before) (weakened _ _ (timeline mid) (timeline new) finish_left after)
