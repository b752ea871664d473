-- A line that is put in its place.
use Rattle.std.proofs.Common.{◌≡◌, ◌<◌, ℕ, Bool, true, false, List, [], ◌∷◌, length, map, Some, refl, ap, arith}
use Rattle.std.specs.Prelude.{slice_set, string_bytes}
use Rattle.std.specs.List.{insert}
use Rattle.std.specs.declared.cmp.Ordering.{Ordering}
use Rattle.std.specs.declared.cmp.Ordering.TheVariants.{Less, Equal, Greater}
use Rattle.store.specs.Records.{key_cmp, changed, changed_by}
use Rattle.section_texts.specs.declared.line.LineTexts.{LineTexts}
use Rattle.section_texts.specs.LineTexts.{texts_of}
use Rattle.access_texts.specs.Lines.{place_by, put_place, stands, stands_by}

module _ (x : LineTexts) where
  abbrev key : List ℕ
  key = string_bytes x.subject

  abbrev value : List ℕ
  value = string_bytes x.content

  abbrev spot : List LineTexts → ℕ
  spot ls = put_place key (map texts_of ls)

  abbrev stands_in : List LineTexts → Bool
  stands_in ls = stands key (map texts_of ls)

  -- where none is about the same
  pub inserted : (ls : List LineTexts) → stands_in ls ≡ false → map texts_of (insert ls (spot ls) x) ≡ changed key (Some value) (map texts_of ls)
  inserted [] h = refl
  inserted (l ∷ ls) h = go (key_cmp key (string_bytes l.subject)) h (inserted ls) where
    go : (r : Ordering) → stands_by r (stands_in ls) ≡ false → (stands_in ls ≡ false → map texts_of (insert ls (spot ls) x) ≡ changed key (Some value) (map texts_of ls))
        → map texts_of (insert (l ∷ ls) (place_by r (spot ls)) x) ≡ changed_by r key (Some value) (texts_of l) (map texts_of ls) (changed key (Some value) (map texts_of ls))
    go Less h later = refl
    go Equal h later = cc
    go Greater h later = ap (λ es. texts_of l ∷ es) (later h)

  -- in place of the one about the same
  pub put_over : (ls : List LineTexts) → stands_in ls ≡ true → map texts_of (slice_set ls (spot ls) x) ≡ changed key (Some value) (map texts_of ls)
  put_over [] h = cc
  put_over (l ∷ ls) h = go (key_cmp key (string_bytes l.subject)) h (put_over ls) where
    go : (r : Ordering) → stands_by r (stands_in ls) ≡ true → (stands_in ls ≡ true → map texts_of (slice_set ls (spot ls) x) ≡ changed key (Some value) (map texts_of ls))
        → map texts_of (slice_set (l ∷ ls) (place_by r (spot ls)) x) ≡ changed_by r key (Some value) (texts_of l) (map texts_of ls) (changed key (Some value) (map texts_of ls))
    go Less h later = cc
    go Equal h later = refl
    go Greater h later = ap (λ es. texts_of l ∷ es) (later h)

  -- which there is at that place
  pub placed_within : (ls : List LineTexts) → stands_in ls ≡ true → spot ls < length ls
  placed_within [] h = cc
  placed_within (l ∷ ls) h = go (key_cmp key (string_bytes l.subject)) h (placed_within ls) where
    go : (r : Ordering) → stands_by r (stands_in ls) ≡ true → (stands_in ls ≡ true → spot ls < length ls) → place_by r (spot ls) < length (l ∷ ls)
    go Less h later = cc
    go Equal h later = omega arith
    go Greater h later = omega (arith, later h)
