-- A line for each of several places, one place on.
use Rattle.std.proofs.Common.{arith, ◌≡◌, ◌∙◌, ◌≤◌, ◌++◌, ◌∷◌, [], ℕ, List, length, drop, sym, append-nil, Option, Some, None}
use Rattle.std.specs.Prelude.{slice_index_or}
use Rattle.std.specs.Io.KnownBytes.{Appends, Keeps, append_known}
use Rattle.std.proofs.KnownBytes.{Keeps-trans, append_known-moved}

module _ {T : Type 0} (line : T → List ℕ) (lines : List T → List ℕ) (more : (p : T) (ps : List T) → lines (p ∷ ps) ≡ line p ++ lines ps) where
  -- what was told, and the lines of the places that are left, stay all
  pub told_one_more : (first now next : Option (List ℕ)) (all : List ℕ) (left after : List T) (d : T) → 1 ≤ length left → after ≡ drop 1 left → Keeps (append_known first all) (append_known now (lines left))
      → Appends now next (line (slice_index_or left 0 d)) → Keeps (append_known first all) (append_known next (lines after))
  told_one_more first now next all [] after d some is kept told = absurd (omega (arith, some))
  told_one_more first now next all (p ∷ ps) after d some is kept told =
      let e : after ≡ ps = is in
      rw e (Keeps-trans (append_known first all) (append_known now (lines (p ∷ ps))) (append_known next (lines ps)) kept (append_known-moved now next (line p) (lines ps) (lines (p ∷ ps)) told (more p ps)))

-- nothing is left
pub told_all : (first now : Option (List ℕ)) (all : List ℕ) → Keeps (append_known first all) (append_known now []) → Appends first now all
told_all None now all kept = tt
told_all (Some x) None all kept = absurd kept
told_all (Some x) (Some y) all kept = sym (append-nil y) ∙ kept
