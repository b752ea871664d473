-- Borrowed texts, as lists of bytes.
use Rattle.std.proofs.Common.{◌≡◌, ◌++◌, ℕ, Bool, true, false, cond, List, [], ◌∷◌, refl, sym}
use Rattle.std.specs.Prelude.{bytes_eq}
use Rattle.std.specs.List.{list_any, position_or_len}
use Rattle.std.specs.Borrow.{Bor}
use Rattle.std.proofs.lemmas.List.{map-append}
use Rattle.wire.specs.SessionNames.{with_name, texts_of}

-- two borrowed names are equal where their bytes are
abbrev pub same_name : Bor (List ℕ) → Bor (List ℕ) → Bool
same_name a b = bytes_eq a.now b.now

pub index_of_text : (name : Bor (List ℕ)) (names : List (Bor (List ℕ))) → position_or_len (same_name name) names ≡ position_or_len (bytes_eq name.now) (texts_of names)
index_of_text name [] = refl
index_of_text name (n ∷ ns) = rw (index_of_text name ns) refl

any_text : (name : Bor (List ℕ)) (names : List (Bor (List ℕ))) → list_any (same_name name) names ≡ list_any (bytes_eq name.now) (texts_of names)
any_text name [] = refl
any_text name (n ∷ ns) = rw (any_text name ns) refl

-- a name that is new goes last, borrowed or not
pub added_text : (name : Bor (List ℕ)) (names : List (Bor (List ℕ))) → texts_of (cond (list_any (same_name name) names) names (names ++ name ∷ [])) ≡ with_name (texts_of names) name.now
added_text name names = rw (sym (any_text name names)) (by_test (list_any (same_name name) names)) where
  by_test : (b : Bool) → texts_of (cond b names (names ++ name ∷ [])) ≡ cond b (texts_of names) (texts_of names ++ name.now ∷ [])
  by_test true = refl
  by_test false = map-append (λ n. n.now) names (name ∷ [])
