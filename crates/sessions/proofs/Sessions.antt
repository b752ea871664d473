-- Lists of open sessions, changed and looked up, and the holder of the writer lock beside them.
use Rattle.std.proofs.Common.{◌≡◌, ◌≢◌, ℕ, Bool, true, false, nat_eq, List, [], ◌∷◌, Option, Some, None, refl, sym, ◌∙◌, arith}
use Rattle.std.proofs.lemmas.Bool.{eqb-true}
use Rattle.store.specs.Records.{Records}
use Rattle.abstract_database.specs.Database.{Database}
use Rattle.abstract_database.specs.Machine.{Holder, Session, Outside, session_of, with_session, without_session, released, seen_by}
use Rattle.stored_database.specs.Definitions.{Definitions}
use Rattle.server.specs.declared.writer.Writer.{Writer}
use Rattle.server.specs.Standing.{HolderShows, HoldsInBlock}
use Rattle.sessions.specs.Writers.{is_lock_of}

-- ---- lists of sessions

-- the session that was put there is found
pub found_with : (es : List (ℕ × Session)) (n : ℕ) (s : Session) → session_of n (with_session es n s) ≡ Some s
found_with [] n s = grind arith
found_with (e ∷ es) n s = grind (arith, found_with es n s)

-- one of another number is found as before
pub other_with : (es : List (ℕ × Session)) (n k : ℕ) (s : Session) → nat_eq k n ≡ false → session_of k (with_session es n s) ≡ session_of k es
other_with [] n k s apart = grind (arith, apart)
other_with (e ∷ es) n k s apart = grind (arith, apart, other_with es n k s apart)

pub other_without : (es : List (ℕ × Session)) (n k : ℕ) → nat_eq k n ≡ false → session_of k (without_session n es) ≡ session_of k es
other_without [] n k apart = refl
other_without (e ∷ es) n k apart = grind (arith, apart, other_without es n k apart)

-- ---- the holder

-- the holder stays in a block where a session is put that is in one
pub holds_with : (holder : Option Holder) (es : List (ℕ × Session)) (n : ℕ) (s : Session) → s.block ≢ Outside → HoldsInBlock holder es → HoldsInBlock holder (with_session es n s)
holds_with None es n s inside held = tt
holds_with (Some h) es n s inside held = by_number (nat_eq h.session n) refl
  where
    by_number : (b : Bool) → b ≡ nat_eq h.session n → HoldsInBlock (Some h) (with_session es n s)
    by_number true is =
        let same : h.session ≡ n = eqb-true h.session n (sym is) in
        (s, (rw same (found_with es n s)), inside)
    by_number false is = (held.0, other_with es n h.session s (sym is) ∙ held.1, held.2)

-- a holder of another number
apart_from : (h : Holder) (n : ℕ) → released n (Some h) ≡ Some h → nat_eq h.session n ≡ false
apart_from h n other = by_number (nat_eq h.session n) refl
  where
    by_number : (b : Bool) → b ≡ nat_eq h.session n → nat_eq h.session n ≡ false
    by_number true is = let wrong : None ≡ Some h = rw (sym is) at other in cc
    by_number false is = sym is

-- stays in its block whatever session is put
pub other_holds_with : (holder : Option Holder) (es : List (ℕ × Session)) (n : ℕ) (s : Session) → released n holder ≡ holder → HoldsInBlock holder es → HoldsInBlock holder (with_session es n s)
other_holds_with None es n s other held = tt
other_holds_with (Some h) es n s other held = (held.0, other_with es n h.session s (apart_from h n other) ∙ held.1, held.2)

pub other_holds_without : (holder : Option Holder) (es : List (ℕ × Session)) (n : ℕ) → released n holder ≡ holder → HoldsInBlock holder es → HoldsInBlock holder (without_session n es)
other_holds_without None es n other held = tt
other_holds_without (Some h) es n other held = (held.0, other_without es n h.session (apart_from h n other) ∙ held.1, held.2)

-- and the session of this number sees the committed database
pub other_sees : (holder : Option Holder) (n : ℕ) (db : Database) → released n holder ≡ holder → seen_by n holder db ≡ db
other_sees None n db other = refl
other_sees (Some h) n db other = rw (apart_from h n other) refl

-- ---- the writer lock

-- a session that does not hold the writer lock is not the holder
pub holder_is_other : (records : Records) (d : Definitions) (writer : Option Writer) (holder : Option Holder) (n : ℕ) → is_lock_of n writer ≡ false → HolderShows records d writer holder → released n holder ≡ holder
holder_is_other records d writer None n free shows = refl
holder_is_other records d None (Some h) n free shows = absurd shows
holder_is_other records d (Some x) (Some h) n free shows = let apart : nat_eq h.session n ≡ false = rw shows.0 free in rw apart refl

-- and one that holds it is
pub holder_is_this : (records : Records) (d : Definitions) (writer : Option Writer) (holder : Option Holder) (n : ℕ) → is_lock_of n writer ≡ true → HolderShows records d writer holder
    → (h : Holder) × (holder ≡ Some h) × (nat_eq h.session n ≡ true)
holder_is_this records d None holder n held shows = let wrong : false ≡ true = held in cc
holder_is_this records d (Some x) None n held shows = absurd shows
holder_is_this records d (Some x) (Some h) n held shows = (h, refl, rw shows.0 held)
