-- Changes of one session in its place.
use Rattle.std.proofs.Common.{◌≡◌, ℕ, nat_eq, List, position, Some, refl, sym, ◌∙◌}
use Rattle.std.specs.Map.{keys_of}
use Rattle.indexmap.specs.Layout.{set_value_at}
use Rattle.indexmap.proofs.MapLemmas.{Found-position, insert_entry-first}
use Rattle.abstract_database.specs.Machine.{Session, session_of}
use Rattle.server.specs.declared.session.BlockChange.{BlockChange}
use Rattle.server.specs.Session.{after_block_change, with_block_changed}
use Rattle.server.proofs.Carrying.{inserted_is}

-- the value at the index of an open session is put in its place
pub block_changed : (es : List (ℕ × Session)) (number : ℕ) (c : BlockChange) (i : ℕ) (s w : Session) → position (nat_eq number) (keys_of es) ≡ Some i
    → session_of number es ≡ Some s → w ≡ after_block_change c s → set_value_at es i w ≡ with_block_changed c number es
block_changed es number c i s w p q r =
    sym (insert_entry-first nat_eq number w es i (Found-position (nat_eq number) es i p).first) ∙ inserted_is es number w ∙ (rw (q, r) refl)
