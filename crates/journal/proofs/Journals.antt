-- Journals: what a stop leaves has no fault either.
use Rattle.std.proofs.Common.{◌≡◌, ◌≤◌, ◌<◌, ◌⊎◌, ◌++◌, ℕ, List, [], ◌∷◌, length, refl, sym, subst, arith, inl, inr}
use Rattle.journal.specs.Chain.{Part, Sector, Blank, Holds, Malformed, Region, Entry, part_of, HoldsParts, end_of}
use Rattle.journal.specs.Journal.{MayStand, IsSound, IsJournal, NumbersUpTo, CanFollow, MayHoldParts}
use Rattle.journal.proofs.Chaining.{end_with, some_old, chain_with, chain_without}

-- a sector without fault has none where the records end later
sound_further : (root room finish further q : ℕ) (sector : Sector) → finish ≤ further → IsSound root room finish q sector → IsSound root room further q sector
sound_further root room finish further q Blank le sound = tt
sound_further root room finish further q (Holds part) le sound = record {
  in_range = sound.in_range;
  no_later_root = sound.no_later_root;
  none_begins = λ behind same. sound.none_begins (omega (arith, le, behind)) same;
}
sound_further root room finish further q Malformed le sound = sound

-- nor where the root is a later one
sound_later : (root next room finish further q : ℕ) (sector : Sector) → root < next → IsSound root room finish q sector → IsSound next room further q sector
sound_later root next room finish further q Blank later sound = tt
sound_later root next room finish further q (Holds part) later sound = record {
  in_range = sound.in_range;
  no_later_root = omega (arith, sound.no_later_root, later);
  none_begins = λ behind same. absurd (omega (arith, sound.no_later_root, later, same));
}
sound_later root next room finish further q Malformed later sound = sound

-- the root of a part without fault
root_of_sound : (root room finish q : ℕ) (sector : Sector) (part : Part) → sector ≡ Holds part → IsSound root room finish q sector → part.root ≤ root
root_of_sound root room finish q sector part is sound =
    let here : MayStand root room finish q part = subst (λ (s : Sector). IsSound root room finish q s) is sound in here.no_later_root

module _ (region image : Region) (root room top : ℕ) (es : List Entry) (new : Entry) (journal : IsJournal region root room es) (few : NumbersUpTo top region)
    (can : CanFollow room top es new) (may : MayHoldParts region root (end_of 0 es) new image) where
  -- no sector has a fault, wherever the records end that are read
  still_sound : (finish q : ℕ) → end_of 0 es ≤ finish → IsSound root room finish q (image q)
  still_sound finish q le = elim (may q) [
    | inl same ↦ subst (λ (s : Sector). IsSound root room finish q s) (sym same) (sound_further root room (end_of 0 es) finish q (region q) le (journal.sound q))
    | inr there ↦
        let part : MayStand root room finish q (part_of root new there.0.index) = record {
          in_range = record { inside = there.0.inside; fits = omega (arith, can.fits) };
          no_later_root = omega arith;
          none_begins = λ behind same. omega (arith, le, behind, there.0.place);
        } in
        subst (λ (s : Sector). IsSound root room finish q s) (sym there.1) part
  ]

  pub journal_with : HoldsParts image root (end_of 0 es) new → IsJournal image root room (es ++ new ∷ [])
  journal_with all = record {
    chain = chain_with region image root (end_of 0 es) top new few can.above may 0 0 room es refl (omega arith) journal.chain can.some (omega (arith, can.fits)) all;
    sound = λ q. still_sound (end_of 0 (es ++ new ∷ [])) q (omega (arith, end_with 0 es new));
  }

  pub before_or_after : IsJournal image root room es ⊎ IsJournal image root room (es ++ new ∷ [])
  before_or_after = elim (some_old region image root (end_of 0 es) top new few can.above may (length new.parts) (omega arith)) [
    | inl all ↦ inr (journal_with all)
    | inr found ↦ inl (record {
      chain = chain_without region image root (end_of 0 es) top new few can.above may 0 0 room es refl journal.chain found.0 found.1 found.2;
      sound = λ q. still_sound (end_of 0 es) q (omega arith);
    })
  ]

-- behind a later root there is no record
pub none_of_later : (region : Region) (root next room : ℕ) (es : List Entry) → IsJournal region root room es → root < next → IsJournal region next room []
none_of_later region root next room es journal later = record {
  chain = λ e whole.
      let up_to : next ≤ root = root_of_sound root room (end_of 0 es) 0 (region 0) (part_of next e 0) (whole.holds 0 (omega (arith, whole.some))) (journal.sound 0) in
      omega (arith, up_to, later);
  sound = λ q. sound_later root next room (end_of 0 es) 0 q (region q) later (journal.sound q);
}
