-- Entries after changes that are made in turn.
use Rattle.std.proofs.Common.{◌≡◌, ⊎_elim, inl, inr, ℕ, false, Option, Some, None, List, [], ◌∷◌, ◌++◌, refl, sym, ap, ◌∙◌, subst}
use Rattle.std.proofs.lemmas.Bool.{cases_Bool}
use Rattle.std.proofs.lemmas.List.{append-nil}
use Rattle.std.specs.Borrow.{Bor}
use Rattle.std.specs.Prelude.{MatchOption}
use Rattle.pages.specs.State.{Array}
use Rattle.page_nodes.specs.Map.{is_below, Entry, without, edited, lent_bytes, AllAbove, IsRising}
use Rattle.page_nodes.proofs.Order.{le_le}
use Rattle.store.specs.Records.{Changes}
use Rattle.page_tree.specs.Forest.{Forest, append, entries, IsUnder, AllFrom, AllUnder, next, IsSound}
use Rattle.page_tree.specs.Changed.{Change, edited_in_turn, AreWithin}
use Rattle.page_tree.proofs.Keys.{edited_left, edited_right}
use Rattle.page_tree.proofs.Bounds.{first_key, all_under, all_from, under_rest}
use Rattle.page_tree.proofs.Place.{Place, Placed, entries_around, after_place}
use Rattle.page_tree.proofs.PutKeys.{with_from, with_under, with_rising}

-- entries without one of them
module _ (key : List ℕ) where
  without_from : (k : List ℕ) (es : List Entry) → AllFrom k es → AllFrom k (without key es)
  without_from k [] all = tt
  without_from k (e ∷ es) all = ⊎_elim (λ yes. rw yes (all.0, without_from k es all.1))
      (λ past. rw past (⊎_elim (λ less. rw less all) (λ same. rw same all.1) (cases_Bool (is_below key e.0)))) (cases_Bool (is_below e.0 key))

  without_under : (high : Option (List ℕ)) (es : List Entry) → AllUnder high es → AllUnder high (without key es)
  without_under high [] all = tt
  without_under high (e ∷ es) all = ⊎_elim (λ yes. rw yes (all.0, without_under high es all.1))
      (λ past. rw past (⊎_elim (λ less. rw less all) (λ same. rw same all.1) (cases_Bool (is_below key e.0)))) (cases_Bool (is_below e.0 key))

  without_above : (k : List ℕ) (es : List Entry) → AllAbove k es → AllAbove k (without key es)
  without_above k [] all = tt
  without_above k (e ∷ es) all = ⊎_elim (λ yes. rw yes (all.0, without_above k es all.1))
      (λ past. rw past (⊎_elim (λ less. rw less all) (λ same. rw same all.1) (cases_Bool (is_below key e.0)))) (cases_Bool (is_below e.0 key))

  without_rising : (es : List Entry) → IsRising es → IsRising (without key es)
  without_rising [] r = tt
  without_rising (e ∷ es) r = ⊎_elim (λ yes. rw yes (without_above e.0 es r.0, without_rising es r.1))
      (λ past. rw past (⊎_elim (λ less. rw less r) (λ same. rw same r.1) (cases_Bool (is_below key e.0)))) (cases_Bool (is_below e.0 key))

-- an edit within bounds
edited_from : (key : List ℕ) (value : Option (List ℕ)) (k : List ℕ) (es : List Entry) → is_below key k ≡ false → AllFrom k es → AllFrom k (edited key value es)
edited_from key (Some value) k es le all = with_from key value k es le all
edited_from key None k es le all = without_from key k es all

edited_under : (key : List ℕ) (value : Option (List ℕ)) (high : Option (List ℕ)) (es : List Entry) → IsUnder key high → AllUnder high es → AllUnder high (edited key value es)
edited_under key (Some value) high es lt all = with_under key value high es lt all
edited_under key None high es lt all = without_under key high es all

edited_rising : (key : List ℕ) (value : Option (List ℕ)) (es : List Entry) → IsRising es → IsRising (edited key value es)
edited_rising key (Some value) es r = with_rising key value es r
edited_rising key None es r = without_rising key es r

-- changes within bounds
pub in_turn_from : (low : List ℕ) (high : Option (List ℕ)) (cs : Changes) (es : List Entry) → AreWithin low high cs → AllFrom low es → AllFrom low (edited_in_turn cs es)
in_turn_from low high [] es within all = all
in_turn_from low high (c ∷ cs) es within all = in_turn_from low high cs (edited c.0 c.1 es) within.2 (edited_from c.0 c.1 low es within.0 all)

pub in_turn_under : (low : List ℕ) (high : Option (List ℕ)) (cs : Changes) (es : List Entry) → AreWithin low high cs → AllUnder high es → AllUnder high (edited_in_turn cs es)
in_turn_under low high [] es within all = all
in_turn_under low high (c ∷ cs) es within all = in_turn_under low high cs (edited c.0 c.1 es) within.2 (edited_under c.0 c.1 high es within.1 all)

pub in_turn_rising : (cs : Changes) (es : List Entry) → IsRising es → IsRising (edited_in_turn cs es)
in_turn_rising [] es r = r
in_turn_rising (c ∷ cs) es r = in_turn_rising cs (edited c.0 c.1 es) (edited_rising c.0 c.1 es r)

pub within_lower : (low k : List ℕ) (high : Option (List ℕ)) (cs : Changes) → is_below k low ≡ false → AreWithin k high cs → AreWithin low high cs
within_lower low k high [] le within = tt
within_lower low k high (c ∷ cs) le within = (le_le low k c.0 le within.0, within.1, within_lower low k high cs le within.2)

pub within_rest : (A : Array) (d : ℕ) (low : List ℕ) (high : Option (List ℕ)) (f : Forest) (cs : Changes) → IsSound A d high f → AreWithin low (next f high) cs → AreWithin low high cs
within_rest A d low high f [] s within = tt
within_rest A d low high f (c ∷ cs) s within = (within.0, under_rest A d high f c.0 s within.1, within_rest A d low high f cs s within.2)

-- one change more
pub in_turn_more : (cs : Changes) (c : Change) (es : List Entry) → edited_in_turn (cs ++ (c ∷ [])) es ≡ edited c.0 c.1 (edited_in_turn cs es)
in_turn_more [] c es = refl
in_turn_more (d ∷ cs) c es = in_turn_more cs c (edited d.0 d.1 es)

pub within_more : (low : List ℕ) (high : Option (List ℕ)) (cs : Changes) (c : Change) → AreWithin low high cs → is_below c.0 low ≡ false → IsUnder c.0 high → AreWithin low high (cs ++ (c ∷ []))
within_more low high [] c within le lt = (le, lt, tt)
within_more low high (d ∷ cs) c within le lt = (within.0, within.1, within_more low high cs c within.2 le lt)

-- changes among entries that they leave alone
module _ (from : List ℕ) (bs hs : List Entry) (under : AllUnder (Some from) bs) where
  in_turn_last : (high : Option (List ℕ)) (cs : Changes) (ms : List Entry) → hs ≡ [] → AreWithin from high cs → edited_in_turn cs (bs ++ (ms ++ hs)) ≡ bs ++ (edited_in_turn cs ms ++ hs)
  in_turn_last high [] ms none within = refl
  in_turn_last high (c ∷ cs) ms none within =
      let here : edited c.0 c.1 (bs ++ (ms ++ hs)) ≡ bs ++ (edited c.0 c.1 ms ++ hs) =
      edited_right c.0 from within.0 (ms ++ hs) c.1 bs under ∙ ap (λ (xs : List Entry). bs ++ xs)
      (ap (λ (xs : List Entry). edited c.0 c.1 (ms ++ xs)) none ∙ (ap (λ (xs : List Entry). edited c.0 c.1 xs) (append-nil ms) ∙ (sym (append-nil (edited c.0 c.1 ms)) ∙ ap (λ (xs : List Entry). edited c.0 c.1 ms ++ xs) (sym none)))) in
      ap (λ (xs : List Entry). edited_in_turn cs xs) here ∙ in_turn_last high cs (edited c.0 c.1 ms) none within.2

  in_turn_between : (to : List ℕ) (cs : Changes) (ms : List Entry) → AllFrom to hs → AreWithin from (Some to) cs → edited_in_turn cs (bs ++ (ms ++ hs)) ≡ bs ++ (edited_in_turn cs ms ++ hs)
  in_turn_between to [] ms all within = refl
  in_turn_between to (c ∷ cs) ms all within =
      let here : edited c.0 c.1 (bs ++ (ms ++ hs)) ≡ bs ++ (edited c.0 c.1 ms ++ hs) =
      edited_right c.0 from within.0 (ms ++ hs) c.1 bs under ∙ ap (λ (xs : List Entry). bs ++ xs) (edited_left c.0 to within.1 hs all c.1 ms) in
      ap (λ (xs : List Entry). edited_in_turn cs xs) here ∙ in_turn_between to cs (edited c.0 c.1 ms) all within.2

-- changes in the tree in which their keys belong
pub in_turn_place : (A : Array) (d : ℕ) (key : List ℕ) (high : Option (List ℕ)) (f : Forest) (p : Place key high f) → Placed A d key high f p → (cs : Changes) → AreWithin key (next p.after high) cs
    → (u : Forest) → entries u ≡ edited_in_turn cs (entries p.at) → entries (append p.before (append u p.after)) ≡ edited_in_turn cs (entries f)
in_turn_place A d key high f p s cs within u e =
    let low = within_lower p.from key (next p.after high) cs p.reaches within in
    let under = all_under A d (Some p.from) p.before s.before_sound in
    let inside : edited_in_turn cs (entries p.before ++ (entries p.at ++ entries p.after)) ≡ entries p.before ++ (edited_in_turn cs (entries p.at) ++ entries p.after) = elim (after_place key high f p) [
      | inl gone ↦ in_turn_last p.from (entries p.before) (entries p.after) under (next p.after high) cs (entries p.at) (ap (λ (x : Forest). entries x) gone) low
      | inr more ↦ in_turn_between p.from (entries p.before) (entries p.after) under more.0 cs (entries p.at) (all_from A d high p.after more.0 s.after_sound more.1)
          (subst (λ (o : Option (List ℕ)). AreWithin p.from o cs) (first_key p.after more.0 high more.1) low)
    ] in
    entries_around p.before u p.after ∙ (ap (λ (xs : List Entry). entries p.before ++ (xs ++ entries p.after)) e ∙ (sym inside
    ∙ (ap (λ (xs : List Entry). edited_in_turn cs xs) (sym (entries_around p.before p.at p.after)) ∙ ap (λ (x : Forest). edited_in_turn cs (entries x)) (sym p.whole))))

-- the value of a change, as it is lent
pub lent_is : (value : Option (Bor (List ℕ))) (v : Option (List ℕ)) → MatchOption value (v ≡ None) (λ b. v ≡ Some b.now) → lent_bytes value ≡ v
lent_is None v is = sym is
lent_is (Some b) v is = sym is
