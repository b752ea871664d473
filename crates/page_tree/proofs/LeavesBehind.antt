-- What changes leave of a leaf, where a new one behind it takes them.
use Rattle.std.proofs.Common.{◌≡◌, ◌≢◌, ⊎_elim, inl, inr, ℕ, ◌<◌, Bool, true, false, if◌then◌else◌, Option, Some, List, [], ◌∷◌, ◌++◌, length, refl, sym, ap, ◌∙◌, arith, subst}
use Rattle.std.proofs.lemmas.List.{append-nil}
use Rattle.std.specs.Prelude.{IsSome}
use Rattle.pages.specs.State.{PagesState}
use Rattle.page_nodes.specs.declared.cell.NodeKind.TheVariants.{Leaf}
use Rattle.page_nodes.specs.Map.{is_below, Entry, edited, IsRising, low_entries, rest_entries}
use Rattle.page_nodes.specs.Node.{four_bytes}
use Rattle.store.specs.Records.{Changes}
use Rattle.page_tree.specs.Forest.{no_trees, leaf, AllFrom, AllUnder, IsSound}
use Rattle.page_tree.specs.Puts.{AreInScratch, IsTaken, made_cells}
use Rattle.page_tree.specs.Removal.{Becomes, SpellsTrees}
use Rattle.page_tree.specs.Appending.{ComesLast}
use Rattle.page_tree.specs.Changed.{Change, edited_in_turn, AreWithin}
use Rattle.page_tree.proofs.Keys.{edited_right}
use Rattle.page_tree.proofs.Trees.{in_use}
use Rattle.page_tree.proofs.Descent.{not_gone}
use Rattle.page_tree.proofs.PutKeys.{rising_back, front_under, back_from, bound_below}
use Rattle.page_tree.proofs.Edits.{in_turn_from, in_turn_under, in_turn_rising, within_lower}

-- where a search has passed all entries, its key comes after them
all_passed : (key : List ℕ) (es : List Entry) → length (rest_entries key es) ≡ 0 → AllUnder (Some key) es
all_passed key [] none = tt
all_passed key (e ∷ es) none = passed (is_below e.0 key) refl (λ left. all_passed key es left) none
  where
    passed : (b : Bool) → is_below e.0 key ≡ b → (length (rest_entries key es) ≡ 0 → AllUnder (Some key) es) → length (if b then rest_entries key es else e ∷ es) ≡ 0 → AllUnder (Some key) (e ∷ es)
    passed true is others left = (is, others left)
    passed false is others left = absurd (omega (arith, left))

some_passed : (key : List ℕ) (es : List Entry) → 0 < length (low_entries key es) → 0 < length es
some_passed key [] some = some
some_passed key (e ∷ es) some = omega arith

pub comes_last : (key : List ℕ) (es : List Entry) → length (rest_entries key es) ≡ 0 → 0 < length (low_entries key es) → ComesLast key es
comes_last key es none some = (some_passed key es some, all_passed key es none)

-- and where it comes after them, a search passes all
pub none_left : (key : List ℕ) (es : List Entry) → AllUnder (Some key) es → length (rest_entries key es) ≡ 0
none_left key [] under = refl
none_left key (e ∷ es) under = rw under.0 (none_left key es under.1)

pub all_low : (key : List ℕ) (es : List Entry) → AllUnder (Some key) es → length (low_entries key es) ≡ length es
all_low key [] under = refl
all_low key (e ∷ es) under = rw under.0 (let later = all_low key es under.1 in omega (arith, later))

-- the first of some changes is one
pub first_same : (changes : Changes) (c d : Change) (cs ds : Changes) → changes ≡ c ∷ cs → changes ≡ d ∷ ds → c ≡ d
first_same changes c d cs ds x y = let is = sym x ∙ y in cc

-- the first of some entries, and the others
pub first_entry : (es : List Entry) → 0 < length es → (e : Entry) × (later : List Entry) × (es ≡ e ∷ later)
first_entry [] some = absurd (omega (arith, some))
first_entry (e ∷ es) some = (e, es, refl)

pub in_scratch : (es : List Entry) (e : Entry) (later : List Entry) (scratch : List ℕ) (count : ℕ) → es ≡ e ∷ later → AreInScratch Leaf es scratch count → AreInScratch Leaf (e ∷ later) scratch count
in_scratch es e later scratch count is there = subst (λ (xs : List Entry). AreInScratch Leaf xs scratch count) is there

-- changes behind entries leave these alone
in_turn_behind : (key : List ℕ) (high : Option (List ℕ)) (es : List Entry) → AllUnder (Some key) es → (cs : Changes) (ms : List Entry) → AreWithin key high cs → edited_in_turn cs (es ++ ms) ≡ es ++ edited_in_turn cs ms
in_turn_behind key high es under [] ms within = refl
in_turn_behind key high es under (c ∷ cs) ms within =
    ap (λ (xs : List Entry). edited_in_turn cs xs) (edited_right c.0 key within.0 ms c.1 es under) ∙ in_turn_behind key high es under cs (edited c.0 c.1 ms) within.2

-- a leaf gets another one behind it
module _ (S T : PagesState) (d : ℕ) (low key : List ℕ) (high : Option (List ℕ)) (page made : ℕ) (separator : List ℕ) (es : List Entry) (cs : Changes) (c : Entry) (back : List Entry)
    (s : IsSound S.array d high (leaf low page es no_trees)) (last : ComesLast key es) (reaches : is_below key low ≡ false) (within : AreWithin key high cs) (is : edited_in_turn cs [] ≡ c ∷ back)
    (t : IsTaken Leaf c back separator made S T) where
  whole : edited_in_turn cs es ≡ es ++ (c ∷ back)
  whole = ap (λ (xs : List Entry). edited_in_turn cs xs) (sym (append-nil es)) ∙ in_turn_behind key high es last.1 cs [] within ∙ ap (λ (xs : List Entry). es ++ xs) is

  distinct : page ≢ made
  distinct same = not_gone S.array made (subst (λ (l : ℕ). IsSome (S.array l)) same (in_use S.array d high (leaf low page es no_trees) s page (inl refl))) t.takes.was_free

  all_from : AllFrom low (es ++ (c ∷ back))
  all_from = subst (λ (xs : List Entry). AllFrom low xs) whole (in_turn_from low high cs es (within_lower low key high cs reaches within) s.2.0)

  all_under : AllUnder high (c ∷ back)
  all_under = subst (λ (xs : List Entry). AllUnder high xs) is (in_turn_under key high cs [] within tt)

  all_rising : IsRising (es ++ (c ∷ back))
  all_rising = subst (λ (xs : List Entry). IsRising xs) whole (in_turn_rising cs es s.2.2)

  pub leaf_appended : Becomes S T (leaf low page es no_trees) (edited_in_turn cs es) (λ u. SpellsTrees T.array d high ((low, four_bytes page) ∷ made_cells separator (Some made)) u)
  leaf_appended =
      let later = rising_back es (c ∷ back) all_rising in
      record {
        sound = t.takes.writes.sound;
        trees = leaf low page es (leaf c.0 made (c ∷ back) no_trees);
        moves = record {
          others = λ q off still. t.takes.writes.others q (λ at. still (inr (inl at)));
          freed = λ q m not. absurd (not (⊎_elim (λ at. inl at) (λ none. absurd none) m));
          taken = λ q m not. ⊎_elim (λ at. absurd (not (inl at))) (λ more. ⊎_elim (λ at. ap S.array at ∙ t.takes.was_free) (λ none. absurd none) more) m;
        };
        entries_are = ap (λ (xs : List Entry). es ++ xs) (append-nil (c ∷ back)) ∙ sym whole;
        result = record {
          sound = (
            (s.0.0, t.takes.writes.others page distinct ∙ s.0.1, s.0.2),
            s.1,
            (s.2.0, front_under es c back all_rising, s.2.2),
            bound_below low es c back last.0 all_from all_rising,
            (λ m. ⊎_elim (λ at. distinct at) (λ none. none) m),
            ((t.bytes, t.takes.writes.here, t.node), s.1, (back_from c back later, all_under, later), all_under.0, (λ m. m), tt),
          );
          full = (last.0, (omega arith, tt));
          spelled = ap (λ (k : List ℕ). (low, four_bytes page) ∷ (k, four_bytes made) ∷ []) (sym t.separator_is);
        };
      }
