-- Changes that are made in the cells of a leaf, one after another.
use Rattle.std.proofs.Common.{◌≡◌, ◌⊎◌, ⊎_elim, inl, inr, ℕ, zero, suc, ◌+◌, ◌<◌, ◌≤◌, true, false, Option, Some, None, List, [], ◌∷◌, ◌++◌, length, take, get_or, refl, sym, ap, ◌∙◌, subst, arith}
use Rattle.std.proofs.lemmas.List.{take_more}
use Rattle.std.specs.Prelude.{IsSome, MatchOption}
use Rattle.page_nodes.specs.declared.cell.NodeKind.TheVariants.{Leaf}
use Rattle.page_nodes.specs.declared.merge.LeafMerge.{LeafMerge}
use Rattle.page_nodes.specs.Map.{is_below, Entry, edited}
use Rattle.page_nodes.specs.Node.{cells_bytes}
use Rattle.page_nodes.specs.Merge.{AreMerged}
use Rattle.page_nodes.proofs.Order.{one_way, le_le}
use Rattle.page_nodes.proofs.Merging.{merged_sizes}
use Rattle.std.specs.List.{AllByRecursion}
use Rattle.store.specs.Records.{Changes, IsChangeSize}
use Rattle.page_tree.specs.Forest.{IsUnder}
use Rattle.page_tree.specs.Changed.{Change, edited_in_turn, AreWithin, AreMerging, AreChanged}
use Rattle.page_tree.proofs.Bounds.{irreflexive}
use Rattle.page_tree.proofs.Edits.{in_turn_more, within_more}
use Rattle.page_tree.proofs.RemovalNodes.{without_long}

-- the first changes are made, and the key of the last of them is known
pub record Merging (bytes scratch : List ℕ) (es : List Entry) (high : Option (List ℕ)) (first : Change) (changes : Changes) (made : ℕ) (merge : LeafMerge) (last : List ℕ) : Type 0 where
  pub merged : AreMerged bytes scratch last (edited_in_turn (take made changes) es) merge
  pub within : AreWithin first.0 high (take made changes)
  pub none : made ≡ 0 → last ≡ []
  pub reached : 0 < made → is_below last first.0 ≡ false

pub some_below : (key : List ℕ) → 1 ≤ length key → is_below [] key ≡ true
unfolding is_below
some_below [] long = absurd (omega (arith, long))
some_below (x ∷ xs) long = refl

pub merging_begins : (bytes scratch : List ℕ) (es : List Entry) (high : Option (List ℕ)) (first : Change) (changes : Changes) (m : LeafMerge) → AreMerged bytes scratch [] es m → Merging bytes scratch es high first changes 0 m []
merging_begins bytes scratch es high first changes m a = record { merged = a; within = tt; none = λ is. refl; reached = λ some. absurd (omega (arith, some)) }

pub first_is : (first c : Change) (rest changes : Changes) (made : ℕ) → changes ≡ first ∷ rest → c ≡ get_or changes made c → made ≡ 0 → c ≡ first
first_is first c rest changes made whole is none = is ∙ (ap (λ (n : ℕ). get_or changes n c) none ∙ ap (λ (cs : Changes). get_or cs 0 c) whole)

none_or_some : (n : ℕ) → (n ≡ 0) ⊎ (0 < n)
none_or_some zero = inl refl
none_or_some (suc n) = inr (omega arith)

-- all changes are made
pub stopped_last : (bytes scratch : List ℕ) (es : List Entry) (high : Option (List ℕ)) (first : Change) (rest changes : Changes) (made : ℕ) (merge : LeafMerge) (last : List ℕ) → Merging bytes scratch es high first changes made merge last
    → changes ≡ first ∷ rest → length changes ≤ made → made ≤ length changes → AreMerging bytes scratch es high first changes (length changes) merge
stopped_last bytes scratch es high first rest changes made merge last m whole all most =
    let same : made ≡ length changes = omega (arith, all, most) in
    record {
      last = last;
      merged = subst (λ (n : ℕ). AreMerged bytes scratch last (edited_in_turn (take n changes) es) merge) same m.merged;
      within = subst (λ (n : ℕ). AreWithin first.0 high (take n changes)) same m.within;
      some = λ none. absurd (let long = ap (λ (cs : Changes). length cs) whole in omega (arith, none, long));
    }

pub none_exceeds : (made : Option LeafMerge) (X : Type 0) (Y : LeafMerge → Type 0) → made ≡ None → MatchOption made X Y → X
none_exceeds made X Y is all = subst (λ (o : Option LeafMerge). MatchOption o X Y) is all

pub some_merged : (made : Option LeafMerge) (m : LeafMerge) (X : Type 0) (Y : LeafMerge → Type 0) → made ≡ Some m → MatchOption made X Y → Y m
some_merged made m X Y is all = subst (λ (o : Option LeafMerge). MatchOption o X Y) is all

pub scratch_as : (bytes a b : List ℕ) (es : List Entry) (high : Option (List ℕ)) (first : Change) (changes : Changes) (made : ℕ) (merge : LeafMerge) → b ≡ a → AreMerging bytes a es high first changes made merge → AreMerging bytes b es high first changes made merge
scratch_as bytes a b es high first changes made merge same m = subst (λ (xs : List ℕ). AreMerging bytes xs es high first changes made merge) (sym same) m

pub last_as : (bytes scratch : List ℕ) (es : List Entry) (high : Option (List ℕ)) (first : Change) (changes : Changes) (made : ℕ) (merge : LeafMerge) (a b : List ℕ) → b ≡ a → Merging bytes scratch es high first changes made merge a → Merging bytes scratch es high first changes made merge b
last_as bytes scratch es high first changes made merge a b same m = subst (λ (xs : List ℕ). Merging bytes scratch es high first changes made merge xs) (sym same) m

-- why no change was made
module _ (bytes scratch : List ℕ) (es : List Entry) (high : Option (List ℕ)) (first c : Change) (rest changes : Changes) (made : ℕ) (merge : LeafMerge) (last : List ℕ) (m : Merging bytes scratch es high first changes made merge last)
    (whole : changes ≡ first ∷ rest) (is : c ≡ get_or changes made c) where
  stopped : (made ≡ 0 → IsSome first.1) → AreMerging bytes scratch es high first changes made merge
  stopped some = record { last = last; merged = m.merged; within = m.within; some = some }

  pub stopped_between : IsUnder first.0 high → 1 ≤ length first.0 → ((is_below last c.0 ≡ true) × IsUnder c.0 high → ⊥) → AreMerging bytes scratch es high first changes made merge
  stopped_between under long not = stopped (λ none.
      let same = first_is first c rest changes made whole is none in
      absurd (not (subst (λ (d : Change). (is_below last d.0 ≡ true) × IsUnder d.0 high) (sym same) (subst (λ (k : List ℕ). is_below k first.0 ≡ true) (sym (m.none none)) (some_below first.0 long), under))))

  removal_fits : (d : Change) → d.1 ≡ None → 4 + length (cells_bytes Leaf es) ≤ 4096 → 4096 < 4 + length (cells_bytes Leaf (edited d.0 d.1 es)) → ⊥
  removal_fits d gone fits over =
      let long : length (cells_bytes Leaf (edited d.0 None es)) ≤ length (cells_bytes Leaf es) = without_long Leaf d.0 es in
      let over_none : 4096 < 4 + length (cells_bytes Leaf (edited d.0 None es)) = subst (λ (v : Option (List ℕ)). 4096 < 4 + length (cells_bytes Leaf (edited d.0 v es))) gone over in
      omega (arith, fits, over_none, long)

  value_there : (v : Option (List ℕ)) → (v ≡ None → ⊥) → IsSome v
  value_there None not = absurd (not refl)
  value_there (Some x) not = refl

  pub stopped_full : 4096 < 4 + length (cells_bytes Leaf (edited c.0 c.1 (edited_in_turn (take made changes) es))) → AreMerging bytes scratch es high first changes made merge
  stopped_full over = stopped (λ none.
      let same = first_is first c rest changes made whole is none in
      let now : edited_in_turn (take made changes) es ≡ es = ap (λ (n : ℕ). edited_in_turn (take n changes) es) none in
      let fits : 4 + length (cells_bytes Leaf es) ≤ 4096 = subst (λ (xs : List Entry). 4 + length (cells_bytes Leaf xs) ≤ 4096) now m.merged.fits in
      let over_now : 4096 < 4 + length (cells_bytes Leaf (edited c.0 c.1 es)) = subst (λ (xs : List Entry). 4096 < 4 + length (cells_bytes Leaf (edited c.0 c.1 xs))) now over in
      subst (λ (d : Change). IsSome d.1) same (value_there c.1 (λ gone. removal_fits c gone fits over_now)))

  -- one change more
  pub merging_on : (scratch_now : List ℕ) (merge_now : LeafMerge) → made < length changes → is_below last c.0 ≡ true → IsUnder c.0 high → AreMerged bytes scratch_now c.0 (edited c.0 c.1 (edited_in_turn (take made changes) es)) merge_now
      → Merging bytes scratch_now es high first changes (made + 1) merge_now c.0
  merging_on scratch_now merge_now inside order under a =
      let more : take (made + 1) changes ≡ take made changes ++ (c ∷ []) = take_more changes made c inside ∙ ap (λ (x : Change). take made changes ++ (x ∷ [])) (sym is) in
      let from : is_below c.0 first.0 ≡ false = ⊎_elim
      (λ none. subst (λ (d : Change). is_below d.0 first.0 ≡ false) (sym (first_is first c rest changes made whole is none)) (irreflexive first.0))
      (λ some. le_le first.0 last c.0 (m.reached some) (one_way last c.0 order)) (none_or_some made) in
      record {
        merged = subst (λ (es_now : List Entry). AreMerged bytes scratch_now c.0 es_now merge_now) (sym (ap (λ (cs : Changes). edited_in_turn cs es) more ∙ in_turn_more (take made changes) c es)) a;
        within = subst (λ (cs : Changes). AreWithin first.0 high cs) (sym more) (within_more first.0 high (take made changes) c m.within from under);
        none = λ is. absurd (omega (arith, is));
        reached = λ some. from;
      }

-- all cells are in scratch
pub all_changed : (bytes scratch out : List ℕ) (es : List Entry) (high : Option (List ℕ)) (first : Change) (changes : Changes) (made count : ℕ) (merge : LeafMerge) → (m : AreMerging bytes scratch es high first changes made merge)
    → count ≡ length (edited_in_turn (take made changes) es) → out ≡ cells_bytes Leaf (edited_in_turn (take made changes) es) → AreChanged out es high first changes made count
all_changed bytes scratch out es high first changes made count merge m number spelled = record {
  cells = record {
    sizes = merged_sizes bytes scratch m.last (edited_in_turn (take made changes) es) merge m.merged;
    spelled = spelled;
    count_is = number;
    short = omega (arith, ap (λ (xs : List ℕ). length xs) spelled, m.merged.fits);
  };
  within = m.within;
  some = m.some;
}

-- an edit by a key and a value that are lent
pub over_as : (es : List Entry) (key k : List ℕ) (value v : Option (List ℕ)) → key ≡ k → value ≡ v → 4096 < 4 + length (cells_bytes Leaf (edited key value es)) → 4096 < 4 + length (cells_bytes Leaf (edited k v es))
over_as es key k value v same is over = subst (λ (x : List ℕ). 4096 < 4 + length (cells_bytes Leaf (edited x v es))) same (subst (λ (x : Option (List ℕ)). 4096 < 4 + length (cells_bytes Leaf (edited key x es))) is over)

pub merged_as : (bytes scratch : List ℕ) (es : List Entry) (merge : LeafMerge) (key k : List ℕ) (value v : Option (List ℕ)) → key ≡ k → value ≡ v → AreMerged bytes scratch key (edited key value es) merge → AreMerged bytes scratch k (edited k v es) merge
merged_as bytes scratch es merge key k value v same is a = subst (λ (x : List ℕ). AreMerged bytes scratch x (edited x v es) merge) same (subst (λ (x : Option (List ℕ)). AreMerged bytes scratch key (edited key x es) merge) is a)

-- a key between another one and a bound
abbrev pub IsBetween : List ℕ → List ℕ → Option (List ℕ) → Type 0
IsBetween last key high = (is_below last key ≡ true) × IsUnder key high

pub between_as : (last key k : List ℕ) (high : Option (List ℕ)) → key ≡ k → IsBetween last key high → IsBetween last k high
between_as last key k high same is = subst (λ (x : List ℕ). IsBetween last x high) same is

-- a key of a change is not empty
pub first_long : (first : Change) (rest changes : Changes) → changes ≡ first ∷ rest → AllByRecursion IsChangeSize changes → 1 ≤ length first.0
first_long first rest changes whole all = (subst (λ (cs : Changes). AllByRecursion IsChangeSize cs) whole all).0.0.0

-- scratch is empty at first
pub cleared_as : (bytes items : List ℕ) (es : List Entry) (m : LeafMerge) → items ≡ [] → AreMerged bytes [] [] es m → AreMerged bytes items [] es m
cleared_as bytes items es m none a = subst (λ (xs : List ℕ). AreMerged bytes xs [] es m) (sym none) a

pub some_number : (found : Option ℕ) (a b : ℕ) → found ≡ Some a → found ≡ Some b → a ≡ b
some_number found a b x y = let is = sym x ∙ y in cc
