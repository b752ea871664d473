-- What the differences between records make of records.
use Rattle.std.proofs.Common.{◌≡◌, ℕ, Bool, true, false, if◌then◌else◌, cond, List, [], ◌∷◌, ◌++◌, map, Some, None, bytes_eq, refl, ap, sym, ◌∙◌, subst}
use Rattle.std.proofs.lemmas.Slice.Eq.{bytes_eq-Decides}
use Rattle.std.specs.List.{AllByRecursion}
use Rattle.std.specs.declared.cmp.Ordering.{Ordering}
use Rattle.std.specs.declared.cmp.Ordering.TheVariants.{Less, Equal, Greater}
use Rattle.store.specs.Records.{Record, Records, Changes, Entries, key_cmp, IsBefore, IsOrdered, changed, changed_by, entries_where}
use Rattle.store.proofs.Changes.{same_key, reversed, after, itself, before_trans, ordered_changed, entries_where-changed, ordered_entries_where}
use Rattle.entry_differences.specs.Differences.{put_of, replaced, differences_by, differences_from, differences, applied_in_turn}

-- ---- changes in turn

pub ordered_in_turn : (cs : Changes) (es : Records) → IsOrdered es → IsOrdered (applied_in_turn cs es)
ordered_in_turn [] es o = o
ordered_in_turn (c ∷ cs) es o = ordered_in_turn cs (changed c.0 c.1 es) (ordered_changed c.0 c.1 es o)

pub in_turn_append : (cs ds : Changes) (es : Records) → applied_in_turn (cs ++ ds) es ≡ applied_in_turn ds (applied_in_turn cs es)
in_turn_append [] ds es = refl
in_turn_append (c ∷ cs) ds es = in_turn_append cs ds (changed c.0 c.1 es)

-- changes after a record leave it in front
past_front : (f : Record) (cs : Changes) (es : Records) → IsBefore f.0 cs → applied_in_turn cs (f ∷ es) ≡ f ∷ applied_in_turn cs es
past_front f [] es h = refl
past_front f (c ∷ cs) es h =
    ap (λ (o : Ordering). applied_in_turn cs (changed_by o c.0 c.1 f es (changed c.0 c.1 es))) (after f.0 c.0 h.0)
    ∙ past_front f cs (changed c.0 c.1 es) h.1

-- what passes a test, where the changes pass too
pub where_in_turn : (q : List ℕ → Bool) (cs : Changes) (es : Records) → IsOrdered es → entries_where q (applied_in_turn cs es) ≡ applied_in_turn (entries_where q cs) (entries_where q es)
where_in_turn q [] es o = refl
where_in_turn q (c ∷ cs) es o =
    where_in_turn q cs (changed c.0 c.1 es) (ordered_changed c.0 c.1 es o)
    ∙ go (q c.0) (entries_where-changed q c.0 c.1 es o)
  where
    go : (b : Bool) → entries_where q (changed c.0 c.1 es) ≡ (if b then changed c.0 c.1 (entries_where q es) else entries_where q es)
        → applied_in_turn (entries_where q cs) (entries_where q (changed c.0 c.1 es)) ≡ applied_in_turn (if b then c ∷ entries_where q cs else entries_where q cs) (entries_where q es)
    go true h = ap (applied_in_turn (entries_where q cs)) h
    go false h = ap (applied_in_turn (entries_where q cs)) h

-- ---- keys

-- what is said of the keys of both lists is said of the keys of their differences
module _ (P : List ℕ → Type 0) where
  abbrev pub All : {X : Type 0} → Entries X → Type 0
  All es = AllByRecursion (λ e. P e.0) es

  all_puts : (fs : Records) → All fs → All (map put_of fs)
  all_puts [] h = tt
  all_puts (f ∷ fs) h = (h.0, all_puts fs h.1)

  all_replaced : (e f : Record) (later : Changes) → P f.0 → All later → All (replaced e f later)
  all_replaced e f later p h = go (bytes_eq e.1 f.1) where
    go : (b : Bool) → All (if b then later else put_of f ∷ later)
    go true = h
    go false = (p, h)

  all_from : (e : Record) (later : Records → Changes) (fs : Records) → P e.0 → ((gs : Records) → All gs → All (later gs)) → All fs → All (differences_from e later fs)
  all_from e later [] p g h = (p, g [] tt)
  all_from e later (f ∷ fs) p g h = go (key_cmp e.0 f.0) (all_from e later fs p g h.1) where
    go : (o : Ordering) → All (differences_from e later fs) → All (differences_by o e f (later (f ∷ fs)) (later fs) (differences_from e later fs))
    go Less below = (p, g (f ∷ fs) h)
    go Equal below = all_replaced e f (later fs) h.0 (g fs h.1)
    go Greater below = (h.0, below)

  pub all_differences : (es fs : Records) → All es → All fs → All (differences es fs)
  all_differences [] fs g h = all_puts fs h
  all_differences (e ∷ es) fs g h = all_from e (differences es) fs g.0 (λ gs k. all_differences es gs g.1 k) h

-- ---- the differences take the one list to the other

in_turn_puts : (fs : Records) → IsOrdered fs → applied_in_turn (map put_of fs) [] ≡ fs
in_turn_puts [] o = refl
in_turn_puts (f ∷ fs) o = past_front f (map put_of fs) [] (all_puts (λ k. key_cmp f.0 k ≡ Less) fs o.0) ∙ ap (λ (zs : Records). f ∷ zs) (in_turn_puts fs o.1)

same_record : (e f : Record) → e.0 ≡ f.0 → e.1 ≡ f.1 → e ≡ f
same_record e f p q = pair p q where
  pair : {a b c d : List ℕ} → a ≡ b → c ≡ d → ◌≡◌ {A = Record} (a, c) (b, d)
  pair g h = cc

-- the first record goes
first_removed : (e : Record) (es : Records) → changed e.0 None (e ∷ es) ≡ es
first_removed e es = ap (λ (o : Ordering). changed_by o e.0 None e es (changed e.0 None es)) (itself e.0)

first_replaced : (e f : Record) (es : Records) → key_cmp e.0 f.0 ≡ Equal → changed f.0 (Some f.1) (e ∷ es) ≡ f ∷ es
first_replaced e f es same =
    ap (λ (k : List ℕ). changed k (Some f.1) (e ∷ es)) (sym (same_key e.0 f.0 same))
    ∙ ap (λ (o : Ordering). changed_by o e.0 (Some f.1) e es (changed e.0 (Some f.1) es)) (itself e.0)
    ∙ ap (λ (k : List ℕ). (k, f.1) ∷ es) (same_key e.0 f.0 same)

put_in_front : (e f : Record) (es : Records) → key_cmp e.0 f.0 ≡ Greater → changed f.0 (Some f.1) (e ∷ es) ≡ f ∷ e ∷ es
put_in_front e f es h = ap (λ (o : Ordering). changed_by o f.0 (Some f.1) e es (changed f.0 (Some f.1) es)) (reversed e.0 f.0 h)

both_before : (f : Record) (es fs : Records) → IsBefore f.0 es → IsBefore f.0 fs → IsBefore f.0 (differences es fs)
both_before f es fs g h = all_differences (λ k. key_cmp f.0 k ≡ Less) es fs g h

module _ (e : Record) (es : Records) (before : IsBefore e.0 es) (later : (fs : Records) → IsOrdered fs → applied_in_turn (differences es fs) es ≡ fs) where
  in_turn_equal : (f : Record) (fs : Records) → key_cmp e.0 f.0 ≡ Equal → IsBefore f.0 fs → IsOrdered fs → applied_in_turn (replaced e f (differences es fs)) (e ∷ es) ≡ f ∷ fs
  in_turn_equal f fs same b o = go (bytes_eq e.1 f.1) refl where
    keys : e.0 ≡ f.0
    keys = same_key e.0 f.0 same

    behind : IsBefore f.0 (differences es fs)
    behind = both_before f es fs (subst (λ (k : List ℕ). IsBefore k es) keys before) b

    rest : applied_in_turn (differences es fs) (f ∷ es) ≡ f ∷ fs
    rest = past_front f (differences es fs) es behind ∙ ap (λ (zs : Records). f ∷ zs) (later fs o)

    go : (b : Bool) → bytes_eq e.1 f.1 ≡ b → applied_in_turn (if b then differences es fs else put_of f ∷ differences es fs) (e ∷ es) ≡ f ∷ fs
    go true h = ap (λ (r : Record). applied_in_turn (differences es fs) (r ∷ es)) (same_record e f keys ((bytes_eq-Decides e.1 f.1).0 h)) ∙ rest
    go false h = ap (applied_in_turn (differences es fs)) (first_replaced e f es same) ∙ rest

  in_turn_from : (fs : Records) → IsOrdered fs → applied_in_turn (differences_from e (differences es) fs) (e ∷ es) ≡ fs
  in_turn_from [] o = ap (applied_in_turn (differences es [])) (first_removed e es) ∙ later [] tt
  in_turn_from (f ∷ fs) o = go (key_cmp e.0 f.0) refl (in_turn_from fs o.1) where
    go : (r : Ordering) → key_cmp e.0 f.0 ≡ r → applied_in_turn (differences_from e (differences es) fs) (e ∷ es) ≡ fs
        → applied_in_turn (differences_by r e f (differences es (f ∷ fs)) (differences es fs) (differences_from e (differences es) fs)) (e ∷ es) ≡ f ∷ fs
    go Less h below = ap (applied_in_turn (differences es (f ∷ fs))) (first_removed e es) ∙ later (f ∷ fs) o
    go Equal h below = in_turn_equal f fs h o.0 o.1
    go Greater h below =
        ap (applied_in_turn (differences_from e (differences es) fs)) (put_in_front e f es h)
        ∙ past_front f (differences_from e (differences es) fs) (e ∷ es) (both_before f (e ∷ es) fs (reversed e.0 f.0 h, before_trans f.0 e.0 es (reversed e.0 f.0 h) before) o.0)
        ∙ ap (λ (zs : Records). f ∷ zs) below

pub lead_to : (es fs : Records) → IsOrdered es → IsOrdered fs → applied_in_turn (differences es fs) es ≡ fs
lead_to [] fs p o = in_turn_puts fs o
lead_to (e ∷ es) fs p o = in_turn_from e es p.0 (λ gs q. lead_to es gs p.1 q) fs o

-- ---- tests

pub all_pass : {X : Type 0} (q : List ℕ → Bool) (es : Entries X) → AllByRecursion (λ e. q e.0 ≡ true) es → entries_where q es ≡ es
all_pass q [] h = refl
all_pass q (e ∷ es) h = ap (λ (b : Bool). cond b (e ∷ entries_where q es) (entries_where q es)) h.0 ∙ ap (λ (zs : Entries _). e ∷ zs) (all_pass q es h.1)

pub none_pass : {X : Type 0} (q : List ℕ → Bool) (es : Entries X) → AllByRecursion (λ e. q e.0 ≡ false) es → entries_where q es ≡ []
none_pass q [] h = refl
none_pass q (e ∷ es) h = ap (λ (b : Bool). cond b (e ∷ entries_where q es) (entries_where q es)) h.0 ∙ none_pass q es h.1

pub each_passes : {X : Type 0} (q : List ℕ → Bool) (es : Entries X) → AllByRecursion (λ e. q e.0 ≡ true) (entries_where q es)
each_passes q [] = tt
each_passes q (e ∷ es) = go (q e.0) refl (each_passes q es) where
  go : (b : Bool) → q e.0 ≡ b → AllByRecursion (λ e. q e.0 ≡ true) (entries_where q es) → AllByRecursion (λ e. q e.0 ≡ true) (cond b (e ∷ entries_where q es) (entries_where q es))
  go true h later = (h, later)
  go false h later = later

pub none_passes : {X : Type 0} (q : List ℕ → Bool) (es : Entries X) → entries_where q es ≡ [] → AllByRecursion (λ e. q e.0 ≡ false) es
none_passes q [] h = tt
none_passes q (e ∷ es) h = go (q e.0) refl h (λ none. none_passes q es none) where
  go : (b : Bool) → q e.0 ≡ b → cond b (e ∷ entries_where q es) (entries_where q es) ≡ [] → (entries_where q es ≡ [] → AllByRecursion (λ e. q e.0 ≡ false) es)
      → AllByRecursion (λ e. q e.0 ≡ false) (e ∷ es)
  go true t none later = cc
  go false t none later = (t, later none)

-- the records that pass become these, which pass too
pub part_leads_to : (q : List ℕ → Bool) (es fs records : Records) → IsOrdered records → IsOrdered fs → entries_where q records ≡ es → entries_where q fs ≡ fs
    → entries_where q (applied_in_turn (differences es fs) records) ≡ fs
part_leads_to q es fs records o p held pass =
    where_in_turn q (differences es fs) records o
    ∙ both (all_pass q (differences es fs) (all_differences (λ k. q k ≡ true) es fs
    (subst (λ (zs : Records). AllByRecursion (λ e. q e.0 ≡ true) zs) held (each_passes q records))
    (subst (λ (zs : Records). AllByRecursion (λ e. q e.0 ≡ true) zs) pass (each_passes q fs)))) held
    ∙ lead_to es fs (subst IsOrdered held (ordered_entries_where q records o)) p
  where
    both : {cs ds : Changes} {xs ys : Records} → cs ≡ ds → xs ≡ ys → applied_in_turn cs xs ≡ applied_in_turn ds ys
    both a b = cc

-- the records that pass stay where the differences do not pass
pub elsewhere : (q : List ℕ → Bool) (es fs records : Records) → IsOrdered records → AllByRecursion (λ e. q e.0 ≡ false) es → AllByRecursion (λ e. q e.0 ≡ false) fs
    → entries_where q (applied_in_turn (differences es fs) records) ≡ entries_where q records
elsewhere q es fs records o g h =
    where_in_turn q (differences es fs) records o
    ∙ ap (λ (cs : Changes). applied_in_turn cs (entries_where q records)) (none_pass q (differences es fs) (all_differences (λ k. q k ≡ false) es fs g h))

pub are_elsewhere : (q : List ℕ → Bool) (es fs records : Records) → IsOrdered records → entries_where q es ≡ [] → entries_where q fs ≡ []
    → entries_where q (applied_in_turn (differences es fs) records) ≡ entries_where q records
are_elsewhere q es fs records o g h = elsewhere q es fs records o (none_passes q es g) (none_passes q fs h)
