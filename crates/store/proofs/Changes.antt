-- What changes make of entries.
use Rattle.std.proofs.Common.{◌≡◌, ℕ, Bool, true, false, if◌then◌else◌, List, [], ◌∷◌, ◌++◌, Option, Some, None, refl, ap, sym, ◌∙◌, subst, ◌≢◌}
use Rattle.std.specs.List.{AllByRecursion}
use Rattle.std.specs.declared.cmp.Ordering.{Ordering}
use Rattle.std.specs.declared.cmp.Ordering.TheVariants.{Less, Equal, Greater}
use Rattle.std.specs.Ordering.{ordering_reverse}
use Rattle.std.proofs.lemmas.Cmp.{nat_list_cmp_total, tied_itself}
use Rattle.std.proofs.lemmas.Map.Lookups.{exact_bytes}
use Rattle.store.specs.Records.{Entries, Records, Changes, key_cmp, IsBefore, IsOrdered, found_by, lookup, entry_at, entry_of, with_front, changed, changed_by, applied, value_under, entries_where}

-- ---- keys

pub key_trans : (a b c : List ℕ) → key_cmp a b ≡ Less → key_cmp b c ≡ Less → key_cmp a c ≡ Less
key_trans = nat_list_cmp_total.trans

pub same_key : (a b : List ℕ) → key_cmp a b ≡ Equal → a ≡ b
same_key a b h = exact_bytes a b h

pub itself : (key : List ℕ) → key_cmp key key ≡ Equal
itself key = tied_itself nat_list_cmp_total key

pub reversed : (a b : List ℕ) → key_cmp a b ≡ Greater → key_cmp b a ≡ Less
reversed a b h = nat_list_cmp_total.antisymm b a ∙ ap ordering_reverse h

pub after : (a b : List ℕ) → key_cmp a b ≡ Less → key_cmp b a ≡ Greater
after a b h = nat_list_cmp_total.antisymm b a ∙ ap ordering_reverse h

-- ---- order

pub before_trans : {X : Type 0} (a b : List ℕ) (es : Entries X) → key_cmp a b ≡ Less → IsBefore b es → IsBefore a es
before_trans a b [] h t = tt
before_trans a b (e ∷ es) h t = (key_trans a b e.0 h t.0, before_trans a b es h t.1)

pub before_entries_where : {X : Type 0} (a : List ℕ) (q : List ℕ → Bool) (es : Entries X) → IsBefore a es → IsBefore a (entries_where q es)
before_entries_where a q [] h = tt
before_entries_where a q (e ∷ es) h = elim (q e.0) as (λ b. IsBefore a (if b then e ∷ entries_where q es else entries_where q es)) [ true ↦ (h.0, before_entries_where a q es h.1) | false ↦ before_entries_where a q es h.1 ]

pub ordered_entries_where : {X : Type 0} (q : List ℕ → Bool) (es : Entries X) → IsOrdered es → IsOrdered (entries_where q es)
ordered_entries_where q [] o = tt
ordered_entries_where q (e ∷ es) o = elim (q e.0) as (λ b. IsOrdered (if b then e ∷ entries_where q es else entries_where q es)) [ true ↦ (before_entries_where e.0 q es o.0, ordered_entries_where q es o.1) | false ↦ ordered_entries_where q es o.1 ]

pub before_with_front : {X : Type 0} (a key : List ℕ) (value : Option X) (es : Entries X) → key_cmp a key ≡ Less → IsBefore a es → IsBefore a (with_front key value es)
before_with_front a key None es h t = t
before_with_front a key (Some v) es h t = (h, t)

pub before_changed : {X : Type 0} (a key : List ℕ) (value : Option X) (es : Entries X) → key_cmp a key ≡ Less → IsBefore a es → IsBefore a (changed key value es)
before_changed a key value [] h t = before_with_front a key value [] h tt
before_changed {X} a key value (e ∷ es) h t = go (key_cmp key e.0) (before_changed a key value es h t.1)
  where
    go : (r : Ordering) → IsBefore a (changed key value es) → IsBefore a (changed_by r key value e es (changed key value es))
    go Less later = before_with_front a key value (e ∷ es) h t
    go Equal later = before_with_front a key value es h t.1
    go Greater later = (t.0, later)

ordered_with_front : {X : Type 0} (key : List ℕ) (value : Option X) (es : Entries X) → IsBefore key es → IsOrdered es → IsOrdered (with_front key value es)
ordered_with_front key None es h o = o
ordered_with_front key (Some v) es h o = (h, o)

-- changed entries are in order
pub ordered_changed : {X : Type 0} (key : List ℕ) (value : Option X) (es : Entries X) → IsOrdered es → IsOrdered (changed key value es)
ordered_changed key value [] o = ordered_with_front key value [] tt tt
ordered_changed {X} key value (e ∷ es) o = go (key_cmp key e.0) refl (ordered_changed key value es o.1)
  where
    go : (r : Ordering) → r ≡ key_cmp key e.0 → IsOrdered (changed key value es) → IsOrdered (changed_by r key value e es (changed key value es))
    go Less c later = ordered_with_front key value (e ∷ es) (sym c, before_trans key e.0 es (sym c) o.0) o
    go Equal c later = ordered_with_front key value es (subst (λ (k : List ℕ). IsBefore k es) (sym (same_key key e.0 (sym c))) o.0) o.1
    go Greater c later = (before_changed e.0 key value es (reversed key e.0 (sym c)) o.0, later)

pub ordered_applied : (cs : Changes) (es : Records) → IsOrdered es → IsOrdered (applied cs es)
ordered_applied [] es o = o
ordered_applied (c ∷ cs) es o = ordered_changed c.0 c.1 (applied cs es) (ordered_applied cs es o)

-- what is said of each entry is said of each after a put
pub all_changed : {X : Type 0} (P : List ℕ × X → Type 0) (key : List ℕ) (value : X) (es : Entries X) → P (key, value) → AllByRecursion P es → AllByRecursion P (changed key (Some value) es)
all_changed P key value [] p all = (p, tt)
all_changed {X} P key value (e ∷ es) p all = go (key_cmp key e.0) (all_changed P key value es p all.1)
  where
    go : (r : Ordering) → AllByRecursion P (changed key (Some value) es) → AllByRecursion P (changed_by r key (Some value) e es (changed key (Some value) es))
    go Less later = (p, all)
    go Equal later = (p, all.1)
    go Greater later = (all.0, later)

-- ---- values

pub lookup-before : {X : Type 0} (key : List ℕ) (es : Entries X) → IsBefore key es → lookup key es ≡ None
lookup-before key [] h = refl
lookup-before key (e ∷ es) h = rw h.0 (lookup-before key es h.1)

-- the value at a key that was changed
pub lookup-changed : {X : Type 0} (key : List ℕ) (value : Option X) (es : Entries X) → IsOrdered es → lookup key (changed key value es) ≡ value
lookup-changed {X} key value [] o = here value
  where
    here : (v : Option X) → lookup key (with_front key v []) ≡ v
    here None = refl
    here (Some v) = rw (itself key) refl
lookup-changed {X} key value (e ∷ es) o = go (key_cmp key e.0) refl (lookup-changed key value es o.1)
  where
    here : (v : Option X) (rest : Entries X) → IsBefore key rest → lookup key (with_front key v rest) ≡ v
    here None rest h = lookup-before key rest h
    here (Some v) rest h = rw (itself key) refl

    go : (r : Ordering) → r ≡ key_cmp key e.0 → lookup key (changed key value es) ≡ value → lookup key (changed_by r key value e es (changed key value es)) ≡ value
    go Less c later = here value (e ∷ es) (sym c, before_trans key e.0 es (sym c) o.0)
    go Equal c later = here value es (subst (λ (k : List ℕ). IsBefore k es) (sym (same_key key e.0 (sym c))) o.0)
    go Greater c later = rw (sym c) later

skipped : {X : Type 0} (o : Ordering) (v : X) (later : Option X) → o ≢ Equal → found_by o v later ≡ later
skipped Less v later n = refl
skipped Equal v later n = absurd (n refl)
skipped Greater v later n = refl

passed : {X : Type 0} (other key : List ℕ) (v : Option X) (rest : Entries X) → key_cmp other key ≢ Equal → lookup other (with_front key v rest) ≡ lookup other rest
passed other key None rest n = refl
passed other key (Some v) rest n = skipped (key_cmp other key) v (lookup other rest) n

-- the value at another key
pub lookup-changed_elsewhere : {X : Type 0} (other key : List ℕ) (value : Option X) (es : Entries X) → key_cmp other key ≢ Equal → lookup other (changed key value es) ≡ lookup other es
lookup-changed_elsewhere other key value [] n = passed other key value [] n
lookup-changed_elsewhere {X} other key value (e ∷ es) n = go (key_cmp key e.0) refl (lookup-changed_elsewhere other key value es n)
  where
    go : (r : Ordering) → r ≡ key_cmp key e.0 → lookup other (changed key value es) ≡ lookup other es → lookup other (changed_by r key value e es (changed key value es)) ≡ lookup other (e ∷ es)
    go Less c later = passed other key value (e ∷ es) n
    go Equal c later = passed other key value es n ∙ sym (skipped (key_cmp other e.0) e.1 (lookup other es) (subst (λ (k : List ℕ). key_cmp other k ≢ Equal) (same_key key e.0 (sym c)) n))
    go Greater c later = ap (λ (v : Option X). found_by (key_cmp other e.0) e.1 v) later

-- a value where two keys are the same, and what was there where they are not
abbrev pub replaced_by : {X : Type 0} → Ordering → Option X → Option X → Option X
replaced_by Equal new old = new
replaced_by Less new old = old
replaced_by Greater new old = old

pub lookup-changed_any : {X : Type 0} (other key : List ℕ) (value : Option X) (es : Entries X) → IsOrdered es → lookup other (changed key value es) ≡ replaced_by (key_cmp other key) value (lookup other es)
lookup-changed_any {X} other key value es o = go (key_cmp other key) refl
  where
    go : (r : Ordering) → r ≡ key_cmp other key → lookup other (changed key value es) ≡ replaced_by r value (lookup other es)
    go Less c = lookup-changed_elsewhere other key value es (λ e. let wrong : Less ≡ Equal = c ∙ e in cc)
    go Equal c = subst (λ (k : List ℕ). lookup k (changed key value es) ≡ value) (sym (same_key other key (sym c))) (lookup-changed key value es o)
    go Greater c = lookup-changed_elsewhere other key value es (λ e. let wrong : Greater ≡ Equal = c ∙ e in cc)

-- the value at a key under changes
pub lookup-applied : (key : List ℕ) (cs : Changes) (es : Records) → IsOrdered es → lookup key (applied cs es) ≡ value_under (lookup key cs) (lookup key es)
lookup-applied key [] es o = refl
lookup-applied key (c ∷ cs) es o = lookup-changed_any key c.0 c.1 (applied cs es) (ordered_applied cs es o) ∙ go (key_cmp key c.0) (lookup-applied key cs es o)
  where
    go : (r : Ordering) → lookup key (applied cs es) ≡ value_under (lookup key cs) (lookup key es)
        → replaced_by r c.1 (lookup key (applied cs es)) ≡ value_under (found_by r c.1 (lookup key cs)) (lookup key es)
    go Less later = later
    go Equal later = refl
    go Greater later = later

no_entry : {X Y : Type 0} (e : X) (y z : Y) → None ≡ Some e → y ≡ z
no_entry e y z h = cc

same_value : {X : Type 0} (a b : List ℕ) (v w : X) → ◌≡◌ {A = Option (List ℕ × X)} (Some (a, v)) (Some (b, w)) → v ≡ w
same_value {X} a b v w h = ap there h
  where
    there : Option (List ℕ × X) → X
    there None = v
    there (Some e) = e.1

-- the entry at a key that is changed
pub entry_changed : (key k : List ℕ) (v : Option (List ℕ)) (cs : Changes) (es : Records) → IsOrdered es → entry_at key cs ≡ Some (k, v) → entry_at key (applied cs es) ≡ entry_of key v
entry_changed key k v cs es o h = ap (entry_of key) (lookup-applied key cs es o) ∙ go (lookup key cs) h
  where
    go : (change : Option (Option (List ℕ))) → entry_of key change ≡ Some (k, v) → entry_of key (value_under change (lookup key es)) ≡ entry_of key v
    go None f = no_entry (k, v) (entry_of key (lookup key es)) (entry_of key v) f
    go (Some w) f = ap (entry_of key) (same_value key k w v f)

-- and at one that is not
pub entry_unchanged : (key : List ℕ) (cs : Changes) (es : Records) → IsOrdered es → entry_at key cs ≡ None → entry_at key (applied cs es) ≡ entry_at key es
entry_unchanged key cs es o h = ap (entry_of key) (lookup-applied key cs es o) ∙ go (lookup key cs) h
  where
    go : (change : Option (Option (List ℕ))) → entry_of key change ≡ None → entry_of key (value_under change (lookup key es)) ≡ entry_of key (lookup key es)
    go None f = refl
    go (Some w) f = no_entry (key, w) (entry_of key w) (entry_of key (lookup key es)) (sym f)

-- ---- entries with the same values are the same

same_tail : {X : Type 0} (k : List ℕ) (v w : X) (xs ys : Entries X) → IsBefore k xs → IsBefore k ys → ((key : List ℕ) → lookup key ((k, v) ∷ xs) ≡ lookup key ((k, w) ∷ ys)) → (key : List ℕ) → lookup key xs ≡ lookup key ys
same_tail {X} k v w xs ys a b same key = go (key_cmp key k) refl (same key)
  where
    go : (r : Ordering) → r ≡ key_cmp key k → found_by r v (lookup key xs) ≡ found_by r w (lookup key ys) → lookup key xs ≡ lookup key ys
    go Less c s = s
    go Equal c s =
        let is : key ≡ k = same_key key k (sym c) in
        lookup-before key xs (subst (λ (z : List ℕ). IsBefore z xs) (sym is) a) ∙ sym (lookup-before key ys (subst (λ (z : List ℕ). IsBefore z ys) (sym is) b))
    go Greater c s = s

at_front : {X : Type 0} (k : List ℕ) (v : X) (xs : Entries X) → lookup k ((k, v) ∷ xs) ≡ Some v
at_front k v xs = rw (itself k) refl

pub same_values : {X : Type 0} (xs ys : Entries X) → IsOrdered xs → IsOrdered ys → ((key : List ℕ) → lookup key xs ≡ lookup key ys) → xs ≡ ys
same_values [] [] a b same = refl
same_values [] ((l, w) ∷ ys) a b same = let wrong : None ≡ Some w = same l ∙ at_front l w ys in cc
same_values ((k, v) ∷ xs) [] a b same = let wrong : Some v ≡ None = sym (at_front k v xs) ∙ same k in cc
same_values {X} ((k, v) ∷ xs) ((l, w) ∷ ys) a b same = go (key_cmp k l) refl (λ all. same_values xs ys a.1 b.1 all)
  where
    go : (r : Ordering) → r ≡ key_cmp k l → (((key : List ℕ) → lookup key xs ≡ lookup key ys) → xs ≡ ys) → (k, v) ∷ xs ≡ (l, w) ∷ ys
    go Less c later = let wrong : Some v ≡ None = sym (at_front k v xs) ∙ same k ∙ lookup-before k ((l, w) ∷ ys) (sym c, before_trans k l ys (sym c) b.0) in cc
    go Greater c later =
        let less : key_cmp l k ≡ Less = reversed k l (sym c) in
        let wrong : Some w ≡ None = sym (at_front l w ys) ∙ sym (same l) ∙ lookup-before l ((k, v) ∷ xs) (less, before_trans l k xs less a.0) in cc
    go Equal c later =
        let is : l ≡ k = sym (same_key k l (sym c)) in
        let before : IsBefore k ys = subst (λ (z : List ℕ). IsBefore z ys) is b.0 in
        let all : (key : List ℕ) → lookup key ((k, v) ∷ xs) ≡ lookup key ((k, w) ∷ ys) = subst (λ (z : List ℕ). (key : List ℕ) → lookup key ((k, v) ∷ xs) ≡ lookup key ((z, w) ∷ ys)) is same in
        let value : Some v ≡ Some w = sym (at_front k v xs) ∙ all k ∙ at_front k w ys in
        let rest : xs ≡ ys = later (same_tail k v w xs ys a.0 before all) in
        cc

-- a change that is put among changes
pub put_applied : (key : List ℕ) (value : Option (List ℕ)) (cs : Changes) (es : Records) → IsOrdered cs → IsOrdered es → applied (changed key (Some value) cs) es ≡ changed key value (applied cs es)
put_applied key value cs es a b =
    same_values (applied (changed key (Some value) cs) es) (changed key value (applied cs es)) (ordered_applied (changed key (Some value) cs) es b) (ordered_changed key value (applied cs es) (ordered_applied cs es b)) at
  where
    cases : (r : Ordering) (change : Option (Option (List ℕ))) (old : Option (List ℕ)) → value_under (replaced_by r (Some value) change) old ≡ replaced_by r value (value_under change old)
    cases Less change old = refl
    cases Equal change old = refl
    cases Greater change old = refl

    at : (k : List ℕ) → lookup k (applied (changed key (Some value) cs) es) ≡ lookup k (changed key value (applied cs es))
    at k =
        lookup-applied k (changed key (Some value) cs) es b
        ∙ ap (λ (z : Option (Option (List ℕ))). value_under z (lookup k es)) (lookup-changed_any k key (Some value) cs a)
        ∙ cases (key_cmp k key) (lookup k cs) (lookup k es)
        ∙ ap (λ (z : Option (List ℕ)). replaced_by (key_cmp k key) value z) (sym (lookup-applied k cs es b))
        ∙ sym (lookup-changed_any k key value (applied cs es) (ordered_applied cs es b))

-- changes, one list after the other
pub applied-append : (cs ds : Changes) (es : Records) → applied (cs ++ ds) es ≡ applied cs (applied ds es)
applied-append [] ds es = refl
applied-append (c ∷ cs) ds es = ap (λ (z : Records). changed c.0 c.1 z) (applied-append cs ds es)

-- ---- what passes

-- a change before all entries
pub changed_front : {X : Type 0} (key : List ℕ) (value : Option X) (es : Entries X) → IsBefore key es → changed key value es ≡ with_front key value es
changed_front key value [] h = refl
changed_front key value (e ∷ es) h = rw h.0 refl

entries_where-with_front : {X : Type 0} (q : List ℕ → Bool) (key : List ℕ) (value : Option X) (es : Entries X) → entries_where q (with_front key value es) ≡ (if q key then with_front key value (entries_where q es) else entries_where q es)
entries_where-with_front q key None es = elim (q key) as (λ b. entries_where q es ≡ (if b then entries_where q es else entries_where q es)) [ true ↦ refl | false ↦ refl ]
entries_where-with_front q key (Some v) es = refl

where_true : {X : Type 0} (b : Bool) (x y z : X) → (b ≡ true → x ≡ y) → (if b then x else z) ≡ (if b then y else z)
where_true true x y z h = h refl
where_true false x y z h = refl

-- what passes of changed entries
pub entries_where-changed : {X : Type 0} (q : List ℕ → Bool) (key : List ℕ) (value : Option X) (es : Entries X) → IsOrdered es
    → entries_where q (changed key value es) ≡ (if q key then changed key value (entries_where q es) else entries_where q es)
entries_where-changed q key value [] o = entries_where-with_front q key value []
entries_where-changed {X} q key value (e ∷ es) o = go (key_cmp key e.0) refl (entries_where-changed q key value es o.1)
  where
    go : (r : Ordering) → r ≡ key_cmp key e.0
        → entries_where q (changed key value es) ≡ (if q key then changed key value (entries_where q es) else entries_where q es)
        → entries_where q (changed_by r key value e es (changed key value es)) ≡ (if q key then changed key value (entries_where q (e ∷ es)) else entries_where q (e ∷ es))
    go Less c later =
        let all : IsBefore key (e ∷ es) = (sym c, before_trans key e.0 es (sym c) o.0) in
        entries_where-with_front q key value (e ∷ es)
        ∙ where_true (q key) _ _ _ (λ _. sym (changed_front key value (entries_where q (e ∷ es)) (before_entries_where key q (e ∷ es) all)))
    go Equal c later = entries_where-with_front q key value es ∙ cases (q key) (q e.0) (ap q (same_key key e.0 (sym c)))
      where
        cases : (a b : Bool) → a ≡ b → (if a then with_front key value (entries_where q es) else entries_where q es)
            ≡ (if a then changed key value (if b then e ∷ entries_where q es else entries_where q es) else (if b then e ∷ entries_where q es else entries_where q es))
        cases true true h = ap (λ (r : Ordering). changed_by r key value e (entries_where q es) (changed key value (entries_where q es))) c
        cases false false h = refl
        cases true false h = cc
        cases false true h = cc
    go Greater c later = rw later (cases (q key) (q e.0))
      where
        cases : (a b : Bool) → (if b then e ∷ (if a then changed key value (entries_where q es) else entries_where q es) else (if a then changed key value (entries_where q es) else entries_where q es))
            ≡ (if a then changed key value (if b then e ∷ entries_where q es else entries_where q es) else (if b then e ∷ entries_where q es else entries_where q es))
        cases true true = ap (λ (r : Ordering). changed_by r key value e (entries_where q es) (changed key value (entries_where q es))) c
        cases true false = refl
        cases false true = refl
        cases false false = refl

pub entries_where-applied : (q : List ℕ → Bool) (cs : Changes) (es : Records) → IsOrdered es → entries_where q (applied cs es) ≡ applied (entries_where q cs) (entries_where q es)
entries_where-applied q [] es o = refl
entries_where-applied q (c ∷ cs) es o =
    entries_where-changed q c.0 c.1 (applied cs es) (ordered_applied cs es o) ∙ rw (entries_where-applied q cs es o) (cases (q c.0))
  where
    cases : (b : Bool) → (if b then changed c.0 c.1 (applied (entries_where q cs) (entries_where q es)) else applied (entries_where q cs) (entries_where q es)) ≡ applied (if b then c ∷ entries_where q cs else entries_where q cs) (entries_where q es)
    cases true = refl
    cases false = refl
