-- Steps of a walk.
use Rattle.std.proofs.Common.{◌≡◌, ℕ, Result, Ok, Err, Bool, true, false, nat_eq, ◌&&◌, ◌||◌, if◌then◌else◌, List, [], ◌∷◌, ◌++◌, Option, Some, None, refl, ap, sym, ◌∙◌, subst, append-nil}
use Rattle.std.specs.List.{starts_with}
use Rattle.std.specs.declared.cmp.Ordering.{Ordering}
use Rattle.std.specs.declared.cmp.Ordering.TheVariants.{Less, Equal, Greater}
use Rattle.std.specs.Ordering.{is_lt}
use Rattle.store.specs.Records.{Records, Entries, IsOrdered, IsBefore, IsFound, key_cmp, entries_where, first, first_from, has_prefix, is_from, is_not_less}
use Rattle.store.proofs.Changes.{key_trans, ordered_entries_where}
use Rattle.store.proofs.Scans.{scanned, past_prefix, prefix_begins}
use Rattle.store.proofs.HeldItems.{own_prefix}
use Rattle.store.specs.Walks.{is_within, span}

pub same_prefix : (p k : List ℕ) → starts_with nat_eq k p ≡ has_prefix p k
same_prefix [] k = refl
same_prefix (x ∷ p) [] = refl
same_prefix (x ∷ p) (y ∷ k) = ap (λ b. nat_eq x y && b) (same_prefix p k)

pub entry_if : {X : Type 0} (b : Bool) (x : X) (o : Option X) → b ≡ true → IsFound b x o → o ≡ Some x
entry_if true x o h f = f
entry_if false x o h f = cc

pub none_if : {X : Type 0} (b : Bool) (x : X) (o : Option X) → b ≡ false → IsFound b x o → o ≡ None
none_if true x o h f = cc
none_if false x o h f = f

self_prefix : (p : List ℕ) → has_prefix p p ≡ true
self_prefix p = subst (λ k. has_prefix p k ≡ true) (append-nil p) (own_prefix p [])

-- a key that is not before another is from it on
not_before : (k s : List ℕ) → is_lt (key_cmp k s) ≡ false → is_from s k ≡ true
not_before k s h = go (key_cmp k s) h where
  go : (o : Ordering) → is_lt o ≡ false → is_not_less o ≡ true
  go Less e = cc
  go Equal e = refl
  go Greater e = refl

not_less_after : (s e k : List ℕ) → is_from s e ≡ true → key_cmp e k ≡ Less → is_lt (key_cmp k s) ≡ false
not_less_after s e k f l = go (key_cmp k s) refl where
  go : (o : Ordering) → o ≡ key_cmp k s → is_lt o ≡ false
  go Equal c = refl
  go Greater c = refl
  go Less c = let t : key_cmp e s ≡ Less = key_trans e k s l (sym c) in let f' : is_not_less Less ≡ true = subst (λ o. is_not_less o ≡ true) t f in cc

or_false : (a b : Bool) → (a || b) ≡ false → (a ≡ false) × (b ≡ false)
or_false true b h = cc
or_false false b h = (refl, h)

-- after a key that is not within the stop none is
pub stays_past : (s e k : List ℕ) → is_within s e ≡ false → key_cmp e k ≡ Less → is_within s k ≡ false
stays_past s e k h l =
    let both = or_false (has_prefix s e) (is_lt (key_cmp e s)) h in
    let from : is_from s e ≡ true = not_before e s both.1 in
    let prefix : has_prefix s k ≡ false = past_prefix s s e (self_prefix s) from both.0 k l in
    rw prefix (not_less_after s e k from l)

pub none_within : {X : Type 0} (s e : List ℕ) (es : Entries X) → is_within s e ≡ false → IsBefore e es → entries_where (is_within s) es ≡ []
none_within s e [] h b = refl
none_within s e (x ∷ es) h b = rw (stays_past s e x.0 h b.0) (none_within s e es h b.1)

-- a walk goes on after an entry that is within the stop
pub span_goes_on : (s n : List ℕ) (es : Records) (e : List ℕ × List ℕ) → IsOrdered es → first_from n es ≡ Some e → is_within s e.0 ≡ true
    → span n s es ≡ e ∷ span (e.0 ++ 0 ∷ []) s es
span_goes_on s n es e o f h = ap (entries_where (is_within s)) (scanned n es e o f) ∙ ap (λ (b : Bool). if b then e ∷ span (e.0 ++ 0 ∷ []) s es else span (e.0 ++ 0 ∷ []) s es) h

-- and ends at one that is not
pub span_ends : (s n : List ℕ) (es : Records) (e : List ℕ × List ℕ) → IsOrdered es → first_from n es ≡ Some e → is_within s e.0 ≡ false → span n s es ≡ []
span_ends s n es e o f h =
    let rest : entries_where (is_from n) es ≡ e ∷ entries_where (is_from (e.0 ++ 0 ∷ [])) es = scanned n es e o f in
    let ordered : IsOrdered (e ∷ entries_where (is_from (e.0 ++ 0 ∷ [])) es) = subst IsOrdered rest (ordered_entries_where (is_from n) es o) in
    ap (entries_where (is_within s)) rest ∙ ap (λ (b : Bool). if b then e ∷ span (e.0 ++ 0 ∷ []) s es else span (e.0 ++ 0 ∷ []) s es) h ∙ none_within s e.0 (entries_where (is_from (e.0 ++ 0 ∷ [])) es) h ordered.0

pub span_empty : (s n : List ℕ) (es : Records) → first_from n es ≡ None → span n s es ≡ []
span_empty s n es f = go (entries_where (is_from n) es) f
  where
    go : (xs : Records) → first xs ≡ None → entries_where (is_within s) xs ≡ []
    go [] h = refl
    go (x ∷ xs) h = cc

-- the span of a prefix has the entries of that prefix
within_prefix : (p k : List ℕ) → is_from p k ≡ true → is_within p k ≡ has_prefix p k
within_prefix p k h = go (key_cmp k p) h (has_prefix p k) where
  go : (o : Ordering) → is_not_less o ≡ true → (b : Bool) → (b || is_lt o) ≡ b
  go Less e b = cc
  go Equal e true = refl
  go Equal e false = refl
  go Greater e true = refl
  go Greater e false = refl

same_within : (p : List ℕ) (es : Records) → entries_where (is_within p) (entries_where (is_from p) es) ≡ entries_where (has_prefix p) (entries_where (is_from p) es)
same_within p [] = refl
same_within p (e ∷ es) = go (is_from p e.0) refl (same_within p es)
  where
    go : (b : Bool) → b ≡ is_from p e.0 → entries_where (is_within p) (entries_where (is_from p) es) ≡ entries_where (has_prefix p) (entries_where (is_from p) es)
        → entries_where (is_within p) (if b then e ∷ entries_where (is_from p) es else entries_where (is_from p) es) ≡ entries_where (has_prefix p) (if b then e ∷ entries_where (is_from p) es else entries_where (is_from p) es)
    go false h later = later
    go true h later = rw (within_prefix p e.0 (sym h)) (ap (λ (zs : Records). if has_prefix p e.0 then e ∷ zs else zs) later)

pub span_of_prefix : (p : List ℕ) (es : Records) → span p p es ≡ entries_where (has_prefix p) es
span_of_prefix p es = same_within p es ∙ prefix_begins p es

-- what is answered is no fault
pub answered : {T E : Type 0} {x : T} {e : E} → ◌≡◌ {A = Result T E} (Ok x) (Err e) → ⊥
answered h = cc
