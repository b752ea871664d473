-- How many pages calls take one after another.
use Rattle.std.proofs.Common.{◌≡◌, ◌≤◌, ◌<◌, ◌+◌, ◌-◌, ◌⊎◌, inl, inr, zero, suc, ℕ, List, [], ◌∷◌, ◌++◌, length, Result, Ok, Err, sym, subst, ◌∙◌, length-append, arith}
use Rattle.std.specs.Prelude.{◌*◌, OnOk, IfOk, IfErr, Option, Some, None, Contains}
use Rattle.std.specs.Result.{IsErrAnd}
use Rattle.std.proofs.lemmas.List.Elements.{Contains-append_left, Contains-append_right, Contains-append_cases}
use Rattle.pages.specs.State.{Array, GetOwn, HasNoOwn}
use Rattle.pages.specs.declared.array.PageFault.{PageFault}
use Rattle.pages.specs.declared.array.PageFault.TheVariants.{Full, Memory, Device, Malformed}
use Rattle.pages.specs.declared.array.Pages.{Ghosts}
use Rattle.page_tree.specs.declared.removal.Underflow.{Underflow}
use Rattle.page_tree.specs.declared.removal.Underflow.TheVariants.{Nothing, Child, Trees, FewCells}
use Rattle.page_tree.specs.Forest.{Forest}
use Rattle.page_tree.specs.Removal.{Describes}
use Rattle.page_tree.specs.Taking.{TakesPages, TakesAtMost, TakesToPut, TakesToGrow, count_made, most_left, most_stored, most_merged}

is_one : (page l : ℕ) → Contains (page ∷ []) l → l ≡ page
is_one page l (zero, inside, is) = sym is
is_one page l (suc k, inside, is) = absurd (omega (arith, inside))

-- a fault that `?` hands on
pub err_fails : {T : Type 0} (r : Result T PageFault) (e : PageFault) (Q : PageFault → Type 0) → IsErrAnd r (λ y. y ≡ e) → Q e → IfErr r Q
err_fails (Ok x) e Q is q = absurd is
err_fails (Err y) e Q is q = subst (λ (x : PageFault). Q x) (sym is) q

-- a refused allocation, or a page that cannot be read, is another fault
pub not_memory : {X : Type 0} (f : PageFault) → f ≡ Memory → f ≡ Full → X
not_memory f memory full = let other : Memory ≡ Full = sym memory ∙ full in absurd cc

pub not_read : {X : Type 0} (f : PageFault) → (f ≡ Malformed) ⊎ (f ≡ Device) → f ≡ Full → X
not_read f is full = elim is [
  | inl malformed ↦ (let other : Malformed ≡ Full = sym malformed ∙ full in absurd cc)
  | inr device ↦ (let other : Device ≡ Full = sym device ∙ full in absurd cc)
]

pub one_made : (made : Option ℕ) → count_made made ≤ 1
one_made None = omega arith
one_made (Some made) = omega arith

-- an inner node whose neighbour took two pages
pub stored_merged : (left : Underflow) → 2 + most_stored left ≤ most_merged left
stored_merged Nothing = omega arith
stored_merged (Child child) = omega arith
stored_merged (Trees made) = omega arith
stored_merged FewCells = omega arith

-- a leaf is a tree of least depth
pub least_left : (depth : ℕ) (left : Underflow) → 0 + most_left 0 left ≤ most_left depth left
least_left depth Nothing = omega arith
least_left depth (Child child) = omega arith
least_left depth (Trees made) = omega arith
least_left depth FewCells = omega arith

-- what an inner node takes after its child, of which nothing was left, or one child
pub removed_next : (depth : ℕ) (left : Underflow) → 2 * depth + most_stored left ≤ most_left (suc depth) left
removed_next depth Nothing = omega arith
removed_next depth (Child child) = omega arith
removed_next depth (Trees made) = omega arith
removed_next depth FewCells = omega arith

pub merged_next : (depth : ℕ) (left : Underflow) → 0 < depth → 2 * depth - 2 + most_merged left ≤ most_left (suc depth) left
merged_next depth Nothing deep = omega (arith, deep)
merged_next depth (Child child) deep = omega (arith, deep)
merged_next depth (Trees made) deep = omega (arith, deep)
merged_next depth FewCells deep = omega (arith, deep)

-- a tree of which one child is left has depth
pub deep_child : (underflow : Underflow) (A : Array) (depth : ℕ) (low : List ℕ) (high : Option (List ℕ)) (page : ℕ) (separator : List ℕ) (f : Forest) (child : ℕ) → underflow ≡ Child child
    → Describes underflow A depth low high page separator f → 0 < depth
deep_child underflow A depth low high page separator f child is left =
    let one = subst (λ (u : Underflow). Describes u A depth low high page separator f) is left in
    omega (arith, one.deep)

module _ {P : Type 0} (g : Ghosts P) where
  -- no page is taken
  pub none_taken : (p q : P) (n : ℕ) → GetOwn [] (g.own p) (g.own q) → TakesPages g p q [] n
  none_taken p q n none = record { others = []; few = omega arith; only = none }

  pub same_taken : (p : P) → TakesPages g p p [] 0
  same_taken p = none_taken p p 0 (λ l page own. inl own)

  pub own_none : (p q r : P) → GetOwn [] (g.own p) (g.own q) → GetOwn [] (g.own q) (g.own r) → GetOwn [] (g.own p) (g.own r)
  own_none p q r first second = λ l page own. elim (second l page own) [
    | inl mid ↦ first l page mid
    | inr at ↦ inr at
  ]

  -- one page is taken
  pub one_taken : (p q : P) (page n : ℕ) → GetOwn (page ∷ []) (g.own p) (g.own q) → TakesPages g p q (page ∷ []) n
  one_taken p q page n one = record { others = []; few = omega arith; only = one }

  -- pages are taken in one call, and then in another
  pub taken_then : (p q r : P) (xs ys : List ℕ) (m n k : ℕ) → TakesPages g p q xs m → TakesPages g q r ys n → length xs + m + n ≤ k → TakesPages g p r ys k
  taken_then p q r xs ys m n k a b few = record {
    others = (xs ++ a.others) ++ b.others;
    few = omega (arith, few, a.few, b.few, length-append (xs ++ a.others) b.others, length-append xs a.others);
    only = λ l page own. elim (b.only l page own) [
      | inl mid ↦ elim (a.only l page mid) [
        | inl old ↦ inl old
        | inr at ↦ inr (Contains-append_right ys ((xs ++ a.others) ++ b.others) l (Contains-append_left (xs ++ a.others) b.others l at))
      ]
      | inr at ↦ elim (Contains-append_cases ys b.others l at) [
        | inl at ↦ inr (Contains-append_left ys ((xs ++ a.others) ++ b.others) l at)
        | inr at ↦ inr (Contains-append_right ys ((xs ++ a.others) ++ b.others) l (Contains-append_right (xs ++ a.others) b.others l at))
      ]
    ];
  }

  -- and the first of them are named
  pub taken_and : (p q r : P) (xs ys : List ℕ) (m n k : ℕ) → TakesPages g p q xs m → TakesPages g q r ys n → m + length ys + n ≤ k → TakesPages g p r xs k
  taken_and p q r xs ys m n k a b few = record {
    others = a.others ++ (ys ++ b.others);
    few = omega (arith, few, a.few, b.few, length-append a.others (ys ++ b.others), length-append ys b.others);
    only = λ l page own. elim (b.only l page own) [
      | inl mid ↦ elim (a.only l page mid) [
        | inl old ↦ inl old
        | inr at ↦ elim (Contains-append_cases xs a.others l at) [
          | inl at ↦ inr (Contains-append_left xs (a.others ++ (ys ++ b.others)) l at)
          | inr at ↦ inr (Contains-append_right xs (a.others ++ (ys ++ b.others)) l (Contains-append_left a.others (ys ++ b.others) l at))
        ]
      ]
      | inr at ↦ inr (Contains-append_right xs (a.others ++ (ys ++ b.others)) l (Contains-append_right a.others (ys ++ b.others) l at))
    ];
  }

  -- pages that are named no longer
  pub taken_in_all : (p q : P) (xs : List ℕ) (m k : ℕ) → TakesPages g p q xs m → length xs + m ≤ k → TakesPages g p q [] k
  taken_in_all p q xs m k a few = taken_then p q q xs [] m 0 k a (same_taken q) (omega (arith, few))

  -- a page that has none of its own in the end does not count
  pub taken_but : (p q r : P) (page m n : ℕ) → TakesPages g p q (page ∷ []) m → TakesPages g q r [] n → HasNoOwn page (g.own r) → TakesPages g p r [] (m + n)
  taken_but p q r page m n a b none = record {
    others = a.others ++ b.others;
    few = omega (arith, a.few, b.few, length-append a.others b.others);
    only = λ l x own. elim (b.only l x own) [
      | inl mid ↦ elim (a.only l x mid) [
        | inl old ↦ inl old
        | inr at ↦ elim (Contains-append_cases (page ∷ []) a.others l at) [
          | inl at ↦ absurd (none x (subst (λ (i : ℕ). g.own r i x) (is_one page l at) own))
          | inr at ↦ inr (Contains-append_left a.others b.others l at)
        ]
      ]
      | inr at ↦ inr (Contains-append_right a.others b.others l at)
    ];
  }

  -- what a new page takes
  pub new_page_takes : (p q : P) (r : Result ℕ PageFault) → IfOk r (λ page. GetOwn (page ∷ []) (g.own p) (g.own q)) → IfErr r (λ f. f ≡ Full → GetOwn [] (g.own p) (g.own q))
      → TakesAtMost g p q r (λ _. 1) 0
  new_page_takes p q (Ok page) own full = taken_in_all p q (page ∷ []) 0 1 (one_taken p q page 0 own) (omega arith)
  new_page_takes p q (Err f) own full = λ is. none_taken p q 0 (full is)

  -- what a write takes
  pub write_takes : (p q : P) (page : ℕ) (r : Result (Unit {0}) PageFault) → OnOk r (GetOwn (page ∷ []) (g.own p) (g.own q)) → IfErr r (λ f. f ≡ Full → GetOwn [] (g.own p) (g.own q) × HasNoOwn page (g.own q))
      → TakesAtMost g p q r (λ _. 1) 0
  write_takes p q page (Ok x) own full = taken_in_all p q (page ∷ []) 0 1 (one_taken p q page 0 own) (omega arith)
  write_takes p q page (Err f) own full = λ is. none_taken p q 0 (full is).0

  -- calls before one that takes pages
  pub takes_since : {T : Type 0} (p q r : P) (result : Result T PageFault) (most more : T → ℕ) (m before later : ℕ) → TakesPages g p q [] m
      → ((x : T) → m + most x ≤ more x) → m + before ≤ later → TakesAtMost g q r result most before → TakesAtMost g p r result more later
  takes_since p q r (Ok x) most more m before later a ok err b = taken_then p q r [] [] m (most x) (more x) a b (omega (arith, ok x))
  takes_since p q r (Err f) most more m before later a ok err b = λ is. taken_then p q r [] [] m before later a (b is) (omega (arith, err))

  pub named_too : (p q : P) (page k : ℕ) → TakesPages g p q [] k → TakesPages g p q (page ∷ []) k
  named_too p q page k a = taken_then p q q [] (page ∷ []) k 0 k a (one_taken q q page 0 (λ l x own. inl own)) (omega arith)

  -- what is put after other calls
  pub put_after : (p q r : P) (page m depth : ℕ) (result : Result (Option ℕ) PageFault) → TakesPages g p q [] m → m ≤ 2 * depth → TakesToPut g q r page 0 result → TakesToPut g p r page depth result
  put_after p q r page m depth (Ok made) a few b = taken_then p q r [] (page ∷ []) m (2 * 0 + count_made made) (2 * depth + count_made made) a b (omega (arith, few))
  put_after p q r page m depth (Err f) a few b = λ is. taken_then p q r [] [] m (2 * 0 + 1) (2 * depth + 1) a (b is) (omega (arith, few))

  -- a page and perhaps one beside it are two at most
  pub put_two : (p q r : P) (page : ℕ) (result : Result (Option ℕ) PageFault) → TakesPages g p q [] 0 → TakesToPut g q r page 0 result → TakesAtMost g p r result (λ _. 2) 1
  put_two p q r page (Ok made) a b = taken_in_all p r (page ∷ []) (2 * 0 + count_made made) 2 (taken_then p q r [] (page ∷ []) 0 (2 * 0 + count_made made) (2 * 0 + count_made made) a b (omega arith)) (omega (arith, one_made made))
  put_two p q r page (Err f) a b = λ is. taken_then p q r [] [] 0 (2 * 0 + 1) 1 a (b is) (omega arith)

  -- a new root, for which a page was taken first
  pub grow_takes : (p q r : P) (page : ℕ) (result : Result (Unit {0}) PageFault) → TakesPages g p q (page ∷ []) 0 → IfErr result (λ f. f ≡ Full → GetOwn [] (g.own q) (g.own r) × HasNoOwn 0 (g.own r)) → TakesToGrow g p r result
  grow_takes p q r page (Ok x) a b = tt
  grow_takes p q r page (Err f) a b = λ is. inr (taken_then p q r (page ∷ []) [] 0 0 1 a (none_taken q r 0 (b is).0) (omega arith), (b is).1)

  pub grown : (p q r : P) (m k : ℕ) (result : Result (Unit {0}) PageFault) → TakesPages g p q (0 ∷ []) m → m + 1 ≤ k → TakesToGrow g q r result → IfErr result (λ f. f ≡ Full → TakesPages g p r [] k)
  grown p q r m k (Ok x) a few b = tt
  grown p q r m k (Err f) a few b = λ is. elim (b is) [
    | inl none ↦ taken_then p q r (0 ∷ []) [] m 0 k a none (omega (arith, few))
    | inr one ↦ taken_in_all p r [] (m + 1) k (taken_but p q r 0 m 1 a one.0 one.1) (omega (arith, few))
  ]

  pub grown_again : (p q r : P) (m k : ℕ) (result : Result (Unit {0}) PageFault) → TakesPages g p q [] m → m + 1 ≤ k → TakesToGrow g q r result → IfErr result (λ f. f ≡ Full → TakesPages g p r [] k)
  grown_again p q r m k (Ok x) a few b = tt
  grown_again p q r m k (Err f) a few b = λ is. elim (b is) [
    | inl none ↦ taken_then p q r [] [] m 0 k a none (omega (arith, few))
    | inr one ↦ taken_then p q r [] [] m 1 k a one.0 (omega (arith, few))
  ]

  -- a call that takes none before it finds no page left
  pub full_since : {T : Type 0} (p q r : P) (result : Result T PageFault) (most : T → ℕ) (m k : ℕ) → TakesPages g p q [] m → m ≤ k → TakesAtMost g q r result most 0 → IfErr result (λ f. f ≡ Full → TakesPages g p r [] k)
  full_since p q r (Ok x) most m k a few b = tt
  full_since p q r (Err f) most m k a few b = λ is. taken_then p q r [] [] m 0 k a (b is) (omega (arith, few))

  -- a page is given back last
  pub freed_last : (p q r : P) (result : Result (Unit {0}) PageFault) → TakesPages g p q [] 1 → OnOk result (GetOwn [] (g.own q) (g.own r)) → IfErr result (λ f. (f ≡ Malformed) ⊎ (f ≡ Device)) → TakesAtMost g p r result (λ _. 1) 0
  freed_last p q r (Ok x) a own faults = taken_then p q r [] [] 1 0 1 a (none_taken q r 0 own) (omega arith)
  freed_last p q r (Err f) a own faults = λ is. not_read f faults is
