-- Why changes find no room.
use Rattle.std.proofs.Common.{◌≡◌, ◌<◌, ◌≤◌, ◌+◌, ◌++◌, ◌∷◌, [], inl, inr, zero, suc, ℕ, List, Ok, Err, Result, length, take, get_or, refl, ap, sym, ◌∙◌, subst, append_assoc, arith}
use Rattle.std.specs.Prelude.{IfErr, MatchResult, Contains, map}
use Rattle.std.specs.Result.{IsErrAnd}
use Rattle.std.proofs.lemmas.List.{length-map}
use Rattle.sector_device.specs.declared.device.Device.{Ghosts}
use Rattle.page_roots.specs.Root.{RootFields}
use Rattle.page_roots.specs.Reach.{InReach}
use Rattle.pages.specs.State.{GetOwn}
use Rattle.pages.specs.declared.array.PageFault.{PageFault}
use Rattle.pages.specs.declared.array.PageFault.TheVariants.{Full}
use Rattle.page_tree.specs.Calls.{IsCaused}
use Rattle.cow_pages.specs.declared.cow.CowPages.{CowPages}
use Rattle.cow_pages.specs.Cow.{working_array, HasNoRoom, HasFewerFree, HasOwnPage, IsFree, own_pages}
use Rattle.cow_pages.specs.Preserved.{IsPreserved, FailedWith}
use Rattle.cow_pages.specs.PreservedLaws.{preserved_same, preserved_joined}
use Rattle.page_tree.specs.Forest.{Represents}
use Rattle.store.specs.Records.{Records, Changes}
use Rattle.store.specs.Batch.{all_changes}
use Rattle.kv_store.specs.Batches.{applied_in_turn, most_taken, LacksRoom}
use Rattle.kv_store.proofs.InTurn.{in_turn_append}

pub if_err_both : {T E : Type 0} (P : T → Type 0) (Q A B : E → Type 0) (r : Result T E) → MatchResult r P Q → IfErr r A → ((e : E) → Q e → A e → B e) → IfErr r B
if_err_both P Q A B (Ok x) is also so = tt
if_err_both P Q A B (Err e) is also so = so e is also

-- a fault that `?` hands on
pub err_fails : {T E : Type 0} (r : Result T E) (e : E) (Q : E → Type 0) → IsErrAnd r (λ y. y ≡ e) → Q e → IfErr r Q
err_fails (Ok x) e Q is q = absurd is
err_fails (Err y) e Q is q = subst (λ x. Q x) (sym is) q

-- a change that finds no page left
pub no_page : {D : Type 0} {g : Ghosts D} (old new : CowPages D g) (fault : PageFault) → fault ≡ Full → IsCaused (λ f. FailedWith old new f) fault → HasNoRoom new
no_page old new fault full caused =
    elim (subst (λ (f : PageFault). IsCaused (λ x. FailedWith old new x) f) full caused).cause [
      | inl memory ↦ absurd cc
      | inr none ↦ none
    ]

contains_map : (f : ℕ → ℕ) (xs : List ℕ) (l : ℕ) → Contains xs l → Contains (map f xs) (f l)
contains_map f [] l (k, inside, is) = absurd (omega (arith, inside))
contains_map f (x ∷ xs) l (zero, inside, is) = (0, omega arith, ap f is)
contains_map f (x ∷ xs) l (suc k, inside, is) = let r = contains_map f xs l (k, omega (arith, inside), is) in (suc r.0, omega (arith, r.1), r.2)

-- where no page is free now, those that were free before are pages that logical pages got since
module _ {D : Type 0} {g : Ghosts D} (old new : CowPages D g) (preserved : IsPreserved old new) (no_room : HasNoRoom new) (others : List ℕ) (got : GetOwn others (own_pages old) (own_pages new)) where
  abbrev now_at : ℕ → ℕ
  now_at l = get_or new.map.working.items l 0

  reached : (page : ℕ) → InReach new.map.root.maps new.map.durable.items page → InReach old.map.root.maps old.map.durable.items page
  reached page at = subst (λ (r : RootFields). InReach r.maps old.map.durable.items page) preserved.preserved.root (subst (λ (es : List ℕ). InReach new.map.root.maps es page) preserved.preserved.durable at)

  was_free : (page : ℕ) → IsFree old page → Contains (map now_at others) page
  was_free page free = elim (no_room page free.some (omega (arith, free.inside, ap (λ (r : RootFields). r.pages) preserved.preserved.root))) [
    | inl at ↦ absurd (free.apart (reached page at))
    | inr named ↦
        let own : HasOwnPage new named.0 page = record {
          some = free.some;
          named = named.1;
          apart = λ is. free.apart (reached page (inr (named.0, sym is, free.some)));
        } in
        elim (got named.0 page own) [
          | inl had ↦ absurd (free.unnamed (named.0, had.named, free.some))
          | inr at ↦ subst (λ (x : ℕ). Contains (map now_at others) x) named.1 (contains_map now_at others named.0 at)
        ]
  ]

  pub fewer_free : (most : ℕ) → length others ≤ most → HasFewerFree (most + 1) old
  fewer_free most few = record { free = map now_at others; few = omega (arith, few, length-map others now_at); all = was_free }

module _ {D : Type 0} {g : Ghosts D} (records : Records) (old : CowPages D g) where
  -- the first of changes
  pub lacks_first : (changes : Changes) → 0 < length changes → (represents : Represents records (working_array old)) → HasFewerFree (most_taken represents.is_tree.depth) old → LacksRoom changes records old
  lacks_first [] some represents few = absurd (omega (arith, some))
  lacks_first (c ∷ cs) some represents few = record {
    mid = old;
    preserved = preserved_same old;
    made = [];
    next = c;
    rest = cs;
    whole = refl;
    holds = represents;
    few = few;
  }

  -- changes after others, and before the rest
  pub lacks_later : (changes done ds rest : Changes) (mid : CowPages D g) → changes ≡ done ++ (ds ++ rest) → IsPreserved old mid → LacksRoom ds (applied_in_turn done records) mid → LacksRoom changes records old
  lacks_later changes done ds rest mid whole preserved l = record {
    mid = l.mid;
    preserved = preserved_joined old mid l.mid preserved l.preserved;
    made = done ++ l.made;
    next = l.next;
    rest = l.rest ++ rest;
    whole = whole ∙ ap (λ (cs : Changes). done ++ (cs ++ rest)) l.whole ∙ ap (λ (cs : Changes). done ++ cs) (append_assoc l.made (l.next ∷ l.rest) rest)
        ∙ sym (append_assoc done l.made (l.next ∷ (l.rest ++ rest)));
    holds = record { tree = l.holds.tree; is_tree = l.holds.is_tree; entries_are = l.holds.entries_are ∙ sym (in_turn_append done l.made records) };
    few = l.few;
  }

-- the changes of the pieces before one, and those after it
pub piece_within : (pieces : List Changes) (index : ℕ) (p : Changes) → index < length pieces → p ≡ get_or pieces index p → (rest : Changes) × (all_changes pieces ≡ all_changes (take index pieces) ++ (p ++ rest))
piece_within [] index p inside is = absurd (omega (arith, inside))
piece_within (q ∷ pieces) zero p inside is = (all_changes pieces, ap (λ (cs : Changes). cs ++ all_changes pieces) (sym is))
piece_within (q ∷ pieces) (suc index) p inside is =
    let r = piece_within pieces index p (omega (arith, inside)) is in
    (r.0, ap (λ (cs : Changes). q ++ cs) r.1 ∙ sym (append_assoc q (all_changes (take index pieces)) (p ++ r.0)))
