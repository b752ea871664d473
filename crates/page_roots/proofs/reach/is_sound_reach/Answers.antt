use Rattle.std.proofs.Common.{◌≡◌, ◌∙◌, Bool, List, false, replicate, refl, subst, sym, arith}
use Rattle.std.proofs.lemmas.Bool.{eqb-true}
use Rattle.std.proofs.lemmas.List.{with_items_is}
use Rattle.page_roots.specs.Reach.{IsSound}
use Rattle.page_roots.specs.Claims.{CanClaim, IsClaimed}
use Rattle.page_roots.proofs.Reaching.{sound_claimed, maps_can_claim, entries_can_claim, empty_unsound, unused_unsound, zero_unsound, same_test}
use Rattle.page_roots.proofs.reach.is_sound_reach.Goals as goal
use Rattle.page_roots.proofs.reach.is_sound_reach.Goals.{then-is_empty-via-then-is_empty, then-is_empty-via-else-is_empty+then-entries-eq0, then-is_empty-via-else-is_empty+else-entries-eq0+then-has_zero}

refused : (c : goal.Joined-then-is_empty) → IsSound c.args.pages c.args.maps.now c.args.entries.now → ⊥
refused c = elim c.then-is_empty.branch [
  | then-is_empty-via-then-is_empty w ↦ empty_unsound _ _ _ (eqb-true _ _ (sym w.if-is_empty.ensures))
  | then-is_empty-via-else-is_empty+then-entries-eq0 w ↦ unused_unsound _ _ _ w.if-entries-eq0.true
  | then-is_empty-via-else-is_empty+else-entries-eq0+then-has_zero w ↦ zero_unsound _ _ _ (sym w.if-has_zero.ensures)
]

pub returns-then-is_empty-clause-sound : goal.returns-then-is_empty-clause-sound
returns-then-is_empty-clause-sound c = (λ no. absurd cc, λ sound. absurd (refused c sound))

pub returns-then-is_empty-clause-exact : goal.returns-then-is_empty-clause-exact
returns-then-is_empty-clause-exact c = same_test c.args.pages c.args.maps.now c.args.entries.now false (λ no. absurd cc) (λ sound. absurd (refused c sound))

pub returns-then-not-claim_all-clause-exact : goal.returns-then-not-claim_all-clause-exact
returns-then-not-claim_all-clause-exact c =
    let fresh : c.deref_mut.result.now ≡ replicate c.args.pages false = c.deref_mut.ensures.value ∙ c.in_ok-claimed.ensures.items_if_clones_equal (λ y is. is) in
    same_test c.args.pages c.args.maps.now c.args.entries.now false (λ no. absurd cc) (λ sound.
    c.if-not-claim_all.ensures.can.1 (subst (λ (claimed : List Bool). CanClaim claimed c.args.maps.now) (sym fresh) (maps_can_claim c.args.pages c.args.maps.now c.args.entries.now sound)))

pub returns-clause-sound : goal.returns-clause-sound
returns-clause-sound c =
    let fresh : c.deref_mut.result.now ≡ replicate c.args.pages false = c.deref_mut.ensures.value ∙ c.in_ok-claimed.ensures.items_if_clones_equal (λ y is. is) in
    let after : c.deref_mut-2.result.now ≡ c.claim_all.new.claimed = c.deref_mut-2.ensures.value ∙ with_items_is c.in_ok-claimed.claimed c.claim_all.new.claimed (omega (arith, c.claim_all.auto.claimed, c.deref_mut.ensures.len)) in
    let can : CanClaim (replicate c.args.pages false) c.args.maps.now = subst (λ (old : List Bool). CanClaim old c.args.maps.now) fresh (c.if-not-claim_all.ensures.can.0 refl) in
    let claimed : IsClaimed (replicate c.args.pages false) c.args.maps.now c.deref_mut-2.result.now =
    subst (λ (now : List Bool). IsClaimed (replicate c.args.pages false) c.args.maps.now now) (sym after)
    (subst (λ (old : List Bool). IsClaimed old c.args.maps.now c.claim_all.new.claimed) fresh (c.if-not-claim_all.ensures.claimed refl)) in (
      λ yes. sound_claimed c.args.pages c.args.maps.now c.args.entries.now c.deref_mut-2.result.now (omega (arith, c.if-entries-eq0.false)) (sym c.if-has_zero.ensures) can claimed (c.claim_all-2.ensures.can.0 yes),
      λ sound. c.claim_all-2.ensures.can.1 (entries_can_claim c.args.pages c.args.maps.now c.args.entries.now c.deref_mut-2.result.now sound claimed),
    )

pub returns-clause-exact : goal.returns-clause-exact
returns-clause-exact c = same_test c.args.pages c.args.maps.now c.args.entries.now _ (returns-clause-sound c).0 (returns-clause-sound c).1
