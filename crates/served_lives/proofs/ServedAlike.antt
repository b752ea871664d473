-- The exchanges of two servers that look alike to a tenant, and what is committed where these end.
use Rattle.std.specs.Prelude.{if◌then◌else◌}
use Rattle.std.proofs.Common.{◌≡◌, ◌⊎◌, ◌∙◌, ℕ, Bool, true, false, cond, List, [], ◌∷◌, length, suc, refl, sym, ap, subst, inl, inr}
use Rattle.abstract_database.specs.Runs.{ReadingRelation, At}
use Rattle.database_laws.specs.HiddenRuns.{SameApparentRowsForPairs, AreSound}
use Rattle.database_laws.specs.Runs.{ReadsOnce}
use Rattle.database_laws.proofs.ToldRuns.{turned}
use Rattle.database_laws.proofs.UnseenEvents.{all_turned}
use Rattle.client_laws.specs.Renumbered.{IsOneToOne, renumbered_machine}
use Rattle.talks.specs.declared.want.Want.{Want}
use Rattle.talks.specs.Turns.{Exchange}
use Rattle.served_tenants.specs.Exchanges.{Replies, Exchanges}
use Rattle.served_tenants.specs.ServedTenants.{ClientsOfTenant, tenant_of, SeemAlike, is_own, own_exchanges, OthersOutOfSight, AskAlike, TellAlike, over_here, over_there, told_alike, told_apart, untold_here, untold_there, failed_here, failed_there}
use Rattle.served_tenants.specs.SaidTenants.{NeverParts}
use Rattle.served_tenants.proofs.Parting.{Unseen, unseen, fails, other_reply, Outcome, parts, agrees, own_reply}
use Rattle.served_lives.specs.ServedLives.{one_less, CommitsBehind}
use Rattle.served_lives.proofs.Committing.{looks_on, commits_or_looks, passed}

module _ (Reads : ReadingRelation) (once : ReadsOnce Reads) (a : ClientsOfTenant) (place place_there : ℕ → ℕ) (apart : IsOneToOne place) (apart_there : IsOneToOne place_there) where
  abbrev Sound : At → Type 0
  Sound w = AreSound (renumbered_machine place w.standing.machine)

  abbrev SoundThere : At → Type 0
  SoundThere v = AreSound (renumbered_machine place_there v.standing.machine)

  abbrev Look : At → At → Type 0
  Look w v = SeemAlike a place place_there w v

  abbrev own_here : List Exchange → List Exchange
  own_here xs = own_exchanges a place xs

  abbrev own_there : List Exchange → List Exchange
  own_there ys = own_exchanges a place_there ys

  abbrev Asks : List Exchange → List Exchange → Type 0
  Asks xs ys = AskAlike place place_there xs ys

  over_way : (w v : At) → Look w v → SeemAlike a place_there place v w
  over_way w v st = turned (tenant_of a) (renumbered_machine place w.standing.machine) (renumbered_machine place_there v.standing.machine) st

  way_back : (w v : At) → SeemAlike a place_there place v w → Look w v
  way_back w v st = turned (tenant_of a) (renumbered_machine place_there v.standing.machine) (renumbered_machine place w.standing.machine) st

  -- ---- where they end

  abbrev Alike : At → At → Type 0
  Alike w v = SameApparentRowsForPairs a.pairs w.standing.machine.committed v.standing.machine.committed

  -- one has made an own commit more, or what both have committed looks alike
  pub data EndsAlike (w v end end_there : At) (xs ys : List Exchange) (made : Exchanges Reads w xs end) (made_there : Exchanges Reads v ys end_there) : Type 0 where
    more_here : CommitsBehind Reads a place (length (own_there ys)) w xs end made → EndsAlike w v end end_there xs ys made made_there
    more_there : CommitsBehind Reads a place_there (length (own_here xs)) v ys end_there made_there → EndsAlike w v end end_there xs ys made made_there
    looks_alike : Alike end end_there → EndsAlike w v end end_there xs ys made made_there

  pub record Tells (w v end end_there : At) (xs ys : List Exchange) (made : Exchanges Reads w xs end) (made_there : Exchanges Reads v ys end_there) : Type 0 where
    pub so : TellAlike Reads a place place_there w v xs ys
    pub ends : NeverParts so → EndsAlike w v end end_there xs ys made made_there

  -- how many of its own there are behind one exchange more
  own_more : (f : ℕ → ℕ) (y : Exchange) (ys : List Exchange) → is_own a f y ≡ true → length (own_exchanges a f (y ∷ ys)) ≡ suc (length (own_exchanges a f ys))
  own_more f y ys own = ap (λ (b : Bool). length (cond b (y ∷ own_exchanges a f ys) (own_exchanges a f ys))) own

  other_more : (f : ℕ → ℕ) (y : Exchange) (ys : List Exchange) → is_own a f y ≡ false → length (own_exchanges a f (y ∷ ys)) ≡ length (own_exchanges a f ys)
  other_more f y ys other = ap (λ (b : Bool). length (cond b (y ∷ own_exchanges a f ys) (own_exchanges a f ys))) other

  passes_own : (f : ℕ → ℕ) (x : Exchange) (before rest : ℕ) → is_own a f x ≡ true → before ≡ suc rest → (if is_own a f x then one_less before else before) ≡ rest
  passes_own f x before rest own is = ap (λ (b : Bool). if b then one_less before else before) own ∙ ap one_less is

  passes_other : (f : ℕ → ℕ) (x : Exchange) (before : ℕ) → is_own a f x ≡ false → (if is_own a f x then one_less before else before) ≡ before
  passes_other f x before other = ap (λ (b : Bool). if b then one_less before else before) other

  -- the first run is over
  ends_here : (w v end end_there : At) (ys : List Exchange) (made : Exchanges Reads w [] end) (made_there : Exchanges Reads v ys end_there) → Look w v → OthersOutOfSight a place_there Reads v ys end_there made_there →
      EndsAlike w v end end_there [] ys made made_there
  ends_here w v end end_there ys made made_there st keep_there = at (commits_or_looks Reads a place_there ys v end_there made_there keep_there) where
    at : CommitsBehind Reads a place_there 0 v ys end_there made_there ⊎ Alike v end_there → EndsAlike w v end end_there [] ys made made_there
    at (inl commits) = more_there commits
    at (inr looks) = looks_alike (
        subst (λ (u : At). Alike u end_there) (sym made)
        (looks_on a.pairs w.standing.machine.committed v.standing.machine.committed end_there.standing.machine.committed st.committed looks))

  -- the second is
  ends_there : (w v end end_there : At) (xs : List Exchange) (made : Exchanges Reads w xs end) (made_there : Exchanges Reads v [] end_there) → Look w v → OthersOutOfSight a place Reads w xs end made →
      EndsAlike w v end end_there xs [] made made_there
  ends_there w v end end_there xs made made_there st keep = at (commits_or_looks Reads a place xs w end made keep) where
    at : CommitsBehind Reads a place 0 w xs end made ⊎ Alike w end → EndsAlike w v end end_there xs [] made made_there
    at (inl commits) = more_here commits
    at (inr looks) = looks_alike (
        subst (λ (u : At). Alike end u) (sym made_there)
        (all_turned a.pairs v.standing.machine.committed end.standing.machine.committed
        (looks_on a.pairs v.standing.machine.committed w.standing.machine.committed end.standing.machine.committed (over_way w v st).committed looks)))

  -- ---- one exchange, and those behind it

  abbrev Goes : List Exchange → At → Type 0
  Goes xs end = (w v end_there : At) (ys : List Exchange) → Look w v → Sound w → SoundThere v → (made : Exchanges Reads w xs end) (made_there : Exchanges Reads v ys end_there) →
      OthersOutOfSight a place Reads w xs end made → OthersOutOfSight a place_there Reads v ys end_there made_there → Asks (own_here xs) (own_there ys) → Tells w v end end_there xs ys made made_there

  module _ (w n end : At) (x : Exchange) (xs : List Exchange) (on : Sound w) (own : is_own a place x ≡ true) (here : Replies Reads w x.client x.want x.reply n) (made : Exchanges Reads n xs end)
      (keep : OthersOutOfSight a place Reads w (x ∷ xs) end (n, here, made)) (go : Goes xs end) where
    abbrev Reaches : List Exchange → Type 0
    Reaches ys = (v end_there : At) → Look w v → SoundThere v → (made_there : Exchanges Reads v ys end_there) → OthersOutOfSight a place_there Reads v ys end_there made_there →
        Asks (x ∷ own_here xs) (own_there ys) → Tells w v end end_there (x ∷ xs) ys (n, here, made) made_there

    -- both have made one of their own
    both_made : (v j end_there : At) (y : Exchange) (ys : List Exchange) (it : Replies Reads v y.client y.want y.reply j) (its : Exchanges Reads j ys end_there) → is_own a place_there y ≡ true →
        EndsAlike n j end end_there xs ys made its → EndsAlike w v end end_there (x ∷ xs) (y ∷ ys) (n, here, made) (j, it, its)
    both_made v j end_there y ys it its own_y (more_here commits) = more_here (
        passed Reads a place (length (own_there (y ∷ ys))) (length (own_there ys)) w end x xs (n, here, made)
        (passes_own place x (length (own_there (y ∷ ys))) (length (own_there ys)) own (own_more place_there y ys own_y)) commits)
    both_made v j end_there y ys it its own_y (more_there commits) = more_there (
        passed Reads a place_there (length (own_here (x ∷ xs))) (length (own_here xs)) v end_there y ys (j, it, its)
        (passes_own place_there y (length (own_here (x ∷ xs))) (length (own_here xs)) own_y (own_more place x xs own)) commits)
    both_made v j end_there y ys it its own_y (looks_alike looks) = looks_alike looks

    -- another has made one in the second run
    other_made : (v j end_there : At) (y : Exchange) (ys : List Exchange) (it : Replies Reads v y.client y.want y.reply j) (its : Exchanges Reads j ys end_there) → is_own a place_there y ≡ false →
        EndsAlike w j end end_there (x ∷ xs) ys (n, here, made) its → EndsAlike w v end end_there (x ∷ xs) (y ∷ ys) (n, here, made) (j, it, its)
    other_made v j end_there y ys it its other (more_here commits) = more_here (
        subst (λ (k : ℕ). CommitsBehind Reads a place k w (x ∷ xs) end (n, here, made)) (sym (other_more place_there y ys other)) commits)
    other_made v j end_there y ys it its other (more_there commits) = more_there (
        passed Reads a place_there (length (own_here (x ∷ xs))) (length (own_here (x ∷ xs))) v end_there y ys (j, it, its) (passes_other place_there y (length (own_here (x ∷ xs))) other) commits)
    other_made v j end_there y ys it its other (looks_alike looks) = looks_alike looks

    to_own : (ys : List Exchange) → Reaches ys
    to_own [] v end_there st on_there made_there keep_there asks = record { so = over_there st; ends = λ never. ends_there w v end end_there (x ∷ xs) (n, here, made) made_there st keep }
    to_own (y ∷ ys) v end_there st on_there (j, it, its) keep_there asks = by (is_own a place_there y) refl (to_own ys) where
      cut : (b : Bool) → is_own a place_there y ≡ b → Asks (x ∷ own_here xs) (cond b (y ∷ own_there ys) (own_there ys))
      cut b is = subst (λ (c : Bool). Asks (x ∷ own_here xs) (cond c (y ∷ own_there ys) (own_there ys))) is asks

      by : (b : Bool) → is_own a place_there y ≡ b → Reaches ys → Tells w v end end_there (x ∷ xs) (y ∷ ys) (n, here, made) (j, it, its)
      by true own_y more = at
          (own_reply Reads once a place place_there apart apart_there w n v j x.client y.client st on on_there own (cut true own_y).0.0 x.want x.reply y.reply (keep.0.0 own) here
          (subst (λ (z : Want). Replies Reads v y.client z y.reply j) (sym (cut true own_y).0.1) it))
        where
          at : Outcome Reads once a place place_there apart apart_there w n v j (place x.client) x.want x.reply y.reply → Tells w v end end_there (x ∷ xs) (y ∷ ys) (n, here, made) (j, it, its)
          at (parts may) = record { so = told_apart n j own (cut true own_y).0 here it may; ends = λ never. absurd never }
          at (agrees same next on_n on_j) =
              let rest = go n j end_there ys next on_n on_j made its keep.1 keep_there.1 ((cut true own_y).1 same) in
              record { so = told_alike n j own (cut true own_y).0 same here it rest.so; ends = λ never. both_made v j end_there y ys it its own_y (rest.ends never) }
      by false other more = at (other_reply Reads once a place_there place apart_there v j w y.client (over_way w v st) on_there other (keep_there.0.1 other) y.want y.reply it) where
        at : Unseen Reads once a place_there place apart_there j w y.reply → Tells w v end end_there (x ∷ xs) (y ∷ ys) (n, here, made) (j, it, its)
        at (unseen next on_j) =
            let rest = more j end_there (way_back w j next) on_j its keep_there.1 (cut false other) in
            record { so = untold_there j other it rest.so; ends = λ never. other_made v j end_there y ys it its other (rest.ends never) }
        at (fails io) = record { so = failed_there other io; ends = λ never. absurd never }

  -- another has made one in the first run
  other_made_here : (w n v end end_there : At) (x : Exchange) (xs ys : List Exchange) (it : Replies Reads w x.client x.want x.reply n) (its : Exchanges Reads n xs end) (made_there : Exchanges Reads v ys end_there) →
      is_own a place x ≡ false → EndsAlike n v end end_there xs ys its made_there → EndsAlike w v end end_there (x ∷ xs) ys (n, it, its) made_there
  other_made_here w n v end end_there x xs ys it its made_there other (more_here commits) = more_here (
      passed Reads a place (length (own_there ys)) (length (own_there ys)) w end x xs (n, it, its) (passes_other place x (length (own_there ys)) other) commits)
  other_made_here w n v end end_there x xs ys it its made_there other (more_there commits) = more_there (
      subst (λ (k : ℕ). CommitsBehind Reads a place_there k v ys end_there made_there) (sym (other_more place x xs other)) commits)
  other_made_here w n v end end_there x xs ys it its made_there other (looks_alike looks) = looks_alike looks

  pub tells : (xs : List Exchange) (end : At) → Goes xs end
  tells [] end w v end_there ys st on on_there made made_there keep keep_there asks = record { so = over_here st; ends = λ never. ends_here w v end end_there ys made made_there st keep_there }
  tells (x ∷ xs) end w v end_there ys st on on_there (n, it, its) made_there keep keep_there asks = by (is_own a place x) refl (tells xs end) where
    cut : (b : Bool) → is_own a place x ≡ b → Asks (cond b (x ∷ own_here xs) (own_here xs)) (own_there ys)
    cut b is = subst (λ (c : Bool). Asks (cond c (x ∷ own_here xs) (own_here xs)) (own_there ys)) is asks

    by : (b : Bool) → is_own a place x ≡ b → Goes xs end → Tells w v end end_there (x ∷ xs) ys (n, it, its) made_there
    by true own go = to_own w n end x xs on own it its keep go ys v end_there st on_there made_there keep_there (cut true own)
    by false other go = at (other_reply Reads once a place place_there apart w n v x.client st on other (keep.0.1 other) x.want x.reply it) where
      at : Unseen Reads once a place place_there apart n v x.reply → Tells w v end end_there (x ∷ xs) ys (n, it, its) made_there
      at (unseen next on_n) =
          let rest = go n v end_there ys next on_n on_there its made_there keep.1 keep_there (cut false other) in
          record { so = untold_here n other it rest.so; ends = λ never. other_made_here w n v end end_there x xs ys it its made_there other (rest.ends never) }
      at (fails io) = record { so = failed_here other io; ends = λ never. absurd never }
