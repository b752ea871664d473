-- What is said to the clients of a tenant before two lives part.
use Rattle.std.proofs.Common.{◌≡◌, ◌⊎◌, ◌∙◌, ◌≤◌, ℕ, zero, suc, Bool, true, false, cond, nat_eq, List, [], ◌∷◌, ◌++◌, length, take, refl, sym, ap, subst, inl, inr, eq-eqb, eqb-true}
use Rattle.std.proofs.lemmas.List.{append_assoc, append-nil}
use Rattle.store.specs.Store.{StoreState}
use Rattle.abstract_database.specs.Runs.{ReadingRelation, At}
use Rattle.client_laws.specs.Renumbered.{IsOneToOne}
use Rattle.talks.specs.Conversations.{ClientState, awaited, there, gone, IsAwaited, Conversation, IsNew, Heard, stays, hears, rejects, learns, loses, breaks, Passes}
use Rattle.talks.specs.Wants.{Learnt, learnt}
use Rattle.talks.specs.declared.talk.MessageFront.TheVariants.{Whole, Bad}
use Rattle.talks.specs.declared.want.Want.{Want}
use Rattle.talks.specs.declared.want.Reply.{Reply}
use Rattle.talks.specs.declared.talk.Talk.{Ghosts as TalkGhosts}
use Rattle.talks.specs.declared.clients.ServedClients.{Ghosts as ClientsGhosts}
use Rattle.talks.specs.Turns.{Exchange, learnt_of, learnt_of_all, own_learnt}
use Rattle.served_tenants.specs.Saying.{AreFronts, SpeaksOnce}
use Rattle.served_tenants.specs.ServedTenants.{ClientsOfTenant, TellAlike, over_here, over_there, told_alike, told_apart, untold_here, untold_there, failed_here, failed_there}
use Rattle.served_tenants.specs.SaidTenants.{NeverParts, came_of}
use Rattle.served_tenants.proofs.HeardAlike.{any_front, front_any, shorter, said_so}
use Rattle.served_tenants.proofs.SaidAlike.{none_of}
use Rattle.served_lives.specs.SaidBefore.{learnt_before, IsSaidFirst, WasSaidFirst, all_is_learnt_before, parted_lives_say_alike_before}
use Rattle.served_lives.proofs.SaidLives.{learnt_first}

-- ---- lists

module _ {A : Type 0} where
  heads : (x y : A) (xs ys : List A) → (x ∷ xs) ≡ (y ∷ ys) → (x ≡ y) × (xs ≡ ys)
  heads x y xs ys e = (ap first_of e, ap rest_of e) where
    first_of : List A → A
    first_of [] = x
    first_of (z ∷ zs) = z

    rest_of : List A → List A
    rest_of [] = []
    rest_of (z ∷ zs) = zs

  none_is_some : (x : A) (xs : List A) → (x ∷ xs) ≡ [] → ⊥
  none_is_some x xs e = cc

  -- so much of a front of what begins so is a front of it
  within_front : (xs more p rest : List A) → xs ++ more ≡ p ++ rest → (also : List A) × (take (length p) xs ++ also ≡ p)
  within_front xs more [] rest is = ([], refl)
  within_front [] more (y ∷ p) rest is = (y ∷ p, refl)
  within_front (x ∷ xs) more (y ∷ p) rest is =
      let both = heads x y (xs ++ more) (p ++ rest) is in let later = within_front xs more p rest both.1 in
      (later.0, ap (λ (z : A). z ∷ (take (length p) xs ++ later.0)) both.0 ∙ ap (λ (l : List A). y ∷ l) later.1)

  -- two such are fronts
  both_within : (xs ys more also p rest rest_there : List A) → xs ++ more ≡ p ++ rest → ys ++ also ≡ p ++ rest_there → AreFronts (take (length p) xs) (take (length p) ys)
  both_within xs ys more also p rest rest_there is is_there =
      let mine = within_front xs more p rest is in let theirs = within_front ys also p rest_there is_there in
      shorter (take (length p) xs) (take (length p) ys) p p mine.0 theirs.0 mine.1 theirs.1 (inl ([], append-nil p))

-- ---- what both learn before they part

module _ (Reads : ReadingRelation) (a : ClientsOfTenant) (place place_there : ℕ → ℕ) (apart : IsOneToOne place) (apart_there : IsOneToOne place_there) (c d : ℕ) (at_one : place c ≡ place_there d) (own : a.clients (place c) ≡ true) where
  one_learnt : (x y : Exchange) → place x.client ≡ place_there y.client → x.want ≡ y.want → x.reply ≡ y.reply → learnt_of c x ≡ learnt_of d y
  one_learnt x y places wants replies = by (nat_eq x.client c) refl where
    same : learnt x.want x.reply ≡ learnt y.want y.reply
    same = ap (λ (w : Want). learnt w x.reply) wants ∙ ap (λ (r : Reply). learnt y.want r) replies

    by : (b : Bool) → nat_eq x.client c ≡ b → learnt_of c x ≡ learnt_of d y
    by true is =
        let client_there : y.client ≡ d = apart_there y.client d (sym places ∙ ap place (eqb-true x.client c is) ∙ at_one) in
        ap (λ (b : Bool). cond b (learnt x.want x.reply ∷ []) []) is ∙ ap (λ (l : Learnt). l ∷ []) same
        ∙ sym (ap (λ (b : Bool). cond b (learnt y.want y.reply ∷ []) []) (eq-eqb y.client d client_there))
    by false is =
        none_of c x (λ it. let contrary : true ≡ false = sym (eq-eqb x.client c it) ∙ is in cc)
        ∙ sym (none_of d y (λ it. let contrary : true ≡ false = sym (eq-eqb x.client c (apart x.client c (places ∙ ap place_there it ∙ sym at_one))) ∙ is in cc))

  foreign : (x : Exchange) → a.clients (place x.client) ≡ false → learnt_of c x ≡ []
  foreign x other = none_of c x (λ it. let contrary : true ≡ false = sym own ∙ ap (λ (i : ℕ). a.clients (place i)) (sym it) ∙ other in cc)

  foreign_there : (y : Exchange) → a.clients (place_there y.client) ≡ false → learnt_of d y ≡ []
  foreign_there y other = none_of d y (λ it. let contrary : true ≡ false = sym own ∙ ap a.clients at_one ∙ ap (λ (i : ℕ). a.clients (place_there i)) (sym it) ∙ other in cc)

  -- both begin with it
  abbrev BothBegin : List Learnt → List Learnt → List Learnt → Type 0
  BothBegin p xs ys = (rest : List Learnt) × (rest_there : List Learnt) × (xs ≡ p ++ rest) × (ys ≡ p ++ rest_there)

  pub both_begin : {w v : At} {xs ys : List Exchange} (told : TellAlike Reads a place place_there w v xs ys) → BothBegin (learnt_before told c) (learnt_of_all c xs) (learnt_of_all d ys)
  both_begin {xs = xs} {ys} (over_here st) = (learnt_of_all c xs, learnt_of_all d ys, refl, refl)
  both_begin {xs = xs} {ys} (over_there st) = (learnt_of_all c xs, learnt_of_all d ys, refl, refl)
  both_begin (told_alike next later {x = x} {y = y} {xs = xs} {ys = ys} is asked same it it_there rest) =
      let both = both_begin rest in (
        both.0,
        both.1,
        ap (λ (l : List Learnt). learnt_of c x ++ l) both.2 ∙ sym (append_assoc (learnt_of c x) (learnt_before rest c) both.0),
        ap (λ (l : List Learnt). l ++ learnt_of_all d ys) (sym (one_learnt x y asked.0 asked.1 same)) ∙ ap (λ (l : List Learnt). learnt_of c x ++ l) both.3
            ∙ sym (append_assoc (learnt_of c x) (learnt_before rest c) both.1),
      )
  both_begin (told_apart next later {x = x} {y = y} {xs = xs} {ys = ys} is asked it it_there may) = (learnt_of_all c (x ∷ xs), learnt_of_all d (y ∷ ys), refl, refl)
  both_begin (untold_here next {x = x} {xs = xs} {ys = ys} other it rest) =
      let both = both_begin rest in (both.0, both.1, ap (λ (l : List Learnt). l ++ learnt_of_all c xs) (foreign x other) ∙ both.2, both.3)
  both_begin (untold_there later {y = y} {xs = xs} {ys = ys} other it rest) =
      let both = both_begin rest in (both.0, both.1, both.2, ap (λ (l : List Learnt). l ++ learnt_of_all d ys) (foreign_there y other) ∙ both.3)
  both_begin {ys = ys} (failed_here {x = x} {xs = xs} other io) = (learnt_of_all c (x ∷ xs), learnt_of_all d ys, refl, refl)
  both_begin {xs = xs} (failed_there {y = y} {ys = ys} other io) = (learnt_of_all c xs, learnt_of_all d (y ∷ ys), refl, refl)

  pub all_before : {w v : At} {xs ys : List Exchange} (told : TellAlike Reads a place place_there w v xs ys) → NeverParts told → (learnt_before told c ≡ learnt_of_all c xs) ⊎ (learnt_before told c ≡ learnt_of_all d ys)
  all_before (over_here st) end = inl refl
  all_before (over_there st) end = inr refl
  all_before (told_alike next later {x = x} {y = y} {xs = xs} {ys = ys} is asked same it it_there rest) end = elim (all_before rest end) [
    | inl e ↦ inl (ap (λ (l : List Learnt). learnt_of c x ++ l) e)
    | inr e ↦ inr (ap (λ (l : List Learnt). learnt_of c x ++ l) e ∙ ap (λ (l : List Learnt). l ++ learnt_of_all d ys) (one_learnt x y asked.0 asked.1 same))
  ]
  all_before (told_apart next later is asked it it_there may) end = absurd end
  all_before (untold_here next {x = x} {xs = xs} other it rest) end = elim (all_before rest end) [
    | inl e ↦ inl (e ∙ sym (ap (λ (l : List Learnt). l ++ learnt_of_all c xs) (foreign x other)))
    | inr e ↦ inr e
  ]
  all_before (untold_there later {y = y} {ys = ys} other it rest) end = elim (all_before rest end) [
    | inl e ↦ inl e
    | inr e ↦ inr (e ∙ sym (ap (λ (l : List Learnt). l ++ learnt_of_all d ys) (foreign_there y other)))
  ]
  all_before (failed_here other io) end = absurd end
  all_before (failed_there other io) end = absurd end

pub learnt_all : (Reads : ReadingRelation) → all_is_learnt_before Reads
learnt_all Reads a place place_there apart apart_there w v xs ys told never c d at_one own = all_before Reads a place place_there apart apart_there c d at_one own told never

-- ---- one reading, cut where so much was learnt

module _ {T : Type 0} (k : TalkGhosts T) where
  abbrev Cut : T → List ℕ → List Learnt → List ℕ → ℕ → Type 0
  Cut t bytes xs said n = (first : List ℕ) × IsSaidFirst k t bytes xs n said first

  nothing_first : (x y : Learnt) (xs ys : List Learnt) → (x ∷ xs) ≡ (y ∷ ys) → x.want ≡ y.want
  nothing_first x y xs ys e = ap (λ (l : Learnt). l.want) (heads x y xs ys e).0

  pub cut : {t v : T} {bytes said rest : List ℕ} {xs : List Learnt} → Heard k t bytes xs said rest v → (n : ℕ) → Cut t bytes xs said n
  cut {t} {bytes = bytes} stays zero = ([], record { more = []; said_are = refl; mid = t; left = bytes; heard = stays; next = λ x later is. let contrary : [] ≡ x ∷ later = is in cc; all = λ none. refl })
  cut {t} {bytes = bytes} stays (suc n) = ([], record { more = []; said_are = refl; mid = t; left = bytes; heard = stays; next = λ x later is. let contrary : [] ≡ x ∷ later = is in cc; all = λ none. refl })
  cut (hears {said = said} h wants front it later) n =
      let r = cut later n in
      (said ++ r.0, record { more = r.1.more; said_are = ap (λ (l : List ℕ). said ++ l) r.1.said_are ∙ sym (append_assoc said r.0 r.1.more); mid = r.1.mid; left = r.1.left; heard = hears h wants front it r.1.heard; next = r.1.next; all = r.1.all })
  cut (rejects {said = said} wants front it later) n =
      let r = cut later n in
      (said ++ r.0, record { more = r.1.more; said_are = ap (λ (l : List ℕ). said ++ l) r.1.said_are ∙ sym (append_assoc said r.0 r.1.more); mid = r.1.mid; left = r.1.left; heard = rejects wants front it r.1.heard; next = r.1.next; all = r.1.all })
  cut {t} {bytes = bytes} (learns {said = said} {also = also} {xs = xs} x wants fits it later) zero =
      ([], record { more = said ++ also; said_are = refl; mid = t; left = bytes; heard = stays; next = λ y ys is. wants ∙ nothing_first x y xs ys is; all = λ none. absurd (none_is_some x xs none) })
  cut (learns {said = said} x wants fits it later) (suc n) =
      let r = cut later n in
      (said ++ r.0, record { more = r.1.more; said_are = ap (λ (l : List ℕ). said ++ l) r.1.said_are ∙ sym (append_assoc said r.0 r.1.more); mid = r.1.mid; left = r.1.left; heard = learns x wants fits it r.1.heard; next = r.1.next; all = r.1.all })
  cut {t} {bytes = bytes} (loses {also = also} {xs = xs} x wants fits broke later) zero =
      ([], record { more = also; said_are = refl; mid = t; left = bytes; heard = stays; next = λ y ys is. wants ∙ nothing_first x y xs ys is; all = λ none. absurd (none_is_some x xs none) })
  cut (loses x wants fits broke later) (suc n) =
      let r = cut later n in
      (r.0, record { more = r.1.more; said_are = r.1.said_are; mid = r.1.mid; left = r.1.left; heard = loses x wants fits broke r.1.heard; next = r.1.next; all = r.1.all })
  cut (breaks broke later) n =
      let r = cut later n in
      (r.0, record { more = r.1.more; said_are = r.1.said_are; mid = r.1.mid; left = r.1.left; heard = breaks broke r.1.heard; next = r.1.next; all = r.1.all })

-- ---- a client that comes to both

module _ {T : Type 0} (t : TalkGhosts T) (Alike : T → T → Type 0) (speaks : SpeaksOnce t Alike)
    (front_more : (x : T) (bytes more : List ℕ) (n : ℕ) → t.front x bytes ≡ Whole n → (n ≤ length bytes) × (t.front x (bytes ++ more) ≡ Whole n))
    (bad_more : (x : T) (bytes more : List ℕ) → t.front x bytes ≡ Bad → t.front x (bytes ++ more) ≡ Bad)
    (made made_there : T → Type 0) (begin : (x y : T) → t.starts x → made x → t.starts y → made_there y → Alike x y) (xs ys : List Learnt) (n : ℕ) (fronts : AreFronts (take n xs) (take n ys)) where
  abbrev First : (from to from_there to_there : ClientState T) → Passes t made from xs to → Passes t made_there from_there ys to_there → Type 0
  First from to from_there to_there here beyond =
      (first : List ℕ) × (first_there : List ℕ) × WasSaidFirst t made from to xs here n first × WasSaidFirst t made_there from_there to_there ys beyond n first_there × AreFronts first first_there

  -- a conversation that has come, over all the bytes that came
  cut_of : (x y : Conversation T) (zs : List Learnt) (came said : List ℕ) → x.held ≡ [] → Heard t x.talk (x.held ++ came) zs said y.held y.talk → Cut t x.talk came zs said n
  cut_of x y zs came said none heard = cut t (subst (λ (l : List ℕ). Heard t x.talk (l ++ came) zs said y.held y.talk) none heard) n

  both_first : (bytes bytes_there : _) (x z y u : Conversation T) (new : IsNew t made bytes x) (new_there : IsNew t made_there bytes_there z) (came said came_there said_there : List ℕ)
      (heard : Heard t x.talk (x.held ++ came) xs said y.held y.talk) (heard_there : Heard t z.talk (z.held ++ came_there) ys said_there u.held u.talk) → AreFronts came came_there →
      AreFronts (cut_of x y xs came said new.held heard).0 (cut_of z u ys came_there said_there new_there.held heard_there).0
  both_first bytes bytes_there x z y u new new_there came said came_there said_there heard heard_there of =
      let mine = cut_of x y xs came said new.held heard in let theirs = cut_of z u ys came_there said_there new_there.held heard_there in
      said_so T t Alike front_more bad_more speaks x.talk z.talk mine.1.mid theirs.1.mid came came_there mine.0 theirs.0 mine.1.left theirs.1.left (take n xs) (take n ys)
      (begin x.talk z.talk new.starts new.is_made new_there.starts new_there.is_made) mine.1.heard theirs.1.heard of fronts

  pub first_said : (from to from_there to_there : ClientState T) → IsAwaited from → IsAwaited from_there → (here : Passes t made from xs to) (beyond : Passes t made_there from_there ys to_there) →
      AreFronts (came_of t made from to xs here) (came_of t made_there from_there to_there ys beyond) → First from to from_there to_there here beyond
  first_said (awaited b) (awaited l) (awaited e) (awaited m) is is_there here it of = ([], [], refl, refl, any_front [])
  first_said (awaited b) (awaited l) (awaited e) (there u) is is_there here (z, new_there, (came_there, said_there, consumes_there, heard_there, appends_there, limited_there, once_there)) of =
      let theirs = cut_of z u ys came_there said_there new_there.held heard_there in ([], theirs.0, refl, theirs.1, any_front theirs.0)
  first_said (awaited b) (awaited l) (awaited e) (gone p) is is_there here (z, new_there, (u, (came_there, said_there, consumes_there, heard_there, appends_there, limited_there, once_there), ended, sent)) of =
      let theirs = cut_of z u ys came_there said_there new_there.held heard_there in ([], theirs.0, refl, theirs.1, any_front theirs.0)
  first_said (awaited b) (there y) (awaited e) (awaited m) is is_there (x, new, (came, said, consumes, heard, appends, limited, once)) it of =
      let mine = cut_of x y xs came said new.held heard in (mine.0, [], mine.1, refl, front_any mine.0)
  first_said (awaited b) (gone s) (awaited e) (awaited m) is is_there (x, new, (y, (came, said, consumes, heard, appends, limited, once), ended, sent)) it of =
      let mine = cut_of x y xs came said new.held heard in (mine.0, [], mine.1, refl, front_any mine.0)
  first_said (awaited b) (there y) (awaited e) (there u) is is_there (x, new, (came, said, consumes, heard, appends, limited, once)) (z, new_there, (came_there, said_there, consumes_there, heard_there, appends_there, limited_there, once_there)) of =
      let mine = cut_of x y xs came said new.held heard in let theirs = cut_of z u ys came_there said_there new_there.held heard_there in
      (mine.0, theirs.0, mine.1, theirs.1, both_first b e x z y u new new_there came said came_there said_there heard heard_there of)
  first_said (awaited b) (there y) (awaited e) (gone p) is is_there (x, new, (came, said, consumes, heard, appends, limited, once)) (z, new_there, (u, (came_there, said_there, consumes_there, heard_there, appends_there, limited_there, once_there), ended, sent)) of =
      let mine = cut_of x y xs came said new.held heard in let theirs = cut_of z u ys came_there said_there new_there.held heard_there in
      (mine.0, theirs.0, mine.1, theirs.1, both_first b e x z y u new new_there came said came_there said_there heard heard_there of)
  first_said (awaited b) (gone s) (awaited e) (there u) is is_there (x, new, (y, (came, said, consumes, heard, appends, limited, once), ended, sent)) (z, new_there, (came_there, said_there, consumes_there, heard_there, appends_there, limited_there, once_there)) of =
      let mine = cut_of x y xs came said new.held heard in let theirs = cut_of z u ys came_there said_there new_there.held heard_there in
      (mine.0, theirs.0, mine.1, theirs.1, both_first b e x z y u new new_there came said came_there said_there heard heard_there of)
  first_said (awaited b) (gone s) (awaited e) (gone p) is is_there (x, new, (y, (came, said, consumes, heard, appends, limited, once), ended, sent)) (z, new_there, (u, (came_there, said_there, consumes_there, heard_there, appends_there, limited_there, once_there), ended_there, sent_there)) of =
      let mine = cut_of x y xs came said new.held heard in let theirs = cut_of z u ys came_there said_there new_there.held heard_there in
      (mine.0, theirs.0, mine.1, theirs.1, both_first b e x z y u new new_there came said came_there said_there heard heard_there of)
  first_said (there x) to from_there to_there is is_there here it of = absurd is
  first_said (gone s) to from_there to_there is is_there here it of = absurd is
  first_said (awaited b) to (there z) to_there is is_there here it of = absurd is_there
  first_said (awaited b) to (gone s) to_there is is_there here it of = absurd is_there

-- ---- the law

module _ (S Z X Y T C D : Type 0) (Reads : ReadingRelation) (state : S → StoreState) (state_there : Z → StoreState) (t : TalkGhosts T) (k : ClientsGhosts C T) (j : ClientsGhosts D T) (Alike : T → T → Type 0)
    (front_more : (x : T) (bytes more : List ℕ) (n : ℕ) → t.front x bytes ≡ Whole n → (n ≤ length bytes) × (t.front x (bytes ++ more) ≡ Whole n))
    (bad_more : (x : T) (bytes more : List ℕ) → t.front x bytes ≡ Bad → t.front x (bytes ++ more) ≡ Bad) where
  pub said_before : parted_lives_say_alike_before S Z X Y T C D Reads state state_there t k j Alike
  said_before speaks a d e life other told old before us new after took old_there before_there us_there new_there after_there took_there of of_there c b at_one own course course_there begin from to from_there to_there is is_there here it fronts =
      let mine = learnt_first Reads state t k c old before us new after took course of.untold life.done of.first in
      let theirs = learnt_first Reads state_there t j b old_there before_there us_there new_there after_there took_there course_there of_there.untold other.done of_there.first in
      let both = both_begin Reads a life.place other.place life.apart other.apart c b at_one own told in
      first_said t Alike speaks front_more bad_more (k.makes (k.maker before)) (j.makes (j.maker before_there)) begin (own_learnt c us) (own_learnt b us_there) (length (learnt_before told c))
      (both_within (own_learnt c us) (own_learnt b us_there) mine.0 theirs.0 (learnt_before told c) both.0 both.1 (mine.1 ∙ both.2) (theirs.1 ∙ both.3))
      from to from_there to_there is is_there here it fronts
