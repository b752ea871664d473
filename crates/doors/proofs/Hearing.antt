-- What is heard at a door.
use Rattle.std.proofs.Common.{◌≡◌, ◌∙◌, ℕ, Bool, true, false, cond, List, [], ◌++◌, take, refl, ap, sym, subst}
use Rattle.std.proofs.lemmas.List.{append-nil}
use Rattle.talks.specs.Wants.{Learnt, FitsWant}
use Rattle.talks.specs.Conversations.{Heard, stays, hears, rejects, learns, loses, breaks}
use Rattle.talks.specs.declared.talk.Talk.{Ghosts}
use Rattle.talks.specs.declared.want.Want.{Want}
use Rattle.talks.specs.declared.want.Want.TheVariants as want
use Rattle.talks.specs.declared.want.Reply.{Reply}
use Rattle.doors.specs.declared.door.Door.{Door}
use Rattle.doors.specs.declared.door.Door.TheVariants.{Anyone}
use Rattle.doors.specs.Doors.{opens_only, wanted_at}
use Rattle.doors.specs.DoorTalks.{TurnsOthersAway, is_turned_away, SaysThen, AreAdmitted}
use Rattle.doors.specs.DoorTalks.{stays as as_it_is}

-- ---- what is wanted at a door

by_test : (door : Door) (w : Want) (b : Bool) → opens_only door w ≡ b → opens_only door (cond b w want.OutOfMemory) ≡ true
by_test door w true is = is
by_test door w false is = refl

pub admitted_there : (door : Door) (w : Want) → opens_only door (wanted_at door w) ≡ true
admitted_there door w = by_test door w (opens_only door w) refl

anyone_opens : (w : Want) → opens_only Anyone w ≡ true
anyone_opens want.Message = refl
anyone_opens (want.Event e) = refl
anyone_opens (want.Open n login entry) = refl
anyone_opens (want.Standing n) = refl
anyone_opens (want.Description n text) = refl
anyone_opens (want.Verifier table role) = refl
anyone_opens (want.End late) = refl
anyone_opens want.OutOfMemory = refl

open_there : (door : Door) (w : Want) → door ≡ Anyone → wanted_at door w ≡ w
open_there door w free = ap (λ (d : Door). wanted_at d w) free ∙ ap (λ (b : Bool). cond b w want.OutOfMemory) (anyone_opens w)

no_turning : (door : Door) (w : Want) {X : Type 0} → door ≡ Anyone → opens_only door w ≡ false → X
no_turning door w free shut = let wrong : true ≡ false = sym (ap (λ (d : Door). opens_only d w) free ∙ anyone_opens w) ∙ shut in cc

-- at an open door only what the conversation says is said
says_alone : {T : Type 0} (k : Ghosts T) (door : Door) (does : List ℕ → T → Type 0) (said : List ℕ) (new : T) → door ≡ Anyone → SaysThen k door does said new → does said new
says_alone k door does said new free it = go it.turns_away
  where
    go : TurnsOthersAway k door it.mid it.second new → does said new
    go (as_it_is admitted none same) =
        subst (λ (l : List ℕ). does l new) (sym (append-nil it.first) ∙ ap (λ (l : List ℕ). it.first ++ l) (sym none) ∙ sym it.said_is)
        (subst (λ (u : _). does it.first u) (sym same) it.done)
    go (is_turned_away shut learnt) = no_turning door (k.wants it.mid) free shut

-- ---- all that is heard

module _ {T U : Type 0} (k : Ghosts T) (outer : Ghosts U) (door : U → Door) (inner : U → T)
    (wants_is : (t : U) → outer.wants t ≡ wanted_at (door t) (k.wants (inner t)))
    (front_is : (t : U) (bytes : List ℕ) → outer.front t bytes ≡ k.front (inner t) bytes)
    (hears_is : (t u : U) (message said : List ℕ) → outer.hears t message said u → SaysThen k (door t) (k.hears (inner t) message) said (inner u) × (door u ≡ door t))
    (rejects_is : (t u : U) (said : List ℕ) → outer.rejects t said u → SaysThen k (door t) (k.rejects (inner t)) said (inner u) × (door u ≡ door t))
    (learns_is : (t u : U) (r : Reply) (said : List ℕ) → outer.learns t r said u → SaysThen k (door t) (k.learns (inner t) r) said (inner u) × (door u ≡ door t)) where
  -- once memory was refused nothing is heard, learnt or said
  silent : {t u : U} {bytes said rest : List ℕ} {xs : List Learnt} → Heard outer t bytes xs said rest u → outer.wants t ≡ want.OutOfMemory
      → (xs ≡ []) × (said ≡ []) × (rest ≡ bytes) × (outer.wants u ≡ want.OutOfMemory)
  silent stays lost = (refl, refl, refl, lost)
  silent (hears n wants front says later) lost = let wrong : want.Message ≡ want.OutOfMemory = sym wants ∙ lost in cc
  silent (rejects wants front says later) lost = let wrong : want.Message ≡ want.OutOfMemory = sym wants ∙ lost in cc
  silent (learns x wants fits says later) lost = absurd (subst (λ (w : Want). FitsWant w x.reply) (sym wants ∙ lost) fits)
  silent (loses x wants fits end later) lost = absurd (subst (λ (w : Want). FitsWant w x.reply) (sym wants ∙ lost) fits)
  silent (breaks end later) lost = silent later end

  -- ---- for whom sessions are

  wanted_admitted : (t : U) (w : Want) → outer.wants t ≡ w → opens_only (door t) w ≡ true
  wanted_admitted t w is = subst (λ (v : Want). opens_only (door t) v ≡ true) (sym (wants_is t) ∙ is) (admitted_there (door t) (k.wants (inner t)))

  pub admitted_heard : {t u : U} {bytes said rest : List ℕ} {xs : List Learnt} → Heard outer t bytes xs said rest u → AreAdmitted (door t) xs
  admitted_heard stays = tt
  admitted_heard {t = t} (hears {u = u} {said = saying} {xs = ys} n wants front says later) =
      subst (λ (d : Door). AreAdmitted d ys) (hears_is t u _ saying says).1 (admitted_heard later)
  admitted_heard {t = t} (rejects {u = u} {said = saying} {xs = ys} wants front says later) =
      subst (λ (d : Door). AreAdmitted d ys) (rejects_is t u saying says).1 (admitted_heard later)
  admitted_heard {t = t} (learns {u = u} {said = saying} {xs = ys} x wants fits says later) =
      (wanted_admitted t x.want wants, subst (λ (d : Door). AreAdmitted d ys) (learns_is t u x.reply saying says).1 (admitted_heard later))
  admitted_heard {t = t} (loses {xs = ys} x wants fits end later) =
      (wanted_admitted t x.want wants, subst (λ (l : List Learnt). AreAdmitted (door t) l) (sym (silent later end).0) tt)
  admitted_heard {t = t} (breaks {xs = ys} end later) = subst (λ (l : List Learnt). AreAdmitted (door t) l) (sym (silent later end).0) tt

  -- ---- at an open door

  own_wants : (t : U) (w : Want) → door t ≡ Anyone → outer.wants t ≡ w → k.wants (inner t) ≡ w
  own_wants t w free is = sym (open_there (door t) (k.wants (inner t)) free) ∙ sym (wants_is t) ∙ is

  -- memory was refused, and nothing more was heard
  lost_there : {u v : U} {bytes also rest : List ℕ} {ys : List Learnt} → Heard outer u bytes ys also rest v → outer.wants u ≡ want.OutOfMemory → door v ≡ Anyone
      → (k.wants (inner v) ≡ want.OutOfMemory) × (ys ≡ []) × (also ≡ []) × (rest ≡ bytes)
  lost_there {v = v} later end free = let none = silent later end in (own_wants v want.OutOfMemory free none.3, none.0, none.1, none.2)

  pub heard_alone : {t u : U} {bytes said rest : List ℕ} {xs : List Learnt} → Heard outer t bytes xs said rest u → door t ≡ Anyone → door u ≡ Anyone → Heard k (inner t) bytes xs said rest (inner u)
  heard_alone stays free last = stays
  heard_alone {t = t} (hears {u = u} {bytes = bytes} {said = saying} n wants front says later) free last =
      let it = hears_is t u (take n bytes) saying says in
      hears n (own_wants t want.Message free wants) (sym (front_is t bytes) ∙ front) (says_alone k (door t) (k.hears (inner t) (take n bytes)) saying (inner u) free it.0) (heard_alone later (it.1 ∙ free) last)
  heard_alone {t = t} (rejects {u = u} {bytes = bytes} {said = saying} wants front says later) free last =
      let it = rejects_is t u saying says in
      rejects (own_wants t want.Message free wants) (sym (front_is t bytes) ∙ front) (says_alone k (door t) (k.rejects (inner t)) saying (inner u) free it.0) (heard_alone later (it.1 ∙ free) last)
  heard_alone {t = t} (learns {u = u} {said = saying} x wants fits says later) free last =
      let it = learns_is t u x.reply saying says in
      learns x (own_wants t x.want free wants) fits (says_alone k (door t) (k.learns (inner t) x.reply) saying (inner u) free it.0) (heard_alone later (it.1 ∙ free) last)
  heard_alone {t = t} {u = v} {rest = rest} (loses {bytes = bytes} {also = also} {xs = ys} x wants fits end later) free last =
      let none = lost_there later end last in
      rw (none.1, none.2, none.3) (loses x (own_wants t x.want free wants) fits none.0 stays)
  heard_alone {t = t} {u = v} {rest = rest} (breaks {bytes = bytes} {also = also} {xs = ys} end later) free last =
      let none = lost_there later end last in
      rw (none.1, none.2, none.3) (breaks none.0 stays)
