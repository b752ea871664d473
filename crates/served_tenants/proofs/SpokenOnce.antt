-- Protocols whose conversations go alike.
use Rattle.std.proofs.Common.{◌≡◌, ◌∙◌, ℕ, Bool, true, false, List, ◌++◌, sym, ap, subst}
use Rattle.talks.specs.declared.talk.Talk.{Ghosts}
use Rattle.talks.specs.declared.want.Want.{Want}
use Rattle.talks.specs.declared.want.Want.TheVariants as want
use Rattle.talks.specs.declared.want.Reply.{Reply}
use Rattle.wire.specs.Frame.{NextFrame, incomplete, bad, whole, next_frame}
use Rattle.frame_talks.specs.FrameTalks.{front_of, HearsFrame, RefusesFrame, asked_session, said_to}
use Rattle.doors.specs.declared.door.Door.{Door}
use Rattle.doors.specs.Doors.{opens_only, wanted_at}
use Rattle.doors.specs.DoorTalks.{TurnsOthersAway, stays, is_turned_away, turned_away, SaysThen}
use Rattle.served_tenants.specs.Saying.{SpeaksOnce}

-- ---- frames

refused_once : (said also : List ℕ) (v w : Want) → RefusesFrame said v → RefusesFrame also w → (said ≡ also) × (v ≡ w)
refused_once said also v w one other = (one.0 ∙ sym other.0, one.1 ∙ sym other.1)

heard_once : (f : NextFrame) (said also : List ℕ) (v w : Want) → HearsFrame f said v → HearsFrame f also w → (said ≡ also) × (v ≡ w)
heard_once incomplete said also v w one other = refused_once said also v w one other
heard_once bad said also v w one other = refused_once said also v w one other
heard_once (whole e size) said also v w one other = (one.0 ∙ sym other.0, one.1 ∙ sym other.1)

module _ {U : Type 0} (d : Ghosts U) (want_of : U → Want) (wants : (u : U) → d.wants u ≡ want_of u) (front : (u : U) (bytes : List ℕ) → d.front u bytes ≡ front_of (next_frame bytes))
    (hears : (u v : U) (message said : List ℕ) → d.hears u message said v → HearsFrame (next_frame message) said (want_of v))
    (rejects : (u v : U) (said : List ℕ) → d.rejects u said v → RefusesFrame said (want_of v))
    (learns : (u v : U) (r : Reply) (said : List ℕ) → d.learns u r said v → (said ≡ said_to (asked_session (want_of u)) r) × (want_of v ≡ want.Message)) where
  pub frames_once : SpeaksOnce d (λ t u. want_of t ≡ want_of u)
  frames_once = record {
    wants = λ t u alike. wants t ∙ alike ∙ sym (wants u);
    front = λ t u bytes alike. front t bytes ∙ sym (front u bytes);
    hears = λ t u v w message said also alike one other. heard_once (next_frame message) said also (want_of v) (want_of w) (hears t v message said one) (hears u w message also other);
    rejects = λ t u v w said also alike one other. refused_once said also (want_of v) (want_of w) (rejects t v said one) (rejects u w also other);
    learns = λ t u v w r said also alike one other.
        let here = learns t v r said one in
        let there = learns u w r also other in
        (here.0 ∙ ap (λ (x : Want). said_to (asked_session x) r) alike ∙ sym there.0, here.1 ∙ sym there.1);
  }

-- ---- doors

module _ {T : Type 0} (k : Ghosts T) (Alike : T → T → Type 0) (speaks : SpeaksOnce k Alike) where
  clash : {X : Type 0} (b : Bool) → b ≡ true → b ≡ false → X
  clash b on off = let contrary : true ≡ false = sym on ∙ off in cc

  -- at one door
  turned_once : (door : Door) (t u v w : T) (said also : List ℕ) → Alike t u → TurnsOthersAway k door t said v → TurnsOthersAway k door u also w → (said ≡ also) × Alike v w
  turned_once door t u v w said also alike (stays admitted none same) (stays admitted_there none_there same_there) =
      (none ∙ sym none_there, subst (λ (x : T). Alike x w) (sym same) (subst (λ (x : T). Alike t x) (sym same_there) alike))
  turned_once door t u v w said also alike (stays admitted none same) (is_turned_away shut says) =
      clash (opens_only door (k.wants u)) (ap (opens_only door) (sym (speaks.wants t u alike)) ∙ admitted) shut
  turned_once door t u v w said also alike (is_turned_away shut says) (stays admitted none same) =
      clash (opens_only door (k.wants u)) admitted (ap (opens_only door) (sym (speaks.wants t u alike)) ∙ shut)
  turned_once door t u v w said also alike (is_turned_away shut says) (is_turned_away shut_there says_there) = speaks.learns t u v w turned_away said also alike says says_there

  then_once : (door other : Door) (does beyond : List ℕ → T → Type 0) (said also : List ℕ) (v w : T) → door ≡ other → ((s r : List ℕ) (x y : T) → does s x → beyond r y → (s ≡ r) × Alike x y) →
      SaysThen k door does said v → SaysThen k other beyond also w → (said ≡ also) × Alike v w
  then_once door other does beyond said also v w same step one two =
      let first = step one.first two.first one.mid two.mid one.done two.done in
      let second = turned_once door one.mid two.mid v w one.second two.second first.1 one.turns_away (subst (λ (x : Door). TurnsOthersAway k x two.mid two.second w) (sym same) two.turns_away) in
      (one.said_is ∙ ap (λ (l : List ℕ). l ++ one.second) first.0 ∙ ap (λ (l : List ℕ). two.first ++ l) second.0 ∙ sym two.said_is, second.1)

  module _ {U : Type 0} (d : Ghosts U) (door_of : U → Door) (talk_of : U → T) (wants : (u : U) → d.wants u ≡ wanted_at (door_of u) (k.wants (talk_of u))) (front : (u : U) (bytes : List ℕ) → d.front u bytes ≡ k.front (talk_of u) bytes)
      (hears : (u v : U) (message said : List ℕ) → d.hears u message said v → SaysThen k (door_of u) (k.hears (talk_of u) message) said (talk_of v) × (door_of v ≡ door_of u))
      (rejects : (u v : U) (said : List ℕ) → d.rejects u said v → SaysThen k (door_of u) (k.rejects (talk_of u)) said (talk_of v) × (door_of v ≡ door_of u))
      (learns : (u v : U) (r : Reply) (said : List ℕ) → d.learns u r said v → SaysThen k (door_of u) (k.learns (talk_of u) r) said (talk_of v) × (door_of v ≡ door_of u)) where
    abbrev AtOneDoor : U → U → Type 0
    AtOneDoor t u = (door_of t ≡ door_of u) × Alike (talk_of t) (talk_of u)

    stand_so : (t u v w : U) (said also : List ℕ) → AtOneDoor t u → door_of v ≡ door_of t → door_of w ≡ door_of u → (said ≡ also) × Alike (talk_of v) (talk_of w) → (said ≡ also) × AtOneDoor v w
    stand_so t u v w said also alike here there both = (both.0, (here ∙ alike.0 ∙ sym there, both.1))

    pub doors_once : SpeaksOnce d AtOneDoor
    doors_once = record {
      wants = λ t u alike. wants t ∙ ap (λ (x : Door). wanted_at x (k.wants (talk_of t))) alike.0 ∙ ap (λ (x : Want). wanted_at (door_of u) x) (speaks.wants (talk_of t) (talk_of u) alike.1) ∙ sym (wants u);
      front = λ t u bytes alike. front t bytes ∙ speaks.front (talk_of t) (talk_of u) bytes alike.1 ∙ sym (front u bytes);
      hears = λ t u v w message said also alike one other.
          let here = hears t v message said one in
          let there = hears u w message also other in
          stand_so t u v w said also alike here.1 there.1
          (then_once (door_of t) (door_of u) (k.hears (talk_of t) message) (k.hears (talk_of u) message) said also (talk_of v) (talk_of w) alike.0 (λ s r x y. speaks.hears (talk_of t) (talk_of u) x y message s r alike.1) here.0 there.0);
      rejects = λ t u v w said also alike one other.
          let here = rejects t v said one in
          let there = rejects u w also other in
          stand_so t u v w said also alike here.1 there.1
          (then_once (door_of t) (door_of u) (k.rejects (talk_of t)) (k.rejects (talk_of u)) said also (talk_of v) (talk_of w) alike.0 (λ s r x y. speaks.rejects (talk_of t) (talk_of u) x y s r alike.1) here.0 there.0);
      learns = λ t u v w r said also alike one other.
          let here = learns t v r said one in
          let there = learns u w r also other in
          stand_so t u v w said also alike here.1 there.1
          (then_once (door_of t) (door_of u) (k.learns (talk_of t) r) (k.learns (talk_of u) r) said also (talk_of v) (talk_of w) alike.0 (λ s q x y. speaks.learns (talk_of t) (talk_of u) x y r s q alike.1) here.0 there.0);
    }
