-- A conversation that shows a password first says one thing to the same bytes and replies, where the one inside does.
use Rattle.std.proofs.Common.{◌≡◌, ◌∙◌, ℕ, Bool, true, false, List, refl, sym, ap, subst}
use Rattle.std.specs.Prelude.{if◌then◌else◌}
use Rattle.sql_types.specs.declared.state.SqlState.{SqlState}
use Rattle.sql_types.specs.declared.answer.Answer.TheVariants.{Refused}
use Rattle.talks.specs.declared.talk.MessageFront.{MessageFront}
use Rattle.talks.specs.declared.talk.Talk.{Ghosts}
use Rattle.talks.specs.declared.want.Want.{Want}
use Rattle.talks.specs.declared.want.Want.TheVariants as want
use Rattle.talks.specs.declared.want.Reply.{Reply}
use Rattle.talks.specs.declared.want.Reply.TheVariants as reply
use Rattle.password_talks.specs.declared.stage.LoginStage.{LoginStage}
use Rattle.password_talks.specs.declared.stage.LoginStage.TheVariants as stage
use Rattle.password_talks.specs.declared.login.Login.{Login}
use Rattle.password_talks.specs.declared.login.PasswordPlace.{PasswordPlace}
use Rattle.password_talks.specs.declared.password_talk.PasswordTalk.{PasswordTalk}
use Rattle.password_talks.specs.EarlyFrames.{early_front, early_frame}
use Rattle.password_talks.specs.LookUps.{is_as_shown, refusal}
use Rattle.password_talks.specs.Logins.{HearsAt, IsBadFrame, LearnsAt, is_admitted}
use Rattle.password_talks.specs.PasswordTalks.{HearsIf, HearsMessage, LearnsFirstIf, LearnsIf, LearnsInside, LearnsReply, OpensIf, RejectsIf, RejectsMessage, asks_first, front_at, front_if, wanted, wanted_inside}
use Rattle.served_tenants.specs.Saying.{SpeaksOnce}
use Rattle.protocol_laws.specs.Alike.{AreLoginsAlike, ArePasswordTalksAlike, DrewTheSame}
use Rattle.protocol_laws.proofs.OneLogin.{one_bad, one_heard, one_learnt}

-- ---- what is wanted

wanted_by : Bool → Want → Bool → Want → Want
wanted_by true own is_found inner = if asks_first is_found inner then own else inner
wanted_by false own is_found inner = own

by_its_want : (b : Bool) (l : Login) (is_found : Bool) (inner : Want) → wanted_inside b l is_found inner ≡ wanted_by b l.want is_found inner
unfolding wanted_by
by_its_want true l is_found inner = refl
by_its_want false l is_found inner = refl

wanted_alike : (l m : Login) (b c : Bool) (v w : Want) → l.stage ≡ m.stage → l.want ≡ m.want → b ≡ c → v ≡ w → wanted l b v ≡ wanted m c w
wanted_alike l m b c v w stages wants founds inners =
    by_its_want (is_admitted l.stage) l b v
    ∙ ap (λ (s : LoginStage). wanted_by (is_admitted s) l.want b v) stages
    ∙ ap (λ (x : Want). wanted_by (is_admitted m.stage) x b v) wants
    ∙ ap (λ (x : Bool). wanted_by (is_admitted m.stage) m.want x v) founds
    ∙ ap (wanted_by (is_admitted m.stage) m.want c) inners
    ∙ sym (by_its_want (is_admitted m.stage) m c w)

-- ---- exchanges that stay

module _ {T : Type 0} (k : Ghosts T) (Alike : T → T → Type 0) (speaks : SpeaksOnce k Alike) where
  abbrev AreOne : List ℕ → List ℕ → PasswordTalk T → PasswordTalk T → Type 0
  AreOne said also v w = (said ≡ also) × ArePasswordTalksAlike Alike v w

  same_logins : (l m n o : Login) → n ≡ l → AreLoginsAlike l m → o ≡ m → AreLoginsAlike n o
  same_logins l m n o is alike it = subst (λ (x : Login). AreLoginsAlike x o) (sym is) (subst (λ (x : Login). AreLoginsAlike l x) (sym it) alike)

  same_talks : (t u v w : T) → v ≡ t → Alike t u → w ≡ u → Alike v w
  same_talks t u v w is alike it = subst (λ (x : T). Alike x w) (sym is) (subst (λ (x : T). Alike t x) (sym it) alike)

  module _ (t u v w : PasswordTalk T) (said also : List ℕ) (alike : ArePasswordTalksAlike Alike t u) where
    -- the conversation inside says this
    by_the_talk : (said ≡ also) × Alike v.talk w.talk → v.login ≡ t.login → w.login ≡ u.login → v.is_found ≡ false → w.is_found ≡ false → AreOne said also v w
    by_the_talk talks is it none none_there = (talks.0, record { login = same_logins t.login u.login v.login w.login is alike.login it; is_found = none ∙ sym none_there; talk = talks.1 })

    -- the exchange does
    by_the_login : (said ≡ also) × AreLoginsAlike v.login w.login → v.talk ≡ t.talk → w.talk ≡ u.talk → v.is_found ≡ false → w.is_found ≡ false → AreOne said also v w
    by_the_login logins is it none none_there = (logins.0, record { login = logins.1; is_found = none ∙ sym none_there; talk = same_talks t.talk u.talk v.talk w.talk is alike.talk it })

    -- at the other's place, with its bytes drawn
    at_one : (P : PasswordPlace → List ℕ → Type 0) → P t.login.place t.login.drawn → P u.login.place u.login.drawn
    at_one P of = subst (λ (d : List ℕ). P u.login.place d) alike.login.1 (subst (λ (p : PasswordPlace). P p t.login.drawn) alike.login.0 of)

    heard_if : (b : Bool) (s : LoginStage) (message : List ℕ) → HearsIf k b s t message said v → HearsIf k b s u message also w → AreOne said also v w
    heard_if true s message one other = by_the_talk (speaks.hears t.talk u.talk v.talk w.talk message said also alike.talk one.0 other.0) one.1 other.1 one.2 other.2
    heard_if false s message one other =
        by_the_login (one_heard u.login.place u.login.drawn said also v.login w.login s (early_frame message) (at_one (λ p d. HearsAt s (early_frame message) p d said v.login) one.0) other.0) one.1 other.1 one.2 other.2

    pub heard_so : (message : List ℕ) → HearsMessage k t message said v → HearsMessage k u message also w → AreOne said also v w
    heard_so message one other = heard_if (is_admitted u.login.stage) u.login.stage message (subst (λ (s : LoginStage). HearsIf k (is_admitted s) s t message said v) alike.login.2 one) other

    rejected_if : (b : Bool) → RejectsIf k b t said v → RejectsIf k b u also w → AreOne said also v w
    rejected_if true one other = by_the_talk (speaks.rejects t.talk u.talk v.talk w.talk said also alike.talk one.0 other.0) one.1 other.1 one.2 other.2
    rejected_if false one other =
        by_the_login (one_bad u.login.place u.login.drawn said also v.login w.login (at_one (λ p d. IsBadFrame p d said v.login) one.0) other.0) one.1 other.1 one.2 other.2

    pub rejected_so : RejectsMessage k t said v → RejectsMessage k u also w → AreOne said also v w
    rejected_so one other = rejected_if (is_admitted u.login.stage) (subst (λ (s : LoginStage). RejectsIf k (is_admitted s) t said v) alike.login.2 one) other

    learnt_inside : (r : Reply) → LearnsInside k t r said v → LearnsInside k u r also w → AreOne said also v w
    learnt_inside r one other = by_the_talk (speaks.learns t.talk u.talk v.talk w.talk r said also alike.talk one.0 other.0) one.1 other.1 one.2 other.2

    opened_if : (b : Bool) (state : SqlState) → OpensIf k b state t said v → OpensIf k b state u also w → AreOne said also v w
    opened_if true state one other = (
      one.0 ∙ sym other.0,
      record { login = same_logins t.login u.login v.login w.login one.2 alike.login other.2; is_found = one.3 ∙ sym other.3; talk = same_talks t.talk u.talk v.talk w.talk one.1 alike.talk other.1 },
    )
    opened_if false state one other = learnt_inside (reply.Answer (Refused state)) one other

    learnt_first : (b : Bool) (s : LoginStage) (r : Reply) → LearnsFirstIf k b s t r said v → LearnsFirstIf k b s u r also w → AreOne said also v w
    learnt_first true s r one other =
        opened_if (is_as_shown s (k.wants u.talk) r) (refusal s (k.wants u.talk) r)
        (subst (λ (x : Want). OpensIf k (is_as_shown s x r) (refusal s x r) t said v) (speaks.wants t.talk u.talk alike.talk) one) other
    learnt_first false s r one other = learnt_inside r one other

    asked_alike : asks_first t.is_found (k.wants t.talk) ≡ asks_first u.is_found (k.wants u.talk)
    asked_alike = ap (λ (b : Bool). asks_first b (k.wants t.talk)) alike.is_found ∙ ap (asks_first u.is_found) (speaks.wants t.talk u.talk alike.talk)

    learnt_if : (b : Bool) (s : LoginStage) (r : Reply) → LearnsIf k b s t r said v → LearnsIf k b s u r also w → AreOne said also v w
    learnt_if true s r one other = learnt_first (asks_first u.is_found (k.wants u.talk)) s r (subst (λ (b : Bool). LearnsFirstIf k b s t r said v) asked_alike one) other
    learnt_if false s r one other =
        by_the_login (one_learnt u.login.place u.login.drawn said also v.login w.login s r (at_one (λ p d. LearnsAt s p d r said v.login) one.0) other.0) one.1 other.1 one.2 other.2

    pub learnt_so : (r : Reply) → LearnsReply k t r said v → LearnsReply k u r also w → AreOne said also v w
    learnt_so r one other = learnt_if (is_admitted u.login.stage) u.login.stage r (subst (λ (s : LoginStage). LearnsIf k (is_admitted s) s t r said v) alike.login.2 one) other

  module _ (d : Ghosts (PasswordTalk T)) (wants : (t : PasswordTalk T) → d.wants t ≡ wanted t.login t.is_found (k.wants t.talk))
      (front : (t : PasswordTalk T) (bytes : List ℕ) → d.front t bytes ≡ front_at k (is_admitted t.login.stage) t.talk bytes)
      (hears : (t u : PasswordTalk T) (message said : List ℕ) → d.hears t message said u → HearsMessage k t message said u)
      (rejects : (t u : PasswordTalk T) (said : List ℕ) → d.rejects t said u → RejectsMessage k t said u)
      (learns : (t u : PasswordTalk T) (r : Reply) (said : List ℕ) → d.learns t r said u → LearnsReply k t r said u) where
    pub passwords_once : SpeaksOnce d (ArePasswordTalksAlike Alike)
    passwords_once = record {
      wants = λ t u alike. wants t ∙ wanted_alike t.login u.login t.is_found u.is_found (k.wants t.talk) (k.wants u.talk) alike.login.2 alike.login.3 alike.is_found (speaks.wants t.talk u.talk alike.talk) ∙ sym (wants u);
      front = λ t u bytes alike.
          front t bytes ∙ ap (λ (s : LoginStage). front_at k (is_admitted s) t.talk bytes) alike.login.2
          ∙ ap (λ (f : MessageFront). front_if (is_admitted u.login.stage) f (early_front bytes)) (speaks.front t.talk u.talk bytes alike.talk) ∙ sym (front u bytes);
      hears = λ t u v w message said also alike one other. heard_so t u v w said also alike message (hears t v message said one) (hears u w message also other);
      rejects = λ t u v w said also alike one other. rejected_so t u v w said also alike (rejects t v said one) (rejects u w also other);
      learns = λ t u v w r said also alike one other. learnt_so t u v w said also alike r (learns t v r said one) (learns u w r also other);
    }

-- conversations for which the same was drawn, at one place, begin alike
pub begun_alike : {T : Type 0} (Alike : T → T → Type 0) (t u : PasswordTalk T) → t.login.stage ≡ stage.Silent → u.login.stage ≡ stage.Silent → t.login.want ≡ want.Message → u.login.want ≡ want.Message →
    t.is_found ≡ false → u.is_found ≡ false → DrewTheSame t u → Alike t.talk u.talk → ArePasswordTalksAlike Alike t u
begun_alike Alike t u silent silent_there wants wants_there none none_there drew talks =
    record { login = (drew.place, drew.drawn, silent ∙ sym silent_there, wants ∙ sym wants_there); is_found = none ∙ sym none_there; talk = talks }
