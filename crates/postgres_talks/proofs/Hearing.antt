-- What is said at once, behind what goes out.
use Rattle.std.proofs.Common.{◌≡◌, ◌∙◌, ℕ, List, [], ◌∷◌, ◌++◌, Option, ap, subst}
use Rattle.sql_types.specs.declared.state.SqlState.TheVariants.{ProtocolViolation}
use Rattle.talks.specs.declared.want.Reply.{Reply}
use Rattle.postgres_talks.specs.declared.fault.TalkFault.{TalkFault}
use Rattle.postgres_talks.specs.declared.fault.TalkFault.TheVariants as fault
use Rattle.postgres_talks.specs.declared.moment.TalkMoment.{TalkMoment}
use Rattle.postgres_talks.specs.declared.requests.Request.{Request}
use Rattle.postgres_talks.specs.Moments.{after_reply, ends, said_to_reply}
use Rattle.postgres_talks.specs.Requests.{IsRequest, after_unless, fault_of, heeded, said_to_request, said_unless}
use Rattle.postgres_talks.specs.Sayings.{Puts, Saying, fatal_said}
use Rattle.postgres_talks.specs.Talks.{HearsMessage, Learns, Rejects}
use Rattle.postgres_talks.proofs.Putting.{says_all}

-- behind nothing
at_first : (sayings : List Saying) (first new : List ℕ) → first ≡ [] → Puts sayings first new → Puts sayings [] new
at_first sayings first new none puts = subst (λ (b : List ℕ). Puts sayings b new) none puts

pub heard_so : (m n : TalkMoment) (bytes first new old out : List ℕ) (r h : Request) (f : Option TalkFault) → IsRequest m bytes r → h ≡ heeded m.mode r → f ≡ fault_of h m
    → first ≡ [] → Puts (said_unless f h) first new → n ≡ after_unless f h m → out ≡ old ++ new → (said : List ℕ) × HearsMessage m bytes said n × (out ≡ old ++ said)
heard_so m n bytes first new old out r h f is_asked heeds fails none puts stands sent =
    let by_fault : Puts (said_unless (fault_of h m) h) first new = subst (λ (o : Option TalkFault). Puts (said_unless o h) first new) fails puts in
    let said : Puts (said_to_request r m) first new = subst (λ (q : Request). Puts (said_unless (fault_of q m) q) first new) heeds by_fault in (
      new,
      record {
        asked = r;
        is_asked = is_asked;
        says = says_all (said_to_request r m) new (at_first (said_to_request r m) first new none said);
        stands = stands ∙ ap (λ (o : Option TalkFault). after_unless o h m) fails ∙ ap (λ (q : Request). after_unless (fault_of q m) q m) heeds;
      },
      sent,
    )

pub rejected_so : (m n : TalkMoment) (first new old out : List ℕ) → first ≡ [] → Puts (fatal_said (fault.Refused ProtocolViolation) ∷ []) first new → n ≡ ends m → out ≡ old ++ new
    → (said : List ℕ) × Rejects m said n × (out ≡ old ++ said)
rejected_so m n first new old out none puts stands sent =
    let all = fatal_said (fault.Refused ProtocolViolation) ∷ [] in
    (new, record { says = says_all all new (at_first all first new none puts); stands = stands }, sent)

pub learnt_so : (m n : TalkMoment) (r : Reply) (first new old out : List ℕ) → first ≡ [] → Puts (said_to_reply m r) first new → n ≡ after_reply m r → out ≡ old ++ new
    → (said : List ℕ) × Learns m r said n × (out ≡ old ++ said)
learnt_so m n r first new old out none puts stands sent =
    (new, record { says = says_all (said_to_reply m r) new (at_first (said_to_reply m r) first new none puts); stands = stands }, sent)
