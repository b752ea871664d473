-- PostgreSQL's protocol says one thing to the same bytes and replies.
use Rattle.std.proofs.Common.{◌≡◌, ◌∙◌, ℕ, List, ◌∷◌, [], refl, sym, ap, Result}
use Rattle.sql_types.specs.declared.state.SqlState.{SqlState}
use Rattle.sql_types.specs.declared.state.SqlState.TheVariants.{ProtocolViolation}
use Rattle.sql_lexer.specs.Lexeme.{Lexeme}
use Rattle.sql_lexer.specs.Lexing.{Lexes}
use Rattle.talks.specs.declared.talk.Talk.{Ghosts}
use Rattle.talks.specs.declared.want.Reply.{Reply}
use Rattle.postgres_talks.specs.declared.fault.TalkFault.TheVariants as fault
use Rattle.postgres_talks.specs.declared.moment.TalkMoment.{TalkMoment}
use Rattle.postgres_talks.specs.declared.requests.Request.{Request}
use Rattle.postgres_talks.specs.Moments.{after_reply, ends, first_moment, said_to_reply}
use Rattle.postgres_talks.specs.Requests.{after_request, said_to_request}
use Rattle.postgres_talks.specs.Sayings.{Saying, Says, fatal_said, said_bytes}
use Rattle.postgres_talks.specs.Talks.{HearsMessage, Learns, Rejects, front_of}
use Rattle.served_tenants.specs.Saying.{SpeaksOnce}
use Rattle.protocol_laws.proofs.OneRequest.{one_request}

said_once : (xs ys : List Saying) (said also : List ℕ) → xs ≡ ys → Says xs said → Says ys also → said ≡ also
said_once xs ys said also same one other = one.bytes ∙ ap said_bytes same ∙ sym other.bytes

rejected_once : (m k n o : TalkMoment) (said also : List ℕ) → m ≡ k → Rejects m said n → Rejects k also o → (said ≡ also) × (n ≡ o)
rejected_once m k n o said also same one other =
    (said_once (fatal_said (fault.Refused ProtocolViolation) ∷ []) (fatal_said (fault.Refused ProtocolViolation) ∷ []) said also refl one.says other.says, one.stands ∙ ap ends same ∙ sym other.stands)

learnt_once : (m k n o : TalkMoment) (r : Reply) (said also : List ℕ) → m ≡ k → Learns m r said n → Learns k r also o → (said ≡ also) × (n ≡ o)
learnt_once m k n o r said also same one other =
    (said_once (said_to_reply m r) (said_to_reply k r) said also (ap (λ (x : TalkMoment). said_to_reply x r) same) one.says other.says, one.stands ∙ ap (λ (x : TalkMoment). after_reply x r) same ∙ sym other.stands)

-- a text has one list of tokens
module _ (one_lexing : (text : List ℕ) (r s : Result (List Lexeme) SqlState) → Lexes text r → Lexes text s → r ≡ s) where
  heard_once : (m k n o : TalkMoment) (message said also : List ℕ) → m ≡ k → HearsMessage m message said n → HearsMessage k message also o → (said ≡ also) × (n ≡ o)
  heard_once m k n o message said also same one other =
      let asked : one.asked ≡ other.asked = one_request one_lexing m k message one.asked other.asked same one.is_asked other.is_asked in (
        said_once (said_to_request one.asked m) (said_to_request other.asked k) said also (ap (λ (r : Request). said_to_request r m) asked ∙ ap (said_to_request other.asked) same) one.says other.says,
        one.stands ∙ ap (λ (r : Request). after_request r m) asked ∙ ap (after_request other.asked) same ∙ sym other.stands,
      )

  module _ {U : Type 0} (d : Ghosts U) (moment_of : U → TalkMoment) (wants : (u : U) → d.wants u ≡ (moment_of u).want) (front : (u : U) (bytes : List ℕ) → d.front u bytes ≡ front_of (moment_of u).stage bytes)
      (hears : (u v : U) (message said : List ℕ) → d.hears u message said v → HearsMessage (moment_of u) message said (moment_of v))
      (rejects : (u v : U) (said : List ℕ) → d.rejects u said v → Rejects (moment_of u) said (moment_of v))
      (learns : (u v : U) (r : Reply) (said : List ℕ) → d.learns u r said v → Learns (moment_of u) r said (moment_of v)) where
    pub messages_once : SpeaksOnce d (λ t u. moment_of t ≡ moment_of u)
    messages_once = record {
      wants = λ t u alike. wants t ∙ ap (λ (m : TalkMoment). m.want) alike ∙ sym (wants u);
      front = λ t u bytes alike. front t bytes ∙ ap (λ (m : TalkMoment). front_of m.stage bytes) alike ∙ sym (front u bytes);
      hears = λ t u v w message said also alike one other. heard_once (moment_of t) (moment_of u) (moment_of v) (moment_of w) message said also alike (hears t v message said one) (hears u w message also other);
      rejects = λ t u v w said also alike one other. rejected_once (moment_of t) (moment_of u) (moment_of v) (moment_of w) said also alike (rejects t v said one) (rejects u w also other);
      learns = λ t u v w r said also alike one other. learnt_once (moment_of t) (moment_of u) (moment_of v) (moment_of w) r said also alike (learns t v r said one) (learns u w r also other);
    }

-- conversations whose clients are told one process begin alike
pub begun_alike : (process other : ℕ) (m n : TalkMoment) → m ≡ first_moment process → n ≡ first_moment other → m.process ≡ n.process → m ≡ n
begun_alike process other m n is it same =
    let numbers : process ≡ other = sym (ap (λ (x : TalkMoment). x.process) is) ∙ same ∙ ap (λ (x : TalkMoment). x.process) it in
    is ∙ ap first_moment numbers ∙ sym it
