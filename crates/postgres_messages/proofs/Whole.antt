-- Whole messages: what is read is spelled by the bytes, and whatever is spelled is read.
use Rattle.std.proofs.Common.{◌≡◌, ℕ, ◌+◌, ◌^◌, ◌<◌, true, cond, eqb, List, [], ◌∷◌, ◌++◌, length, Option, Some, None, Result, Ok, Err, refl, sym, ap, subst, ◌∙◌, arith, inl, inr, eq-eqb}
use Rattle.std.specs.Int.{w32}
use Rattle.std.proofs.lemmas.Bool.{eqb-true}
use Rattle.std.proofs.lemmas.List.{length-append, append-nil}
use Rattle.postgres_messages.specs.declared.read_error.ReadError.{ReadError}
use Rattle.postgres_messages.specs.declared.read_error.ReadError.TheVariants as errors
use Rattle.postgres_messages.specs.declared.frontend.FrontendMessage.{FrontendMessage}
use Rattle.postgres_messages.specs.declared.kind.MessageKind.{MessageKind}
use Rattle.postgres_messages.specs.declared.kind.MessageKind.TheVariants as kind
use Rattle.postgres_messages.specs.Kind.{byte_of, kind_of}
use Rattle.postgres_messages.specs.Fields.{int32, string, value}
use Rattle.postgres_messages.specs.declared.sasl.SaslInitial.{SaslInitial}
use Rattle.postgres_messages.specs.Sasl.{TheInitial, SpellsInitial, initial_in, is_text_initial, viewed_initial, IsReadInitial}
use Rattle.postgres_messages.specs.Frontend.{TheMessage, the_kind, the_body, message_bytes, HasBody, SpellsMessage, is_text}
use Rattle.postgres_messages.specs.Reading.{◌>>=◌, number_at, string_at, value_at, ended, message_in, message_at}
use Rattle.postgres_messages.specs.Views.{viewed_message, GivesText}
use Rattle.postgres_messages.specs.Messages.{IsMessageRead}
use Rattle.postgres_messages.proofs.Parts.{IsBytes, IsBytes-rest, bind_some, chosen, some_is, ended_takes, number32, string_part, value_part}
use Rattle.postgres_messages.proofs.BodyLaws.{body_takes, body_again}

-- ---- kinds

told : (byte n : ℕ) (k c : MessageKind) (rest : Option MessageKind) → byte_of k ≡ n → (rest ≡ Some c → byte ≡ byte_of c) → cond (eqb byte n) (Some k) rest ≡ Some c → byte ≡ byte_of c
told byte n k c rest is other e = elim (chosen (eqb byte n) (Some k) rest (Some c) e) [
  | inl here ↦ eqb-true byte n here.0 ∙ sym is ∙ ap byte_of (some_is k c here.1)
  | inr there ↦ other there.1
]

pub kind_takes : (byte : ℕ) (k : MessageKind) → kind_of byte ≡ Some k → byte ≡ byte_of k
unfolding kind_of
kind_takes byte k =
    told byte 66 kind.Bind k _ refl (told byte 67 kind.Close k _ refl (told byte 100 kind.CopyData k _ refl (told byte 99 kind.CopyDone k _ refl
    (told byte 102 kind.CopyFail k _ refl (told byte 68 kind.Describe k _ refl (told byte 69 kind.Execute k _ refl (told byte 72 kind.Flush k _ refl
    (told byte 70 kind.FunctionCall k _ refl (told byte 80 kind.Parse k _ refl (told byte 112 kind.Password k _ refl (told byte 81 kind.Query k _ refl
    (told byte 83 kind.Sync k _ refl (told byte 88 kind.Terminate k None refl (λ (wrong : None ≡ Some k). absurd cc))))))))))))))

pub kind_again : (k : MessageKind) → kind_of (byte_of k) ≡ Some k
unfolding kind_of
kind_again kind.Bind = refl
kind_again kind.Close = refl
kind_again kind.CopyData = refl
kind_again kind.CopyDone = refl
kind_again kind.CopyFail = refl
kind_again kind.Describe = refl
kind_again kind.Execute = refl
kind_again kind.Flush = refl
kind_again kind.FunctionCall = refl
kind_again kind.Parse = refl
kind_again kind.Password = refl
kind_again kind.Query = refl
kind_again kind.Sync = refl
kind_again kind.Terminate = refl

-- ---- messages

pub message_takes : (bytes : List ℕ) (m : TheMessage) → IsBytes bytes → message_at bytes ≡ Some m → SpellsMessage bytes m
unfolding message_at
message_takes [] m fits e = absurd cc
message_takes (byte ∷ rest) m fits e =
    let a = bind_some (kind_of byte) (λ k. number_at w32 rest >>= λ n. cond (eqb n.0 (length rest)) (message_in k n.1) None) m e in
    let b = bind_some (number_at w32 rest) (λ n. cond (eqb n.0 (length rest)) (message_in a.0 n.1) None) m a.2 in
    let n = number32.takes rest b.0 (IsBytes-rest byte rest fits) b.1 in
    elim (chosen (eqb b.0.0 (length rest)) (message_in a.0 b.0.1) None (Some m) b.2) [
      | inl same ↦
          let is = body_takes a.0 b.0.1 m n.0.rest_fits same.1 in
          let size : b.0.0 ≡ length rest = eqb-true b.0.0 (length rest) same.0 in
          let long : length rest ≡ 4 + length b.0.1 = ap length n.0.parts ∙ length-append (int32 b.0.0) b.0.1 in
          let named : b.0.0 ≡ 4 + length (the_body m) = size ∙ long ∙ ap (λ (t : List ℕ). 4 + length t) is.body_is in
          let first : byte ≡ byte_of (the_kind m) = kind_takes byte a.0 a.1 ∙ ap byte_of (sym is.kind_is) in
          let behind : rest ≡ int32 (4 + length (the_body m)) ++ the_body m = n.0.parts ∙ ap (λ (k : ℕ). int32 k ++ b.0.1) named ∙ ap (λ (t : List ℕ). int32 (4 + length (the_body m)) ++ t) is.body_is in
          let whole : byte ∷ rest ≡ message_bytes m = ap (λ (c : ℕ). c ∷ rest) first ∙ ap (λ (t : List ℕ). byte_of (the_kind m) ∷ t) behind in
          record { bytes_are = whole; has_body = is.has_body; has_length = omega (arith, named, n.1) }
      | inr other ↦ absurd (let wrong : None ≡ Some m = other.1 in cc)
    ]

message_read : (m : TheMessage) → HasBody m → 4 + length (the_body m) < 2 ^ 32 → message_at (message_bytes m) ≡ Some m
unfolding message_at
message_read m fits lt =
    let number = number32.again (4 + length (the_body m)) (the_body m) lt in
    let size : length (int32 (4 + length (the_body m)) ++ the_body m) ≡ 4 + length (the_body m) = length-append (int32 (4 + length (the_body m))) (the_body m) in
    let same : eqb (4 + length (the_body m)) (length (int32 (4 + length (the_body m)) ++ the_body m)) ≡ true = eq-eqb (4 + length (the_body m)) (length (int32 (4 + length (the_body m)) ++ the_body m)) (sym size) in
    rw (kind_again (the_kind m), number, same) (body_again m fits)

pub message_again : (bytes : List ℕ) (m : TheMessage) → SpellsMessage bytes m → message_at bytes ≡ Some m
message_again bytes m is = ap message_at is.bytes_are ∙ message_read m is.has_body is.has_length

pub is_read : (bytes : List ℕ) (r : Result FrontendMessage ReadError) → IsBytes bytes → GivesText is_text viewed_message r (message_at bytes) → IsMessageRead bytes r
is_read bytes (Ok m) fits told = (message_takes bytes (viewed_message m) fits told.0, told.1)
is_read bytes (Err errors.Memory) fits told = tt
is_read bytes (Err errors.Malformed) fits told = λ m is. let wrong : None ≡ Some m = sym told ∙ message_again bytes m is in cc
is_read bytes (Err errors.NotText) fits told = (told.0, message_takes bytes told.0 fits told.1, told.2)

pub one_message : (bytes : List ℕ) (m n : TheMessage) → SpellsMessage bytes m → SpellsMessage bytes n → m ≡ n
one_message bytes m n p q = some_is m n (sym (message_again bytes m p) ∙ message_again bytes n q)

-- ---- SASLInitialResponse

abbrev the_initial : List ℕ → Option (List ℕ) → TheInitial
the_initial m r = record { mechanism = m; response = r }

initial_takes : (body : List ℕ) (i : TheInitial) → IsBytes body → initial_in body ≡ Some i → SpellsInitial body i
unfolding initial_in
initial_takes body i fits e =
    let a = bind_some (string_at body) (λ m. value_at m.1 >>= λ r. ended r.1 (the_initial m.0 r.0)) i e in
    let b = bind_some (value_at a.0.1) (λ r. ended r.1 (the_initial a.0.0 r.0)) i a.2 in
    let end = ended_takes b.0.1 (the_initial a.0.0 b.0.0) i b.2 in
    let m = string_part.takes body a.0 fits a.1 in
    let r = value_part.takes a.0.1 b.0 m.0.rest_fits b.1 in
    let last : a.0.1 ≡ value b.0.0 = r.0.parts ∙ ap (λ (t : List ℕ). value b.0.0 ++ t) end.0 ∙ append-nil (value b.0.0) in
    let made : SpellsInitial body (the_initial a.0.0 b.0.0) = record { body_is = m.0.parts ∙ ap (λ (t : List ℕ). string a.0.0 ++ t) last; mechanism = m.1; response = r.1 } in
    subst (SpellsInitial body) end.1 made

initial_again : (body : List ℕ) (i : TheInitial) → SpellsInitial body i → initial_in body ≡ Some i
unfolding initial_in
initial_again body i is =
    let last : value_at (value i.response) ≡ Some (i.response, []) = ap value_at (sym (append-nil (value i.response))) ∙ value_part.again i.response [] is.response in
    ap initial_in is.body_is ∙ rw (string_part.again i.mechanism (value i.response) is.mechanism, last) refl

pub is_read_initial : (body : List ℕ) (r : Result SaslInitial ReadError) → IsBytes body → GivesText is_text_initial viewed_initial r (initial_in body) → IsReadInitial body r
is_read_initial body (Ok i) fits told = (initial_takes body (viewed_initial i) fits told.0, told.1)
is_read_initial body (Err errors.Memory) fits told = tt
is_read_initial body (Err errors.Malformed) fits told = λ i is. let wrong : None ≡ Some i = sym told ∙ initial_again body i is in cc
is_read_initial body (Err errors.NotText) fits told = (told.0, initial_takes body told.0 fits told.1, told.2)
