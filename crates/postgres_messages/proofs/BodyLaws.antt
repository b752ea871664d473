-- A body that is read is the body that was written, and what was written is read again.
use Rattle.std.proofs.Common.{◌≡◌, ℕ, ◌^◌, ◌<◌, cond, eqb, List, [], ◌∷◌, ◌++◌, length, Option, Some, None, refl, sym, ap, subst, ◌∙◌, inl, inr}
use Rattle.std.specs.Int.{w16, w32}
use Rattle.std.proofs.lemmas.Bool.{eqb-true}
use Rattle.std.proofs.lemmas.List.{append-nil, nil_from_length}
use Rattle.postgres_messages.specs.declared.kind.MessageKind.{MessageKind}
use Rattle.postgres_messages.specs.declared.kind.MessageKind.TheVariants as kind
use Rattle.postgres_messages.specs.Fields.{int16, int32, string, HasNoZeroByte, value, HasShortValue, counted, AreCounted}
use Rattle.postgres_messages.specs.Frontend.{TheTarget, statement, portal, TheBinding, TheMessage, bind, close, copy_data, copy_done, copy_fail, describe, execute, flush, function_call, parse, password, query, sync, terminate, the_kind, the_body, target, binding, HasObjectName, IsBinding, HasBody}
use Rattle.postgres_messages.specs.Reading.{◌>>=◌, number_at, string_at, value_at, counted_at, ended, named_target, target_at, binding_at, bind_in, execute_in, parse_in, query_in, close_in, describe_in, message_in}
use Rattle.postgres_messages.proofs.Parts.{IsBytes, IsBytes-rest, bind_some, kept_some, some_is, chosen, ended_takes, Takes, IsPart, number16, number32, string_part, value_part, counted_part}

formats_part : IsPart (counted_at (number_at w16)) (counted int16) (AreCounted (λ n. n < 2 ^ 16))
formats_part = counted_part (number_at w16) int16 (λ n. n < 2 ^ 16) number16

types_part : IsPart (counted_at (number_at w32)) (counted int32) (AreCounted (λ n. n < 2 ^ 32))
types_part = counted_part (number_at w32) int32 (λ n. n < 2 ^ 32) number32

values_part : IsPart (counted_at value_at) (counted value) (AreCounted HasShortValue)
values_part = counted_part value_at value HasShortValue value_part

-- where nothing follows, the parts are the body
none_behind : (bytes text rest : List ℕ) → Takes bytes text rest → rest ≡ [] → bytes ≡ text
none_behind bytes text rest t none = t.parts ∙ ap (λ (r : List ℕ). text ++ r) none ∙ append-nil text

before : (text rest other : List ℕ) → rest ≡ other → text ++ rest ≡ text ++ other
before text rest other e = ap (λ (r : List ℕ). text ++ r) e

-- ---- what Describe and Close are about

named_takes : (byte : ℕ) (name rest : List ℕ) (t : TheTarget) → HasNoZeroByte name → rest ≡ string name → named_target byte name ≡ Some t → (byte ∷ rest ≡ target t) × HasObjectName t
named_takes byte name rest t fits is e = elim (chosen (eqb byte 83) (Some (statement name)) (cond (eqb byte 80) (Some (portal name)) None) (Some t) e) [
  | inl s ↦ subst (λ (u : TheTarget). (byte ∷ rest ≡ target u) × HasObjectName u) (some_is (statement name) t s.1) (rw (eqb-true byte 83 s.0, is) refl, fits)
  | inr other ↦
      let p = kept_some (eqb byte 80) (portal name) t other.1 in
      subst (λ (u : TheTarget). (byte ∷ rest ≡ target u) × HasObjectName u) p.1 (rw (eqb-true byte 80 p.0, is) refl, fits)
]

target_takes : (body : List ℕ) (t : TheTarget) → IsBytes body → target_at body ≡ Some t → (body ≡ target t) × HasObjectName t
unfolding target_at
target_takes [] t fits e = absurd cc
target_takes (byte ∷ rest) t fits e =
    let a = bind_some (string_at rest) (λ name. cond (eqb (length name.1) 0) (named_target byte name.0) None) t e in
    let s = string_part.takes rest a.0 (IsBytes-rest byte rest fits) a.1 in
    elim (chosen (eqb (length a.0.1) 0) (named_target byte a.0.0) None (Some t) a.2) [
      | inl end ↦ named_takes byte a.0.0 rest t s.1 (none_behind rest (string a.0.0) a.0.1 s.0 (nil_from_length a.0.1 (eqb-true (length a.0.1) 0 end.0))) end.1
      | inr more ↦ absurd (let wrong : None ≡ Some t = more.1 in cc)
    ]

string_alone : (text : List ℕ) → HasNoZeroByte text → string_at (string text) ≡ Some (text, [])
string_alone text fits = ap string_at (sym (append-nil (string text))) ∙ string_part.again text [] fits

target_again : (t : TheTarget) → HasObjectName t → target_at (target t) ≡ Some t
unfolding target_at
target_again (statement name) fits = rw (string_alone name fits) refl
target_again (portal name) fits = rw (string_alone name fits) refl

-- ---- formats, values and result formats

binding_takes : (bytes : List ℕ) (b : TheBinding) → IsBytes bytes → binding_at bytes ≡ Some b → (bytes ≡ binding b) × IsBinding b
unfolding binding_at
binding_takes bytes b fits e =
    let x = bind_some (counted_at (number_at w16) bytes) (λ f. counted_at value_at f.1 >>= λ v. counted_at (number_at w16) v.1 >>= λ r. ended r.1 (record { formats = f.0; values = v.0; results = r.0 })) b e in
    let y = bind_some (counted_at value_at x.0.1) (λ v. counted_at (number_at w16) v.1 >>= λ r. ended r.1 (record { formats = x.0.0; values = v.0; results = r.0 })) b x.2 in
    let z = bind_some (counted_at (number_at w16) y.0.1) (λ r. ended r.1 (record { formats = x.0.0; values = y.0.0; results = r.0 })) b y.2 in
    let made : TheBinding = record { formats = x.0.0; values = y.0.0; results = z.0.0 } in
    let end = ended_takes z.0.1 made b z.2 in
    let f = formats_part.takes bytes x.0 fits x.1 in
    let v = values_part.takes x.0.1 y.0 f.0.rest_fits y.1 in
    let r = formats_part.takes y.0.1 z.0 v.0.rest_fits z.1 in
    let last : y.0.1 ≡ counted int16 z.0.0 = none_behind y.0.1 (counted int16 z.0.0) z.0.1 r.0 end.0 in
    let middle : x.0.1 ≡ counted value y.0.0 ++ counted int16 z.0.0 = v.0.parts ∙ before (counted value y.0.0) y.0.1 (counted int16 z.0.0) last in
    let whole : bytes ≡ binding made = f.0.parts ∙ before (counted int16 x.0.0) x.0.1 (counted value y.0.0 ++ counted int16 z.0.0) middle in
    let form : IsBinding made = record { formats = f.1; values = v.1; results = r.1 } in
    subst (λ (c : TheBinding). (bytes ≡ binding c) × IsBinding c) end.1 (whole, form)

binding_again : (b : TheBinding) → IsBinding b → binding_at (binding b) ≡ Some b
unfolding binding_at
binding_again b fits =
    let last : counted_at (number_at w16) (counted int16 b.results) ≡ Some (b.results, []) = ap (counted_at (number_at w16)) (sym (append-nil (counted int16 b.results))) ∙ formats_part.again b.results [] fits.results in
    rw (formats_part.again b.formats (counted value b.values ++ counted int16 b.results) fits.formats, values_part.again b.values (counted int16 b.results) fits.values, last) refl

-- ---- messages by their kinds

-- the body is that of this message, which is of this kind
pub record IsBodyOf (k : MessageKind) (body : List ℕ) (m : TheMessage) : Type 0 where
  pub kind_is : the_kind m ≡ k
  pub body_is : body ≡ the_body m
  pub has_body : HasBody m

bind_takes : (body : List ℕ) (m : TheMessage) → IsBytes body → bind_in body ≡ Some m → IsBodyOf kind.Bind body m
unfolding bind_in
bind_takes body m fits e =
    let a = bind_some (string_at body) (λ p. string_at p.1 >>= λ s. binding_at s.1 >>= λ b. Some (bind p.0 s.0 b)) m e in
    let b = bind_some (string_at a.0.1) (λ s. binding_at s.1 >>= λ b. Some (bind a.0.0 s.0 b)) m a.2 in
    let c = bind_some (binding_at b.0.1) (λ x. Some (bind a.0.0 b.0.0 x)) m b.2 in
    let p = string_part.takes body a.0 fits a.1 in
    let s = string_part.takes a.0.1 b.0 p.0.rest_fits b.1 in
    let x = binding_takes b.0.1 c.0 s.0.rest_fits c.1 in
    let middle : a.0.1 ≡ string b.0.0 ++ binding c.0 = s.0.parts ∙ before (string b.0.0) b.0.1 (binding c.0) x.0 in
    let whole : body ≡ string a.0.0 ++ (string b.0.0 ++ binding c.0) = p.0.parts ∙ before (string a.0.0) a.0.1 (string b.0.0 ++ binding c.0) middle in
    let made : IsBodyOf kind.Bind body (bind a.0.0 b.0.0 c.0) = record { kind_is = refl; body_is = whole; has_body = (p.1, s.1, x.1) } in
    subst (IsBodyOf kind.Bind body) (some_is (bind a.0.0 b.0.0 c.0) m c.2) made

execute_takes : (body : List ℕ) (m : TheMessage) → IsBytes body → execute_in body ≡ Some m → IsBodyOf kind.Execute body m
unfolding execute_in
execute_takes body m fits e =
    let a = bind_some (string_at body) (λ p. number_at w32 p.1 >>= λ n. ended n.1 (execute p.0 n.0)) m e in
    let b = bind_some (number_at w32 a.0.1) (λ n. ended n.1 (execute a.0.0 n.0)) m a.2 in
    let end = ended_takes b.0.1 (execute a.0.0 b.0.0) m b.2 in
    let p = string_part.takes body a.0 fits a.1 in
    let n = number32.takes a.0.1 b.0 p.0.rest_fits b.1 in
    let last : a.0.1 ≡ int32 b.0.0 = none_behind a.0.1 (int32 b.0.0) b.0.1 n.0 end.0 in
    let made : IsBodyOf kind.Execute body (execute a.0.0 b.0.0) = record { kind_is = refl; body_is = p.0.parts ∙ before (string a.0.0) a.0.1 (int32 b.0.0) last; has_body = (p.1, n.1) } in
    subst (IsBodyOf kind.Execute body) end.1 made

parse_takes : (body : List ℕ) (m : TheMessage) → IsBytes body → parse_in body ≡ Some m → IsBodyOf kind.Parse body m
unfolding parse_in
parse_takes body m fits e =
    let a = bind_some (string_at body) (λ s. string_at s.1 >>= λ t. counted_at (number_at w32) t.1 >>= λ types. ended types.1 (parse s.0 t.0 types.0)) m e in
    let b = bind_some (string_at a.0.1) (λ t. counted_at (number_at w32) t.1 >>= λ types. ended types.1 (parse a.0.0 t.0 types.0)) m a.2 in
    let c = bind_some (counted_at (number_at w32) b.0.1) (λ types. ended types.1 (parse a.0.0 b.0.0 types.0)) m b.2 in
    let end = ended_takes c.0.1 (parse a.0.0 b.0.0 c.0.0) m c.2 in
    let s = string_part.takes body a.0 fits a.1 in
    let t = string_part.takes a.0.1 b.0 s.0.rest_fits b.1 in
    let types = types_part.takes b.0.1 c.0 t.0.rest_fits c.1 in
    let last : b.0.1 ≡ counted int32 c.0.0 = none_behind b.0.1 (counted int32 c.0.0) c.0.1 types.0 end.0 in
    let middle : a.0.1 ≡ string b.0.0 ++ counted int32 c.0.0 = t.0.parts ∙ before (string b.0.0) b.0.1 (counted int32 c.0.0) last in
    let whole : body ≡ string a.0.0 ++ (string b.0.0 ++ counted int32 c.0.0) = s.0.parts ∙ before (string a.0.0) a.0.1 (string b.0.0 ++ counted int32 c.0.0) middle in
    let made : IsBodyOf kind.Parse body (parse a.0.0 b.0.0 c.0.0) = record { kind_is = refl; body_is = whole; has_body = (s.1, t.1, types.1) } in
    subst (IsBodyOf kind.Parse body) end.1 made

query_takes : (body : List ℕ) (m : TheMessage) → IsBytes body → query_in body ≡ Some m → IsBodyOf kind.Query body m
unfolding query_in
query_takes body m fits e =
    let a = bind_some (string_at body) (λ t. ended t.1 (query t.0)) m e in
    let end = ended_takes a.0.1 (query a.0.0) m a.2 in
    let t = string_part.takes body a.0 fits a.1 in
    let made : IsBodyOf kind.Query body (query a.0.0) = record { kind_is = refl; body_is = none_behind body (string a.0.0) a.0.1 t.0 end.0; has_body = t.1 } in
    subst (IsBodyOf kind.Query body) end.1 made

close_takes : (body : List ℕ) (m : TheMessage) → IsBytes body → close_in body ≡ Some m → IsBodyOf kind.Close body m
unfolding close_in
close_takes body m fits e =
    let a = bind_some (target_at body) (λ t. Some (close t)) m e in
    let t = target_takes body a.0 fits a.1 in
    let made : IsBodyOf kind.Close body (close a.0) = record { kind_is = refl; body_is = t.0; has_body = t.1 } in
    subst (IsBodyOf kind.Close body) (some_is (close a.0) m a.2) made

describe_takes : (body : List ℕ) (m : TheMessage) → IsBytes body → describe_in body ≡ Some m → IsBodyOf kind.Describe body m
unfolding describe_in
describe_takes body m fits e =
    let a = bind_some (target_at body) (λ t. Some (describe t)) m e in
    let t = target_takes body a.0 fits a.1 in
    let made : IsBodyOf kind.Describe body (describe a.0) = record { kind_is = refl; body_is = t.0; has_body = t.1 } in
    subst (IsBodyOf kind.Describe body) (some_is (describe a.0) m a.2) made

as_it_stands : (k : MessageKind) (body : List ℕ) (x m : TheMessage) → IsBodyOf k body x → Some x ≡ Some m → IsBodyOf k body m
as_it_stands k body x m is e = subst (IsBodyOf k body) (some_is x m e) is

without_body : (k : MessageKind) (body : List ℕ) (x m : TheMessage) → IsBodyOf k [] x → ended body x ≡ Some m → IsBodyOf k body m
without_body k body x m is e =
    let end = ended_takes body x m e in
    subst (IsBodyOf k body) end.1 (subst (λ (b : List ℕ). IsBodyOf k b x) (sym end.0) is)

pub body_takes : (k : MessageKind) (body : List ℕ) (m : TheMessage) → IsBytes body → message_in k body ≡ Some m → IsBodyOf k body m
unfolding message_in
body_takes kind.Bind body m fits e = bind_takes body m fits e
body_takes kind.Close body m fits e = close_takes body m fits e
body_takes kind.CopyData body m fits e = as_it_stands kind.CopyData body (copy_data body) m (record { kind_is = refl; body_is = refl; has_body = tt }) e
body_takes kind.CopyDone body m fits e = as_it_stands kind.CopyDone body (copy_done body) m (record { kind_is = refl; body_is = refl; has_body = tt }) e
body_takes kind.CopyFail body m fits e = as_it_stands kind.CopyFail body (copy_fail body) m (record { kind_is = refl; body_is = refl; has_body = tt }) e
body_takes kind.Describe body m fits e = describe_takes body m fits e
body_takes kind.Execute body m fits e = execute_takes body m fits e
body_takes kind.Flush body m fits e = without_body kind.Flush body flush m (record { kind_is = refl; body_is = refl; has_body = tt }) e
body_takes kind.FunctionCall body m fits e = as_it_stands kind.FunctionCall body (function_call body) m (record { kind_is = refl; body_is = refl; has_body = tt }) e
body_takes kind.Parse body m fits e = parse_takes body m fits e
body_takes kind.Password body m fits e = as_it_stands kind.Password body (password body) m (record { kind_is = refl; body_is = refl; has_body = tt }) e
body_takes kind.Query body m fits e = query_takes body m fits e
body_takes kind.Sync body m fits e = without_body kind.Sync body sync m (record { kind_is = refl; body_is = refl; has_body = tt }) e
body_takes kind.Terminate body m fits e = without_body kind.Terminate body terminate m (record { kind_is = refl; body_is = refl; has_body = tt }) e

pub body_again : (m : TheMessage) → HasBody m → message_in (the_kind m) (the_body m) ≡ Some m
unfolding message_in bind_in execute_in parse_in query_in close_in describe_in
body_again (bind p s b) fits = rw (string_part.again p (string s ++ binding b) fits.0, string_part.again s (binding b) fits.1, binding_again b fits.2) refl
body_again (close t) fits = rw (target_again t fits) refl
body_again (copy_data b) fits = refl
body_again (copy_done b) fits = refl
body_again (copy_fail b) fits = refl
body_again (describe t) fits = rw (target_again t fits) refl
body_again (execute p n) fits =
    let last : number_at w32 (int32 n) ≡ Some (n, []) = number32.again n [] fits.1 in
    rw (string_part.again p (int32 n) fits.0) (ap (λ (r : Option (ℕ × List ℕ)). r >>= λ rows. ended rows.1 (execute p rows.0)) last)
body_again flush fits = refl
body_again (function_call b) fits = refl
body_again (parse s t types) fits =
    let last : counted_at (number_at w32) (counted int32 types) ≡ Some (types, []) = ap (counted_at (number_at w32)) (sym (append-nil (counted int32 types))) ∙ types_part.again types [] fits.2 in
    rw (string_part.again s (string t ++ counted int32 types) fits.0, string_part.again t (counted int32 types) fits.1, last) refl
body_again (password b) fits = refl
body_again (query t) fits = rw (string_alone t fits) refl
body_again sync fits = refl
body_again terminate fits = refl
