-- Packets of the start: what is read is spelled by the bytes, and whatever is spelled is read.
use Rattle.std.proofs.Common.{◌≡◌, ◌≢◌, ℕ, zero, suc, ◌+◌, ◌-◌, ◌^◌, ◌<◌, ◌≤◌, ◌||◌, Bool, true, false, cond, eqb, List, [], ◌∷◌, ◌++◌, length, All, Option, Some, None, Result, Ok, Err, refl, sym, ap, subst, ◌∙◌, append_assoc, arith, inl, inr, eq-eqb}
use Rattle.std.specs.List.{flat_map, AllByRecursion}
use Rattle.std.specs.Int.{w32}
use Rattle.std.proofs.lemmas.Bool.{eqb-true}
use Rattle.std.proofs.lemmas.Bool.Decides.{nat_tests}
use Rattle.std.proofs.lemmas.List.{length-append, append-nil, nil_from_length}
use Rattle.std.proofs.lemmas.List.Elements.{All-nil, All-cons, recursion_from_All}
use Rattle.std.proofs.lemmas.List.Concat.{flat_map-cons}
use Rattle.postgres_messages.specs.declared.read_error.ReadError.{ReadError}
use Rattle.postgres_messages.specs.declared.read_error.ReadError.TheVariants as errors
use Rattle.postgres_messages.specs.declared.start.StartPacket.{StartPacket}
use Rattle.postgres_messages.specs.Fields.{int32, string, HasNoZeroByte}
use Rattle.postgres_messages.specs.Reading.{◌>>=◌, number_at, string_at, ended}
use Rattle.postgres_messages.specs.Views.{GivesPart}
use Rattle.postgres_messages.specs.Start.{TheParameter, TheStart, cancel_request, gss_request, ssl_request, startup, other_version, code_of, parameter, start_body, start_bytes, IsParameter, is_three, is_known, HasStart, SpellsStart}
use Rattle.postgres_messages.specs.StartReading.{parameter_at, parameters_at, startup_in, cancel_in, start_in, start_at, viewed_start, IsReadStart}
use Rattle.postgres_messages.proofs.Parts.{IsBytes, bind_some, chosen, some_is, ended_takes, Takes, Takes-then, number32, string_part}

-- ---- parameters

some_bytes : (name : List ℕ) → eqb (length name) 0 ≡ false → name ≢ []
some_bytes [] e h = absurd cc
some_bytes (b ∷ name) e h = absurd cc

no_bytes : (name : List ℕ) → name ≢ [] → eqb (length name) 0 ≡ false
no_bytes [] h = absurd (h refl)
no_bytes (b ∷ name) h = grind (arith, nat_tests)

abbrev the_parameter : List ℕ → List ℕ → TheParameter
the_parameter n v = record { name = n; value = v }

abbrev Read : Type 0
Read = List TheParameter × List ℕ

abbrev ends_here : List ℕ → Read
ends_here rest = ([], rest)

parameters_take : (n : ℕ) (bytes : List ℕ) (x : Read) → IsBytes bytes → parameters_at n bytes ≡ Some x → Takes bytes (flat_map parameter x.0 ++ (0 ∷ [])) x.1 × All IsParameter x.0
unfolding parameters_at parameter_at
parameters_take zero bytes x fits e = absurd cc
parameters_take (suc n) bytes x fits e =
    let a = bind_some (string_at bytes) (λ name. cond (eqb (length name.0) 0) (Some (ends_here name.1)) (parameter_at name.0 name.1 >>= λ p. parameters_at n p.1 >>= λ others. Some (p.0 ∷ others.0, others.1))) x e in
    let s = string_part.takes bytes a.0 fits a.1 in
    elim (chosen (eqb (length a.0.0) 0) (Some (ends_here a.0.1)) (parameter_at a.0.0 a.0.1 >>= λ p. parameters_at n p.1 >>= λ others. Some (p.0 ∷ others.0, others.1)) (Some x) a.2) [
      | inl end ↦
          let none : a.0.0 ≡ [] = nil_from_length a.0.0 (eqb-true (length a.0.0) 0 end.0) in
          let took : Takes bytes (0 ∷ []) a.0.1 = subst (λ (t : List ℕ). Takes bytes (string t) a.0.1) none s.0 in
          subst (λ (y : Read). Takes bytes (flat_map parameter y.0 ++ (0 ∷ [])) y.1 × All IsParameter y.0) (some_is (ends_here a.0.1) x end.1) (took, All-nil IsParameter)
      | inr more ↦
          let b = bind_some (parameter_at a.0.0 a.0.1) (λ p. parameters_at n p.1 >>= λ others. Some (p.0 ∷ others.0, others.1)) x more.1 in
          let c = bind_some (parameters_at n b.0.1) (λ others. Some (b.0.0 ∷ others.0, others.1)) x b.2 in
          let d = bind_some (string_at a.0.1) (λ value. Some (the_parameter a.0.0 value.0, value.1)) b.0 b.1 in
          let v = string_part.takes a.0.1 d.0 s.0.rest_fits d.1 in
          let made : (the_parameter a.0.0 d.0.0, d.0.1) ≡ b.0 = some_is (the_parameter a.0.0 d.0.0, d.0.1) b.0 d.2 in
          let one : Takes bytes (parameter (the_parameter a.0.0 d.0.0)) d.0.1 = Takes-then bytes (string a.0.0) a.0.1 (string d.0.0) d.0.1 s.0 v.0 in
          let form : IsParameter (the_parameter a.0.0 d.0.0) = record { name = s.1; some_name = some_bytes a.0.0 more.0; value = v.1 } in
          let both : Takes bytes (parameter b.0.0) b.0.1 × IsParameter b.0.0 = subst (λ (p : TheParameter × List ℕ). Takes bytes (parameter p.0) p.1 × IsParameter p.0) made (one, form) in
          let others = parameters_take n b.0.1 c.0 both.0.rest_fits c.1 in
          let whole = Takes-then bytes (parameter b.0.0) b.0.1 (flat_map parameter c.0.0 ++ (0 ∷ [])) c.0.1 both.0 others.0 in
          let same : parameter b.0.0 ++ (flat_map parameter c.0.0 ++ (0 ∷ [])) ≡ flat_map parameter (b.0.0 ∷ c.0.0) ++ (0 ∷ []) =
          sym (append_assoc (parameter b.0.0) (flat_map parameter c.0.0) (0 ∷ [])) ∙ ap (λ (t : List ℕ). t ++ (0 ∷ [])) (sym (flat_map-cons parameter b.0.0 c.0.0)) in
          let took : Takes bytes (flat_map parameter (b.0.0 ∷ c.0.0) ++ (0 ∷ [])) c.0.1 = subst (λ (t : List ℕ). Takes bytes t c.0.1) same whole in
          subst (λ (y : Read). Takes bytes (flat_map parameter y.0 ++ (0 ∷ [])) y.1 × All IsParameter y.0) (some_is (b.0.0 ∷ c.0.0, c.0.1) x c.2) (took, All-cons IsParameter b.0.0 c.0.0 both.1 others.1)
    ]

parameter_again : (p : TheParameter) (rest : List ℕ) → HasNoZeroByte p.value → parameter_at p.name (string p.value ++ rest) ≡ Some (p, rest)
unfolding parameter_at
parameter_again p rest fits = rw (string_part.again p.value rest fits) refl

parameters_again : (n : ℕ) (ps : List TheParameter) (rest : List ℕ) → length ps < n → AllByRecursion IsParameter ps → parameters_at n ((flat_map parameter ps ++ (0 ∷ [])) ++ rest) ≡ Some (ps, rest)
unfolding parameters_at
parameters_again zero ps rest lt fits = absurd (omega arith)
parameters_again (suc n) [] rest lt fits =
    let none : string_at (0 ∷ rest) ≡ Some ([], rest) = string_part.again [] rest (All-nil (λ (byte : ℕ). byte ≢ 0)) in
    rw none refl
parameters_again (suc n) (p ∷ ps) rest lt fits =
    let behind : List ℕ = (flat_map parameter ps ++ (0 ∷ [])) ++ rest in
    let regrouped : (flat_map parameter (p ∷ ps) ++ (0 ∷ [])) ++ rest ≡ string p.name ++ (string p.value ++ ((flat_map parameter ps ++ (0 ∷ [])) ++ rest)) =
    ap (λ (t : List ℕ). (t ++ (0 ∷ [])) ++ rest) (flat_map-cons parameter p ps) ∙ simp append_assoc in
    let named = string_part.again p.name (string p.value ++ ((flat_map parameter ps ++ (0 ∷ [])) ++ rest)) fits.0.name in
    let some : eqb (length p.name) 0 ≡ false = no_bytes p.name fits.0.some_name in
    let one = parameter_again p ((flat_map parameter ps ++ (0 ∷ [])) ++ rest) fits.0.value in
    let others = parameters_again n ps rest (omega arith) fits.1 in
    ap (parameters_at (suc n)) regrouped ∙ rw (named, some, one, others) refl

-- each parameter has bytes of its own
few : (ps : List TheParameter) → length ps < length (flat_map parameter ps ++ (0 ∷ []))
few [] = omega arith
few (p ∷ ps) =
    let more : length ps < length (flat_map parameter ps ++ (0 ∷ [])) = few ps in
    let one : length (flat_map parameter (p ∷ ps)) ≡ length (parameter p) + length (flat_map parameter ps) = ap length (flat_map-cons parameter p ps) ∙ length-append (parameter p) (flat_map parameter ps) in
    let own : length (parameter p) ≡ length (string p.name) + length (string p.value) = length-append (string p.name) (string p.value) in
    let named : length (string p.name) ≡ length p.name + 1 = length-append p.name (0 ∷ []) in
    omega (arith, length-append (flat_map parameter ps) (0 ∷ []), length-append (flat_map parameter (p ∷ ps)) (0 ∷ []))

-- ---- packets by their numbers

-- the body is that of this packet, which has this number
pub record IsStartOf (code : ℕ) (body : List ℕ) (p : TheStart) : Type 0 where
  pub code_is : code ≡ code_of p
  pub body_is : body ≡ start_body p
  pub has_start : HasStart p

none_behind : (bytes text rest : List ℕ) → Takes bytes text rest → rest ≡ [] → bytes ≡ text
none_behind bytes text rest t none = t.parts ∙ ap (λ (r : List ℕ). text ++ r) none ∙ append-nil text

cancel_takes : (code : ℕ) (body : List ℕ) (p : TheStart) → code ≡ 80877102 → IsBytes body → cancel_in body ≡ Some p → IsStartOf code body p
unfolding cancel_in
cancel_takes code body p is fits e =
    let a = bind_some (number_at w32 body) (λ x. number_at w32 x.1 >>= λ y. ended y.1 (cancel_request x.0 y.0)) p e in
    let b = bind_some (number_at w32 a.0.1) (λ y. ended y.1 (cancel_request a.0.0 y.0)) p a.2 in
    let end = ended_takes b.0.1 (cancel_request a.0.0 b.0.0) p b.2 in
    let x = number32.takes body a.0 fits a.1 in
    let y = number32.takes a.0.1 b.0 x.0.rest_fits b.1 in
    let last : a.0.1 ≡ int32 b.0.0 = none_behind a.0.1 (int32 b.0.0) b.0.1 y.0 end.0 in
    let made : IsStartOf code body (cancel_request a.0.0 b.0.0) = record { code_is = is; body_is = x.0.parts ∙ ap (λ (t : List ℕ). int32 a.0.0 ++ t) last; has_start = (x.1, y.1) } in
    subst (IsStartOf code body) end.1 made

startup_takes : (code : ℕ) (body : List ℕ) (p : TheStart) → is_three code ≡ true → IsBytes body → startup_in (code - 196608) body ≡ Some p → IsStartOf code body p
unfolding startup_in
startup_takes code body p three fits e =
    let a = bind_some (parameters_at (length body) body) (λ ps. ended ps.1 (startup (code - 196608) ps.0)) p e in
    let end = ended_takes a.0.1 (startup (code - 196608) a.0.0) p a.2 in
    let ps = parameters_take (length body) body a.0 fits a.1 in
    let least : 196608 ≤ code = grind (arith, nat_tests) in
    let most : code < 262144 = grind (arith, nat_tests) in
    let small : code - 196608 < 2 ^ 16 = omega arith in
    let again : code ≡ 196608 + (code - 196608) = omega arith in
    let made : IsStartOf code body (startup (code - 196608) a.0.0) = record { code_is = again; body_is = none_behind body (flat_map parameter a.0.0 ++ (0 ∷ [])) a.0.1 ps.0 end.0; has_start = (small, ps.1) } in
    subst (IsStartOf code body) end.1 made

without_body : (code : ℕ) (body : List ℕ) (x p : TheStart) → IsStartOf code [] x → ended body x ≡ Some p → IsStartOf code body p
without_body code body x p is e =
    let end = ended_takes body x p e in
    subst (IsStartOf code body) end.1 (subst (λ (b : List ℕ). IsStartOf code b x) (sym end.0) is)

unknown : (code : ℕ) → eqb code 80877102 ≡ false → eqb code 80877103 ≡ false → eqb code 80877104 ≡ false → is_three code ≡ false → is_known code ≡ false
unknown code a b c d = rw (a, b, c, d) refl

start_takes : (code : ℕ) (body : List ℕ) (p : TheStart) → code < 2 ^ 32 → IsBytes body → start_in code body ≡ Some p → IsStartOf code body p
unfolding start_in
start_takes code body p lt fits e =
    elim (chosen (eqb code 80877102) (cancel_in body) (cond (eqb code 80877103) (ended body ssl_request) (cond (eqb code 80877104) (ended body gss_request) (cond (is_three code) (startup_in (code - 196608) body) (Some (other_version code body))))) (Some p) e) [
      | inl a ↦ cancel_takes code body p (eqb-true code 80877102 a.0) fits a.1
      | inr na ↦ elim (chosen (eqb code 80877103) (ended body ssl_request) (cond (eqb code 80877104) (ended body gss_request) (cond (is_three code) (startup_in (code - 196608) body) (Some (other_version code body)))) (Some p) na.1) [
        | inl b ↦ without_body code body ssl_request p (record { code_is = eqb-true code 80877103 b.0; body_is = refl; has_start = tt }) b.1
        | inr nb ↦ elim (chosen (eqb code 80877104) (ended body gss_request) (cond (is_three code) (startup_in (code - 196608) body) (Some (other_version code body))) (Some p) nb.1) [
          | inl c ↦ without_body code body gss_request p (record { code_is = eqb-true code 80877104 c.0; body_is = refl; has_start = tt }) c.1
          | inr nc ↦ elim (chosen (is_three code) (startup_in (code - 196608) body) (Some (other_version code body)) (Some p) nc.1) [
            | inl three ↦ startup_takes code body p three.0 fits three.1
            | inr none ↦
                let made : IsStartOf code body (other_version code body) = record { code_is = refl; body_is = refl; has_start = (lt, unknown code na.0 nb.0 nc.0 none.0) } in
                subst (IsStartOf code body) (some_is (other_version code body) p none.1) made
          ]
        ]
      ]
    ]

either_false : (a b : Bool) → (a || b) ≡ false → (a ≡ false) × (b ≡ false)
either_false true b e = absurd cc
either_false false b e = (refl, e)

startup_again : (minor : ℕ) (ps : List TheParameter) → All IsParameter ps → startup_in minor (flat_map parameter ps ++ (0 ∷ [])) ≡ Some (startup minor ps)
unfolding startup_in
startup_again minor ps fits =
    let body : List ℕ = flat_map parameter ps ++ (0 ∷ []) in
    let read : parameters_at (length (flat_map parameter ps ++ (0 ∷ []))) (flat_map parameter ps ++ (0 ∷ [])) ≡ Some (ps, []) =
    ap (parameters_at (length (flat_map parameter ps ++ (0 ∷ [])))) (sym (append-nil (flat_map parameter ps ++ (0 ∷ []))))
    ∙ parameters_again (length (flat_map parameter ps ++ (0 ∷ []))) ps [] (few ps) (recursion_from_All IsParameter ps fits) in
    rw read refl

start_again_in : (p : TheStart) → HasStart p → start_in (code_of p) (start_body p) ≡ Some p
unfolding start_in cancel_in
start_again_in (cancel_request process key) fits =
    let last : number_at w32 (int32 key) ≡ Some (key, []) = number32.again key [] fits.1 in
    ap (λ (r : Option (ℕ × List ℕ)). r >>= λ x. number_at w32 x.1 >>= λ y. ended y.1 (cancel_request x.0 y.0)) (number32.again process (int32 key) fits.0)
    ∙ ap (λ (r : Option (ℕ × List ℕ)). r >>= λ y. ended y.1 (cancel_request process y.0)) last
start_again_in ssl_request fits = refl
start_again_in gss_request fits = refl
start_again_in (startup minor ps) fits =
    let lt : minor < 2 ^ 16 = fits.0 in
    let a : eqb (196608 + minor) 80877102 ≡ false = grind (arith, nat_tests) in
    let b : eqb (196608 + minor) 80877103 ≡ false = grind (arith, nat_tests) in
    let c : eqb (196608 + minor) 80877104 ≡ false = grind (arith, nat_tests) in
    let d : is_three (196608 + minor) ≡ true = grind (arith, nat_tests) in
    let e : 196608 + minor - 196608 ≡ minor = omega arith in
    rw (a, b, c, d, e) (startup_again minor ps fits.1)
start_again_in (other_version code body) fits =
    let a = either_false (eqb code 80877102) (eqb code 80877103 || (eqb code 80877104 || is_three code)) fits.1 in
    let b = either_false (eqb code 80877103) (eqb code 80877104 || is_three code) a.1 in
    let c = either_false (eqb code 80877104) (is_three code) b.1 in
    rw (a.0, b.0, c.0, c.1) refl

-- ---- whole packets

pub packet_takes : (bytes : List ℕ) (p : TheStart) → IsBytes bytes → start_at bytes ≡ Some p → SpellsStart bytes p
unfolding start_at
packet_takes bytes p fits e =
    let a = bind_some (number_at w32 bytes) (λ n. number_at w32 n.1 >>= λ code. cond (eqb n.0 (length bytes)) (start_in code.0 code.1) None) p e in
    let b = bind_some (number_at w32 a.0.1) (λ code. cond (eqb a.0.0 (length bytes)) (start_in code.0 code.1) None) p a.2 in
    let n = number32.takes bytes a.0 fits a.1 in
    let code = number32.takes a.0.1 b.0 n.0.rest_fits b.1 in
    elim (chosen (eqb a.0.0 (length bytes)) (start_in b.0.0 b.0.1) None (Some p) b.2) [
      | inl same ↦
          let is = start_takes b.0.0 b.0.1 p code.1 code.0.rest_fits same.1 in
          let size : a.0.0 ≡ length bytes = eqb-true a.0.0 (length bytes) same.0 in
          let long : length bytes ≡ 4 + length a.0.1 = ap length n.0.parts ∙ length-append (int32 a.0.0) a.0.1 in
          let longer : length a.0.1 ≡ 4 + length b.0.1 = ap length code.0.parts ∙ length-append (int32 b.0.0) b.0.1 in
          let own : length b.0.1 ≡ length (start_body p) = ap length is.body_is in
          let named : a.0.0 ≡ 8 + length (start_body p) = omega arith in
          let behind : a.0.1 ≡ int32 (code_of p) ++ start_body p = code.0.parts ∙ ap (λ (k : ℕ). int32 k ++ b.0.1) is.code_is ∙ ap (λ (t : List ℕ). int32 (code_of p) ++ t) is.body_is in
          let whole : bytes ≡ start_bytes p = n.0.parts ∙ ap (λ (k : ℕ). int32 k ++ a.0.1) named ∙ ap (λ (t : List ℕ). int32 (8 + length (start_body p)) ++ t) behind in
          record { bytes_are = whole; has_start = is.has_start; has_length = omega (arith, named, n.1) }
      | inr other ↦ absurd (let wrong : None ≡ Some p = other.1 in cc)
    ]

code_fits : (p : TheStart) → HasStart p → code_of p < 2 ^ 32
code_fits (cancel_request process key) fits = omega arith
code_fits ssl_request fits = omega arith
code_fits gss_request fits = omega arith
code_fits (startup minor ps) fits = omega (arith, fits.0)
code_fits (other_version code body) fits = fits.0

packet_read : (p : TheStart) → HasStart p → 8 + length (start_body p) < 2 ^ 32 → start_at (start_bytes p) ≡ Some p
unfolding start_at
packet_read p fits lt =
    let number = number32.again (8 + length (start_body p)) (int32 (code_of p) ++ start_body p) lt in
    let code = number32.again (code_of p) (start_body p) (code_fits p fits) in
    let long : length (start_bytes p) ≡ 4 + length (int32 (code_of p) ++ start_body p) = length-append (int32 (8 + length (start_body p))) (int32 (code_of p) ++ start_body p) in
    let longer : length (int32 (code_of p) ++ start_body p) ≡ 4 + length (start_body p) = length-append (int32 (code_of p)) (start_body p) in
    let same : eqb (8 + length (start_body p)) (length (start_bytes p)) ≡ true = eq-eqb (8 + length (start_body p)) (length (start_bytes p)) (omega arith) in
    rw (number, code, same) (start_again_in p fits)

pub packet_again : (bytes : List ℕ) (p : TheStart) → SpellsStart bytes p → start_at bytes ≡ Some p
packet_again bytes p is = ap start_at is.bytes_are ∙ packet_read p is.has_start is.has_length

pub is_read_start : (bytes : List ℕ) (r : Result StartPacket ReadError) → IsBytes bytes → GivesPart viewed_start r (start_at bytes) → IsReadStart bytes r
is_read_start bytes (Ok p) fits given = packet_takes bytes (viewed_start p) fits given
is_read_start bytes (Err errors.Memory) fits given = tt
is_read_start bytes (Err errors.Malformed) fits given = λ p is. let wrong : None ≡ Some p = sym given ∙ packet_again bytes p is in cc
is_read_start bytes (Err errors.NotText) fits given = given

pub one_packet : (bytes : List ℕ) (p q : TheStart) → SpellsStart bytes p → SpellsStart bytes q → p ≡ q
one_packet bytes p q a b = some_is p q (sym (packet_again bytes p a) ∙ packet_again bytes q b)
