-- Values that are read one after the other, and types that are declared so.
use Rattle.std.proofs.Common.{◌≡◌, ◌∙◌, ◌≤◌, ◌<◌, ◌-◌, ◌++◌, ◌∷◌, [], ℕ, zero, suc, List, length, map, drop, append_assoc, append-nil, arith, refl, sym, ap, Option, Some, None, Result, Ok, Err}
use Rattle.std.specs.Prelude.{slice_index_or}
use Rattle.sql_types.specs.declared.value.Value.{Value}
use Rattle.postgres_messages.specs.Views.{viewed_value}
use Rattle.postgres_messages.specs.declared.fields.FieldBytes.{FieldBytes}
use Rattle.statement_parameters.specs.declared.received.ValueFault.{ValueFault}
use Rattle.statement_parameters.specs.declared.types.ParameterType.{ParameterType}
use Rattle.statement_parameters.specs.Parts.{appended}
use Rattle.statement_parameters.specs.Received.{received_value}
use Rattle.statement_parameters.specs.Templates.{Fragment}
use Rattle.statement_parameters.proofs.Lists.{put_behind}
use Rattle.postgres_talks.specs.ParameterViews.{behind_values}
use Rattle.postgres_talks.specs.Parameters.{declared_type, next_code, other_codes, received_values, types_from, with_type, with_value}

-- ---- values

all_read : (whole : Result (List Value) ValueFault) (vs : List Value) → whole ≡ behind_values vs (Ok []) → Ok vs ≡ whole
all_read whole vs is = ap Ok (sym (append-nil vs)) ∙ sym is

pub no_types : (whole : Result (List Value) ValueFault) (vs : List Value) (z : List ParameterType) (cs : List ℕ) (fs : List FieldBytes) → length z < 1
    → whole ≡ behind_values vs (received_values z cs (map viewed_value fs)) → Ok vs ≡ whole
no_types whole vs [] cs fs none is = all_read whole vs is
no_types whole vs (t ∷ ts) cs fs none is = absurd (omega (arith, none))

pub no_fields : (whole : Result (List Value) ValueFault) (vs : List Value) (z : List ParameterType) (cs : List ℕ) (fs : List FieldBytes) → length fs < 1
    → whole ≡ behind_values vs (received_values z cs (map viewed_value fs)) → Ok vs ≡ whole
no_fields whole vs [] cs [] none is = all_read whole vs is
no_fields whole vs (t ∷ ts) cs [] none is = all_read whole vs is
no_fields whole vs z cs (f ∷ fs) none is = absurd (omega (arith, none))

put_value : (vs : List Value) (v : Value) (r : Result (List Value) ValueFault) → behind_values vs (with_value (Ok v) r) ≡ behind_values (vs ++ v ∷ []) r
put_value vs v (Err f) = refl
put_value vs v (Ok ws) = ap Ok (sym (append_assoc vs (v ∷ []) ws))

pub more_values : (whole : Result (List Value) ValueFault) (vs new : List Value) (z after : List ParameterType) (d : ParameterType) (cs : List ℕ) (fs left : List FieldBytes) (e : FieldBytes)
    (o : Result Value ValueFault) (v : Value) → 1 ≤ length z → after ≡ drop 1 z → 1 ≤ length fs → left ≡ drop 1 fs
    → whole ≡ behind_values vs (received_values z cs (map viewed_value fs)) → o ≡ received_value (slice_index_or z 0 d) (next_code cs) (viewed_value (slice_index_or fs 0 e)) → o ≡ Ok v
    → new ≡ vs ++ v ∷ [] → whole ≡ behind_values new (received_values after (other_codes cs) (map viewed_value left))
more_values whole vs new [] after d cs fs left e o v some is_after others is_left is here found put = absurd (omega (arith, some))
more_values whole vs new (t ∷ ts) after d cs [] left e o v some is_after others is_left is here found put = absurd (omega (arith, others))
more_values whole vs new (t ∷ ts) after d cs (f ∷ fs) left e o v some is_after others is_left is here found put =
    let a : after ≡ ts = is_after in
    let l : left ≡ fs = is_left in
    let first : received_value t (next_code cs) (viewed_value f) ≡ Ok v = sym here ∙ found in
    rw (put, a, l) (is ∙ ap (λ (r : Result Value ValueFault). behind_values vs (with_value r (received_values ts (other_codes cs) (map viewed_value fs)))) first
    ∙ put_value vs v (received_values ts (other_codes cs) (map viewed_value fs)))

pub bad_value : (whole : Result (List Value) ValueFault) (vs : List Value) (z : List ParameterType) (d : ParameterType) (cs : List ℕ) (fs : List FieldBytes) (e : FieldBytes)
    (o : Result Value ValueFault) (f : ValueFault) → 1 ≤ length z → 1 ≤ length fs
    → whole ≡ behind_values vs (received_values z cs (map viewed_value fs)) → o ≡ received_value (slice_index_or z 0 d) (next_code cs) (viewed_value (slice_index_or fs 0 e)) → o ≡ Err f
    → Err f ≡ whole
bad_value whole vs [] d cs fs e o f some others is here found = absurd (omega (arith, some))
bad_value whole vs (t ∷ ts) d cs [] e o f some others is here found = absurd (omega (arith, others))
bad_value whole vs (t ∷ ts) d cs (b ∷ bs) e o f some others is here found =
    let first : received_value t (next_code cs) (viewed_value b) ≡ Err f = sym here ∙ found in
    sym (is ∙ ap (λ (r : Result Value ValueFault). behind_values vs (with_value r (received_values ts (other_codes cs) (map viewed_value bs)))) first)

-- ---- types

first_type_of : (t : List Fragment) (oids : List ℕ) (i left k : ℕ) → left ≡ suc k → types_from t oids i left ≡ with_type (declared_type t oids i) (types_from t oids (suc i) k)
first_type_of t oids i left k e = rw e refl

first_type : (t : List Fragment) (oids : List ℕ) (i left : ℕ) → 0 < left → types_from t oids i left ≡ with_type (declared_type t oids i) (types_from t oids (suc i) (left - 1))
first_type t oids i left some = first_type_of t oids i left (left - 1) (omega (arith, some))

put_type : (u : ParameterType) (r : Option (List ParameterType)) → with_type (Some u) r ≡ appended (Some (u ∷ [])) r
put_type u None = refl
put_type u (Some us) = refl

pub more_types : (whole : Option (List ParameterType)) (t : List Fragment) (oids : List ℕ) (us new : List ParameterType) (u : ParameterType) (o : Option ParameterType) (i j left : ℕ)
    → 0 < left → j ≡ suc i → whole ≡ appended (Some us) (types_from t oids i left) → o ≡ declared_type t oids i → o ≡ Some u → new ≡ us ++ u ∷ []
    → whole ≡ appended (Some new) (types_from t oids j (left - 1))
more_types whole t oids us new u o i j left some next is here found put =
    rw (put, next) (is ∙ ap (appended (Some us)) (first_type t oids i left some)
    ∙ ap (λ (x : Option ParameterType). appended (Some us) (with_type x (types_from t oids (suc i) (left - 1)))) (sym here ∙ found)
    ∙ ap (appended (Some us)) (put_type u (types_from t oids (suc i) (left - 1)))
    ∙ put_behind us (u ∷ []) (types_from t oids (suc i) (left - 1)))

pub no_type : (whole : Option (List ParameterType)) (t : List Fragment) (oids : List ℕ) (us : List ParameterType) (o : Option ParameterType) (i left : ℕ)
    → 0 < left → whole ≡ appended (Some us) (types_from t oids i left) → o ≡ declared_type t oids i → o ≡ None → None ≡ whole
no_type whole t oids us o i left some is here found =
    sym (is ∙ ap (appended (Some us)) (first_type t oids i left some)
    ∙ ap (λ (x : Option ParameterType). appended (Some us) (with_type x (types_from t oids (suc i) (left - 1)))) (sym here ∙ found))

pub all_types : (whole : Option (List ParameterType)) (t : List Fragment) (oids : List ℕ) (us : List ParameterType) (i left : ℕ) → left ≤ 0
    → whole ≡ appended (Some us) (types_from t oids i left) → Some us ≡ whole
all_types whole t oids us i zero none is = ap Some (sym (append-nil us)) ∙ sym is
all_types whole t oids us i (suc left) none is = absurd (omega (arith, none))
