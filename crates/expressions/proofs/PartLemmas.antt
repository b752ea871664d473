-- The stages over parts, and the parts one by one.
use Rattle.std.proofs.Common.{◌≡◌, Bool, true, false, List, [], ◌∷◌, map, Result, Ok, Err, refl, sym, ap, ◌∙◌, subst, inl, inr}
use Rattle.std.specs.Prelude.{◌⊎◌}
use Rattle.std.specs.List.{zip}
use Rattle.sql_types.specs.declared.state.Refusal.{Refusal}
use Rattle.sql_types.specs.declared.state.SqlState.{SqlState}
use Rattle.sql_types.specs.declared.state.SqlState.TheVariants.{OutOfMemory, DatatypeMismatch}
use Rattle.sql_ast.specs.declared.scope.ColumnIndex.{ColumnIndex}
use Rattle.sql_ast.specs.Scope.{type_at}
use Rattle.sql_ast.specs.Term.{Term}
use Rattle.expressions.specs.declared.parts.Part.{Part as LentPart}
use Rattle.expressions.specs.Meaning.{value_of}
use Rattle.expressions.specs.Names.{after, resolved, AnswersUnlessMemory, MeansTheSame}
use Rattle.expressions.specs.Stages.{◌>>=◌, require, each}
use Rattle.expressions.specs.Types.{TypedTerm, type_of, typed, names_then_types}
use Rattle.expressions.proofs.Meanings.{resolved_means}
use Rattle.expressions.proofs.Results.{bind_ok, bind_err, ok_inside}
use Rattle.expressions.specs.Parts.{Part, part_of, is_expected, resolve_parts, check_type, check_expressions, type_part, Binds, IsBound}

typed_ok : (p : Part) (t : Term ColumnIndex) (r : Result TypedTerm SqlState) (u : TypedTerm) → r ≡ Ok u → r ≡ typed p.scope t → u.term ≡ t
typed_ok p t r u e f = go (type_of (type_at p.scope) t) (sym e ∙ f) where
  go : (k : Result _ SqlState) → Ok u ≡ after k (λ v. Ok (record { term = t; value_type = v })) → u.term ≡ t
  go (Ok v) h = ap (λ (w : TypedTerm). w.term) (ok_inside u _ h)
  go (Err code) h = cc

-- ---- one part

pub record One (p : Part) (t : Term ColumnIndex) (u : TypedTerm) : Type 0 where
  pub same : u.term ≡ t
  pub checked : check_type p ≡ Ok tt
  pub named : names_then_types p.scope p.term ≡ Ok u
  pub means : MeansTheSame p.scope u.term p.term

one : (p : Part) (t : Term ColumnIndex) (u : TypedTerm) → resolved p.scope p.term ≡ Ok t → type_part p t ≡ Ok u → One p t u
one p t u h k =
    let a = bind_ok (typed p.scope t) (λ w. require (is_expected p.expected w.value_type) DatatypeMismatch >>= λ fitting. Ok w) u k in
    let b = bind_ok (require (is_expected p.expected a.0.value_type) DatatypeMismatch) (λ fitting. Ok a.0) u a.2 in
    let found : names_then_types p.scope p.term ≡ Ok a.0 = ap (λ r. after r (λ x. typed p.scope x)) h ∙ a.1 in
    let same : a.0 ≡ u = ok_inside a.0 u b.2 in
    let term : u.term ≡ t = ap (λ (w : TypedTerm). w.term) (sym same) ∙ typed_ok p t (typed p.scope t) a.0 a.1 refl in
    record {
      same = term;
      checked = ap (λ r. r >>= λ w. require (is_expected p.expected w.value_type) DatatypeMismatch) found ∙ b.1;
      named = found ∙ ap (λ w. Ok w) same;
      means = λ cell users. ap (value_of cell users) term ∙ resolved_means p.scope cell users p.term t h;
    }

one_refused : (p : Part) (t : Term ColumnIndex) (code : SqlState) → resolved p.scope p.term ≡ Ok t → type_part p t ≡ Err code → check_type p ≡ Err code
one_refused p t code h k = ap (λ r. after r (λ x. typed p.scope x) >>= λ w. require (is_expected p.expected w.value_type) DatatypeMismatch) h ∙ go (typed p.scope t) k where
  test : (w : TypedTerm) (b : Bool) → (require b DatatypeMismatch >>= λ fitting. Ok w) ≡ Err code → require b DatatypeMismatch ≡ Err code
  test w true e = cc
  test w false e = cc

  go : (r : Result TypedTerm SqlState) → (r >>= λ w. require (is_expected p.expected w.value_type) DatatypeMismatch >>= λ fitting. Ok w) ≡ Err code
      → (r >>= λ w. require (is_expected p.expected w.value_type) DatatypeMismatch) ≡ Err code
  go (Ok w) e = test w (is_expected p.expected w.value_type) e
  go (Err c) e = cc

-- ---- all parts

abbrev name : LentPart → Result (Term ColumnIndex) SqlState
name p = resolved (part_of p).scope (part_of p).term

abbrev type : LentPart × Term ColumnIndex → Result TypedTerm SqlState
type p = type_part (part_of p.0) p.1

pub all_bound : (ps : List LentPart) (ts : List (Term ColumnIndex)) (us : List TypedTerm) → each name ps ≡ Ok ts → each type (zip ps ts) ≡ Ok us → Binds (map part_of ps) us
all_bound [] ts us h k = go us (let none : ts ≡ [] = sym (ok_inside [] ts h) in ok_inside [] us (ap (λ zs. each type (zip [] zs)) (sym none) ∙ k)) where
  go : (us : List TypedTerm) → [] ≡ us → Binds [] us
  go [] e = record { names = refl; types = refl; typed = refl; means = tt }
  go (u ∷ us) e = cc
all_bound (p ∷ ps) ts us h k =
    let a = bind_ok (name p) (λ t. each name ps >>= λ rest. Ok (t ∷ rest)) ts h in
    let b = bind_ok (each name ps) (λ rest. Ok (a.0 ∷ rest)) ts a.2 in
    let k2 : (type (p, a.0) >>= λ u. each type (zip ps b.0) >>= λ rest. Ok (u ∷ rest)) ≡ Ok us = ap (λ zs. each type (zip (p ∷ ps) zs)) (ok_inside (a.0 ∷ b.0) ts b.2) ∙ k in
    let c = bind_ok (type (p, a.0)) (λ u. each type (zip ps b.0) >>= λ rest. Ok (u ∷ rest)) us k2 in
    let d = bind_ok (each type (zip ps b.0)) (λ rest. Ok (c.0 ∷ rest)) us c.2 in
    let first = one (part_of p) a.0 c.0 a.1 c.1 in
    let others = all_bound ps b.0 d.0 b.1 d.1 in
    let whole : c.0 ∷ d.0 ≡ us = ok_inside (c.0 ∷ d.0) us d.2 in
    subst (Binds (map part_of (p ∷ ps))) whole (record {
      names = ap (λ r. r >>= λ t. resolve_parts (map part_of ps) >>= λ rest. Ok (t ∷ rest)) (a.1 ∙ ap (λ t. Ok t) (sym first.same)) ∙ ap (λ r. r >>= λ rest. Ok (c.0.term ∷ rest)) others.names;
      types = ap (λ r. r >>= λ t. check_expressions (map part_of ps) >>= λ rest. Ok (t ∷ rest)) first.checked ∙ ap (λ r. r >>= λ rest. Ok (tt ∷ rest)) others.types;
      typed = ap (λ r. r >>= λ t. each (λ q. names_then_types q.scope q.term) (map part_of ps) >>= λ rest. Ok (t ∷ rest)) first.named ∙ ap (λ r. r >>= λ rest. Ok (c.0 ∷ rest)) others.typed;
      means = (first.means, others.means);
    })

pub all_refused : (ps : List LentPart) (ts : List (Term ColumnIndex)) (code : SqlState) → each name ps ≡ Ok ts → each type (zip ps ts) ≡ Err code → check_expressions (map part_of ps) ≡ Err code
all_refused [] ts code h k = let none : ts ≡ [] = sym (ok_inside [] ts h) in let whole : each type [] ≡ Err code = ap (λ zs. each type (zip [] zs)) (sym none) ∙ k in cc
all_refused (p ∷ ps) ts code h k =
    let a = bind_ok (name p) (λ t. each name ps >>= λ rest. Ok (t ∷ rest)) ts h in
    let b = bind_ok (each name ps) (λ rest. Ok (a.0 ∷ rest)) ts a.2 in
    let k2 : (type (p, a.0) >>= λ u. each type (zip ps b.0) >>= λ rest. Ok (u ∷ rest)) ≡ Err code = ap (λ zs. each type (zip (p ∷ ps) zs)) (ok_inside (a.0 ∷ b.0) ts b.2) ∙ k in
    go a.0 b.0 a.1 (all_refused ps b.0 code b.1) (type (p, a.0)) refl k2
  where
    go : (t : Term ColumnIndex) (rest : List (Term ColumnIndex)) → name p ≡ Ok t → (each type (zip ps rest) ≡ Err code → check_expressions (map part_of ps) ≡ Err code)
        → (r : Result TypedTerm SqlState) → r ≡ type (p, t)
        → (r >>= λ u. each type (zip ps rest) >>= λ us. Ok (u ∷ us)) ≡ Err code → check_expressions (map part_of (p ∷ ps)) ≡ Err code
    go t rest named others (Err c) e f = ap (λ r. r >>= λ u. check_expressions (map part_of ps) >>= λ us. Ok (u ∷ us)) (one_refused (part_of p) t code named (sym e ∙ (let same : Err c ≡ Err code = f in cc)))
    go t rest named others (Ok u) e f =
        let first = one (part_of p) t u named (sym e) in
        let later = others (bind_err (each type (zip ps rest)) (λ us. u ∷ us) code f) in
        ap (λ r. r >>= λ v. check_expressions (map part_of ps) >>= λ us. Ok (v ∷ us)) first.checked ∙ ap (λ r. r >>= λ us. Ok (tt ∷ us)) later

-- ---- what is answered

same_names : (ps : List LentPart) → resolve_parts (map part_of ps) ≡ each name ps
same_names [] = refl
same_names (p ∷ ps) = ap (λ r. name p >>= λ t. r >>= λ rest. Ok (t ∷ rest)) (same_names ps)

pub unresolved : (ps : List LentPart) (r : Refusal) → (r.0 ≡ OutOfMemory) ⊎ (each name ps ≡ Err r.0) → IsBound (map part_of ps) (Err r)
unresolved ps r (inl e) = inl e
unresolved ps r (inr e) = inr (ap (λ n. n >>= λ names. check_expressions (map part_of ps)) (same_names ps ∙ e))

pub is_bound : (ps : List LentPart) (ts : List (Term ColumnIndex)) (r : Result (List TypedTerm) Refusal) → each name ps ≡ Ok ts
    → AnswersUnlessMemory r (each type (zip ps ts)) → IsBound (map part_of ps) r
is_bound ps ts (Ok us) h k = all_bound ps ts us h k
is_bound ps ts (Err r) h (inl e) = inl e
is_bound ps ts (Err r) h (inr e) = inr (ap (λ n. n >>= λ names. check_expressions (map part_of ps)) (same_names ps ∙ h) ∙ all_refused ps ts r.0 h e)
