-- A text with values is what its definition says.
use Rattle.std.proofs.Common.{◌≡◌, ◌∙◌, ◌≤◌, ◌++◌, ◌∷◌, [], ℕ, List, length, map, refl, sym, ap, subst, Option, Some, None, Bool, true, false, Result, Ok, Err}
use Rattle.std.specs.Prelude.{◌↔◌, IsTrue, is_some, slice_get, Vec, ◌-◌}
use Rattle.std.specs.declared.alloc.Global.{Global}
use Rattle.std.specs.Option.{option_map}
use Rattle.sql_types.specs.declared.state.SqlState.{SqlState}
use Rattle.sql_types.specs.declared.value.Value.{Value}
use Rattle.sql_lexer.specs.Lexeme.{Lexeme}
use Rattle.sql_lexer.specs.Lexing.{Lexes}
use Rattle.statement_parameters.specs.declared.fault.BindFault.{BindFault}
use Rattle.statement_parameters.specs.declared.fault.BindFault.TheVariants as fault
use Rattle.statement_parameters.specs.Parts.{StatementPart, token, parameter, appended, part_tokens, tokens_with, bound_tokens, literal_tokens, token_bytes, HasExactTokens}
use Rattle.statement_parameters.specs.Templates.{Fragment, parts_of}
use Rattle.statement_parameters.specs.Bindings.{part_text, text_with, literal_text, written_with, IsTemplateBinding}
use Rattle.statement_parameters.specs.BindingViews.{IsMadeText, IsCheckedText}

-- ---- a text is there exactly where its tokens are

rest_none : {X : Type 0} (xs : List X) (o : Option (List X)) → appended (Some xs) o ≡ None → o ≡ None
rest_none xs None h = refl
rest_none xs (Some ys) h = absurd (cc)

none_behind : {X : Type 0} (xs : List X) (o : Option (List X)) → o ≡ None → appended (Some xs) o ≡ None
none_behind xs o e = ap (appended (Some xs)) e

rest_some : {X : Type 0} (xs : List X) (o : Option (List X)) (zs : List X) → appended (Some xs) o ≡ Some zs → (ys : List X) × (o ≡ Some ys)
rest_some xs None zs h = absurd (cc)
rest_some xs (Some ys) zs h = (ys, refl)

some_behind : {X : Type 0} (xs ys : List X) (o : Option (List X)) → o ≡ Some ys → appended (Some xs) o ≡ Some (xs ++ ys)
some_behind xs ys o e = ap (appended (Some xs)) e

none_literal : (before : List ℕ) (o : Option (List (List ℕ))) (t : Option (List ℕ)) (k : Option (List (List ℕ))) → (t ≡ None → k ≡ None)
    → appended (option_map (λ text. before ++ text) (option_map literal_text o)) t ≡ None → appended o k ≡ None
none_literal before None t k same h = refl
none_literal before (Some l) t k same h = none_behind l k (same (rest_none (before ++ literal_text l) t h))

none_part : (ls : List (List (List ℕ))) (before : List ℕ) (p : StatementPart) (t : Option (List ℕ)) (k : Option (List (List ℕ))) → (t ≡ None → k ≡ None)
    → appended (option_map (λ text. before ++ text) (part_text ls p)) t ≡ None → appended (part_tokens ls p) k ≡ None
none_part ls before (token bytes) t k same h = none_behind (bytes ∷ []) k (same (rest_none (before ++ bytes) t h))
none_part ls before (parameter n) t k same h = none_literal before (slice_get ls (n - 1)) t k same h

pub no_tokens : (ls : List (List (List ℕ))) (fs : List Fragment) → text_with ls fs ≡ None → tokens_with ls (parts_of fs) ≡ None
no_tokens ls [] h = absurd (cc)
no_tokens ls (f ∷ fs) h = none_part ls f.before f.part (text_with ls fs) (tokens_with ls (parts_of fs)) (no_tokens ls fs) h

some_literal : (before : List ℕ) (o : Option (List (List ℕ))) (t : Option (List ℕ)) (k : Option (List (List ℕ))) (whole : List ℕ)
    → ((text : List ℕ) → t ≡ Some text → (es : List (List ℕ)) × (k ≡ Some es))
    → appended (option_map (λ text. before ++ text) (option_map literal_text o)) t ≡ Some whole → (es : List (List ℕ)) × (appended o k ≡ Some es)
some_literal before None t k whole same h = absurd (cc)
some_literal before (Some l) t k whole same h =
    let r = rest_some (before ++ literal_text l) t whole h in let e = same r.0 r.1 in (l ++ e.0, some_behind l e.0 k e.1)

some_part : (ls : List (List (List ℕ))) (before : List ℕ) (p : StatementPart) (t : Option (List ℕ)) (k : Option (List (List ℕ))) (whole : List ℕ)
    → ((text : List ℕ) → t ≡ Some text → (es : List (List ℕ)) × (k ≡ Some es))
    → appended (option_map (λ text. before ++ text) (part_text ls p)) t ≡ Some whole → (es : List (List ℕ)) × (appended (part_tokens ls p) k ≡ Some es)
some_part ls before (token bytes) t k whole same h =
    let r = rest_some (before ++ bytes) t whole h in let e = same r.0 r.1 in (bytes ∷ [] ++ e.0, some_behind (bytes ∷ []) e.0 k e.1)
some_part ls before (parameter n) t k whole same h = some_literal before (slice_get ls (n - 1)) t k whole same h

pub some_tokens : (ls : List (List (List ℕ))) (fs : List Fragment) (text : List ℕ) → text_with ls fs ≡ Some text → (es : List (List ℕ)) × (tokens_with ls (parts_of fs) ≡ Some es)
some_tokens ls [] text h = ([], refl)
some_tokens ls (f ∷ fs) text h = some_part ls f.before f.part (text_with ls fs) (tokens_with ls (parts_of fs)) text (some_tokens ls fs) h

-- ---- the whole

some_same : {x y : List ℕ} → Some x ≡ Some y → x ≡ y
some_same e = cc

of_made : (fs : List Fragment) (values : List Value) (made : List ℕ) (r : Result (List ℕ) BindFault) → written_with values fs ≡ Some made → length made ≤ 65536
    → ((expected : List (List ℕ)) → bound_tokens values (parts_of fs) ≡ Some expected → IsCheckedText expected made r) → IsTemplateBinding fs values r
of_made fs values made (Ok text) w short checked =
    let k = some_tokens (map literal_tokens values) fs made w in
    let c = checked k.0 k.1 in
    (c.1, record { written = w ∙ ap Some (sym c.0); fits = subst (λ (t : List ℕ). length t ≤ 65536) (sym c.0) short; expected = k.0; bound = k.1; has = c.2 })
of_made fs values made (Err fault.NoValue) w short checked =
    let k = some_tokens (map literal_tokens values) fs made w in absurd (checked k.0 k.1)
of_made fs values made (Err fault.TooLong) w short checked =
    let k = some_tokens (map literal_tokens values) fs made w in absurd (checked k.0 k.1)
of_made fs values made (Err fault.OtherTokens) w short checked = (made, w, short, λ b. checked b.1.expected b.1.bound b.0 b.1.has)

-- a text that was made and compared, with the literals of the values
pub is_binding : (fs : List Fragment) (values : List Value) (ls : List (List (List ℕ))) (m : Result (Vec ℕ Global) BindFault) (made : Vec ℕ Global) (r : Result (List ℕ) BindFault)
    → IsMadeText (text_with ls fs) m → m ≡ Ok made → ((expected : List (List ℕ)) → tokens_with ls (parts_of fs) ≡ Some expected → IsCheckedText expected made.items r)
    → ls ≡ map literal_tokens values → IsTemplateBinding fs values r
is_binding fs values ls m made r wrote is checked e =
    let w = subst (IsMadeText (text_with ls fs)) is wrote in
    of_made fs values made.items r (ap (λ (l : List (List (List ℕ))). text_with l fs) (sym e) ∙ w.0) w.1
    (λ expected k. checked expected (ap (λ (l : List (List (List ℕ))). tokens_with l (parts_of fs)) e ∙ k))

-- ---- each parameter has a literal, or one has none

lacks : {X : Type 0} (o : Option X) → is_some o ≡ false → o ≡ None
lacks None h = refl
lacks (Some x) h = cc

written_so : (ls : List (List (List ℕ))) (fs : List Fragment) → is_some (tokens_with ls (parts_of fs)) ≡ true → (text : List ℕ) × (text_with ls fs ≡ Some text)
written_so ls fs has = by (text_with ls fs) refl where
  by : (o : Option (List ℕ)) → text_with ls fs ≡ o → (text : List ℕ) × (text_with ls fs ≡ Some text)
  by None is = let wrong : false ≡ true = sym (ap is_some (no_tokens ls fs is)) ∙ has in absurd (cc)
  by (Some text) is = (text, is)

pub lacks_value : (fs : List Fragment) (values : List Value) (ls : List (List (List ℕ))) → is_some (tokens_with ls (parts_of fs)) ≡ false → ls ≡ map literal_tokens values → IsTemplateBinding fs values (Err fault.NoValue)
lacks_value fs values ls none e = ap (λ (l : List (List (List ℕ))). tokens_with l (parts_of fs)) (sym e) ∙ lacks (tokens_with ls (parts_of fs)) none

of_fault : (fs : List Fragment) (values : List Value) (ls : List (List (List ℕ))) (why : BindFault) → is_some (tokens_with ls (parts_of fs)) ≡ true → ls ≡ map literal_tokens values → IsMadeText (text_with ls fs) (Err why)
    → IsTemplateBinding fs values (Err why)
of_fault fs values ls fault.NoValue has e h = ap (λ (l : List (List (List ℕ))). tokens_with l (parts_of fs)) (sym e) ∙ no_tokens ls fs h
of_fault fs values ls fault.TooLong has e h =
    let w = written_so ls fs has in (w.0, ap (λ (l : List (List (List ℕ))). text_with l fs) (sym e) ∙ w.1, h w.0 w.1)
of_fault fs values ls fault.OtherTokens has e h = absurd h

-- a text that was not made
pub is_refused : (fs : List Fragment) (values : List Value) (ls : List (List (List ℕ))) (m : Result (Vec ℕ Global) BindFault) (why : BindFault)
    → is_some (tokens_with ls (parts_of fs)) ≡ true → IsMadeText (text_with ls fs) m → m ≡ Err why → ls ≡ map literal_tokens values → IsTemplateBinding fs values (Err why)
is_refused fs values ls m why has wrote is e = of_fault fs values ls why has e (subst (IsMadeText (text_with ls fs)) is wrote)

-- all parts have what they need where the first has it and all others do

pub first_there : {X : Type 0} (o k : Option (List X)) → is_some o ≡ true → is_some (appended o k) ≡ is_some k
first_there None k h = absurd (cc)
first_there (Some xs) None h = refl
first_there (Some xs) (Some ys) h = refl

pub first_missing : {X : Type 0} (o k : Option (List X)) → is_some o ≡ false → is_some (appended o k) ≡ false
first_missing None k h = refl
first_missing (Some xs) k h = absurd (cc)

-- ---- the tokens of a text are those that it is to have, or they are not

ok_same : {us ts : List Lexeme} {r : Result (List Lexeme) SqlState} → r ≡ Ok us → r ≡ Ok ts → us ≡ ts
ok_same e f = cc

tokens_same : {x y : List (List ℕ)} {o : Option (List (List ℕ))} → o ≡ Some x → o ≡ Some y → x ≡ y
tokens_same e f = cc

abbrev OneLexing : Type 0
OneLexing = (source : List ℕ) (r s : Result (List Lexeme) SqlState) → Lexes source r → Lexes source s → r ≡ s

pub has_these : (text : List ℕ) (us : List Lexeme) (o : Option (List (List ℕ))) (expected : List (List ℕ)) (has : Bool) → OneLexing → Lexes text (Ok us)
    → IsTrue has ↔ (o ≡ Some (token_bytes us)) → o ≡ Some expected → IsTrue has ↔ HasExactTokens expected text
has_these text us o expected has one d compared e = (
  λ h. record { tokens = us; lexes = d; same = tokens_same (compared.0 h) e },
  λ k. compared.1 (e ∙ ap Some (sym k.same ∙ ap token_bytes (sym (ok_same refl (one text (Ok us) (Ok k.tokens) d k.lexes))))),
)

pub has_none : (text : List ℕ) (s : SqlState) (expected : List (List ℕ)) → OneLexing → Lexes text (Err s) → IsTrue false ↔ HasExactTokens expected text
has_none text s expected one d = (λ h. absurd (cc), λ k. let e : Err s ≡ Ok k.tokens = one text (Err s) (Ok k.tokens) d k.lexes in absurd (cc))
