-- The commands that begin alike: what stands after a list of names, or after COUNT.
use Rattle.std.proofs.Common.{◌≡◌, ℕ, suc, ◌⊎◌, inl, inr, List, Option, Some, refl, sym, ap, subst, ◌∙◌, arith}
use Rattle.std.specs.Prelude.{Bool, true, false}
use Rattle.sql_lexer.specs.Lexeme.{Lexeme, kind_at}
use Rattle.sql_lexer.specs.declared.token.TokenKind.{TokenKind}
use Rattle.sql_lexer.specs.declared.token.TokenKind.TheVariants.{Reserved as R, Unreserved as U, Punctuation as P}
use Rattle.sql_lexer.specs.declared.token.Reserved.TheVariants as reserved
use Rattle.sql_lexer.specs.declared.token.Unreserved.{Unreserved as Word}
use Rattle.sql_lexer.specs.declared.token.Unreserved.TheVariants as unreserved
use Rattle.sql_lexer.specs.declared.token.Punctuation.TheVariants.{Open, Comma}
use Rattle.sql_ast.specs.declared.statement.NamedAction.{NamedAction}
use Rattle.sql_ast.specs.declared.statement.Privileges.{Privileges}
use Rattle.sql_ast.specs.declared.statement.Statement.{Statement}
use Rattle.sql_ast.specs.declared.statement.SelectList.{SelectList}
use Rattle.sql_ast.specs.declared.statement.TableExpression.{TableExpression}
use Rattle.expr_parser.specs.Grammar.{Tree, SpellsExpr}
use Rattle.sql_grammar.specs.Classes.{names, in_class}
use Rattle.sql_grammar.specs.Phrases.{Phrase, gives, ◌▹◌, ◌⊛◌, listed, name, optional, after, three_words, Spells}
use Rattle.sql_grammar.specs.Productions.{SpellsList, last, more}
use Rattle.sql_grammar.proofs.Determined.{name_known}
use Rattle.sql_commands.specs.Commands.{a_named_action, some_privileges, a_source, a_select_list, grant_role, grant, revoke_role, revoke_admin_option, revoke, select, select_count}
use Rattle.sql_commands.specs.Statements.{IsEnd}
use Rattle.sql_commands.proofs.Counted.{IsCall, stops}

-- Lists of names, and of actions

-- an action is one token if no "(" stands after its word
one_token : (ts : List Lexeme) (i j : ℕ) (a : NamedAction) → (kind_at ts (suc i) ≡ Some (P Open) → ⊥) → Spells ts a_named_action i j a → j ≡ suc i
one_token ts i j a f s =
    let at_columns : s.0 ≡ suc i = s.3.4.1 ∙ ap suc s.3.3.0 in
    elim s.4 [
      | inl d ↦ (let z = d.4.1.3 in absurd (f (ap (kind_at ts) (sym (z.1.0 ∙ (d.3.0 ∙ at_columns))) ∙ z.2)))
      | inr d ↦ d.0 ∙ at_columns
    ]

not_open : (ts : List Lexeme) (j k : ℕ) → j ≡ suc k → kind_at ts j ≡ Some (P Comma) → kind_at ts (suc k) ≡ Some (P Open) → ⊥
not_open ts j k e h z = let g : Some (P Comma) ≡ Some (P Open) = sym h ∙ (ap (kind_at ts) e ∙ z) in cc

-- a list of names and one of actions from the same token on end together, if neither a "," nor a "(" stands after the names
same_end : {ts : List Lexeme} {i k m n : ℕ} {xs : List (List ℕ)} {ys : List NamedAction} → i ≡ k
    → SpellsList (Spells ts name) ts i m xs → SpellsList (Spells ts a_named_action) ts k n ys
    → (kind_at ts m ≡ Some (P Comma) → ⊥) → (kind_at ts m ≡ Some (P Open) → ⊥) → (kind_at ts n ≡ Some (P Comma) → ⊥) → m ≡ n
same_end {ts = ts} p (last {i} {j} a) (last {i = k} {j = l} {x = y} b) s o t =
    let e : j ≡ suc k = omega (arith, a.1, p) in
    let q = one_token ts k l y (λ z. o (ap (kind_at ts) e ∙ z)) b in
    e ∙ sym q
same_end {ts = ts} p (last {i} {j} a) (more {i = k} {k = l} {x = y} b h r) s o t =
    let e : j ≡ suc k = omega (arith, a.1, p) in
    let q = one_token ts k l y (λ z. o (ap (kind_at ts) e ∙ z)) b in
    absurd (s (ap (kind_at ts) (e ∙ sym q) ∙ h))
same_end {ts = ts} p (more {i} {k = j} a h r) (last {i = k} {j = l} {x = y} b) s o t =
    let e : j ≡ suc k = omega (arith, a.1, p) in
    let q = one_token ts k l y (not_open ts j k e h) b in
    absurd (t (ap (kind_at ts) (q ∙ sym e) ∙ h))
same_end {ts = ts} p (more {i} {k = j} a h r) (more {i = k} {k = l} {x = y} b h' r') s o t =
    let e : j ≡ suc k = omega (arith, a.1, p) in
    let q = one_token ts k l y (not_open ts j k e h) b in
    same_end (ap suc (e ∙ sym q)) r r' s o t

-- a list of them from i on, and this token after it
record Listing {A : Type 0} (p : Phrase A) (ts : List Lexeme) (i : ℕ) (t : TokenKind) : Type 0 where
  end : ℕ
  items : List A
  spelled : SpellsList (Spells ts p) ts i end items
  stands : kind_at ts end ≡ Some t

listing : {A B : Type 0} {f : List A → B} {w t : TokenKind} {ts : List Lexeme} {i n : ℕ} {y : B} (p : Phrase A) → Spells ts (gives f ▹ w ⊛ listed p ▹ t) i n y → Listing p ts (suc i) t
listing {ts = ts} p s = record {
  end = s.0;
  items = s.1.2;
  spelled = subst (λ z. SpellsList (Spells ts p) ts z s.0 s.1.2) (s.1.3.3 ∙ ap suc s.1.3.1.0) s.1.4;
  stands = s.2;
}

-- the token after the first name is a comma, or the one after the list
after_name : {ts : List Lexeme} {i m : ℕ} {t : TokenKind} {xs : List (List ℕ)} → SpellsList (Spells ts name) ts i m xs → kind_at ts m ≡ Some t → (kind_at ts (suc i) ≡ Some (P Comma)) ⊎ (kind_at ts (suc i) ≡ Some t)
after_name {ts} (last a) h = inr (ap (kind_at ts) (sym a.1) ∙ h)
after_name {ts} (more a g r) h = inl (ap (kind_at ts) (sym a.1) ∙ g)

begins_name : {ts : List Lexeme} {i m : ℕ} {xs : List (List ℕ)} → SpellsList (Spells ts name) ts i m xs → in_class names (kind_at ts i) ≡ true
begins_name {ts} (last {i} {x = x} a) = name_known ts i x a.0
begins_name {ts} (more {i} {x = x} a g r) = name_known ts i x a.0

-- no name is this token
not_name : (t : TokenKind) (k : Option TokenKind) → in_class names (Some t) ≡ false → in_class names k ≡ true → k ≡ Some t → ⊥
not_name t k f h e = let g = rw e at h in let z = sym f ∙ g in cc

-- Privileges

-- ALL, or actions before ON
abbrev AllOrActions : List Lexeme → ℕ → Type 0
AllOrActions ts i = (kind_at ts i ≡ Some (R reserved.All)) ⊎ Listing a_named_action ts i (R reserved.On)

all_or_actions : {ts : List Lexeme} {i n m : ℕ} {y : Privileges} → Spells ts some_privileges i n y → kind_at ts n ≡ Some (R reserved.On) → i ≡ m → AllOrActions ts m
all_or_actions {ts} {i} {n} {m} (inl d) h p = let z = d.3.3 in inl (ap (kind_at ts) (sym p ∙ sym z.1.0) ∙ z.2)
all_or_actions {ts} {i} {n} {m} (inr d) h p = inr (record {
  end = n;
  items = d.2;
  spelled = subst (λ z. SpellsList (Spells ts a_named_action) ts z n d.2) (d.3.0 ∙ p) d.4;
  stands = h;
})

names_or_actions : {ts : List Lexeme} {i : ℕ} (t : TokenKind) → (Some t ≡ Some (P Comma) → ⊥) → (Some t ≡ Some (P Open) → ⊥) → (Some t ≡ Some (R reserved.On) → ⊥) → Listing name ts i t → AllOrActions ts i → ⊥
names_or_actions {ts} {i} t f o g l (inl h) = not_name (R reserved.All) (kind_at ts i) refl (begins_name l.spelled) h
names_or_actions {ts} t f o g l (inr r) =
    let e : l.end ≡ r.end = same_end refl l.spelled r.spelled (λ h. f (sym l.stands ∙ h)) (λ h. o (sym l.stands ∙ h)) (λ h. let z = sym r.stands ∙ h in cc) in
    g (sym l.stands ∙ (ap (kind_at ts) e ∙ r.stands))

pub grants : (ts : List Lexeme) (i m n : ℕ) (r s : Statement) → Spells ts grant_role i m r → Spells ts grant i n s → ⊥
grants ts i m n r s d e =
    let z = e.3.3.1.3.3 in
    names_or_actions (R reserved.To) (λ h. cc) (λ h. cc) (λ h. cc) (listing name d.3.3) (all_or_actions z.1.4 z.2 (z.1.3.3 ∙ ap suc z.1.3.1.0))

-- GRANT OPTION FOR or not, and privileges before ON
revoked : {ts : List Lexeme} {i j k n : ℕ} {o : Bool} {y : Privileges} → Listing name ts i (R reserved.From) → i ≡ j
    → Spells ts (three_words (R reserved.Grant) (U unreserved.Option) (R reserved.For)) j k o → Spells ts some_privileges k n y → kind_at ts n ≡ Some (R reserved.On) → ⊥
revoked {ts} {i} l p (inl d) s h = not_name (R reserved.Grant) (kind_at ts i) refl (begins_name l.spelled) (ap (kind_at ts) (p ∙ sym d.1.1.1.0) ∙ d.1.1.2)
revoked l p (inr d) s h = names_or_actions (R reserved.From) (λ g. cc) (λ g. cc) (λ g. cc) l (all_or_actions s h (d.0 ∙ sym p))

pub revokes : (ts : List Lexeme) (i m n : ℕ) (r s : Statement) → Spells ts revoke_role i m r → Spells ts revoke i n s → ⊥
revokes ts i m n r s d e =
    let z = e.3.3.1.3.3 in
    revoked (listing name d.3.3) (sym (z.1.3.3.3 ∙ ap suc z.1.3.3.1.0)) z.1.3.4 z.1.4 z.2

pub admin_options : (ts : List Lexeme) (i m n : ℕ) (r s : Statement) → Spells ts revoke_role i m r → Spells ts revoke_admin_option i n s → ⊥
admin_options ts i m n r s d e =
    let z = e.3.3.1.3.1 in
    let l = listing name d.3.3 in
    let option : kind_at ts (suc (suc i)) ≡ Some (U unreserved.Option) = ap (kind_at ts) (sym (z.1.3 ∙ ap suc (z.1.1.3 ∙ ap suc z.1.1.1.0))) ∙ z.2 in
    elim (after_name l.spelled l.stands) [ inl h ↦ (let g : Some (P Comma) ≡ Some (U unreserved.Option) = sym h ∙ option in cc) | inr h ↦ (let g : Some (R reserved.From) ≡ Some (U unreserved.Option) = sym h ∙ option in cc) ]

-- Queries

-- what stands after the list of a query
abbrev EndsList : List Lexeme → ℕ → Type 0
EndsList ts k = (kind_at ts k ≡ Some (R reserved.From)) ⊎ IsEnd ts k

ends_list : {ts : List Lexeme} {k m : ℕ} {y : Option TableExpression} → Spells ts (optional (after (R reserved.From) a_source)) k m y → IsEnd ts m → EndsList ts k
ends_list {ts} (inl a) t = inl (ap (kind_at ts) (sym (a.4.3.1.0 ∙ a.3.0)) ∙ a.4.3.2)
ends_list {ts} (inr a) t = inr (subst (IsEnd ts) a.0 t)

no_end : (ts : List Lexeme) (k : ℕ) → EndsList ts k → kind_at ts k ≡ Some (P Open) → ⊥
no_end ts k (inl h) g = let e = sym h ∙ g in cc
no_end ts k (inr (inl h)) g = let e = sym h ∙ g in cc
no_end ts k (inr (inr h)) g = let e = sym h ∙ g in cc

no_call : {ts : List Lexeme} {i k : ℕ} {xs : List Tree} {w : Word} → SpellsList (SpellsExpr ts) ts i k xs → EndsList ts k → IsCall ts i w → ⊥
no_call {ts} {k = k} (last a) t c = no_end ts k t (ap (kind_at ts) (stops a c) ∙ c.opens)
no_call {ts} (more {k = k} a h r) t c = let e : Some (P Comma) ≡ Some (P Open) = sym h ∙ (ap (kind_at ts) (stops a c) ∙ c.opens) in cc

no_list : {ts : List Lexeme} {i j k : ℕ} {y : SelectList} {w : Word} → Spells ts a_select_list j k y → j ≡ i → EndsList ts k → IsCall ts i w → ⊥
no_list {ts} (inl a) p t c = let e = sym (ap (kind_at ts) (sym (a.1.0 ∙ p)) ∙ a.2) ∙ c.word in cc
no_list {ts} {k = k} (inr a) p t c = no_call (subst (λ z. SpellsList (SpellsExpr ts) ts z k a.2) (a.3.0 ∙ p) a.4) t c

pub counts : (ts : List Lexeme) (i m n : ℕ) (r s : Statement) → Spells ts select i m r → IsEnd ts m → Spells ts select_count i n s → ⊥
counts ts i m n r s d t e =
    let z = e.3.1.1 in
    let p : z.1.0 ≡ suc i = z.1.1.3 ∙ ap suc z.1.1.1.0 in
    no_list d.3.4 (d.3.3.3 ∙ ap suc d.3.3.1.0) (ends_list d.4 t) (record {
      word = ap (kind_at ts) (sym p) ∙ z.1.2;
      opens = ap (kind_at ts) (sym (z.1.3 ∙ ap suc p)) ∙ z.2;
    })
