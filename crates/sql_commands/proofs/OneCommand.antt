-- Tokens spell at most one command.
use Rattle.std.proofs.Common.{◌≡◌, ℕ, inl, inr, List, [], ◌∷◌, None, length, refl, ap, subst, sym, ◌∙◌}
use Rattle.std.specs.Prelude.{true, ◌&&◌, ◌||◌, nat_eq}
use Rattle.std.proofs.lemmas.Bool.{and_parts, or_cases, eqb-true}
use denote.Enum.Bare.{tag_one}
use Rattle.sql_lexer.specs.Lexeme.{Lexeme, kind_at}
use Rattle.sql_ast.specs.declared.statement.Statement.{Statement}
use Rattle.sql_grammar.specs.Phrases.{Spells}
use Rattle.sql_grammar.proofs.OneReading.{one_reading}
use Rattle.sql_commands.specs.contracts.command.Command as commands
use Rattle.sql_commands.specs.declared.command.Command.{Command}
use Rattle.sql_commands.specs.declared.command.Command.TheVariants as production
use Rattle.sql_commands.specs.Commands.{phrase_of}
use Rattle.sql_commands.specs.Statements.{IsEnd, EndsAt, SpellsAs}
use Rattle.sql_commands.proofs.Apart.{told_apart, never_both}
use Rattle.sql_commands.proofs.Table.{all_determined, place, is_pair, alike, settled, command_ends}
use Rattle.sql_commands.proofs.Alike.{grants, revokes, admin_options, counts}

same : (a b : Command) → nat_eq (place a) (place b) ≡ true → a ≡ b
same a b h = tag_one commands.the_type tt a b (eqb-true (place a) (place b) h)

-- no tokens spell both commands up to an end
abbrev NeverBoth : List ℕ → Command → Command → Type 0
NeverBoth source a b = (ts : List Lexeme) (i m n : ℕ) (r s : Statement) → Spells ts (phrase_of source a) i m r → Spells ts (phrase_of source b) i n s → IsEnd ts m → IsEnd ts n → ⊥

never_pair : (source : List ℕ) (x y a b : Command) → NeverBoth source x y → is_pair x y a b ≡ true → NeverBoth source a b
never_pair source x y a b never h = elim (or_cases (nat_eq (place a) (place x) && nat_eq (place b) (place y)) (nat_eq (place a) (place y) && nat_eq (place b) (place x)) h) [
  | inl g ↦ (let v = and_parts (nat_eq (place a) (place x)) (nat_eq (place b) (place y)) g in
      subst (λ (c : Command). NeverBoth source c b) (sym (same a x v.0)) (subst (λ (c : Command). NeverBoth source x c) (sym (same b y v.1)) never))
  | inr g ↦ (let v = and_parts (nat_eq (place a) (place y)) (nat_eq (place b) (place x)) g in
      subst (λ (c : Command). NeverBoth source c b) (sym (same a y v.0)) (subst (λ (c : Command). NeverBoth source y c) (sym (same b x v.1)) (λ ts i m n r s d e u t. never ts i n m s r e d t u)))
]

not_alike : (source : List ℕ) (a b : Command) → alike a b ≡ true → NeverBoth source a b
not_alike source a b h =
    let role = is_pair production.GrantRole production.Grant a b in
    let admin = is_pair production.RevokeRole production.RevokeAdminOption a b in
    let revoke = is_pair production.RevokeRole production.Revoke a b in
    let count = is_pair production.Select production.SelectCount a b in
    elim (or_cases (role || admin || revoke) count h) [
      | inl g ↦ elim (or_cases (role || admin) revoke g) [
        | inl f ↦ elim (or_cases role admin f) [
          | inl p ↦ never_pair source production.GrantRole production.Grant a b (λ ts i m n r s d e u t. grants ts i m n r s d e) p
          | inr p ↦ never_pair source production.RevokeRole production.RevokeAdminOption a b (λ ts i m n r s d e u t. admin_options ts i m n r s d e) p
        ]
        | inr p ↦ never_pair source production.RevokeRole production.Revoke a b (λ ts i m n r s d e u t. revokes ts i m n r s d e) p
      ]
      | inr p ↦ never_pair source production.Select production.SelectCount a b (λ ts i m n r s d e u t. counts ts i m n r s d u e) p
    ]

same_command : (source : List ℕ) (a b : Command) (ts : List Lexeme) (i m n : ℕ) (r s : Statement) → a ≡ b → Spells ts (phrase_of source a) i m r → Spells ts (phrase_of source b) i n s → IsEnd ts m → IsEnd ts n → (a ≡ b) × (m ≡ n) × (r ≡ s)
same_command source a b ts i m n r s p d e u t =
    let q = one_reading (phrase_of source a) ts (all_determined source a) i m n r s d (subst (λ c. Spells ts (phrase_of source c) i n s) (sym p) e) (command_ends source a ts m u) (command_ends source a ts n t) in
    (p, q.0, q.1)

pub one_command : (source : List ℕ) (a b : Command) (ts : List Lexeme) (i m n : ℕ) (r s : Statement) → Spells ts (phrase_of source a) i m r → Spells ts (phrase_of source b) i n s → IsEnd ts m → IsEnd ts n → (a ≡ b) × (m ≡ n) × (r ≡ s)
one_command source a b ts i m n r s d e u t = elim (or_cases (nat_eq (place a) (place b) || alike a b) (told_apart (phrase_of source a) (phrase_of source b)) (settled source a b)) [
  | inl h ↦ elim (or_cases (nat_eq (place a) (place b)) (alike a b) h) [
    | inl g ↦ same_command source a b ts i m n r s (same a b g) d e u t
    | inr g ↦ absurd (not_alike source a b g ts i m n r s d e u t)
  ]
  | inr h ↦ absurd (never_both (phrase_of source a) (phrase_of source b) ts i m n r s (all_determined source a) (all_determined source b) h d e)
]

-- Statements

nothing_at_end : (ts : List Lexeme) → kind_at ts (length ts) ≡ None
nothing_at_end [] = refl
nothing_at_end (x ∷ xs) = nothing_at_end xs

pub ends_there : (ts : List Lexeme) (n : ℕ) → EndsAt ts n → IsEnd ts n
ends_there ts n (inl e) = inl (ap (kind_at ts) e ∙ nothing_at_end ts)
ends_there ts n (inr e) = inr e.0

pub one_statement : (source : List ℕ) (ts : List Lexeme) (a b : Command) (r s : Statement) → SpellsAs source a ts r → SpellsAs source b ts s → (a ≡ b) × (r ≡ s)
one_statement source ts a b r s d e =
    let q = one_command source a b ts 0 d.end e.end r s d.spelled e.spelled (ends_there ts d.end d.ends) (ends_there ts e.end e.ends) in
    (q.0, q.2)
