-- The conditions of a policy that a command makes are spelled by tokens whose slice of the source is their text.
use Rattle.std.proofs.Common.{◌≡◌, ℕ, suc, List, sym, subst, rules}
use Rattle.std.specs.Prelude.{Option, Some, None, IfSome, option_to_list, ◌++◌}
use Rattle.std.specs.List.{AllByRecursion}
use Rattle.sql_lexer.specs.Lexeme.{Lexeme}
use Rattle.sql_lexer.specs.Slices.{text_between}
use Rattle.sql_ast.specs.declared.policy.PolicyClause.{PolicyClause}
use Rattle.sql_ast.specs.declared.statement.Statement.{Statement}
use Rattle.sql_ast.specs.Statements.{clauses_read}
use Rattle.expr_parser.specs.Grammar.{SpellsExpr}
use Rattle.sql_grammar.specs.Phrases.{Phrase, gives, ◌▹◌, ◌⊛◌, clause, Spells}
use Rattle.sql_commands.specs.Commands.{phrase_of, enclosed, a_check, create_policy}
use Rattle.sql_commands.specs.declared.command.Command.{Command}
use Rattle.sql_commands.specs.declared.command.Command.TheVariants as production
use Rattle.sql_commands.proofs.Sound.{Sound, nothing, word, part, option_of, after_of}

-- the tokens from one to another spell the condition's tree, and their slice of the source is its text
pub record IsSliced (source : List ℕ) (ts : List Lexeme) (c : PolicyClause) : Type 0 where
  pub first : ℕ
  pub last : ℕ
  pub spelled : SpellsExpr ts first (suc last) c.expression
  pub text : c.text ≡ text_between source ts first last

abbrev pub AreSliced : List ℕ → List Lexeme → Statement → Type 0
AreSliced source ts s = AllByRecursion (IsSliced source ts) (clauses_read s)

any : {A B : Type 0} {ts : List Lexeme} {p : Phrase (A → B)} {q : Phrase A} {R : B → Type 0} → Sound ts p (λ f. (x : A) → R (f x)) → Sound ts (p ⊛ q) R
any {R = R} a = record { holds = λ i j y s. subst R (sym s.5) (a.holds i s.0 s.1 s.3 s.2) }

sliced : {source : List ℕ} {ts : List Lexeme} {i j : ℕ} {c : PolicyClause} → Spells ts (clause source) i j c → IsSliced source ts c
sliced {source} {ts} {i} {j} {c} s = record { first = i; last = s.1; spelled = subst_end s.2 s.0; text = s.3 }
  where
    subst_end : j ≡ suc s.1 → SpellsExpr ts i j c.expression → SpellsExpr ts i (suc s.1) c.expression
    subst_end p d = subst (λ z. SpellsExpr ts i z c.expression) p d

clause_sliced : {source : List ℕ} {ts : List Lexeme} → Sound ts (clause source) (IsSliced source ts)
clause_sliced = record { holds = λ i j c s. sliced s }

enclosed_sliced : {source : List ℕ} {ts : List Lexeme} → Sound ts (enclosed source) (IsSliced source ts)
enclosed_sliced {source} {ts} = word (part (IsSliced source ts) (word (nothing (λ c h. h))) clause_sliced)

check_sliced : {source : List ℕ} {ts : List Lexeme} → Sound ts (a_check source) (IsSliced source ts)
check_sliced {source} {ts} = part (IsSliced source ts) (word (word (nothing (λ c h. h)))) enclosed_sliced

pub both : (P : PolicyClause → Type 0) (u w : Option PolicyClause) → IfSome u P → IfSome w P → AllByRecursion P (option_to_list u ++ option_to_list w)
both P None None h g = tt
both P None (Some w) h g = (g, tt)
both P (Some u) None h g = (h, tt)
both P (Some u) (Some w) h g = (h, (g, tt))

create_policy_sliced : {source : List ℕ} {ts : List Lexeme} → Sound ts (create_policy source) (AreSliced source ts)
create_policy_sliced {source} {ts} =
    part (λ o. IfSome o (IsSliced source ts)) (part (λ o. IfSome o (IsSliced source ts)) (any (any (any (any (word (any
    (word (word (nothing (λ p t k m gs u h w g. both (IsSliced source ts) u w h g))))))))))
    (option_of (after_of enclosed_sliced))) (option_of check_sliced)

-- P holds of each value of a phrase, whatever its parts stand for
abbrev Whatever : {A : Type 0} → Phrase A → (A → Type 0) → Type 0
Whatever (gives x) P = P x
Whatever (p ▹ t) P = Whatever p P
Whatever (p ⊛ q) P = Whatever p (λ f. (x : _) → P (f x))
Whatever {A} p P = (x : A) → P x

whatever : {A : Type 0} {ts : List Lexeme} (p : Phrase A) (P : A → Type 0) → Whatever p P → Sound ts p P
whatever (gives x) P h = nothing h
whatever (p ▹ t) P h = word (whatever p P h)
whatever (p ⊛ q) P h = any (whatever p (λ f. (x : _) → P (f x)) h)
whatever p P h = record { holds = λ i j x s. h x }

-- CREATE POLICY alone makes conditions
command_sliced : {source : List ℕ} {ts : List Lexeme} (c : Command) → Sound ts (phrase_of source c) (AreSliced source ts)
command_sliced production.CreatePolicy = create_policy_sliced
command_sliced {source} {ts} c = whatever (phrase_of source c) (AreSliced source ts) (search rules)

pub all_sliced : (source : List ℕ) (c : Command) (ts : List Lexeme) (i n : ℕ) (s : Statement) → Spells ts (phrase_of source c) i n s → AreSliced source ts s
all_sliced source c ts i n s d = (command_sliced c).holds i n s d
