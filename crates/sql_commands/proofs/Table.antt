-- One token of look-ahead tells how each command is read, and the first two tokens tell most commands apart: computed over the
-- table of commands.
use Rattle.std.proofs.Common.{◌≡◌, ℕ, zero, suc, List, [], ◌∷◌, Option, Some, None, inl, inr, refl}
use Rattle.std.specs.Prelude.{Bool, true, false, not, ◌&&◌, ◌||◌, nat_eq}
use Rattle.std.proofs.lemmas.Bool.{and_parts, not-true}
use denote.Enum.Declared.{tag_of}
use Rattle.sql_lexer.specs.Lexeme.{Lexeme}
use Rattle.sql_lexer.specs.declared.token.TokenKind.TheVariants.{Punctuation}
use Rattle.sql_lexer.specs.declared.token.Punctuation.TheVariants.{Semicolon}
use Rattle.expr_parser.proofs.Readings.{Some_inj}
use Rattle.sql_commands.specs.contracts.command.Command as commands
use Rattle.sql_commands.specs.declared.command.TheConstants.{COMMANDS}
use Rattle.sql_commands.specs.declared.command.Command.{Command}
use Rattle.sql_commands.specs.declared.command.Command.TheVariants as production
use Rattle.sql_commands.specs.Commands.{phrase_of}
use Rattle.sql_commands.specs.Statements.{IsEnd}
use Rattle.sql_grammar.specs.Classes.{in_any}
use Rattle.sql_grammar.specs.LookAhead.{extends, Ends, is_determined}
use Rattle.sql_commands.proofs.Apart.{told_apart}

-- the place of a command among them
abbrev pub place : Command → ℕ
place c = tag_of commands.the_type c

-- two commands are these two, in either order
abbrev pub is_pair : Command → Command → Command → Command → Bool
is_pair x y a b = nat_eq (place a) (place x) && nat_eq (place b) (place y) || nat_eq (place a) (place y) && nat_eq (place b) (place x)

-- the pairs that no two tokens tell apart
abbrev pub alike : Command → Command → Bool
alike a b =
    is_pair production.GrantRole production.Grant a b
    || is_pair production.RevokeRole production.RevokeAdminOption a b
    || is_pair production.RevokeRole production.Revoke a b
    || is_pair production.Select production.SelectCount a b

-- one command, or a pair of those, or told apart by two tokens
abbrev pub is_settled : List ℕ → Command → Command → Bool
is_settled source a b = nat_eq (place a) (place b) || alike a b || told_apart (phrase_of source a) (phrase_of source b)

abbrev holds_for_all : (Command → Bool) → List Command → Bool
holds_for_all f [] = true
holds_for_all f (c ∷ cs) = f c && holds_for_all f cs

abbrev at : List Command → ℕ → Option Command
at [] n = None
at (c ∷ cs) zero = Some c
at (c ∷ cs) (suc n) = at cs n

at_place : (c : Command) → at COMMANDS (place c) ≡ Some c
at_place production.CreateRole = refl
at_place _ = refl

at_each : (f : Command → Bool) (cs : List Command) (n : ℕ) (c : Command) → holds_for_all f cs ≡ true → at cs n ≡ Some c → f c ≡ true
at_each f [] n c h e = cc
at_each f (d ∷ cs) zero c h e = rw (← Some_inj e) (and_parts (f d) (holds_for_all f cs) h).0
at_each f (d ∷ cs) (suc n) c h e = at_each f cs n c (and_parts (f d) (holds_for_all f cs) h).1 e

for_each : (f : Command → Bool) → holds_for_all f COMMANDS ≡ true → (c : Command) → f c ≡ true
for_each f h c = at_each f COMMANDS (place c) c h (at_place c)

-- one token of look-ahead tells how it is read
determined_each : (source : List ℕ) → holds_for_all (λ c. is_determined (phrase_of source c)) COMMANDS ≡ true
determined_each source = refl

pub all_determined : (source : List ℕ) (c : Command) → is_determined (phrase_of source c) ≡ true
all_determined source c = for_each (λ a. is_determined (phrase_of source a)) (determined_each source) c

all_settled : (source : List ℕ) → holds_for_all (λ a. holds_for_all (is_settled source a) COMMANDS) COMMANDS ≡ true
all_settled source = refl

pub settled : (source : List ℕ) (a b : Command) → is_settled source a b ≡ true
settled source a b = for_each (is_settled source a) (for_each (λ c. holds_for_all (is_settled source c) COMMANDS) (all_settled source) a) b

-- no end extends a command
abbrev ends_command : List ℕ → Command → Bool
ends_command source c = not (in_any (extends (phrase_of source c)) None) && not (in_any (extends (phrase_of source c)) (Some (Punctuation Semicolon)))

all_end : (source : List ℕ) → holds_for_all (ends_command source) COMMANDS ≡ true
all_end source = refl

pub command_ends : (source : List ℕ) (c : Command) (ts : List Lexeme) (n : ℕ) → IsEnd ts n → Ends (phrase_of source c) ts n
command_ends source c ts n e =
    let v = and_parts (not (in_any (extends (phrase_of source c)) None)) (not (in_any (extends (phrase_of source c)) (Some (Punctuation Semicolon)))) (for_each (ends_command source) (all_end source) c) in
    elim e [
      | inl h ↦ rw h (not-true (in_any (extends (phrase_of source c)) None) v.0)
      | inr h ↦ rw h (not-true (in_any (extends (phrase_of source c)) (Some (Punctuation Semicolon))) v.1)
    ]
