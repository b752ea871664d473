-- What was read of a text with a fault.
use Rattle.std.proofs.Common.{◌≡◌, ◌≢◌, ◌⊎◌, ℕ, List, [], sym, subst, inl, inr}
use Rattle.std.specs.Prelude.{IfOk, Result, Ok, Err}
use Rattle.sql_types.specs.declared.state.SqlState.{SqlState}
use Rattle.sql_types.specs.declared.state.SqlState.TheVariants.{OutOfMemory}
use Rattle.sql_lexer.specs.Lexeme.{Lexeme}
use Rattle.sql_lexer.specs.Lexing.{Lexes}
use Rattle.diagnostics.specs.Events.{HasTokens, faulty}

pub faulty_reads : (text : List ℕ) (s : SqlState) (ts : List Lexeme) → (s ≡ OutOfMemory) ⊎ Lexes text (Err s) → (ts ≡ []) × (s ≢ OutOfMemory) → HasTokens text ts
faulty_reads text s ts (inl memory) is = absurd (is.1 memory)
faulty_reads text s ts (inr fault) is = subst (λ (us : List Lexeme). HasTokens text us) (sym is.0) (faulty fault)

pub ok_map : {T E : Type 0} (P Q : T → Type 0) (r : Result T E) → ((x : T) → P x → Q x) → IfOk r P → IfOk r Q
ok_map P Q (Ok x) f p = f x p
ok_map P Q (Err e) f p = tt
