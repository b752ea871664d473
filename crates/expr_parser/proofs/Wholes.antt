-- Expressions of whole texts.
use Rattle.std.proofs.Common.{◌≡◌, ◌≢◌, ◌≤◌, ◌<◌, ℕ, ◌⊎◌, inl, inr, Bool, true, false, List, Option, Some, None, length, slice_index_or, Err, refl, sym, ap, subst, ◌∙◌, arith}
use Rattle.std.specs.Prelude.{if◌then◌else◌}
use Rattle.std.proofs.lemmas.List.{length-map, get_or-map}
use Rattle.sql_types.specs.declared.state.SqlState.TheVariants.{OutOfMemory}
use Rattle.sql_types.specs.declared.state.Refusal.{Refusal}
use Rattle.sql_lexer.specs.Lexeme.{Lexeme, lexeme, lexemes, end_of, IsPlaced, ArePlaced, Precedes}
use Rattle.sql_lexer.specs.Lexing.{Lexes}
use Rattle.sql_lexer.specs.Parentheses.{OpensTooMany}
use Rattle.sql_lexer.specs.declared.token.Token.{Token}
use Rattle.sql_lexer.specs.declared.token.TokenKind.TheVariants.{Number}
use Rattle.expr_parser.specs.Grammar.{Tree, SpellsExpr, ReadsLongest}
use Rattle.expr_parser.specs.Whole.{SpellsWhole}
use Rattle.expr_parser.specs.Stages.{is_least, zero_if_least, least_as_zero, max_text_length, refusal, Answers, ill_formed, out_of_range, no_memory, Parses, bad_token, memory_refused, Refuses, for_syntax, for_range, for_memory}
use Rattle.expr_parser.proofs.Descent.{within_tokens}

-- the longest front is all of the tokens
pub spelled_whole : (ts : List Token) (end : ℕ) (x : Tree) (o : Option (Tree × ℕ)) → ReadsLongest (lexemes ts) 0 o → o ≡ Some (x, end) → end ≡ length ts → SpellsWhole (lexemes ts) x
spelled_whole ts end x o r h p =
    let d = (subst (ReadsLongest (lexemes ts) 0) h r).0 in
    subst (λ z. SpellsExpr (lexemes ts) 0 z x) (p ∙ sym (length-map ts lexeme)) d

-- it is not all of them, so all of them are no front
pub not_whole : (ts : List Token) (end : ℕ) (x : Tree) (o : Option (Tree × ℕ)) → ReadsLongest (lexemes ts) 0 o → o ≡ Some (x, end) → end ≢ length ts → (e : Tree) → SpellsWhole (lexemes ts) e → ⊥
not_whole ts end x o r h never e d =
    let q = subst (ReadsLongest (lexemes ts) 0) h r in
    let le = q.1 _ e d in
    let ge = within_tokens ts q.0 in
    never (omega (arith, length-map ts lexeme))

pub none_whole : (ts : List Lexeme) (o : Option (Tree × ℕ)) → ReadsLongest ts 0 o → o ≡ None → (e : Tree) → SpellsWhole ts e → ⊥
none_whole ts o r h e d = subst (ReadsLongest ts 0) h r (length ts) e d

-- why tokens that mean nothing are refused, after the stages before
pub refused : {A : Type 0} {Means : List Lexeme → A → Type 0} {IsWithinDepth : A → Type 0} {ts : List Lexeme} {r : Refusal} → (OpensTooMany ts → ⊥) → ((x : A) → Means ts x → ⊥) → Refuses Means ts r → Answers Means IsWithinDepth ts (Err r)
refused h never (for_syntax least_as_zero) = ill_formed h never least_as_zero
refused h never (for_range m) = out_of_range h never m
refused h never for_memory = no_memory

pub bad_tokens : {A : Type 0} {Means : List Lexeme → A → Type 0} {IsWithinDepth : A → Type 0} {text : List ℕ} {r : Refusal} → length text ≤ max_text_length → (r.0 ≡ OutOfMemory) ⊎ Lexes text (Err r.0) → Parses Means IsWithinDepth text (Err r)
bad_tokens {Means = Means} {IsWithinDepth} {text} {r} le (inl e) = subst (λ s. Parses Means IsWithinDepth text (Err (refusal s))) (sym e) (memory_refused le)
bad_tokens le (inr l) = bad_token le l

-- with its kind alone changed a token is the same slice
placed_zero : {source : List ℕ} (t : Lexeme) → IsPlaced source t → IsPlaced source (zero_if_least t)
placed_zero {source} t p = of (is_least t.kind)
  where
    of : (b : Bool) → IsPlaced source (if b then record t { kind = Number 0 } else t)
    of true = record { slice = p.slice; within = p.within; begins = p.begins; ends = p.ends }
    of false = p

zero_ends : (t : Lexeme) → end_of (zero_if_least t) ≡ end_of t
zero_ends t = of (is_least t.kind)
  where
    of : (b : Bool) → end_of (if b then record t { kind = Number 0 } else t) ≡ end_of t
    of true = refl
    of false = refl

zero_starts : (t : Lexeme) → (zero_if_least t).start ≡ t.start
zero_starts t = of (is_least t.kind)
  where
    of : (b : Bool) → (if b then record t { kind = Number 0 } else t).start ≡ t.start
    of true = refl
    of false = refl

-- the tokens with each 2 ^ 63 made 0 are the same slices
pub least_placed : {source : List ℕ} {ts : List Lexeme} → ArePlaced source ts → ArePlaced source (least_as_zero ts)
least_placed {source} {ts} p = record { each = λ k d lt. each k d (inside k lt); in_order = λ i j d l lt. in_order i j d l (inside j lt) }
  where
    inside : (k : ℕ) → k < length (least_as_zero ts) → k < length ts
    inside k lt = omega (arith, length-map ts zero_if_least, lt)

    each : (k : ℕ) (d : Lexeme) → k < length ts → IsPlaced source (slice_index_or (least_as_zero ts) k d)
    each k d lt = subst (IsPlaced source) (sym (get_or-map zero_if_least ts k d d lt)) (placed_zero (slice_index_or ts k d) (p.each k d lt))

    in_order : (i j : ℕ) (d : Lexeme) → i < j → j < length ts → Precedes (slice_index_or (least_as_zero ts) i d) (slice_index_or (least_as_zero ts) j d)
    in_order i j d l lt =
        let a = get_or-map zero_if_least ts i d d (omega (arith, l, lt)) in
        let b = get_or-map zero_if_least ts j d d lt in
        let e = ap end_of a ∙ zero_ends (slice_index_or ts i d) in
        let f = ap (λ t. t.start) b ∙ zero_starts (slice_index_or ts j d) in
        omega (arith, e, f, p.in_order i j d l lt)
