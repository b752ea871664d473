use Rattle.std.proofs.Common.{◌≡◌, ◌∙◌, ◌≤◌, ◌<◌, ◌∷◌, [], ℕ, false, List, length, drop, refl, sym, ap, arith, Option, Some, None}
use Rattle.std.specs.Prelude.{◌↔◌, IsTrue, leb, slice_index_or}
use Rattle.std.specs.Option.{option_map}
use Rattle.std.proofs.lemmas.Bool.{leb-true, le-leb}
use Rattle.std.proofs.lemmas.List.{take_rest}
use Rattle.sql_lexer.specs.declared.token.Token.{Token}
use Rattle.sql_lexer.specs.Lexeme.{lexemes}
use Rattle.statement_parameters.specs.declared.span.PartSpan.{PartSpan}
use Rattle.statement_parameters.specs.Eaten.{behind_known}
use Rattle.statement_parameters.specs.Parts.{appended, part_tokens, token_bytes, tokens_with}
use Rattle.statement_parameters.specs.Spans.{fragment_in, fragments_in}
use Rattle.statement_parameters.specs.Templates.{parts_of}
use Rattle.statement_parameters.proofs.Behind.{part_more, part_missing, parts_end}
use Rattle.statement_parameters.proofs.eating.are_tokens.Goals as goal

-- the tokens of the first part, and of those behind it
first_part : (m : List ℕ) (ls : List (List (List ℕ))) (rest after : List PartSpan) (d : PartSpan) → 1 ≤ length rest → after ≡ drop 1 rest
    → tokens_with ls (parts_of (fragments_in m rest)) ≡ appended (part_tokens ls (fragment_in m (slice_index_or rest 0 d)).part) (tokens_with ls (parts_of (fragments_in m after)))
first_part m ls [] after d some e = absurd (omega (arith, some))
first_part m ls (s ∷ ss) after d some e = let f : after ≡ ss = e in rw f refl

more : (all : Option (List (List ℕ))) (ts : List (List ℕ)) (m : List ℕ) (ls : List (List (List ℕ))) (rest after : List PartSpan) (d : PartSpan) (at behind : ℕ) (o : Option ℕ)
    → 1 ≤ length rest → after ≡ drop 1 rest → behind_known all ts ≡ behind_known (tokens_with ls (parts_of (fragments_in m rest))) (drop at ts)
    → option_map (λ (n : ℕ). drop n ts) o ≡ behind_known (part_tokens ls (fragment_in m (slice_index_or rest 0 d)).part) (drop at ts) → o ≡ Some behind
    → behind_known all ts ≡ behind_known (tokens_with ls (parts_of (fragments_in m after))) (drop behind ts)
more all ts m ls rest after d at behind o some e whole here found =
    part_more all (part_tokens ls (fragment_in m (slice_index_or rest 0 d)).part) (tokens_with ls (parts_of (fragments_in m after))) ts at behind
    (whole ∙ ap (λ (p : Option (List (List ℕ))). behind_known p (drop at ts)) (first_part m ls rest after d some e))
    (sym (ap (option_map (λ (n : ℕ). drop n ts)) found) ∙ here)

missing : (all : Option (List (List ℕ))) (ts : List (List ℕ)) (m : List ℕ) (ls : List (List (List ℕ))) (rest : List PartSpan) (d : PartSpan) (at : ℕ) (o : Option ℕ)
    → 1 ≤ length rest → behind_known all ts ≡ behind_known (tokens_with ls (parts_of (fragments_in m rest))) (drop at ts)
    → option_map (λ (n : ℕ). drop n ts) o ≡ behind_known (part_tokens ls (fragment_in m (slice_index_or rest 0 d)).part) (drop at ts) → o ≡ None
    → IsTrue false ↔ (all ≡ Some ts)
missing all ts m ls rest d at o some whole here none =
    part_missing all (part_tokens ls (fragment_in m (slice_index_or rest 0 d)).part) (tokens_with ls (parts_of (fragments_in m (drop 1 rest)))) ts at
    (whole ∙ ap (λ (p : Option (List (List ℕ))). behind_known p (drop at ts)) (first_part m ls rest (drop 1 rest) d some refl))
    (sym (ap (option_map (λ (n : ℕ). drop n ts)) none) ∙ here)

as_many : (tokens : List Token) → length (token_bytes (lexemes tokens)) ≡ length tokens
as_many [] = refl
as_many (t ∷ ts) = omega (arith, as_many ts)

ended : (all : Option (List (List ℕ))) (m : List ℕ) (ls : List (List (List ℕ))) (rest : List PartSpan) (tokens : List Token) (at : ℕ) → length rest < 1
    → behind_known all (token_bytes (lexemes tokens)) ≡ behind_known (tokens_with ls (parts_of (fragments_in m rest))) (drop at (token_bytes (lexemes tokens)))
    → IsTrue (leb (length tokens) at) ↔ (all ≡ Some (token_bytes (lexemes tokens)))
ended all m ls [] tokens at none whole =
    parts_end all (token_bytes (lexemes tokens)) at (leb (length tokens) at) whole
    (λ h. omega (arith, as_many tokens, leb-true (length tokens) at h))
    (λ h. le-leb (length tokens) at (omega (arith, as_many tokens, h)))
ended all m ls (s ∷ ss) tokens at none whole = absurd (omega (arith, none))

pub returns-in-None : goal.returns-in-None
returns-in-None c = missing _ _ _ _ _ _ _ _ c.in-len1-up.len_at_least c.loop-rest.invariant c.behind_part.ensures c.in-None.is

pub loop-rest-preserved : goal.loop-rest-preserved
loop-rest-preserved c = more _ _ _ _ _ _ _ _ _ _ c.in-len1-up.len_at_least (take_rest c.loop-rest.rest.now 1) c.loop-rest.invariant c.behind_part.ensures c.in-Some.is

pub returns : goal.returns
returns c = ended _ _ _ _ c.args.tokens.now c.loop-rest.at c.in_default.len_below c.loop-rest.invariant
