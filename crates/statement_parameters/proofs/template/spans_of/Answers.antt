use Rattle.std.proofs.Common.{◌≡◌, ◌∙◌, ◌≤◌, ◌++◌, ◌∷◌, [], ℕ, List, length, drop, sym, ap, subst, arith, All, Option, Some}
use Rattle.std.specs.Prelude.{slice_index_or}
use Rattle.std.specs.Option.{option_map}
use Rattle.std.proofs.lemmas.List.{take_rest}
use Rattle.std.proofs.lemmas.List.Elements.{All-head, All-tail}
use Rattle.sql_lexer.specs.declared.token.Token.{Token}
use Rattle.sql_lexer.specs.Lexeme.{IsPlaced, Lexeme, end_of, lexeme, lexemes}
use Rattle.statement_parameters.specs.declared.span.PartSpan.{PartSpan}
use Rattle.statement_parameters.specs.Parts.{appended}
use Rattle.statement_parameters.specs.Spans.{fragment_in, fragments_in}
use Rattle.statement_parameters.specs.Templates.{Fragment, fragment_of, fragments_from}
use Rattle.statement_parameters.proofs.Reading.{fragment_more}
use Rattle.statement_parameters.proofs.template.spans_of.Goals as goal

first_placed : (P : Lexeme → Type 0) (z : List Token) (d : Token) → 1 ≤ length z → All P (lexemes z) → P (lexeme (slice_index_or z 0 d))
first_placed P [] d some all = absurd (omega (arith, some))
first_placed P (t ∷ ts) d some all = All-head P (lexeme t) (lexemes ts) all

rest_placed : (P : Lexeme → Type 0) (z after : List Token) → 1 ≤ length z → after ≡ drop 1 z → All P (lexemes z) → All P (lexemes after)
rest_placed P [] after some is all = absurd (omega (arith, some))
rest_placed P (t ∷ ts) after some is all = let e : after ≡ ts = is in subst (λ (l : List Token). All P (lexemes l)) (sym e) (All-tail P (lexeme t) (lexemes ts) all)

more : (text m : List ℕ) (all : Option (List Fragment)) (z after : List Token) (d : Token) (spans new : List PartSpan) (s : PartSpan) (o : Option PartSpan) (from : ℕ)
    → 1 ≤ length z → after ≡ drop 1 z → all ≡ appended (Some (fragments_in m spans)) (fragments_from text m from (lexemes z))
    → option_map (fragment_in m) o ≡ fragment_of text m from (lexeme (slice_index_or z 0 d)) → o ≡ Some s → s.end ≡ end_of (lexeme (slice_index_or z 0 d))
    → new ≡ spans ++ s ∷ [] → all ≡ appended (Some (fragments_in m new)) (fragments_from text m s.end (lexemes after))
more text m all [] after d spans new s o from some is whole here found ends put = absurd (omega (arith, some))
more text m all (t ∷ ts) after d spans new s o from some is whole here found ends put =
    let e : after ≡ ts = is in
    rw (ends, e) (fragment_more all (fragments_from text m (end_of (lexeme t)) (lexemes ts)) (fragment_of text m from (lexeme t)) m spans new s put
    (sym (ap (option_map (fragment_in m)) found) ∙ here) whole)

pub span_of-requires : goal.span_of-requires
span_of-requires c = first_placed (IsPlaced c.args.shown.now) c.loop-rest.rest.now _ c.in-len1-up.len_at_least c.loop-rest.invariant.placed

pub loop-rest-preserved : goal.loop-rest-preserved
loop-rest-preserved c = record {
  placed = rest_placed (IsPlaced c.args.shown.now) c.loop-rest.rest.now _ c.in-len1-up.len_at_least (take_rest c.loop-rest.rest.now 1) c.loop-rest.invariant.placed;
  whole = more _ _ _ c.loop-rest.rest.now _ _ _ _ _ _ _ c.in-len1-up.len_at_least (take_rest c.loop-rest.rest.now 1) c.loop-rest.invariant.whole c.span_of.ensures.value c.in-Some.is c.in-Some.ensures.end c.in_ok-push.ensures.items;
}
