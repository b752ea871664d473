use Rattle.std.proofs.Common.{◌≡◌, ◌∙◌, ◌++◌, ℕ, List, ap, rules}
use Rattle.std.specs.Prelude.{Option}
use Rattle.std.specs.Io.KnownBytes.{Appends}
use Rattle.std.specs.Option.{option_map}
use Rattle.sql_lexer.specs.declared.token.Token.{Token}
use Rattle.sql_lexer.specs.Lexeme.{lexemes}
use Rattle.diagnostics.specs.Events.{left_out_text, place_of, told_if}
use Rattle.diagnostics.specs.LeftOut.{left_out}
use Rattle.diagnostics.specs.Marks.{marked}
use Rattle.std.proofs.KnownBytes.{Appends-trans}
use Rattle.diagnostics.proofs.events.tell_place.Goals as goal

pub returns : goal.returns
returns g c =
    let before = g.E.Write.contents c.args.err.now in
    let mid = g.E.Write.contents c.write_mark.new.err in
    let after = g.E.Write.contents c.write_left_out.new.err in
    let at = place_of c.args.event in
    let shown = marked c.args.text.now c.args.place in
    let named = told_if at (option_map left_out_text (option_map (λ text. text.now) c.left_out.result)) in
    let first : Appends before mid shown = search rules in
    λ is. record {
      text = shown ++ named;
      is = record {
        place = c.args.place;
        tokens = lexemes c.in-Ok.tokens.items;
        goes_wrong = c.requires.wrong;
        reads = c.in-Ok.ensures;
        is = ap (λ (line : Option (List ℕ)). shown ++ told_if at (option_map left_out_text line)) (c.left_out.ensures ∙ ap (λ (ts : List Token). left_out c.args.place (lexemes ts)) c.as_slice.ensures.value);
      };
      written = Appends-trans before mid after shown named first (c.write_left_out.ensures is);
    }
