use Rattle.std.proofs.Common.{◌≡◌, ◌∙◌, ◌++◌, ap, subst, true, List, ℕ, None}
use Rattle.std.specs.Io.KnownBytes.{Appends}
use Rattle.wire.specs.SessionNames.{texts_of}
use Rattle.cli.specs.ScriptNotes.{note_of_end, note_of_login, note_text}
use Rattle.cli.proofs.script_note.tell_notes.Goals as goal

pub returns-clause-told : goal.returns-clause-told
returns-clause-told g c =
    let before = g.E.Write.contents c.args.err.now in
    let after = g.E.Write.contents c.tell_both.new.err in
    subst (λ (ls : List (List ℕ)). c.tell_both.result ≡ true → Appends before after (note_text c.args.about (note_of_end c.args.ending ls) ++ note_text c.args.about (note_of_login c.args.ending ls)))
    (ap texts_of c.as_slice.ensures.value ∙ c.in-Ok.ensures) c.tell_both.ensures.told

pub returns-clause-silent : goal.returns-clause-silent
returns-clause-silent g c =
    let before = g.E.Write.contents c.args.err.now in
    let after = g.E.Write.contents c.tell_both.new.err in
    let silent = subst (λ (ls : List (List ℕ)). note_of_end c.args.ending ls ≡ None → note_of_login c.args.ending ls ≡ None → after ≡ before)
    (ap texts_of c.as_slice.ensures.value ∙ c.in-Ok.ensures) c.tell_both.ensures.silent in
    λ none. silent none.0 none.1
