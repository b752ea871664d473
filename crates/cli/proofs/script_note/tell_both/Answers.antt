use Rattle.std.proofs.Common.{◌≡◌, true, Option, rules, subst}
use Rattle.std.specs.Io.KnownBytes.{Appends}
use Rattle.wire.specs.Sinks.{appends_joined}
use Rattle.cli.specs.declared.script_note.LineNote.{LineNote}
use Rattle.cli.specs.ScriptNotes.{note_text}
use Rattle.cli.proofs.script_note.tell_both.Goals as goal

pub returns-then-of_end-clause-told : goal.returns-then-of_end-clause-told
returns-then-of_end-clause-told g c =
    let before = g.E.Write.contents c.args.err.now in
    let mid = g.E.Write.contents c.tell_note-of_end.new.err in
    let after = g.E.Write.contents c.tell_note-of_login.new.err in
    let first = subst (λ (note : Option LineNote). c.tell_note-of_end.result ≡ true → Appends before mid (note_text c.args.about note)) c.note_of_end.ensures c.tell_note-of_end.ensures.told in
    let second = subst (λ (note : Option LineNote). c.tell_note-of_login.result ≡ true → Appends mid after (note_text c.args.about note)) c.note_of_login.ensures c.tell_note-of_login.ensures.told in
    let taken : c.tell_note-of_end.result ≡ true = search rules in
    λ is. appends_joined before mid after _ _ (first taken) (second is)
