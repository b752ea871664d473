use Rattle.std.proofs.Common.{◌≡◌, ◌++◌, refl, rules}
use Rattle.std.specs.Io.KnownBytes.{Appends}
use Rattle.diagnostics.specs.Events.{place_of, refused_text, told_at}
use Rattle.std.proofs.KnownBytes.{Appends-trans}
use Rattle.diagnostics.proofs.events.tell_refusal.Goals as goal

pub returns : goal.returns
returns g c =
    let before = g.E.Write.contents c.args.err.now in
    let mid = g.E.Write.contents c.write_refusal.new.err in
    let after = g.E.Write.contents c.tell_cause.new.err in
    let line = told_at (place_of c.args.event) (refused_text c.args.state) in
    let first : Appends before mid line = search rules in
    λ is. (
    let cause = c.tell_cause.ensures is in
    record {
      text = line ++ cause.text;
      is = record { cause = cause.text; is_cause = cause.is; is = refl };
      written = Appends-trans before mid after line cause.text first cause.written;
    }
    )
