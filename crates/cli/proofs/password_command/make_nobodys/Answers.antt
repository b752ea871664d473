use Rattle.cli.proofs.Makings.{drawn_next}
use Rattle.cli.proofs.password_command.make_nobodys.Goals as goal

pub returns-in-Ok-nobodys_line-clause-made : goal.returns-in-Ok-nobodys_line-clause-made
returns-in-Ok-nobodys_line-clause-made g c =
    let old = g.Y.System.state c.args.system.now in
    let mid = g.Y.System.state c.draw.new.system in
    let keys = c.in-Ok-draw_two.drawn in
    record {
      salt = c.in-Ok.salt;
      stored_key = keys.0;
      server_key = keys.1;
      salted = c.in-Ok.ensures.drawn;
      stored = drawn_next old mid 0 keys.0 c.draw.ensures.left.same c.in-Ok.ensures.later c.in-Ok-draw_two.ensures.drawn.0;
      served = drawn_next old mid 1 keys.1 c.draw.ensures.left.same c.in-Ok.ensures.later c.in-Ok-draw_two.ensures.drawn.1;
      text_is = c.in-Ok-nobodys_line.ensures;
    }
