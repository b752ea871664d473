use Rattle.std.proofs.Common.{◌≡◌, ℕ, Bool, List, refl, subst, sym}
use Rattle.std.specs.Borrow.{Bor}
use Rattle.sector_device.specs.declared.device.Device.{Ghosts}
use Rattle.systems.specs.Systems.{SystemState}
use Rattle.wire.specs.ScriptRun.{Known}
use Rattle.cli.specs.declared.describe_words.DescribeAsked.{DescribeAsked}
use Rattle.cli.specs.declared.describe_words.DescribeAsked.TheVariants as asked
use Rattle.cli.specs.declared.ending.Exit.{Exit}
use Rattle.cli.specs.Describing.{Describes, DescribesAsked}
use Rattle.cli.proofs.describing.describe.Goals as goal

module _ {D L S : Type 0} (g : Ghosts D) (state : S → SystemState D L) (old : SystemState D L) (file : Bor (List ℕ)) (json : Bool) (exit : Exit) (new : SystemState D L) (out_before out_after err_before err_after : Known) where
  -- where no other file is asked for
  one_file : (a : DescribeAsked) → ((o : Bor (List ℕ)) → a ≡ asked.Since o → ⊥) → Describes g old file a json exit new out_before out_after err_before err_after
      → DescribesAsked g state old file a json exit new out_before out_after err_before err_after
  one_file asked.Database other d = d
  one_file (asked.Role name) other d = d
  one_file (asked.Table name) other d = d
  one_file asked.Powers other d = d
  one_file (asked.Since o) other d = absurd (other o refl)

pub returns-in-Since : goal.returns-in-Since
returns-in-Since g c =
    subst (λ (a : DescribeAsked). DescribesAsked g.Y.Device.Device g.Y.System.state (g.Y.System.state c.args.system.now) c.args.file a c.args.json c.compare.result (g.Y.System.state c.compare.new.system)
    (g.K.Sink.held c.args.out.now) (g.K.Sink.held c.compare.new.out) (g.E.Write.contents c.args.err.now) (g.E.Write.contents c.compare.new.err))
    (sym c.in-Since.is) c.compare.ensures

pub returns-in_default : goal.returns-in_default
returns-in_default g c =
    one_file g.Y.Device.Device g.Y.System.state (g.Y.System.state c.args.system.now) c.args.file c.args.json c.describe_file.result (g.Y.System.state c.describe_file.new.system)
    (g.K.Sink.held c.args.out.now) (g.K.Sink.held c.describe_file.new.out) (g.E.Write.contents c.args.err.now) (g.E.Write.contents c.describe_file.new.err)
    c.args.asked c.in_default.not-Since c.describe_file.ensures
