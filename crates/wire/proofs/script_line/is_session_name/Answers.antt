use Rattle.std.proofs.Common.{rules, tests}
use Rattle.std.proofs.lemmas.Iterator.{YieldsList-from_slice}
use Rattle.std.proofs.lemmas.Iterator.Search.{all_from_yields_List}
use Rattle.wire.specs.ScriptLine.{is_name_byte}
use Rattle.wire.proofs.script_line.is_session_name.Goals as goal

pub returns-then-not-is_empty : goal.returns-then-not-is_empty
returns-then-not-is_empty c =
    let all = all_from_yields_List is_name_byte _ _ c.all.result c.all.ensures.ran (YieldsList-from_slice c.args.name.now (search rules)) (λ x b q k. search (rules, tests)) in
    search rules
