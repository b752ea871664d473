use Rattle.std.proofs.Common.{◌∙◌, ◌++◌, ◌∷◌, Some, None, ap, arith, rules}
use Rattle.std.specs.Prelude.{codes}
use Rattle.std.proofs.lemmas.Str.Pattern.{starts_char, strip_prefix_char}
use Rattle.wire.specs.ScriptLine.{empty, comment, opening, asking, closing}
use Rattle.wire.proofs.Lines.{no_line, no_space, no_closing, no_opening, strip_text, strips_none, begins, begins_not, no_bytes}
use Rattle.wire.proofs.script_line.read_line.Goals as goal

pub returns-in-Some-split_name : goal.returns-in-Some-split_name
returns-in-Some-split_name c =
    opening c.in-Some-split_name.ensures.0 (strip_text (codes "open ") c.args.line.now (Some c.in-Some.rest) c.in-Some.ensures.cases ∙ ap (λ z. codes "open " ++ z) c.in-Some-split_name.ensures.1)

pub returns-in-None : goal.returns-in-None
returns-in-None c = no_opening c.args.line.now c.in-Some.rest.now (strip_text (codes "open ") c.args.line.now (Some c.in-Some.rest) c.in-Some.ensures.cases) c.in-None.ensures

pub returns-then-is_session_name : goal.returns-then-is_session_name
returns-then-is_session_name c = closing (search rules) (strip_text (codes "close ") c.args.line.now (Some c.in-Some-strip_prefix.name) c.in-Some-strip_prefix.ensures.cases)

pub returns-in-Some-strip_prefix : goal.returns-in-Some-strip_prefix
returns-in-Some-strip_prefix c = no_closing c.args.line.now c.in-Some-strip_prefix.name.now (strip_text (codes "close ") c.args.line.now (Some c.in-Some-strip_prefix.name) c.in-Some-strip_prefix.ensures.cases) (search rules)

pub returns-in-Some-strip_prefix-2 : goal.returns-in-Some-strip_prefix-2
returns-in-Some-strip_prefix-2 c = asking c.in-Some-split_name-2.ensures.0 (c.in-Some-split_name-2.ensures.1 ∙ ap (λ z. c.in-Some-split_name-2.name.now ++ 58 ∷ z) (strip_prefix_char 32 c.in-Some-split_name-2.rest.now (Some c.in-Some-strip_prefix-2.text) c.in-Some-strip_prefix-2.ensures.cases (omega arith)))

pub returns-in-None-strip_prefix : goal.returns-in-None-strip_prefix
returns-in-None-strip_prefix c = no_line c.args.line.now (λ e. absurd (search (rules, e)))
    (λ rest. begins_not c.args.line.now rest 35 (λ e. let g = (starts_char 35 c.args.line.now c.starts_with.result c.starts_with.ensures.cases (omega arith) (omega arith)).1 e in search rules))
    (strips_none (codes "open ") c.args.line.now c.strip_prefix.result c.strip_prefix.ensures.cases c.in_default.not-Some)
    (strips_none (codes "close ") c.args.line.now c.strip_prefix-2.result c.strip_prefix-2.ensures.cases c.in_default-strip_prefix.not-Some)
    (no_space c.args.line.now c.in-Some-split_name-2.name.now c.in-Some-split_name-2.rest.now c.in-Some-split_name-2.ensures.1 c.in-Some-split_name-2.ensures.0
    (strip_prefix_char 32 c.in-Some-split_name-2.rest.now None c.in-None-strip_prefix.ensures.cases (omega arith)))

pub returns-then-is_empty : goal.returns-then-is_empty
returns-then-is_empty c = empty (no_bytes c.args.line.now (grind arith))

pub returns-then-starts_with : goal.returns-then-starts_with
returns-then-starts_with c = comment (begins c.args.line.now 34 ((starts_char 35 c.args.line.now c.starts_with.result c.starts_with.ensures.cases (omega arith) (omega arith)).0 c.if-starts_with.true))
