-- The machine's own answer to ann, where the reading of her text is known.
use Rattle.std.proofs.Common.{◌≡◌, [], Ok, codes, ap, ◌∙◌}
use Rattle.sql_types.specs.declared.answer.Answer.{Answer}
use Rattle.sql_ast.specs.declared.statement.Statement.{Statement}
use Rattle.abstract_database.specs.Machine.{Machine, Session, Block, Reading, executes, transition_to, execute_in, transition}
use Rattle.abstract_database.specs.Runs.{MayRead, IsTransition}
use Rattle.database_examples.specs.WhatMayComeInPlace.{reads_as}

-- her session
abbrev pub ann_in : Block → Session
ann_in block = record { login = codes "ann"; role = codes "ann"; block = block }

-- her statement is answered in her session
abbrev pub RunsHers : Machine → Block → Type 0
RunsHers m block = (reading : Reading) → transition m (executes 2 reading) ≡ execute_in m 2 (ann_in block) reading

pub own_answer : (m : Machine) (block : Block) {after : Machine} {x : Statement} {answer : Answer}
    → RunsHers m block → MayRead m 2 → IsTransition (reads_as x) m (executes 2 []) (transition_to answer after) → answer ≡ (execute_in m 2 (ann_in block) (Ok x)).answer
own_answer m block hers may is =
    ap (λ u. u.answer) (is.is ∙ ap (transition m) is.read.1 ∙ hers is.read.0) ∙ ap (λ z. (execute_in m 2 (ann_in block) z).answer) (is.read.2 may)
