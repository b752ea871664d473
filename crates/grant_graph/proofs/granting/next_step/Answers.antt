use Rattle.std.proofs.Common.{sym}
use Rattle.std.proofs.lemmas.List.{nil_from_length}
use Rattle.grant_graph.proofs.Merges.{step_to_old, step_to_new, step_before, step_both, step_after}
use Rattle.grant_graph.proofs.granting.next_step.Goals.{in-None-Some+in_ok-try_copy-in-None-Some, in-Some-None+in_ok-try_copy-in-Some-None, in-Some-Some+in-Less+in_ok-try_copy-in-Less, in-Some-Some+in-Equal+in_ok-granted_again-in-Equal, in-Some-Some+in-Greater+in_ok-try_copy-in-Greater}
use Rattle.grant_graph.proofs.granting.next_step.Goals as goal

pub returns : goal.returns
returns c =
    let old = c.args.old.now in
    let new = c.args.new.now in
    elim c.match-split_first.branch [
      | in-None-Some+in_ok-try_copy-in-None-Some w ↦
          let s = w.in-None-Some in
          rw (w.first-is, w.in_ok-try_copy-in-None-Some.ensures) (step_to_new old new s.first.now s.rest.now c.requires s.ensures'.cases.0 (nil_from_length old s.ensures.cases))
      | in-Some-None+in_ok-try_copy-in-Some-None w ↦
          let s = w.in-Some-None in
          rw (w.first-is, w.in_ok-try_copy-in-Some-None.ensures) (step_to_old old new s.first.now s.rest.now c.requires s.ensures.cases.0 (nil_from_length new s.ensures'.cases))
      | in-Some-Some+in-Less+in_ok-try_copy-in-Less w ↦
          let s = w.in-Some-Some in
          rw (w.first-is, w.in_ok-try_copy-in-Less.ensures) (step_before old new s.granted.now s.kept.now s.rest.now s.after.now c.requires s.ensures'.cases.0 s.ensures.cases.0 (sym w.in-Less.ensures))
      | in-Some-Some+in-Equal+in_ok-granted_again-in-Equal w ↦
          let s = w.in-Some-Some in
          rw (w.first-is, w.in_ok-granted_again-in-Equal.ensures) (step_both old new s.granted.now s.kept.now s.rest.now s.after.now c.requires s.ensures'.cases.0 s.ensures.cases.0 (sym w.in-Equal.ensures))
      | in-Some-Some+in-Greater+in_ok-try_copy-in-Greater w ↦
          let s = w.in-Some-Some in
          rw (w.first-is, w.in_ok-try_copy-in-Greater.ensures) (step_after old new s.granted.now s.kept.now s.rest.now s.after.now c.requires s.ensures'.cases.0 s.ensures.cases.0 (sym w.in-Greater.ensures))
    ]
