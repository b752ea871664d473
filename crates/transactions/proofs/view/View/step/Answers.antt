use Rattle.std.proofs.Common.{◌≡◌, ℕ, List, Some, None, ◌∷◌, ◌++◌, [], sym, ap, ◌∙◌, subst}
use Rattle.std.specs.Option.{option_copied}
use Rattle.store.specs.Records.{Record, IsFound, first_from}
use Rattle.transactions.specs.Views.{HasLeast, applied_all}
use Rattle.transactions.proofs.Steps.{unchanged_from, entry_is_first, change_is_first, removal_is_first}
use Rattle.transactions.proofs.view.View.step.Goals as goal

-- the key behind one
gone_behind : {from key least : List ℕ} → key ≡ least → from ≡ key ++ 0 ∷ [] → from ≡ least ++ 0 ∷ []
gone_behind same is = is ∙ ap (λ (k : List ℕ). k ++ 0 ∷ []) same

pub returns-then-found-clause-step : goal.returns-then-found-clause-step
returns-then-found-clause-step g c sound =
    let from = c.args.self.now.from.items in
    let lists = c.args.self.now.lists.now in
    let es = (g.M.Map.state c.args.self.now.map.now).map in
    let rise = g.met.M.Map.ordered c.args.self.now.map.now sound in
    let seen = subst (λ (start : List ℕ). IsFound c.in_ok-found.found c.scan_from.new.out (first_from start es)) c.deref.ensures.value (c.in_ok-found.ensures.reads.found sound) in
    let none = subst (λ (start : List ℕ). HasLeast start None lists) c.deref-2.ensures.value
    (subst (λ o. HasLeast c.deref-2.result.now (option_copied o) lists) c.in_default.is c.least_change.ensures) in
    unchanged_from from lists es rise none ∙ subst (λ b. IsFound b c.scan_from.new.out (first_from from es)) c.if-found.true seen

pub returns-else-found-clause-step : goal.returns-else-found-clause-step
returns-else-found-clause-step g c sound =
    let from = c.args.self.now.from.items in
    let lists = c.args.self.now.lists.now in
    let es = (g.M.Map.state c.args.self.now.map.now).map in
    let rise = g.met.M.Map.ordered c.args.self.now.map.now sound in
    let seen = subst (λ (start : List ℕ). IsFound c.in_ok-found.found c.scan_from.new.out (first_from start es)) c.deref.ensures.value (c.in_ok-found.ensures.reads.found sound) in
    let none = subst (λ (start : List ℕ). HasLeast start None lists) c.deref-2.ensures.value
    (subst (λ o. HasLeast c.deref-2.result.now (option_copied o) lists) c.in_default.is c.least_change.ensures) in
    unchanged_from from lists es rise none ∙ subst (λ b. IsFound b c.scan_from.new.out (first_from from es)) c.if-found.false seen

pub returns-then-found_before-clause-step : goal.returns-then-found_before-clause-step
returns-then-found_before-clause-step g c sound =
    let from = c.args.self.now.from.items in
    let lists = c.args.self.now.lists.now in
    let es = (g.M.Map.state c.args.self.now.map.now).map in
    let rise = g.met.M.Map.ordered c.args.self.now.map.now sound in
    let seen = subst (λ (start : List ℕ). IsFound c.in_ok-found.found c.scan_from.new.out (first_from start es)) c.deref.ensures.value (c.in_ok-found.ensures.reads.found sound) in
    let least = subst (λ (start : List ℕ). HasLeast start (Some c.in-Some.least.now) lists) c.deref-2.ensures.value
    (subst (λ o. HasLeast c.deref-2.result.now (option_copied o) lists) c.in-Some.is c.least_change.ensures) in
    entry_is_first from lists es c.scan_from.new.out c.in-Some.least.now c.in_ok-found.found rise seen least (sym c.found_before.ensures ∙ c.if-found_before.true)

pub returns-in_ok-set-in-Some-value-clause-step : goal.returns-in_ok-set-in-Some-value-clause-step
returns-in_ok-set-in-Some-value-clause-step g c sound =
    let from = c.args.self.now.from.items in
    let lists = c.args.self.now.lists.now in
    let es = (g.M.Map.state c.args.self.now.map.now).map in
    let rise = g.met.M.Map.ordered c.args.self.now.map.now sound in
    let seen = subst (λ (start : List ℕ). IsFound c.in_ok-found.found c.scan_from.new.out (first_from start es)) c.deref.ensures.value (c.in_ok-found.ensures.reads.found sound) in
    let least = subst (λ (start : List ℕ). HasLeast start (Some c.in-Some.least.now) lists) c.deref-2.ensures.value
    (subst (λ o. HasLeast c.deref-2.result.now (option_copied o) lists) c.in-Some.is c.least_change.ensures) in
    change_is_first from lists es c.scan_from.new.out c.in-Some.least.now c.in-Some-value.value.now c.in_ok-found.found rise seen least (sym c.found_before.ensures ∙ c.if-found_before.false) c.in-Some-value.ensures
    ∙ ap (λ (k : List ℕ). Some (k, c.in-Some-value.value.now)) (sym c.key.ensures) ∙ ap (λ (e : Record). Some e) (sym c.in_ok-set-in-Some-value.ensures)

pub returns-in_ok-go_behind-in-None-clause-step : goal.returns-in_ok-go_behind-in-None-clause-step
returns-in_ok-go_behind-in-None-clause-step g c sound =
    let from = c.args.self.now.from.items in
    let lists = c.args.self.now.lists.now in
    let es = (g.M.Map.state c.args.self.now.map.now).map in
    let rise = g.met.M.Map.ordered c.args.self.now.map.now sound in
    let seen = subst (λ (start : List ℕ). IsFound c.in_ok-found.found c.scan_from.new.out (first_from start es)) c.deref.ensures.value (c.in_ok-found.ensures.reads.found sound) in
    let least = subst (λ (start : List ℕ). HasLeast start (Some c.in-Some.least.now) lists) c.deref-2.ensures.value
    (subst (λ o. HasLeast c.deref-2.result.now (option_copied o) lists) c.in-Some.is c.least_change.ensures) in
    subst (λ (k : List ℕ). first_from k (applied_all lists es) ≡ first_from from (applied_all lists es)) (sym (gone_behind c.key-in-None.ensures c.in_ok-go_behind-in-None.ensures.from))
    (removal_is_first from lists es c.scan_from.new.out c.in-Some.least.now c.in_ok-found.found rise seen least (sym c.found_before.ensures ∙ c.if-found_before.false) c.in-None.ensures)
