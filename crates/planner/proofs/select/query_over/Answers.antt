use Rattle.std.proofs.Common.{◌≡◌, ◌∙◌, ◌≤◌, ◌<◌, ap, sym, map, length, true, false, Ok, inr, arith}
use Rattle.std.proofs.lemmas.List.{length-map}
use Rattle.sql_ast.specs.Scope.{table_of}
use Rattle.abstract_database.specs.Queries.{scope_of, bound_query}
use Rattle.gathering.specs.Queries.{bound_of}
use Rattle.planner.specs.Selected.{may_read_each}
use Rattle.planner.specs.Tables.{definitions_in}
use Rattle.planner.proofs.Selecting.{bound_over, not_allowed, too_many, allowed}
use Rattle.planner.proofs.select.query_over.Goals as goal

pub returns-then-not-may_read_each-clause-query : goal.returns-then-not-may_read_each-clause-query
returns-then-not-may_read_each-clause-query c =
    let s = c.args.statement.now in
    let refs = map (λ r. r.now) c.args.references.now in
    let tables = map (λ t. t.now) c.args.tables.now in
    let bound : bound_query (scope_of refs (definitions_in tables)) s.list s.source ≡ Ok (bound_of c.in_ok-query.query) =
    ap (λ t. bound_query t s.list s.source) (sym (ap (map table_of) c.as_slice.ensures.value ∙ c.in_ok-scope.ensures)) ∙ c.in_ok-query.ensures.0 in
    let none : may_read_each c.args.rights.now (bound_of c.in_ok-query.query) 0 tables ≡ false = sym c.may_read_each.ensures ∙ c.if-not-may_read_each.true in
    inr (bound_over c.args.rights.now s refs tables (bound_of c.in_ok-query.query) c.requires c.in_ok-check_aliases.ensures bound ∙ not_allowed c.args.rights.now tables (bound_of c.in_ok-query.query) none)

pub returns-then-tables-gt-MAX_SELECT_TABLES-clause-query : goal.returns-then-tables-gt-MAX_SELECT_TABLES-clause-query
returns-then-tables-gt-MAX_SELECT_TABLES-clause-query c =
    let s = c.args.statement.now in
    let refs = map (λ r. r.now) c.args.references.now in
    let tables = map (λ t. t.now) c.args.tables.now in
    let bound : bound_query (scope_of refs (definitions_in tables)) s.list s.source ≡ Ok (bound_of c.in_ok-query.query) =
    ap (λ t. bound_query t s.list s.source) (sym (ap (map table_of) c.as_slice.ensures.value ∙ c.in_ok-scope.ensures)) ∙ c.in_ok-query.ensures.0 in
    let all : may_read_each c.args.rights.now (bound_of c.in_ok-query.query) 0 tables ≡ true = sym c.may_read_each.ensures ∙ c.if-not-may_read_each.false in
    let same = length-map c.args.tables.now (λ t. t.now) in
    let many : 4 < length tables = omega (arith, same, c.if-tables-gt-MAX_SELECT_TABLES.true) in
    inr (bound_over c.args.rights.now s refs tables (bound_of c.in_ok-query.query) c.requires c.in_ok-check_aliases.ensures bound ∙ too_many c.args.rights.now tables (bound_of c.in_ok-query.query) all many)

pub returns-clause-query : goal.returns-clause-query
returns-clause-query c =
    let s = c.args.statement.now in
    let refs = map (λ r. r.now) c.args.references.now in
    let tables = map (λ t. t.now) c.args.tables.now in
    let bound : bound_query (scope_of refs (definitions_in tables)) s.list s.source ≡ Ok (bound_of c.in_ok-query.query) =
    ap (λ t. bound_query t s.list s.source) (sym (ap (map table_of) c.as_slice.ensures.value ∙ c.in_ok-scope.ensures)) ∙ c.in_ok-query.ensures.0 in
    let all : may_read_each c.args.rights.now (bound_of c.in_ok-query.query) 0 tables ≡ true = sym c.may_read_each.ensures ∙ c.if-not-may_read_each.false in
    let same = length-map c.args.tables.now (λ t. t.now) in
    let few : length tables ≤ 4 = omega (arith, same, c.if-tables-gt-MAX_SELECT_TABLES.false) in
    bound_over c.args.rights.now s refs tables (bound_of c.in_ok-query.query) c.requires c.in_ok-check_aliases.ensures bound ∙ allowed c.args.rights.now tables (bound_of c.in_ok-query.query) all few
