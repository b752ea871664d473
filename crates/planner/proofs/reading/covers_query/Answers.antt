use Rattle.std.proofs.Common.{◌∙◌, ap, sym, not}
use Rattle.std.specs.List.{list_all, range_with_len}
use Rattle.abstract_database.specs.Needs.{columns_of_query, terms_of_query}
use Rattle.catalogue.specs.Grants.{has_bit}
use Rattle.gathering.specs.Queries.{bound_of}
use Rattle.planner.specs.Reading.{lacks}
use Rattle.planner.specs.Rights.{covers}
use Rattle.planner.proofs.ReadColumns.{read_covered, whole_covers, each_read, named_read, query_named}
use Rattle.planner.proofs.reading.covers_query.Goals as goal

pub returns-then-is_whole : goal.returns-then-is_whole
returns-then-is_whole c = sym (whole_covers (has_bit c.args.mask) (sym c.is_whole.ensures ∙ c.if-is_whole.true) (columns_of_query (bound_of c.args.query.now) c.args.number c.args.layout.now))

pub returns-then-is_asterisk : goal.returns-then-is_asterisk
returns-then-is_asterisk c =
    c.covers_first.ensures ∙ ap (λ n. list_all (covers (has_bit c.args.mask)) (range_with_len 0 n)) c.len.ensures
    ∙ ap (list_all (covers (has_bit c.args.mask))) (sym (each_read (bound_of c.args.query.now) c.args.number c.args.layout.now (sym c.is_asterisk.ensures ∙ c.if-is_asterisk.true)))

pub returns : goal.returns
returns c =
    ap not (c.reads.ensures ∙ query_named (lacks (has_bit c.args.mask) c.args.number) c.args.query.now (sym c.is_asterisk.ensures ∙ c.if-is_asterisk.false))
    ∙ sym (read_covered (has_bit c.args.mask) c.args.number (terms_of_query (bound_of c.args.query.now)))
    ∙ ap (list_all (covers (has_bit c.args.mask))) (sym (named_read (bound_of c.args.query.now) c.args.number c.args.layout.now (sym c.is_asterisk.ensures ∙ c.if-is_asterisk.false)))
