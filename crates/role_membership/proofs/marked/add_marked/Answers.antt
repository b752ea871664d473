use Rattle.std.proofs.Common.{◌≡◌, length, refl, arith}
use Rattle.std.proofs.lemmas.Option.{slice_get_read}
use Rattle.role_membership.proofs.Names.{names_more, names_none, names_all}
use Rattle.role_membership.proofs.marked.add_marked.Goals as goal

pub loop-index-init : goal.loop-index-init
loop-index-init c = record {
  names = names_none c.args.roles.now c.args.memberships.now c.args.marks.now;
  distinct = λ e. e;
}

pub loop-index-preserved : goal.loop-index-preserved
loop-index-preserved c =
    let ms = c.args.memberships.now in
    let marks = c.args.marks.now in
    let lt = c.loop-index-test.true in
    let m = c.index-memberships-index.result in
    let at = slice_get_read ms (length ms) c.loop-index.index m refl lt c.index-memberships-index.is in
    record {
      names = names_more c.args.roles.now ms marks c.loop-index.index m _ _ _ at refl c.in_ok-insert_if.ensures.among c.loop-index.invariant.names;
      distinct = λ e. c.in_ok-insert_if.ensures.distinct (c.loop-index.invariant.distinct e);
    }

pub returns : goal.returns
returns c =
    let all : length c.args.memberships.now ≡ c.loop-index.index = omega (arith, c.loop-index-test.false, c.loop-index.auto.index-end) in
    record {
      chains = names_all c.args.roles.now c.args.memberships.now c.args.marks.now c.loop-index.index _ all c.requires c.loop-index.invariant.names;
      distinct = c.loop-index.invariant.distinct;
    }
