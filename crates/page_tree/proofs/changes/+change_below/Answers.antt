use Rattle.std.proofs.Common.{◌≡◌, ℕ, suc, inl, refl, sym, subst, ◌∙◌, ◌+◌, ◌*◌, [], List, ◌∷◌, Option, take, arith}
use Rattle.page_nodes.specs.Map.{Entry}
use Rattle.store.specs.Records.{Changes}
use Rattle.page_tree.specs.Bounds.{IsBound}
use Rattle.page_tree.specs.Changed.{Change, edited_in_turn}
use Rattle.page_tree.specs.Forest.{Forest, no_trees, leaf, IsSound}
use Rattle.page_tree.specs.Site.{Site, IsSubtree}
use Rattle.page_tree.specs.Taking.{TakesPages, most_left, most_changed}
use Rattle.page_tree.specs.declared.changes.Changed.{Changed}
use Rattle.page_tree.proofs.Descent.{lent_as, node_at, leaf_at, inner_at}
use Rattle.page_tree.proofs.Faults.{fails, caused_since, gives_since, memory_is}
use Rattle.page_tree.proofs.Made.{made_since, reads_then, none_is, some_is, least_changed, key_first}
use Rattle.page_tree.proofs.RemovalBelow.{leaf_becomes}
use Rattle.page_tree.proofs.Taking.{none_taken, taken_then, takes_since, deep_child}
use Rattle.page_tree.proofs.Trees.{keep, in_use}
use Rattle.page_tree.proofs.Turning.{Turned, turned, Following, following}
use Rattle.page_tree.proofs.changes.+change_below.Given.{Over}
use Rattle.page_tree.proofs.changes.+change_below.Goals.{After-change_below, After-follow_child}
use Rattle.page_tree.proofs.changes.+change_below.Goals as goal

-- the child of the first change
module _ (g : Over) (t : ℕ) (c : After-change_below g t) (sound : (g.P.Pages.state c.args.pages.now).sound) (s : Site) (first : Change) (rest : Changes) (whole : c.args.changes.now ≡ first ∷ rest)
    (at : IsSubtree (g.P.Pages.state c.args.pages.now).array s c.args.page first.0 c.args.levels) (bound : IsBound c.args.bound.now s.high) where
  turn : Turned (g.P.Pages.state c.args.pages.now).array (g.P.Pages.state c.fetch_node.new.pages).array s c.args.page c.args.levels first.0 (g.P.Pages.fetched c.fetch_node.new.pages) c.in_ok-child-in-Inner.child c.turn_to.new.bound
  turn =
      let key_is = key_first first rest c.args.changes.now whole c.index-changes-0.result c.index-changes-0.is c.key-key.result.now c.key-key.ensures in
      turned g.P.Pages c.args.pages.now c.fetch_node.new.pages sound s c.args.page first.0 c.key-key.result.now c.args.levels (g.P.Pages.fetched c.fetch_node.new.pages) c.in_ok-child-in-Inner.child c.turn_to.new.bound c.ranges.page.fits at
      _ (c.in_ok-fetch_node.ensures.found sound) c.in-Inner.is (c.in_ok-fetch_node.ensures.only_reads sound) key_is
      (λ fst cs node. c.in_ok-child-in-Inner.ensures.turned fst cs s.high (lent_as c.fetched-in-Inner.ensures node) bound)

-- what stands below it once the changes are made, and the pages that were taken for it
module _ (g : Over) (t : ℕ) (c : After-follow_child g t) (sound : (g.P.Pages.state c.args.pages.now).sound) (s : Site) (first : Change) (rest : Changes) (whole : c.args.changes.now ≡ first ∷ rest)
    (at : IsSubtree (g.P.Pages.state c.args.pages.now).array s c.args.page first.0 c.args.levels)
    (d : Turned (g.P.Pages.state c.args.pages.now).array (g.P.Pages.state c.fetch_node.new.pages).array s c.args.page c.args.levels first.0 (g.P.Pages.fetched c.fetch_node.new.pages) c.in_ok-child-in-Inner.child c.turn_to.new.bound) where
  follow : Following (g.P.Pages.state c.args.pages.now) (g.P.Pages.state c.change_below.new.pages) s c.args.page c.in_ok-child-in-Inner.child first.0 c.key-key.result.now (take c.in-Some.changed.made c.args.changes.now) c.in-Some.changed.left c.change_below.new.scratch.separator.items
  follow =
      let only_reads = c.in_ok-fetch_node.ensures.only_reads sound in
      let key_is = key_first first rest c.args.changes.now whole c.index-changes-0.result c.index-changes-0.is c.key-key.result.now c.key-key.ensures in
      let b = some_is _ _ _ _ c.in-Some.is (c.in_ok-below-in-Inner.ensures.changed only_reads.sound _ first rest whole d.down.there d.bound_is) in
      following g.P.Pages c.args.pages.now c.fetch_node.new.pages c.change_below.new.pages sound s c.args.page c.args.levels first.0 c.key-key.result.now (g.P.Pages.fetched c.fetch_node.new.pages) c.in_ok-child-in-Inner.child c.turn_to.new.bound
      c.follow_child.ensures.number at only_reads key_is d (take c.in-Some.changed.made c.args.changes.now) c.in-Some.changed.left c.change_below.new.scratch.separator.items b

  taken : (n : ℕ) → s.depth ≡ suc n → TakesPages g.P.Pages c.args.pages.now c.change_below.new.pages [] (most_left n c.in-Some.changed.left)
  taken n deep =
      let same : d.down.node.at.below ≡ n = omega (arith, deep, d.down.node.at.deep) in
      let read = none_taken g.P.Pages c.args.pages.now c.fetch_node.new.pages 0 c.in_ok-fetch_node.ensures.own in
      let changed = subst (λ (o : Option Changed). TakesPages g.P.Pages c.fetch_node.new.pages c.change_below.new.pages [] (most_changed d.down.node.at.below o)) c.in-Some.is
      (c.in_ok-below-in-Inner.ensures.takes (c.in_ok-fetch_node.ensures.only_reads sound).sound _ first rest whole d.down.there d.bound_is) in
      let most = most_left d.down.node.at.below c.in-Some.changed.left in
      subst (λ (m : ℕ). TakesPages g.P.Pages c.args.pages.now c.change_below.new.pages [] (most_left m c.in-Some.changed.left)) same
      (taken_then g.P.Pages c.args.pages.now c.fetch_node.new.pages c.change_below.new.pages [] [] 0 most most read changed (omega arith))

pub returns-in_err-fetch_node-clause-changed : goal.returns-in_err-fetch_node-clause-changed
returns-in_err-fetch_node-clause-changed g t c sound s first rest whole at bound =
    let h = node_at g.P.Pages c.args.pages.now sound s c.args.page first.0 c.args.levels c.ranges.page.fits at in
    fails c.from_residual.result c.in_err-fetch_node.field-0.0 _ _ c.from_residual.ensures.1 (c.in_err-fetch_node.ensures.found sound h.kind h.first h.cs h.holds)

pub returns-in-Leaf-clause-changed : goal.returns-in-Leaf-clause-changed
returns-in-Leaf-clause-changed g t c sound s first rest whole at bound =
    let old = g.P.Pages.state c.args.pages.now in
    let mid = g.P.Pages.state c.fetch_node.new.pages in
    let new = g.P.Pages.state c.change_leaf.new.pages in
    let page = c.args.page in
    let only_reads = c.in_ok-fetch_node.ensures.only_reads sound in
    let l = leaf_at g.P.Pages c.args.pages.now sound s page first.0 c.args.levels (g.P.Pages.fetched c.fetch_node.new.pages) c.ranges.page.fits at _ (c.in_ok-fetch_node.ensures.found sound) c.in-Leaf.is in
    let here : IsSound mid.array s.depth s.high (leaf s.low page l.es no_trees) =
    subst (λ (y : Forest). IsSound mid.array s.depth s.high y) l.is (keep old.array mid.array s.depth s.high s.tree (λ q m. only_reads.same q) at.sound) in
    gives_since g.P.Pages c.args.pages.now c.fetch_node.new.pages c.change_leaf.new.pages c.change_leaf.result _ _ c.in_ok-fetch_node.ensures.preserved
    (λ made is. made_since g.P.Pages c.args.pages.now c.fetch_node.new.pages c.change_leaf.new.pages s.high s.high first c.args.changes.now _ _ only_reads (λ cs within. within)
    (λ x within b. leaf_becomes old mid new s.tree s.low page l.es (λ (es : List Entry). edited_in_turn (take x.made c.args.changes.now) es) _ l.is only_reads b) made is)
    (c.change_leaf.ensures.changed only_reads.sound (in_use mid.array s.depth s.high (leaf s.low page l.es no_trees) here page (inl refl)) l.es s.depth s.low s.high first rest whole bound at.ends at.reaches (lent_as (c.bytes.ensures ∙ c.fetched.ensures) l.node) here)

pub returns-in_err-child-in-Inner-clause-changed : goal.returns-in_err-child-in-Inner-clause-changed
returns-in_err-child-in-Inner-clause-changed g t c sound s first rest whole at bound =
    let i = inner_at g.P.Pages c.args.pages.now sound s c.args.page first.0 c.args.levels (g.P.Pages.fetched c.fetch_node.new.pages) c.ranges.page.fits at _ (c.in_ok-fetch_node.ensures.found sound) c.in-Inner.is in
    fails c.from_residual-in_err-child-in-Inner.result c.in_err-child-in-Inner.field-0.0 _ _ c.from_residual-in_err-child-in-Inner.ensures.1
    (memory_is _ c.in_err-child-in-Inner.field-0.0 (c.in_err-child-in-Inner.ensures.turned i.at.head.1 i.at.rest s.high (lent_as c.fetched-in-Inner.ensures i.node) bound))

pub returns-in_err-below-in-Inner-clause-changed : goal.returns-in_err-below-in-Inner-clause-changed
returns-in_err-below-in-Inner-clause-changed g t c sound s first rest whole at bound =
    let d = turn g t (goal.at.returns-in_err-below-in-Inner-clause-changed g t c).After-change_below sound s first rest whole at bound in
    fails c.from_residual-in_err-below-in-Inner.result c.in_err-below-in-Inner.field-0.0 _ _ c.from_residual-in_err-below-in-Inner.ensures.1
    (caused_since g.P.Pages c.args.pages.now c.fetch_node.new.pages c.change_below.new.pages c.in_err-below-in-Inner.field-0.0 c.in_ok-fetch_node.ensures.preserved
    (c.in_err-below-in-Inner.ensures.changed (c.in_ok-fetch_node.ensures.only_reads sound).sound _ first rest whole d.down.there d.bound_is))

pub returns-in_default-clause-changed : goal.returns-in_default-clause-changed
returns-in_default-clause-changed g t c sound s first rest whole at bound =
    let d = turn g t (goal.at.returns-in_default-clause-changed g t c).After-change_below sound s first rest whole at bound in
    let only_reads = c.in_ok-fetch_node.ensures.only_reads sound in
    let none = none_is _ _ _ c.in_default.is (c.in_ok-below-in-Inner.ensures.changed only_reads.sound _ first rest whole d.down.there d.bound_is) in
    (reads_then (g.P.Pages.state c.args.pages.now) (g.P.Pages.state c.fetch_node.new.pages) (g.P.Pages.state c.change_below.new.pages) only_reads none.0, none.1)

pub returns-in_err-left-in-Inner-clause-changed : goal.returns-in_err-left-in-Inner-clause-changed
returns-in_err-left-in-Inner-clause-changed g t c sound s first rest whole at bound =
    let d = turn g t (goal.at.returns-in_err-left-in-Inner-clause-changed g t c).After-change_below sound s first rest whole at bound in
    let f = follow g t (goal.at.returns-in_err-left-in-Inner-clause-changed g t c).After-follow_child sound s first rest whole at d in
    let before = g.P.Pages.preserved_joined c.args.pages.now c.fetch_node.new.pages c.change_below.new.pages c.in_ok-fetch_node.ensures.preserved c.in_ok-below-in-Inner.ensures.preserved in
    fails c.from_residual-in_err-left-in-Inner.result c.in_err-left-in-Inner.field-0.0 _ _ c.from_residual-in_err-left-in-Inner.ensures.1
    (caused_since g.P.Pages c.args.pages.now c.change_below.new.pages c.follow_child.new.pages c.in_err-left-in-Inner.field-0.0 before
    (c.in_err-left-in-Inner.ensures.followed f.sound f.w f.trees f.beside f.described f.between f.holds))

pub returns-in_ok-left-in-Inner-clause-changed : goal.returns-in_ok-left-in-Inner-clause-changed
returns-in_ok-left-in-Inner-clause-changed g t c sound s first rest whole at bound =
    let d = turn g t (goal.at.returns-in_ok-left-in-Inner-clause-changed g t c).After-change_below sound s first rest whole at bound in
    let f = follow g t (goal.at.returns-in_ok-left-in-Inner-clause-changed g t c).After-follow_child sound s first rest whole at d in
    (f.within, f.above (g.P.Pages.state c.follow_child.new.pages) c.in_ok-left-in-Inner.left c.follow_child.new.scratch.separator.items (c.in_ok-left-in-Inner.ensures.followed f.sound f.w f.trees f.beside f.described f.between f.holds))

pub returns-in_ok-left-in-Inner-clause-preserved : goal.returns-in_ok-left-in-Inner-clause-preserved
returns-in_ok-left-in-Inner-clause-preserved g t c =
    g.P.Pages.preserved_joined c.args.pages.now c.change_below.new.pages c.follow_child.new.pages
    (g.P.Pages.preserved_joined c.args.pages.now c.fetch_node.new.pages c.change_below.new.pages c.in_ok-fetch_node.ensures.preserved c.in_ok-below-in-Inner.ensures.preserved) c.in_ok-left-in-Inner.ensures.preserved

pub returns-in_err-left-in-Inner-clause-preserved : goal.returns-in_err-left-in-Inner-clause-preserved
returns-in_err-left-in-Inner-clause-preserved g t c =
    g.P.Pages.preserved_joined c.args.pages.now c.change_below.new.pages c.follow_child.new.pages
    (g.P.Pages.preserved_joined c.args.pages.now c.fetch_node.new.pages c.change_below.new.pages c.in_ok-fetch_node.ensures.preserved c.in_ok-below-in-Inner.ensures.preserved) c.in_err-left-in-Inner.ensures.preserved

pub returns-in_err-fetch_node-clause-takes : goal.returns-in_err-fetch_node-clause-takes
returns-in_err-fetch_node-clause-takes g t c sound s first rest whole at bound =
    fails c.from_residual.result c.in_err-fetch_node.field-0.0 _ _ c.from_residual.ensures.1 (λ is. absurd (c.in_err-fetch_node.ensures.faults is))

pub returns-in-Leaf-clause-takes : goal.returns-in-Leaf-clause-takes
returns-in-Leaf-clause-takes g t c sound s first rest whole at bound =
    takes_since g.P.Pages c.args.pages.now c.fetch_node.new.pages c.change_leaf.new.pages c.change_leaf.result (λ x. most_changed 0 x) (λ x. most_changed s.depth x) 0 0 (2 * s.depth + 2)
    (none_taken g.P.Pages c.args.pages.now c.fetch_node.new.pages 0 c.in_ok-fetch_node.ensures.own) (λ x. least_changed s.depth x) (omega arith) c.change_leaf.ensures.takes

pub returns-in_err-child-in-Inner-clause-takes : goal.returns-in_err-child-in-Inner-clause-takes
returns-in_err-child-in-Inner-clause-takes g t c sound s first rest whole at bound =
    fails c.from_residual-in_err-child-in-Inner.result c.in_err-child-in-Inner.field-0.0 _ _ c.from_residual-in_err-child-in-Inner.ensures.1 (λ is. absurd (c.in_err-child-in-Inner.ensures.faults is))

pub returns-in_err-below-in-Inner-clause-takes : goal.returns-in_err-below-in-Inner-clause-takes
returns-in_err-below-in-Inner-clause-takes g t c sound s first rest whole at bound =
    let d = turn g t (goal.at.returns-in_err-below-in-Inner-clause-takes g t c).After-change_below sound s first rest whole at bound in
    let read = none_taken g.P.Pages c.args.pages.now c.fetch_node.new.pages 0 c.in_ok-fetch_node.ensures.own in
    fails c.from_residual-in_err-below-in-Inner.result c.in_err-below-in-Inner.field-0.0 _ _ c.from_residual-in_err-below-in-Inner.ensures.1
    (λ is. taken_then g.P.Pages c.args.pages.now c.fetch_node.new.pages c.change_below.new.pages [] [] 0 (2 * d.down.node.at.below + 2) (2 * s.depth + 2) read
    (c.in_err-below-in-Inner.ensures.takes (c.in_ok-fetch_node.ensures.only_reads sound).sound _ first rest whole d.down.there d.bound_is is) (omega (arith, d.down.node.at.deep)))

pub returns-in_default-clause-takes : goal.returns-in_default-clause-takes
returns-in_default-clause-takes g t c sound s first rest whole at bound =
    let d = turn g t (goal.at.returns-in_default-clause-takes g t c).After-change_below sound s first rest whole at bound in
    let read = none_taken g.P.Pages c.args.pages.now c.fetch_node.new.pages 0 c.in_ok-fetch_node.ensures.own in
    let taken = subst (λ (o : Option Changed). TakesPages g.P.Pages c.fetch_node.new.pages c.change_below.new.pages [] (most_changed d.down.node.at.below o)) c.in_default.is
    (c.in_ok-below-in-Inner.ensures.takes (c.in_ok-fetch_node.ensures.only_reads sound).sound _ first rest whole d.down.there d.bound_is) in
    taken_then g.P.Pages c.args.pages.now c.fetch_node.new.pages c.change_below.new.pages [] [] 0 0 0 read taken (omega arith)

pub returns-in_err-left-in-Inner-clause-takes : goal.returns-in_err-left-in-Inner-clause-takes
returns-in_err-left-in-Inner-clause-takes g t c sound s first rest whole at bound =
    let d = turn g t (goal.at.returns-in_err-left-in-Inner-clause-takes g t c).After-change_below sound s first rest whole at bound in
    let f = follow g t (goal.at.returns-in_err-left-in-Inner-clause-takes g t c).After-follow_child sound s first rest whole at d in
    let before = taken g t (goal.at.returns-in_err-left-in-Inner-clause-takes g t c).After-follow_child sound s first rest whole at d f.w.depth f.deep in
    fails c.from_residual-in_err-left-in-Inner.result c.in_err-left-in-Inner.field-0.0 _ _ c.from_residual-in_err-left-in-Inner.ensures.1
    (λ is. subst (λ (n : ℕ). TakesPages g.P.Pages c.args.pages.now c.follow_child.new.pages [] (2 * n + 2)) (sym f.deep)
    (c.in_err-left-in-Inner.ensures.takes c.args.pages.now f.w.depth (λ child is. deep_child _ _ _ _ _ _ _ _ child is f.described) before is))

pub returns-in_ok-left-in-Inner-clause-takes : goal.returns-in_ok-left-in-Inner-clause-takes
returns-in_ok-left-in-Inner-clause-takes g t c sound s first rest whole at bound =
    let d = turn g t (goal.at.returns-in_ok-left-in-Inner-clause-takes g t c).After-change_below sound s first rest whole at bound in
    let f = follow g t (goal.at.returns-in_ok-left-in-Inner-clause-takes g t c).After-follow_child sound s first rest whole at d in
    let before = taken g t (goal.at.returns-in_ok-left-in-Inner-clause-takes g t c).After-follow_child sound s first rest whole at d f.w.depth f.deep in
    subst (λ (n : ℕ). TakesPages g.P.Pages c.args.pages.now c.follow_child.new.pages [] (most_left n c.in_ok-left-in-Inner.left)) (sym f.deep)
    (c.in_ok-left-in-Inner.ensures.takes c.args.pages.now f.w.depth (λ child is. deep_child _ _ _ _ _ _ _ _ child is f.described) before)

pub returns-in-Leaf-clause-preserved : goal.returns-in-Leaf-clause-preserved
returns-in-Leaf-clause-preserved g t c =
    g.P.Pages.preserved_joined c.args.pages.now c.fetch_node.new.pages c.change_leaf.new.pages c.in_ok-fetch_node.ensures.preserved c.change_leaf.ensures.preserved

pub returns-in_err-below-in-Inner-clause-preserved : goal.returns-in_err-below-in-Inner-clause-preserved
returns-in_err-below-in-Inner-clause-preserved g t c =
    g.P.Pages.preserved_joined c.args.pages.now c.fetch_node.new.pages c.change_below.new.pages c.in_ok-fetch_node.ensures.preserved c.in_err-below-in-Inner.ensures.preserved

pub returns-in_default-clause-preserved : goal.returns-in_default-clause-preserved
returns-in_default-clause-preserved g t c =
    g.P.Pages.preserved_joined c.args.pages.now c.fetch_node.new.pages c.change_below.new.pages c.in_ok-fetch_node.ensures.preserved c.in_ok-below-in-Inner.ensures.preserved

pub returns-then-levels-eq0-clause-changed : goal.returns-then-levels-eq0-clause-changed
returns-then-levels-eq0-clause-changed g t c sound s first rest whole at bound = absurd (omega (arith, at.shallow, c.if-levels-eq0.true))

pub returns-then-levels-eq0-clause-takes : goal.returns-then-levels-eq0-clause-takes
returns-then-levels-eq0-clause-takes g t c sound s first rest whole at bound = absurd (omega (arith, at.shallow, c.if-levels-eq0.true))
