use Rattle.std.proofs.Common.{Ok, Err, ◌∙◌}
use Rattle.std.proofs.lemmas.Result.{err_from_is_err_and}
use Rattle.cdx_schema.specs.Depth.{top}
use Rattle.cdx_leaf.proofs.ChildSteps.{kept_takes}
use Rattle.cdx_leaf.proofs.NextChild.{child_begins, no_child_left, next_fails, is_in, child_fails, still_open, leaving_fails, goes_on, nearer, of_version}
use Rattle.cdx_leaf.proofs.children.read_children.Goals as goal

pub next_child-requires : goal.next_child-requires
next_child-requires g c =
    let l = c.nodes.invariant.inside top c.requires.nodes c.requires.rest c.requires.at in
    record { nodes = l.left; rest = c.requires.rest; at = l.at }

pub returns-in_err-child : goal.returns-in_err-child
returns-in_err-child g c = λ d nodes rest at.
    let l = c.nodes.invariant.inside d nodes rest at in
    let p = err_from_is_err_and c.from_residual.result c.from_residual.ensures.1 in
    rw (p.1, p.2) (next_fails (g.R.Children.plan c.args.target.now) c.args.opened.now.version (g.R.Children.depth c.args.target.now) d c.args.opened.now.element.now c.rule-rule.result c.rule-rule.ensures c.args.reader.now (g.R.Children.slots c.args.target.now) nodes rest c.nodes.reader c.next_child.new.reader (g.R.Children.slots c.nodes.target) l c.in_err-child.field-0.0 (c.in_err-child.ensures.meets l.left rest l.at))

pub returns : goal.returns
returns g c = λ d nodes rest at.
    let l = c.nodes.invariant.inside d nodes rest at in
    no_child_left (g.R.Children.plan c.args.target.now) c.args.opened.now.version (g.R.Children.depth c.args.target.now) d c.args.opened.now.element.now c.rule-rule.result c.rule-rule.ensures c.args.reader.now (g.R.Children.slots c.args.target.now) nodes rest c.nodes.reader c.next_child.new.reader (g.R.Children.slots c.nodes.target) l c.in_ok-child.field-0 (c.in_ok-child.ensures.meets l.left rest l.at) c.in_default.not-Some

pub read_child-requires : goal.read_child-requires
read_child-requires g c =
    let l = c.nodes.invariant.inside top c.requires.nodes c.requires.rest c.requires.at in
    let m = child_begins (g.R.Children.plan c.args.target.now) c.args.opened.now.version (g.R.Children.depth c.args.target.now) top c.args.opened.now.element.now c.rule-rule.result c.rule-rule.ensures c.args.reader.now (g.R.Children.slots c.args.target.now) c.requires.nodes c.requires.rest c.nodes.reader c.next_child.new.reader (g.R.Children.slots c.nodes.target) l c.in_ok-child.field-0 c.in-Some.child c.in-Some.is (c.in_ok-child.ensures.meets l.left c.requires.rest l.at) in
    is_in (g.R.Children.plan c.args.target.now) c.args.opened.now.version (g.R.Children.depth c.args.target.now) top c.args.opened.now.element.now c.rule-rule.result c.rule-rule.ensures c.args.reader.now (g.R.Children.slots c.args.target.now) c.requires.nodes c.requires.rest c.nodes.reader c.next_child.new.reader (g.R.Children.slots c.nodes.target) l c.in-Some.child m

pub returns-in_err-taken : goal.returns-in_err-taken
returns-in_err-taken g c = λ d nodes rest at.
    let l = c.nodes.invariant.inside d nodes rest at in
    let m = child_begins (g.R.Children.plan c.args.target.now) c.args.opened.now.version (g.R.Children.depth c.args.target.now) d c.args.opened.now.element.now c.rule-rule.result c.rule-rule.ensures c.args.reader.now (g.R.Children.slots c.args.target.now) nodes rest c.nodes.reader c.next_child.new.reader (g.R.Children.slots c.nodes.target) l c.in_ok-child.field-0 c.in-Some.child c.in-Some.is (c.in_ok-child.ensures.meets l.left rest l.at) in
    let p = err_from_is_err_and c.from_residual-in_err-taken.result c.from_residual-in_err-taken.ensures.1 in
    let takes = kept_takes (g.R.Children.plan c.nodes.target) (g.R.Children.plan c.args.target.now) (g.R.Children.depth c.nodes.target) (g.R.Children.depth c.args.target.now) c.in-Some.child.version c.args.opened.now.version (g.R.Children.slots c.nodes.target) (g.R.Children.slots c.read_child.new.self) c.next_child.new.reader c.read_child.new.reader c.in-Some.child.element.now c.in-Some.child.attributes.now (Err c.in_err-taken.field-0.0) c.nodes.invariant.plan c.nodes.invariant.depth (of_version c.in_ok-child.field-0 c.in-Some.child c.args.opened.now.version c.in-Some.is c.in_ok-child.ensures.version) c.in_err-taken.ensures.takes in
    rw (p.1, p.2) (child_fails (g.R.Children.plan c.args.target.now) c.args.opened.now.version (g.R.Children.depth c.args.target.now) d c.args.opened.now.element.now c.rule-rule.result c.rule-rule.ensures c.args.reader.now (g.R.Children.slots c.args.target.now) nodes rest c.nodes.reader c.next_child.new.reader (g.R.Children.slots c.nodes.target) l c.in-Some.child m c.read_child.new.reader (g.R.Children.slots c.read_child.new.self) c.in_err-taken.field-0.0 takes)

pub after_child-requires : goal.after_child-requires
after_child-requires g c =
    let l = c.nodes.invariant.inside top c.requires.nodes c.requires.rest c.requires.at in
    let m = child_begins (g.R.Children.plan c.args.target.now) c.args.opened.now.version (g.R.Children.depth c.args.target.now) top c.args.opened.now.element.now c.rule-rule.result c.rule-rule.ensures c.args.reader.now (g.R.Children.slots c.args.target.now) c.requires.nodes c.requires.rest c.nodes.reader c.next_child.new.reader (g.R.Children.slots c.nodes.target) l c.in_ok-child.field-0 c.in-Some.child c.in-Some.is (c.in_ok-child.ensures.meets l.left c.requires.rest l.at) in
    let takes = kept_takes (g.R.Children.plan c.nodes.target) (g.R.Children.plan c.args.target.now) (g.R.Children.depth c.nodes.target) (g.R.Children.depth c.args.target.now) c.in-Some.child.version c.args.opened.now.version (g.R.Children.slots c.nodes.target) (g.R.Children.slots c.read_child.new.self) c.next_child.new.reader c.read_child.new.reader c.in-Some.child.element.now c.in-Some.child.attributes.now (Ok c.in_ok-taken.taken) c.nodes.invariant.plan c.nodes.invariant.depth (of_version c.in_ok-child.field-0 c.in-Some.child c.args.opened.now.version c.in-Some.is c.in_ok-child.ensures.version) c.in_ok-taken.ensures.takes in
    still_open (g.R.Children.plan c.args.target.now) c.args.opened.now.version (g.R.Children.depth c.args.target.now) top c.args.opened.now.element.now c.rule-rule.result c.rule-rule.ensures c.args.reader.now (g.R.Children.slots c.args.target.now) c.requires.nodes c.requires.rest c.nodes.reader c.next_child.new.reader (g.R.Children.slots c.nodes.target) l c.in-Some.child m c.read_child.new.reader (g.R.Children.slots c.read_child.new.self) c.in_ok-taken.taken takes

pub nodes-smaller : goal.nodes-smaller
nodes-smaller g c =
    let l = c.nodes.invariant.inside top c.requires.nodes c.requires.rest c.requires.at in
    let m = child_begins (g.R.Children.plan c.args.target.now) c.args.opened.now.version (g.R.Children.depth c.args.target.now) top c.args.opened.now.element.now c.rule-rule.result c.rule-rule.ensures c.args.reader.now (g.R.Children.slots c.args.target.now) c.requires.nodes c.requires.rest c.nodes.reader c.next_child.new.reader (g.R.Children.slots c.nodes.target) l c.in_ok-child.field-0 c.in-Some.child c.in-Some.is (c.in_ok-child.ensures.meets l.left c.requires.rest l.at) in
    let takes = kept_takes (g.R.Children.plan c.nodes.target) (g.R.Children.plan c.args.target.now) (g.R.Children.depth c.nodes.target) (g.R.Children.depth c.args.target.now) c.in-Some.child.version c.args.opened.now.version (g.R.Children.slots c.nodes.target) (g.R.Children.slots c.read_child.new.self) c.next_child.new.reader c.read_child.new.reader c.in-Some.child.element.now c.in-Some.child.attributes.now (Ok c.in_ok-taken.taken) c.nodes.invariant.plan c.nodes.invariant.depth (of_version c.in_ok-child.field-0 c.in-Some.child c.args.opened.now.version c.in-Some.is c.in_ok-child.ensures.version) c.in_ok-taken.ensures.takes in
    nearer (g.R.Children.plan c.args.target.now) c.args.opened.now.version (g.R.Children.depth c.args.target.now) top c.args.opened.now.element.now c.rule-rule.result c.rule-rule.ensures c.args.reader.now (g.R.Children.slots c.args.target.now) c.requires.nodes c.requires.rest c.nodes.reader c.next_child.new.reader (g.R.Children.slots c.nodes.target) l c.in-Some.child m c.read_child.new.reader c.after_child.new.reader (g.R.Children.slots c.read_child.new.self) c.in_ok-taken.taken takes c.in_ok-after_child.ensures

pub nodes-preserved : goal.nodes-preserved
nodes-preserved g c = record {
  plan = c.in_ok-taken.ensures.plan ∙ c.nodes.invariant.plan;
  depth = c.in_ok-taken.ensures.depth ∙ c.nodes.invariant.depth;
  inside = λ d nodes rest at.
      let l = c.nodes.invariant.inside d nodes rest at in
      let m = child_begins (g.R.Children.plan c.args.target.now) c.args.opened.now.version (g.R.Children.depth c.args.target.now) d c.args.opened.now.element.now c.rule-rule.result c.rule-rule.ensures c.args.reader.now (g.R.Children.slots c.args.target.now) nodes rest c.nodes.reader c.next_child.new.reader (g.R.Children.slots c.nodes.target) l c.in_ok-child.field-0 c.in-Some.child c.in-Some.is (c.in_ok-child.ensures.meets l.left rest l.at) in
      let takes = kept_takes (g.R.Children.plan c.nodes.target) (g.R.Children.plan c.args.target.now) (g.R.Children.depth c.nodes.target) (g.R.Children.depth c.args.target.now) c.in-Some.child.version c.args.opened.now.version (g.R.Children.slots c.nodes.target) (g.R.Children.slots c.read_child.new.self) c.next_child.new.reader c.read_child.new.reader c.in-Some.child.element.now c.in-Some.child.attributes.now (Ok c.in_ok-taken.taken) c.nodes.invariant.plan c.nodes.invariant.depth (of_version c.in_ok-child.field-0 c.in-Some.child c.args.opened.now.version c.in-Some.is c.in_ok-child.ensures.version) c.in_ok-taken.ensures.takes in
      goes_on (g.R.Children.plan c.args.target.now) c.args.opened.now.version (g.R.Children.depth c.args.target.now) d c.args.opened.now.element.now c.rule-rule.result c.rule-rule.ensures c.args.reader.now (g.R.Children.slots c.args.target.now) nodes rest c.nodes.reader c.next_child.new.reader (g.R.Children.slots c.nodes.target) l c.in-Some.child m c.read_child.new.reader c.after_child.new.reader (g.R.Children.slots c.read_child.new.self) c.in_ok-taken.taken takes c.in_ok-after_child.ensures;
}

pub returns-in_err-after_child : goal.returns-in_err-after_child
returns-in_err-after_child g c = λ d nodes rest at.
    let l = c.nodes.invariant.inside d nodes rest at in
    let m = child_begins (g.R.Children.plan c.args.target.now) c.args.opened.now.version (g.R.Children.depth c.args.target.now) d c.args.opened.now.element.now c.rule-rule.result c.rule-rule.ensures c.args.reader.now (g.R.Children.slots c.args.target.now) nodes rest c.nodes.reader c.next_child.new.reader (g.R.Children.slots c.nodes.target) l c.in_ok-child.field-0 c.in-Some.child c.in-Some.is (c.in_ok-child.ensures.meets l.left rest l.at) in
    let p = err_from_is_err_and c.from_residual-in_err-after_child.result c.from_residual-in_err-after_child.ensures.1 in
    let takes = kept_takes (g.R.Children.plan c.nodes.target) (g.R.Children.plan c.args.target.now) (g.R.Children.depth c.nodes.target) (g.R.Children.depth c.args.target.now) c.in-Some.child.version c.args.opened.now.version (g.R.Children.slots c.nodes.target) (g.R.Children.slots c.read_child.new.self) c.next_child.new.reader c.read_child.new.reader c.in-Some.child.element.now c.in-Some.child.attributes.now (Ok c.in_ok-taken.taken) c.nodes.invariant.plan c.nodes.invariant.depth (of_version c.in_ok-child.field-0 c.in-Some.child c.args.opened.now.version c.in-Some.is c.in_ok-child.ensures.version) c.in_ok-taken.ensures.takes in
    rw (p.1, p.2) (leaving_fails (g.R.Children.plan c.args.target.now) c.args.opened.now.version (g.R.Children.depth c.args.target.now) d c.args.opened.now.element.now c.rule-rule.result c.rule-rule.ensures c.args.reader.now (g.R.Children.slots c.args.target.now) nodes rest c.nodes.reader c.next_child.new.reader (g.R.Children.slots c.nodes.target) l c.in-Some.child m c.read_child.new.reader c.after_child.new.reader (g.R.Children.slots c.read_child.new.self) c.in_ok-taken.taken c.in_err-after_child.field-0.0 takes c.in_err-after_child.ensures)
