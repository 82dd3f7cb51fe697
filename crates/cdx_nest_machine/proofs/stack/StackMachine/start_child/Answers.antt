use Rattle.std.proofs.Common.{◌≡◌, ◌∷◌, ◌++◌, [], reverse, false, Ok, Some, refl, sym, ap, ◌∙◌, subst}
use Rattle.std.proofs.lemmas.Result.{err_from_is_err_and}
use Rattle.cdx_schema.specs.Depths.{depth_of}
use Rattle.cdx_machine.specs.declared.frame.Inside.TheVariants.{Nothing, Read, Skipped}
use Rattle.cdx_machine.specs.Begun.{next}
use Rattle.cdx_machine.proofs.Names.{found_at, found_none, found_second}
use Rattle.cdx_machine.proofs.Frames.{enters_skipped}
use Rattle.cdx_nest_machine.specs.declared.nested.ChildReader.TheVariants.{Leaf, Nested}
use Rattle.cdx_nest_machine.specs.Forms.{plan_of}
use Rattle.cdx_nest_machine.specs.declared.stack.Open.{Open}
use Rattle.cdx_nest_machine.specs.declared.stack.Waiting.{Waiting}
use Rattle.cdx_nest_machine.specs.Frames.{leaf_holds, shape_of, BeginsOpen}
use Rattle.cdx_nest_machine.proofs.Entering.{is_read, row_kind, leaf_starts, start_fault}
use Rattle.cdx_nest_machine.proofs.Machine.{held_top, start_fails, start_more, unknown_fails, second_fails, start_pushes, renamed, reversed}
use Rattle.cdx_nest_machine.proofs.stack.StackMachine.start_child.Goals as goal

pub child-requires : goal.child-requires
child-requires g c =
    let f = g.F.Nested in
    let l = g.F.Leaf.Leaves in
    let m = c.args.self.now in
    let h' = found_at (f.fields m.top.part) m.version c.args.name.now.local_name (plan_of (f.as_kind (f.sort_of m.top.part))).children c.find.result c.in-At.position c.in-At.is c.find.ensures in
    is_read l.as_kind f.as_kind (f.child_of (f.sort_of m.top.part)) (plan_of (f.as_kind (f.sort_of m.top.part))).children (g.met.F.Nested.children (f.sort_of m.top.part)) c.in-At.position h'.row h'.is_at

pub returns-in_err-started-in-Leaf : goal.returns-in_err-started-in-Leaf
returns-in_err-started-in-Leaf g c = λ root v p d o h is t.
    let q = err_from_is_err_and c.from_residual.result c.from_residual.ensures.1 in
    let f = g.F.Nested in
    let l = g.F.Leaf.Leaves in
    let s = shape_of f.as_kind f.sort_of f.fields f.child_of in
    let k = leaf_holds f.as_kind f.child_of l.sort_of l.holds in
    let m = c.args.self.now in
    let h' = found_at (f.fields m.top.part) m.version c.args.name.now.local_name (plan_of (f.as_kind (f.sort_of m.top.part))).children c.find.result c.in-At.position c.in-At.is c.find.ensures in
    rw (q.1, q.2) (start_fails s g.met.F.Nested.nested k _ root (reverse m.below.items) (f.sort_of m.top.part) m.top.name (depth_of m.top.depth) m.version v p d o c.args.place c.args.event.now (f.fields m.top.part) (held_top s k f.sort_of f.fields root m.below.items m.top m.version m.inside v p d o m.top Nothing h refl c.requires.nothing) is t c.args.name.now c.args.attributes.now c.requires.start.0 c.requires.start.1 _ c.in_err-started-in-Leaf.field-0.0
    (start_fault l.as_kind f.as_kind f.child_of l.sort_of l.holds (f.sort_of m.top.part) (g.met.F.Nested.children (f.sort_of m.top.part)) (f.fields m.top.part) m.version m.top.name c.args.place (depth_of m.top.depth) c.args.name.now c.args.attributes.now c.requires.start.0 c.in_err-started-in-Leaf.field-0.0 c.in-At.position (Leaf c.in-Leaf.sort) h' (c.child.ensures ∙ ap (λ r. Some r) c.in-Leaf.is) (c.in_err-started-in-Leaf.ensures.starts (depth_of m.top.depth) c.requires.start.0)))

pub returns-in_err-open-in-Nested : goal.returns-in_err-open-in-Nested
returns-in_err-open-in-Nested g c = λ root v p d o h is t.
    let q = err_from_is_err_and c.from_residual-in_err-open-in-Nested.result c.from_residual-in_err-open-in-Nested.ensures.1 in
    let f = g.F.Nested in
    let l = g.F.Leaf.Leaves in
    let s = shape_of f.as_kind f.sort_of f.fields f.child_of in
    let k = leaf_holds f.as_kind f.child_of l.sort_of l.holds in
    let m = c.args.self.now in
    let h' = found_at (f.fields m.top.part) m.version c.args.name.now.local_name (plan_of (f.as_kind (f.sort_of m.top.part))).children c.find.result c.in-At.position c.in-At.is c.find.ensures in
    rw (q.1, q.2) (start_fails s g.met.F.Nested.nested k _ root (reverse m.below.items) (f.sort_of m.top.part) m.top.name (depth_of m.top.depth) m.version v p d o c.args.place c.args.event.now (f.fields m.top.part) (held_top s k f.sort_of f.fields root m.below.items m.top m.version m.inside v p d o m.top Nothing h refl c.requires.nothing) is t c.args.name.now c.args.attributes.now c.requires.start.0 c.requires.start.1 _ c.in_err-open-in-Nested.field-0.0
    (start_fault l.as_kind f.as_kind f.child_of l.sort_of l.holds (f.sort_of m.top.part) (g.met.F.Nested.children (f.sort_of m.top.part)) (f.fields m.top.part) m.version m.top.name c.args.place (depth_of m.top.depth) c.args.name.now c.args.attributes.now c.requires.start.0 c.in_err-open-in-Nested.field-0.0 c.in-At.position (Nested c.in-Nested.sort) h' (c.child.ensures ∙ ap (λ r. Some r) c.in-Nested.is) (c.in_err-open-in-Nested.ensures.begins c.requires.start.0)))

pub returns-then-not-skips : goal.returns-then-not-skips
returns-then-not-skips g c = λ root v p d o h is t.
    let f = g.F.Nested in
    let l = g.F.Leaf.Leaves in
    let s = shape_of f.as_kind f.sort_of f.fields f.child_of in
    let k = leaf_holds f.as_kind f.child_of l.sort_of l.holds in
    let m = c.args.self.now in
    unknown_fails s g.met.F.Nested.nested k _ root (reverse m.below.items) (f.sort_of m.top.part) m.top.name (depth_of m.top.depth) m.version v p d o c.args.place c.args.event.now (f.fields m.top.part) (held_top s k f.sort_of f.fields root m.below.items m.top m.version m.inside v p d o m.top Nothing h refl c.requires.nothing) is t c.args.name.now c.args.attributes.now c.requires.start.0 c.requires.start.1 _ c.rule.result c.refuse_in.result
    (found_none (f.fields m.top.part) m.version c.args.name.now.local_name (plan_of (f.as_kind (f.sort_of m.top.part))).children c.find.result c.in-Unknown.is c.find.ensures)
    c.rule.ensures (sym c.skips.ensures ∙ c.if-not-skips.true) c.refuse_in.ensures

pub returns-in_ok-machine-in-Leaf : goal.returns-in_ok-machine-in-Leaf
returns-in_ok-machine-in-Leaf g c = λ root v p d o h is t.
    let f = g.F.Nested in
    let l = g.F.Leaf.Leaves in
    let s = shape_of f.as_kind f.sort_of f.fields f.child_of in
    let k = leaf_holds f.as_kind f.child_of l.sort_of l.holds in
    let m = c.args.self.now in
    let h' = found_at (f.fields m.top.part) m.version c.args.name.now.local_name (plan_of (f.as_kind (f.sort_of m.top.part))).children c.find.result c.in-At.position c.in-At.is c.find.ensures in
    let e = c.in_ok-started-in-Leaf.ensures in
    start_more s g.met.F.Nested.nested k _ root (reverse m.below.items) (f.sort_of m.top.part) m.top.name (depth_of m.top.depth) m.version v p d o c.args.place c.args.event.now (f.fields m.top.part) (held_top s k f.sort_of f.fields root m.below.items m.top m.version m.inside v p d o m.top Nothing h refl c.requires.nothing) is t c.args.name.now c.args.attributes.now c.requires.start.0 c.requires.start.1 (Read (record { machine = c.in_ok-machine-in-Leaf.machine; position = c.in-At.position }))
    (leaf_starts l.as_kind f.as_kind f.child_of l.sort_of l.holds (f.sort_of m.top.part) (g.met.F.Nested.children (f.sort_of m.top.part)) (f.fields m.top.part) m.version c.args.place (depth_of m.top.depth) c.args.name.now c.args.attributes.now c.requires.start.0 c.in_ok-started-in-Leaf.started c.in_ok-machine-in-Leaf.machine c.in-At.position c.in-Leaf.sort c.in_ok-machine-in-Leaf.ensures h' (c.child.ensures ∙ ap (λ r. Some r) c.in-Leaf.is) e.sort e.starts)

pub returns-in_ok-push_below-in-Nested : goal.returns-in_ok-push_below-in-Nested
returns-in_ok-push_below-in-Nested g c = λ root v p d o h is t.
    let f = g.F.Nested in
    let l = g.F.Leaf.Leaves in
    let s = shape_of f.as_kind f.sort_of f.fields f.child_of in
    let k = leaf_holds f.as_kind f.child_of l.sort_of l.holds in
    let m = c.args.self.now in
    let h' = found_at (f.fields m.top.part) m.version c.args.name.now.local_name (plan_of (f.as_kind (f.sort_of m.top.part))).children c.find.result c.in-At.position c.in-At.is c.find.ensures in
    let w : Waiting g.row.F.Denot = record { «open» = m.top; position = c.in-At.position } in
    let n = c.replace-open.new.dest in
    let e = c.in_ok-open-in-Nested.ensures in
    let i = subst (λ x. f.sort_of x.part ≡ c.in-Nested.sort) (sym c.replace-open.ensures.after) e.sort in
    let b = subst (λ x. BeginsOpen (f.as_kind c.in-Nested.sort) f.fields c.args.place m.version (depth_of m.top.depth) c.args.name.now c.args.attributes.now (Ok x)) (sym c.replace-open.ensures.after) e.begins in
    let reads = c.child.ensures ∙ ap (λ r. Some r) c.in-Nested.is in
    renamed s k _ root m.version v p d (next o c.args.event.now) (Ok false) (w ∷ reverse m.below.items) (reverse c.push_below.new.below.items) c.in-Nested.sort (f.sort_of n.part) n.name (depth_of n.depth) (f.fields n.part) Nothing m.inside
    (reversed m.below.items w c.push_below.new.below.items (c.in_ok-push_below-in-Nested.ensures ∙ ap (λ (x : Open g.row.F.Denot). m.below.items ++ (record { «open» = x; position = c.in-At.position }) ∷ []) c.replace-open.ensures.value)) i c.requires.nothing
    (start_pushes s g.met.F.Nested.nested k _ root (reverse m.below.items) w c.in-Nested.sort m.version v p d o c.args.place c.args.event.now (held_top s k f.sort_of f.fields root m.below.items m.top m.version m.inside v p d o m.top Nothing h refl c.requires.nothing) is c.args.name.now c.args.attributes.now c.requires.start.0 n.name (depth_of n.depth) (f.fields n.part) c.requires.start.1
    h' reads (row_kind l.as_kind f.as_kind (f.child_of (f.sort_of m.top.part)) (plan_of (f.as_kind (f.sort_of m.top.part))).children (g.met.F.Nested.children (f.sort_of m.top.part)) c.in-At.position (Nested c.in-Nested.sort) reads h'.row h'.is_at) b.0 b.1 b.2 b.3)

pub returns-else-not-skips : goal.returns-else-not-skips
returns-else-not-skips g c = λ root v p d o h is t.
    let f = g.F.Nested in
    let l = g.F.Leaf.Leaves in
    let s = shape_of f.as_kind f.sort_of f.fields f.child_of in
    let k = leaf_holds f.as_kind f.child_of l.sort_of l.holds in
    let m = c.args.self.now in
    start_more s g.met.F.Nested.nested k _ root (reverse m.below.items) (f.sort_of m.top.part) m.top.name (depth_of m.top.depth) m.version v p d o c.args.place c.args.event.now (f.fields m.top.part) (held_top s k f.sort_of f.fields root m.below.items m.top m.version m.inside v p d o m.top Nothing h refl c.requires.nothing) is t c.args.name.now c.args.attributes.now c.requires.start.0 c.requires.start.1 (Skipped 0)
    (enters_skipped (k (f.sort_of m.top.part)) (plan_of (f.as_kind (f.sort_of m.top.part))) (f.fields m.top.part) m.version m.top.name c.args.place (depth_of m.top.depth) c.args.name.now c.args.attributes.now c.requires.start.0 c.rule.result
    (found_none (f.fields m.top.part) m.version c.args.name.now.local_name (plan_of (f.as_kind (f.sort_of m.top.part))).children c.find.result c.in-Unknown.is c.find.ensures)
    c.rule.ensures (sym c.skips.ensures ∙ c.if-not-skips.false))

pub returns-in-Second : goal.returns-in-Second
returns-in-Second g c = λ root v p d o h is t.
    let f = g.F.Nested in
    let l = g.F.Leaf.Leaves in
    let s = shape_of f.as_kind f.sort_of f.fields f.child_of in
    let k = leaf_holds f.as_kind f.child_of l.sort_of l.holds in
    let m = c.args.self.now in
    second_fails s g.met.F.Nested.nested k _ root (reverse m.below.items) (f.sort_of m.top.part) m.top.name (depth_of m.top.depth) m.version v p d o c.args.place c.args.event.now (f.fields m.top.part) (held_top s k f.sort_of f.fields root m.below.items m.top m.version m.inside v p d o m.top Nothing h refl c.requires.nothing) is t c.args.name.now c.args.attributes.now c.requires.start.0 c.requires.start.1 _ c.refuse_in-in-Second.result
    (found_second (f.fields m.top.part) m.version c.args.name.now.local_name (plan_of (f.as_kind (f.sort_of m.top.part))).children c.find.result c.in-Second.is c.find.ensures) c.refuse_in-in-Second.ensures
