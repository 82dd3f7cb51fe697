use Rattle.std.proofs.Common.{◌+◌, ◌∷◌, reverse, false, Ok, refl, sym, ap, ◌∙◌}
use Rattle.std.proofs.lemmas.Result.{err_from_is_err_and}
use Rattle.cdx_schema.specs.Depths.{depth_of}
use Rattle.cdx_machine.specs.declared.frame.Inside.TheVariants.{Nothing}
use Rattle.cdx_machine.specs.Begun.{next}
use Rattle.cdx_nest_machine.specs.declared.stack.Open.{Open}
use Rattle.cdx_nest_machine.specs.declared.stack.Waiting.{Waiting}
use Rattle.cdx_nest_machine.specs.Frames.{leaf_holds, shape_of}
use Rattle.cdx_nest_machine.proofs.Machine.{held_top, end_fails, end_pops, renamed, reversed}
use Rattle.cdx_nest_machine.proofs.stack.StackMachine.end.Goals as goal

pub returns-in_err-value : goal.returns-in_err-value
returns-in_err-value g c = λ root v p d o h is t.
    let q = err_from_is_err_and c.from_residual.result c.from_residual.ensures.1 in
    let f = g.F.Nested in
    let l = g.F.Leaf.Leaves in
    let s = shape_of f.as_kind f.sort_of f.fields f.child_of in
    let k = leaf_holds f.as_kind f.child_of l.sort_of l.holds in
    let m = c.args.self.now in
    let ended = c.replace-ended.result in
    rw (q.1, q.2) (end_fails s g.met.F.Nested.nested k _ root (reverse m.below.items) (f.sort_of ended.part) ended.name (depth_of ended.depth) m.version v p d o c.args.place c.args.event.now (f.fields ended.part) (held_top s k f.sort_of f.fields root m.below.items m.top m.version m.inside v p d o ended Nothing h (sym c.replace-ended.ensures.value) c.requires.nothing) is t c.args.name.now c.requires.end f.tree _ (c.args.place + 1) c.in_err-value.field-0.0 c.in_err-value.ensures.gives)

pub returns : goal.returns
returns g c = λ root v p d o h is t.
    let f = g.F.Nested in
    let l = g.F.Leaf.Leaves in
    let s = shape_of f.as_kind f.sort_of f.fields f.child_of in
    let k = leaf_holds f.as_kind f.child_of l.sort_of l.holds in
    let m = c.args.self.now in
    let ended = c.replace-ended.result in
    let n = c.replace-ended.new.dest in
    let w : Waiting g.row.F.Denot = record { «open» = n; position = c.in-Some.waiting.position } in
    renamed s k _ root m.version v p d (next o c.args.event.now) (Ok false) (reverse c.pop.new.self.items) (reverse c.pop.new.self.items) (f.sort_of n.part) (f.sort_of c.put.new.self) n.name (depth_of n.depth) (f.fields c.put.new.self) Nothing m.inside refl c.in_ok-put.ensures.sort c.requires.nothing
    (end_pops s g.met.F.Nested.nested k _ root (reverse m.below.items) (f.sort_of ended.part) ended.name (depth_of ended.depth) m.version v p d o c.args.place c.args.event.now (f.fields ended.part) (held_top s k f.sort_of f.fields root m.below.items m.top m.version m.inside v p d o ended Nothing h (sym c.replace-ended.ensures.value) c.requires.nothing) is t c.args.name.now c.requires.end f.tree w (reverse c.pop.new.self.items) (c.args.place + 1) c.in_ok-value.value (f.fields c.put.new.self)
    (reversed c.pop.new.self.items c.in-Some.waiting m.below.items c.in-Some.ensures.items ∙ ap (λ (x : Open g.row.F.Denot). (record { «open» = x; position = c.in-Some.waiting.position }) ∷ reverse c.pop.new.self.items) (sym c.replace-ended.ensures.after)) c.in_ok-value.ensures.gives c.in_ok-put.ensures.puts)
