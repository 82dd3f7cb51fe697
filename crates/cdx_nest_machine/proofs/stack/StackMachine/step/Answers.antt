use Rattle.std.proofs.Common.{reverse, false, Ok, refl, sym, ◌∙◌}
use Rattle.std.proofs.lemmas.Result.{err_from_is_err_and}
use Rattle.cdx_schema.specs.Depths.{depth_of}
use Rattle.cdx_machine.specs.declared.frame.Inside.TheVariants.{Nothing, Read, Skipped}
use Rattle.cdx_machine.specs.Begun.{next}
use Rattle.cdx_nest_machine.specs.Frames.{leaf_holds, shape_of}
use Rattle.cdx_nest_machine.proofs.Machine.{held_top, leaf_can, leaf_fails, leaf_fed, skip_fits_in, skip_more, text_more, text_fails, renamed}
use Rattle.cdx_nest_machine.proofs.stack.StackMachine.step.Goals as goal

pub feed-requires : goal.feed-requires
feed-requires g c =
    let r = c.requires in
    let root = r.root in
    let v = r.v in
    let p = r.p in
    let d = r.d in
    let o = r.o in
    let h = r.held in
    let f = g.F.Nested in
    let l = g.F.Leaf.Leaves in
    let s = shape_of f.as_kind f.sort_of f.fields f.child_of in
    let k = leaf_holds f.as_kind f.child_of l.sort_of l.holds in
    let m = c.args.self.now in
    leaf_can s g.met.F.Nested.nested k (Unit {0}) root (reverse m.below.items) (f.sort_of m.top.part) m.top.name (depth_of m.top.depth) m.version v p d o c.args.place c.args.event.now (f.fields m.top.part) (f.fields m.top.part) c.in-Read.child (held_top s k f.sort_of f.fields root m.below.items m.top m.version m.inside v p d o m.top (Read c.in-Read.child) h refl (sym c.replace.ensures.value ∙ c.in-Read.is)) r.place_is r.takes

pub returns-in_err-self-in-Read : goal.returns-in_err-self-in-Read
returns-in_err-self-in-Read g c = λ root v p d o h is t.
    let q = err_from_is_err_and c.from_residual.result c.from_residual.ensures.1 in
    let f = g.F.Nested in
    let l = g.F.Leaf.Leaves in
    let s = shape_of f.as_kind f.sort_of f.fields f.child_of in
    let k = leaf_holds f.as_kind f.child_of l.sort_of l.holds in
    let m = c.args.self.now in
    rw (q.1, q.2) (leaf_fails s g.met.F.Nested.nested k _ root (reverse m.below.items) (f.sort_of m.top.part) m.top.name (depth_of m.top.depth) m.version v p d o c.args.place c.args.event.now (f.fields m.top.part) (f.fields c.feed.new.part) c.in-Read.child (held_top s k f.sort_of f.fields root m.below.items m.top m.version m.inside v p d o m.top (Read c.in-Read.child) h refl (sym c.replace.ensures.value ∙ c.in-Read.is)) is t _ c.in_err-self-in-Read.field-0.0 c.in_err-self-in-Read.ensures.feeds)

pub returns-in_ok-self-in-Read : goal.returns-in_ok-self-in-Read
returns-in_ok-self-in-Read g c = λ root v p d o h is t.
    let f = g.F.Nested in
    let l = g.F.Leaf.Leaves in
    let s = shape_of f.as_kind f.sort_of f.fields f.child_of in
    let k = leaf_holds f.as_kind f.child_of l.sort_of l.holds in
    let m = c.args.self.now in
    renamed s k _ root m.version v p d (next o c.args.event.now) (Ok false) (reverse m.below.items) (reverse m.below.items) (f.sort_of m.top.part) (f.sort_of c.feed.new.part) m.top.name (depth_of m.top.depth) (f.fields c.feed.new.part) c.in_ok-self-in-Read.field-0 c.in_ok-self-in-Read.field-0 refl c.in_ok-self-in-Read.ensures.sort refl
    (leaf_fed s g.met.F.Nested.nested k _ root (reverse m.below.items) (f.sort_of m.top.part) m.top.name (depth_of m.top.depth) m.version v p d o c.args.place c.args.event.now (f.fields m.top.part) (f.fields c.feed.new.part) c.in-Read.child (held_top s k f.sort_of f.fields root m.below.items m.top m.version m.inside v p d o m.top (Read c.in-Read.child) h refl (sym c.replace.ensures.value ∙ c.in-Read.is)) is t c.in_ok-self-in-Read.field-0 c.in_ok-self-in-Read.ensures.feeds)

pub skip-requires : goal.skip-requires
skip-requires g c =
    let r = c.requires in
    let root = r.root in
    let v = r.v in
    let p = r.p in
    let d = r.d in
    let o = r.o in
    let h = r.held in
    let f = g.F.Nested in
    let l = g.F.Leaf.Leaves in
    let s = shape_of f.as_kind f.sort_of f.fields f.child_of in
    let k = leaf_holds f.as_kind f.child_of l.sort_of l.holds in
    let m = c.args.self.now in
    skip_fits_in s g.met.F.Nested.nested k (Unit {0}) root (reverse m.below.items) (f.sort_of m.top.part) m.top.name (depth_of m.top.depth) m.version v p d o c.args.place c.args.event.now (f.fields m.top.part) c.in-Skipped.depth (held_top s k f.sort_of f.fields root m.below.items m.top m.version m.inside v p d o m.top (Skipped c.in-Skipped.depth) h refl (sym c.replace.ensures.value ∙ c.in-Skipped.is)) r.place_is

pub returns-in-Skipped : goal.returns-in-Skipped
returns-in-Skipped g c = λ root v p d o h is t.
    let f = g.F.Nested in
    let l = g.F.Leaf.Leaves in
    let s = shape_of f.as_kind f.sort_of f.fields f.child_of in
    let k = leaf_holds f.as_kind f.child_of l.sort_of l.holds in
    let m = c.args.self.now in
    skip_more s g.met.F.Nested.nested k _ root (reverse m.below.items) (f.sort_of m.top.part) m.top.name (depth_of m.top.depth) m.version v p d o c.args.place c.args.event.now (f.fields m.top.part) c.in-Skipped.depth (held_top s k f.sort_of f.fields root m.below.items m.top m.version m.inside v p d o m.top (Skipped c.in-Skipped.depth) h refl (sym c.replace.ensures.value ∙ c.in-Skipped.is)) c.skip.result c.skip.ensures t

pub returns-then-not-passes : goal.returns-then-not-passes
returns-then-not-passes g c = λ root v p d o h is t.
    let f = g.F.Nested in
    let l = g.F.Leaf.Leaves in
    let s = shape_of f.as_kind f.sort_of f.fields f.child_of in
    let k = leaf_holds f.as_kind f.child_of l.sort_of l.holds in
    let m = c.args.self.now in
    text_fails s g.met.F.Nested.nested k _ root (reverse m.below.items) (f.sort_of m.top.part) m.top.name (depth_of m.top.depth) m.version v p d o c.args.place c.args.event.now (f.fields m.top.part) (held_top s k f.sort_of f.fields root m.below.items m.top m.version m.inside v p d o m.top Nothing h refl (sym c.replace.ensures.value ∙ c.in-Nothing.is)) is t c.rule.result c.rule.ensures c.in_default.not-StartElement c.in_default.not-EndElement _ c.refuse_in.result (sym c.passes.ensures ∙ c.if-not-passes.true) c.refuse_in.ensures

pub returns-else-not-passes : goal.returns-else-not-passes
returns-else-not-passes g c = λ root v p d o h is t.
    let f = g.F.Nested in
    let l = g.F.Leaf.Leaves in
    let s = shape_of f.as_kind f.sort_of f.fields f.child_of in
    let k = leaf_holds f.as_kind f.child_of l.sort_of l.holds in
    let m = c.args.self.now in
    renamed s k _ root m.version v p d (next o c.args.event.now) (Ok false) (reverse m.below.items) (reverse m.below.items) (f.sort_of m.top.part) (f.sort_of m.top.part) m.top.name (depth_of m.top.depth) (f.fields m.top.part) Nothing c.replace.new.dest refl refl c.replace.ensures.after
    (text_more s g.met.F.Nested.nested k _ root (reverse m.below.items) (f.sort_of m.top.part) m.top.name (depth_of m.top.depth) m.version v p d o c.args.place c.args.event.now (f.fields m.top.part) (held_top s k f.sort_of f.fields root m.below.items m.top m.version m.inside v p d o m.top Nothing h refl (sym c.replace.ensures.value ∙ c.in-Nothing.is)) is t c.rule.result c.rule.ensures c.in_default.not-StartElement c.in_default.not-EndElement (sym c.passes.ensures ∙ c.if-not-passes.false))
