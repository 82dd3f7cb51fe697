use Rattle.std.proofs.Common.{codes, Some, None, option_map, refl, ap, ◌∙◌}
use Rattle.serde_json.specs.View.{view}
use Rattle.serde_json.specs.declared.value.Value.{Object}
use Rattle.cdx_canon.specs.Sides.{pair_view}
use Rattle.cdx_canon.proofs.Taken.{count_is, taken_is, taken_next, pair_is, no_pair}
use Rattle.cdx_canon.proofs.comparing.take_both.Goals as goal

pub returns-then-len-ne2 : goal.returns-then-len-ne2
returns-then-len-ne2 c = no_pair (view (Object c.args.map)) c.len.result (count_is c.args.map c.len.result c.len.ensures.len) c.if-len-ne2.true

pub returns-in_err-left : goal.returns-in_err-left
returns-in_err-left c =
    let count = count_is c.args.map c.len.result c.len.ensures.len ∙ c.if-len-ne2.false in
    ap (option_map pair_view) c.from_residual.ensures ∙ pair_is (view (Object c.args.map)) None _ count (taken_is (codes "left") c.args.map None c.in_err-left.ensures.value) refl

pub returns-in_err-right : goal.returns-in_err-right
returns-in_err-right c =
    let count = count_is c.args.map c.len.result c.len.ensures.len ∙ c.if-len-ne2.false in
    let left = c.in_ok-left.ensures in
    ap (option_map pair_view) c.from_residual-in_err-right.ensures
    ∙ pair_is (view (Object c.args.map)) (Some (view c.in_ok-left.left)) None count (taken_is (codes "left") c.args.map (Some c.in_ok-left.left) left.value)
    (taken_next (codes "left") (codes "right") c.args.map _ None refl left.entries c.in_err-right.ensures.value)

pub returns : goal.returns
returns c =
    let count = count_is c.args.map c.len.result c.len.ensures.len ∙ c.if-len-ne2.false in
    let left = c.in_ok-left.ensures in
    pair_is (view (Object c.args.map)) (Some (view c.in_ok-left.left)) (Some (view c.in_ok-right.right)) count (taken_is (codes "left") c.args.map (Some c.in_ok-left.left) left.value)
    (taken_next (codes "left") (codes "right") c.args.map _ (Some c.in_ok-right.right) refl left.entries c.in_ok-right.ensures.value)
