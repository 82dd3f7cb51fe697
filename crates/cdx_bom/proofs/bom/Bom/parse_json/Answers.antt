use Rattle.std.proofs.lemmas.Result.{err_from_is_err_and}
use Rattle.serde_json.specs.View.{view}
use Rattle.cdx_bom.specs.Trees.{bom_tree}
use Rattle.cdx_bom.proofs.Floats.{float_first, read_after, read_shallow}
use Rattle.cdx_bom.proofs.bom.Bom.parse_json.Goals as goal

pub returns-in_err-refuse_floats-clause-bill : goal.returns-in_err-refuse_floats-clause-bill
returns-in_err-refuse_floats-clause-bill c =
    let p = err_from_is_err_and c.from_residual.result c.from_residual.ensures.1 in
    rw (p.1, p.2) (float_first _ (view c.args.value.now) c.args.version c.in_err-refuse_floats.ensures)

pub returns-clause-bill : goal.returns-clause-bill
returns-clause-bill c = read_after bom_tree c.from_json.result (view c.args.value.now) c.args.version c.in_ok-refuse_floats.ensures c.from_json.ensures

pub returns-clause-shallow : goal.returns-clause-shallow
returns-clause-shallow c =
    read_shallow bom_tree c.from_json.result c.args.value.now c.args.version c.denotes_bills.ensures.json (read_after bom_tree c.from_json.result (view c.args.value.now) c.args.version c.in_ok-refuse_floats.ensures c.from_json.ensures)
