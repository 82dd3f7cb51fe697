use Rattle.std.proofs.Common.{◌≡◌, ◌+◌, [], ◌∷◌, ◌++◌, length, Ok, refl, sym, ap, ◌∙◌, subst, arith}
use Rattle.std.proofs.lemmas.Result.{err_from_is_err_and}
use Rattle.std.specs.Vec.Iter.{into_iter_items}
use Rattle.cdx_models.specs.Trees.{items}
use Rattle.cdx_schema.specs.Results.{◌>>=◌}
use Rattle.cdx_json.proofs.Loops.{reading_items, ends}
use Rattle.cdx_owned.proofs.FloatSearch.{items_go, items_stop, items_end}
use Rattle.cdx_owned.proofs.Left.{next_is, all_are}
use Rattle.cdx_owned.proofs.ReadTo.{IsReadTo, stays_at_fault, reads_one, meets_fault}
use Rattle.cdx_owned.proofs.list.items_from_owned.Goals as goal
use Rattle.cdx_owned.proofs.list.items_from_owned.Goals.{in-Some-fault, in-None-fault+in-Ok+in_ok-push-in-Ok, in-None-fault+in-Err}

pub returns-in_err-refuse_item-clause-floats : goal.returns-in_err-refuse_item-clause-floats
returns-in_err-refuse_item-clause-floats g c =
    let at = c.loop-item in
    let next = next_is c.args.items.items at.at c.in-Some.item (into_iter_items c.next.new.self) (sym c.in-Some.ensures.steps.0 ∙ at.invariant.2) in
    let p = err_from_is_err_and c.from_residual-in_err-refuse_item.result c.from_residual-in_err-refuse_item.ensures.1 in
    rw (p.1, p.2) (items_stop c.args.items.items at.at c.in-Some.item _ c.in_err-refuse_item.field-0.0 next.0 next.1 c.in_err-refuse_item.ensures at.invariant.1)

pub loop-item-preserved : goal.loop-item-preserved
loop-item-preserved g c =
    let at = c.loop-item in
    let all = c.args.items.items in
    let next = next_is all at.at c.in-Some.item (into_iter_items c.next.new.self) (sym c.in-Some.ensures.steps.0 ∙ at.invariant.2) in
    let l = reading_items g.T.HasTree.tree g.T.Kinded.kind c.args.context all all at.held at.at in
    let m = reading_items g.T.HasTree.tree g.T.Kinded.kind c.args.context all all c.match-fault-3.held (at.at + 1) in
    let read : IsReadTo m c.match-fault-3.fault = elim c.match-fault-3.branch [
      | in-Some-fault w ↦ stays_at_fault l m at.fault c.match-fault-3.fault _ refl w.in-Some-fault.is w.fault-is at.invariant.0
      | in-None-fault+in-Ok+in_ok-push-in-Ok w ↦
          let longer : at.held ++ w.in-Ok.one ∷ [] ≡ c.match-fault-3.held = sym w.in_ok-push-in-Ok.ensures.ok ∙ sym w.held-is in
          subst (λ held. IsReadTo (reading_items g.T.HasTree.tree g.T.Kinded.kind c.args.context all all held (at.at + 1)) c.match-fault-3.fault) longer
          (reads_one l c.in-Some.item w.in-Ok.one at.fault c.match-fault-3.fault next.0 next.1 w.in-Ok.ensures w.in-None-fault.is w.fault-is at.invariant.0)
      | in-None-fault+in-Err w ↦
          meets_fault l m c.in-Some.item w.in-Err.e w.at_item.result at.fault c.match-fault-3.fault refl next.0 next.1 w.in-Err.ensures w.at_item.ensures w.in-None-fault.is w.fault-is at.invariant.0
    ] in
    let floats = items_go all at.at c.in-Some.item _ next.0 next.1 c.in_ok-refuse_item.ensures at.invariant.1 in
    (read, floats, next.2, (let fewer = ap length c.in-Some.ensures.steps.0 in let fewer_still = c.in-Some.ensures.steps.1 in let was = at.invariant.3 in omega arith))

pub returns-in-None-fault-2-clause-floats : goal.returns-in-None-fault-2-clause-floats
returns-in-None-fault-2-clause-floats g c =
    let at = c.loop-item in
    items_end c.args.items.items at.at _ (all_are c.args.items.items at.at (into_iter_items at.item-iterator) at.invariant.2 (sym at.invariant.3 ∙ c.in-None.ensures.steps.0)) at.invariant.1

pub returns-in-None-fault-2-clause-read : goal.returns-in-None-fault-2-clause-read
returns-in-None-fault-2-clause-read g c =
    let at = c.loop-item in
    let l = reading_items g.T.HasTree.tree g.T.Kinded.kind c.args.context c.args.items.items c.args.items.items at.held at.at in
    let read = subst (IsReadTo l) c.in-None-fault-2.is at.invariant.0 in
    ap (λ r. r >>= λ ts. Ok (items ts)) (ends l (all_are c.args.items.items at.at (into_iter_items at.item-iterator) at.invariant.2 (sym at.invariant.3 ∙ c.in-None.ensures.steps.0)) read.0)

pub returns-in-Some-fault-2-clause-floats : goal.returns-in-Some-fault-2-clause-floats
returns-in-Some-fault-2-clause-floats g c =
    let at = c.loop-item in
    items_end c.args.items.items at.at _ (all_are c.args.items.items at.at (into_iter_items at.item-iterator) at.invariant.2 (sym at.invariant.3 ∙ c.in-None.ensures.steps.0)) at.invariant.1
