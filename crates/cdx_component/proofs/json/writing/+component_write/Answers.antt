use Rattle.std.proofs.Common.{refl, arith, ap, sym, ◌∙◌}
use Rattle.cdx_schema.specs.Table.{rows, list}
use Rattle.cdx_schema.specs.Keeping.{keep}
use Rattle.cdx_schema.specs.JsonSpelling.{jspell}
use Rattle.cdx_json.specs.KeptRows.{rows_put}
use Rattle.cdx_json.specs.Spellings.{spelling_data, spelling_members}
use Rattle.cdx_json.proofs.Spelled.{field_put, nothing_put, list_spelled}
use Rattle.cdx_models.specs.Trees.{component, pedigree}
use Rattle.cdx_schema.specs.Kinds.{components, a_list, a_record}
use Rattle.cdx_component.specs.Trees.{component_tree, components_tree, pedigree_tree, component_items}
use Rattle.cdx_component.specs.Laws.{components_tree-out}
use Rattle.cdx_component.specs.Stays.{pedigree_stays, components_stay}
use Rattle.cdx_component.proofs.Grouped.{component_spelled, pedigree_spelled}
use Rattle.cdx_component.proofs.json.writing.+component_write.Goals as goal

pub write_component-returns : goal.write_component-returns
write_component-returns t c = component_spelled c.put_contents.new.map c.args.held.now c.args.target.version (c.in_ok-put_contents.ensures ∙ rw (c.in_ok-put_marks.ensures, c.in_ok-put_naming.ensures, c.in_ok-put_origin.ensures, c.new-map.ensures.items) refl)

pub write_components-returns : goal.write_components-returns
unfolding list
write_components-returns t c =
    list_spelled component_tree (a_record component) components c.args.target.version c.loop-item.values c.deref-item-items.result.now (component_items c.args.held.now) c.loop-item.item-index refl c.deref-item-items.ensures.value (omega arith) c.loop-item.invariant
    ∙ ap (λ u. jspell (keep c.args.target.version u (a_list components)) c.args.target.version (a_list components)) (sym (components_tree-out c.args.held.now))

pub write_pedigree-returns : goal.write_pedigree-returns
write_pedigree-returns t c = pedigree_spelled c.put_pedigree_members.new.map c.args.held.now c.args.target.version (c.in_ok-put_pedigree_members.ensures ∙ rw (c.new-map.ensures.items) refl)

pub put_pedigree_members-returns : goal.put_pedigree_members-returns
unfolding rows_put rows list
put_pedigree_members-returns t c = rw (c.in_ok-put_row-3.ensures, c.in_ok-put_row-2.ensures, c.in_ok-put_row.ensures, c.in_ok-put_components_row-3.ensures, c.in_ok-put_components_row-2.ensures, c.in_ok-put_components_row.ensures) refl

pub put_contents-returns : goal.put_contents-returns
unfolding rows_put rows list
put_contents-returns t c = rw (c.in_ok-put_row_since.ensures, c.in_ok-put_row-3.ensures, c.in_ok-put_components_row.ensures, c.in_ok-put_row-2.ensures, c.in_ok-put_row.ensures, c.in_ok-put_pedigree_row.ensures) refl

pub put_pedigree_row-returns-in-None : goal.put_pedigree_row-returns-in-None
put_pedigree_row-returns-in-None t c = rw c.in-None.is (nothing_put c.args.name.now (a_record pedigree) pedigree_tree c.args.target.version (spelling_members c.args.map.now.items))

pub put_pedigree_row-returns-in_ok-value-in-Some : goal.put_pedigree_row-returns-in_ok-value-in-Some
put_pedigree_row-returns-in_ok-value-in-Some t c =
    rw c.in-Some.is (field_put c.put.result c.args.name.now (a_record pedigree) (pedigree_tree c.in-Some.held) c.args.target.version (spelling_data c.in_ok-value-in-Some.value) (spelling_members c.args.map.now.items) (spelling_members c.put.new.members.items) (pedigree_stays c.args.target.version c.args.target.version c.in-Some.held) c.in_ok-value-in-Some.ensures c.put.ensures)

pub put_components_row-returns-in-None : goal.put_components_row-returns-in-None
put_components_row-returns-in-None t c = rw c.in-None.is (nothing_put c.args.name.now (a_list components) components_tree c.args.target.version (spelling_members c.args.map.now.items))

pub put_components_row-returns-in_ok-value-in-Some : goal.put_components_row-returns-in_ok-value-in-Some
put_components_row-returns-in_ok-value-in-Some t c =
    rw c.in-Some.is (field_put c.put.result c.args.name.now (a_list components) (components_tree c.in-Some.held) c.args.target.version (spelling_data c.in_ok-value-in-Some.value) (spelling_members c.args.map.now.items) (spelling_members c.put.new.members.items) (components_stay c.args.target.version c.args.target.version c.in-Some.held) c.in_ok-value-in-Some.ensures c.put.ensures)
