-- Wide records, whose fields come in groups of rows.
use Rattle.std.proofs.Common.{◌≡◌, true, false, List, [], ◌∷◌, ◌++◌, refl, sym, subst}
use Rattle.cdx_models.specs.Trees.{component, service, Tree, Trees, none, more, ◌⧺◌}
use Rattle.cdx_schema.specs.Kinds.{a_record, Row}
use Rattle.cdx_schema.specs.Table.{rows}
use Rattle.cdx_schema.specs.Membership.{IsOf}
use Rattle.cdx_schema.specs.Groups.{group}
use Rattle.cdx_component.specs.declared.component.Component.{Component}
use Rattle.cdx_component.specs.declared.component.Component.TheViews.{out-Component}
use Rattle.cdx_component.specs.Trees.{origin, naming, marks, component_contents, component_tree, components_tree, pedigree_tree}
use Rattle.cdx_component.specs.Laws.{component_tree-out}
use Rattle.cdx_service.specs.declared.service.Service.{Service}
use Rattle.cdx_service.specs.declared.service.Service.TheViews.{out-Service}
use Rattle.cdx_service.specs.Trees.{service_naming, service_access, service_contents, service_tree, services_tree}
use Rattle.cdx_service.specs.Laws.{service_tree-out}
use Rattle.cdx_whole.specs.Fields.{AreFields}

joined : (ts us : Trees) (rs qs : List Row) → AreFields ts rs → AreFields us qs → AreFields (ts ⧺ us) (rs ++ qs)
joined none us [] qs h k = k
joined none us (r ∷ rs) qs h k = let e : true ≡ false = h in absurd cc
joined (more t ts) us [] qs h k = let e : true ≡ false = h in absurd cc
joined (more t ts) us (r ∷ rs) qs h k = (h.0, joined ts us rs qs h.1 k)

pub component_joined : (c : Component) → AreFields (origin (out-Component c)) (group 0 component) → AreFields (naming (out-Component c)) (group 1 component) → AreFields (marks (out-Component c)) (group 2 component) → AreFields (component_contents components_tree pedigree_tree (out-Component c)) (group 3 component) → IsOf (component_tree c) (a_record component)
unfolding rows
component_joined c first second third fourth =
    let x = out-Component c in
    let last = component_contents components_tree pedigree_tree x in
    let P : Tree → Type 0 = λ t. IsOf t (a_record component) in
    subst P (sym (component_tree-out c)) (
      refl,
      joined (origin x) (naming x ⧺ (marks x ⧺ last)) (group 0 component) (group 1 component ++ (group 2 component ++ group 3 component)) first
          (joined (naming x) (marks x ⧺ last) (group 1 component) (group 2 component ++ group 3 component) second
          (joined (marks x) last (group 2 component) (group 3 component) third fourth)),
    )

pub service_joined : (s : Service) → AreFields (service_naming (out-Service s)) (group 0 service) → AreFields (service_access (out-Service s)) (group 1 service) → AreFields (service_contents services_tree (out-Service s)) (group 2 service) → IsOf (service_tree s) (a_record service)
unfolding rows
service_joined s first second third =
    let x = out-Service s in
    let last = service_contents services_tree x in
    let P : Tree → Type 0 = λ t. IsOf t (a_record service) in
    subst P (sym (service_tree-out s)) (
      refl,
      joined (service_naming x) (service_access x ⧺ last) (group 0 service) (group 1 service ++ group 2 service) first
          (joined (service_access x) last (group 1 service) (group 2 service) second third),
    )
