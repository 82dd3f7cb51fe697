-- What bills name of components, pedigrees and services, in one place.
pub use Rattle.cdx_component.specs.Laws.{component_tree-out, components_tree-out, pedigree_tree-out, components_there, component_tree-roll, pedigree_tree-roll}
pub use Rattle.cdx_component.specs.Trees.{components_tree, origin, naming, marks, component_contents, component_tree, pedigree_tree, component_fields, pedigree_fields, component_items, component_step, components_step, pedigree_step}
pub use Rattle.cdx_component.specs.declared.component.Component.{Component}
pub use Rattle.cdx_component.specs.declared.component.Component.TheFolds.{ind-Component, fold-roll-Components}
pub use Rattle.cdx_component.specs.declared.component.Component.TheOpen.{Component-F, Pedigree-F}
pub use Rattle.cdx_component.specs.declared.component.Component.TheShapes.{former-Component-pedigree, former-Component-components}
pub use Rattle.cdx_component.specs.declared.component.Component.TheViews.{out-Component, out-Pedigree}
pub use Rattle.cdx_component.specs.declared.component.Components.{Components}
pub use Rattle.cdx_component.specs.declared.component.Pedigree.{Pedigree}
pub use Rattle.cdx_service.specs.Laws.{service_tree-out, services_tree-out, services_there, service_tree-roll}
pub use Rattle.cdx_service.specs.Trees.{services_tree, service_naming, service_access, service_contents, service_tree, service_fields, service_items, service_step, services_step}
pub use Rattle.cdx_service.specs.declared.service.Service.{Service}
pub use Rattle.cdx_service.specs.declared.service.Service.TheFolds.{ind-Service, fold-roll-Services}
pub use Rattle.cdx_service.specs.declared.service.Service.TheOpen.{Service-F}
pub use Rattle.cdx_service.specs.declared.service.Service.TheShapes.{former-Service-services}
pub use Rattle.cdx_service.specs.declared.service.Service.TheViews.{out-Service}
pub use Rattle.cdx_service.specs.declared.service.Services.{Services}
