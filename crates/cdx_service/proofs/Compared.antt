-- Services compared, by their groups of rows.
use Rattle.std.proofs.Common.{◌≡◌, false, ◌&&◌, length, refl, sym, ap, ◌∙◌}
use Rattle.cdx_models.specs.Trees.{service, fields, each, ◌⧺◌}
use Rattle.cdx_models.specs.Equal.{equal, equal_each}
use Rattle.cdx_models.proofs.Lists.{equal_each-append, equal_each-lengths}
use Rattle.cdx_service.specs.declared.service.Service.{Service}
use Rattle.cdx_service.specs.declared.service.Service.TheViews.{out-Service}
use Rattle.cdx_service.specs.declared.service.Services.{Services}
use Rattle.cdx_service.specs.Trees.{service_tree, services_tree, service_naming, service_access, service_contents, service_fields, service_items}
use Rattle.cdx_service.specs.Laws.{service_tree-out, services_tree-out}
use Rattle.cdx_models.proofs.Compared.{at_both, lists_compared}

pub service_compared : (a b : Service) → equal (service_tree a) (service_tree b)
    ≡ (equal_each (service_naming (out-Service a)) (service_naming (out-Service b)) && (equal_each (service_access (out-Service a)) (service_access (out-Service b)) && equal_each (service_contents services_tree (out-Service a)) (service_contents services_tree (out-Service b))))
service_compared a b =
    let x = out-Service a in
    let y = out-Service b in
    let last = service_contents services_tree in
    at_both _ _ (fields service (service_fields services_tree x)) (fields service (service_fields services_tree y)) (service_tree-out a) (service_tree-out b)
    ∙ equal_each-append (service_naming x) (service_naming y) (service_access x ⧺ last x) (service_access y ⧺ last y) refl
    ∙ ap (λ r. equal_each (service_naming x) (service_naming y) && r) (equal_each-append (service_access x) (service_access y) (last x) (last y) refl)

pub services_compared : (a b : Services) → equal (services_tree a) (services_tree b) ≡ equal_each (each service_tree (service_items a)) (each service_tree (service_items b))
services_compared a b = lists_compared service_tree _ _ (service_items a) (service_items b) (services_tree-out a) (services_tree-out b)

pub services_differ : (a b : Services) → (length (service_items a) ≡ length (service_items b) → ⊥) → false ≡ equal (services_tree a) (services_tree b)
services_differ a b h = sym (services_compared a b ∙ equal_each-lengths service_tree (service_items a) (service_items b) h)
