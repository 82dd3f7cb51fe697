-- The trees of services and lists of services, one level at a time.
use Rattle.std.proofs.Common.{◌≡◌, false, Option, Some, None, refl, ap, ◌∙◌}
use Rattle.cdx_models.specs.Trees.{service, Tree, fields, present, list_tree, is_absent}
use Rattle.cdx_service.specs.declared.service.Service.{Service}
use Rattle.cdx_service.specs.declared.service.Service.TheOpen.{Service-F}
use Rattle.cdx_service.specs.declared.service.Service.TheShapes.{former-Service-services}
use Rattle.cdx_service.specs.declared.service.Service.TheViews.{out-Service, roll-Service}
use Rattle.cdx_service.specs.declared.service.Service.TheFolds.{fold-roll-Service, fold_out-Service, fold_out-Services}
use Rattle.cdx_service.specs.declared.service.Services.{Services}
use Rattle.cdx_models.specs.Trees.{as_is}
use Rattle.cdx_service.specs.Trees.{service_step, services_step, service_tree, services_tree, service_items, service_fields}

mapped : (h : Services → Tree) (o : Option Services) → present as_is (former-Service-services.map Services Tree h o) ≡ present h o
mapped h None = refl
mapped h (Some x) = refl

pub service_tree-roll : (x : Service-F Service Services) → service_tree (roll-Service x) ≡ fields service (service_fields services_tree x)
service_tree-roll x = fold-roll-Service Tree Tree service_step services_step x ∙ simp (mapped services_tree x.services)

pub service_tree-out : (s : Service) → service_tree s ≡ fields service (service_fields services_tree (out-Service s))
service_tree-out s = fold_out-Service Tree Tree service_step services_step s ∙ simp (mapped services_tree (out-Service s).services)

pub services_tree-out : (ss : Services) → services_tree ss ≡ list_tree service_tree (service_items ss)
services_tree-out ss = fold_out-Services Tree Tree service_step services_step ss

-- ---- neither tree is absent

pub service_there : (x : Service) → is_absent (service_tree x) ≡ false
service_there x = ap is_absent (service_tree-out x)

pub services_there : (x : Services) → is_absent (services_tree x) ≡ false
services_there x = ap is_absent (services_tree-out x)
