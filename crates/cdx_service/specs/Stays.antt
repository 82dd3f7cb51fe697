-- What is there of services stays there in every version.
use Rattle.std.proofs.Common.{◌≡◌, false, ◌∙◌}
use Rattle.cdx_models.specs.declared.bom.SpecVersion.{SpecVersion}
use Rattle.cdx_models.specs.Trees.{service, is_absent}
use Rattle.cdx_schema.specs.Kinds.{services, a_list, a_record}
use Rattle.cdx_schema.specs.Keeping.{kept}
use Rattle.cdx_json.specs.Stays.{stays_alike, record_stays, list_stays}
use Rattle.cdx_service.specs.declared.service.Service.{Service}
use Rattle.cdx_service.specs.declared.service.Services.{Services}
use Rattle.cdx_service.specs.Trees.{service_tree, services_tree}
use Rattle.cdx_service.specs.Laws.{service_tree-out, services_tree-out}

pub service_stays : (w l : SpecVersion) (x : Service) → is_absent (kept w l (service_tree x) (a_record service)) ≡ false
service_stays w l x = stays_alike w l (a_record service) _ _ (service_tree-out x) ∙ record_stays w l service _

pub services_stay : (w l : SpecVersion) (x : Services) → is_absent (kept w l (services_tree x) (a_list services)) ≡ false
services_stay w l x = stays_alike w l (a_list services) _ _ (services_tree-out x) ∙ list_stays w l services _
