-- Copies of services, by their groups of rows.
use Rattle.std.proofs.Common.{◌≡◌, sym, ◌∙◌}
use Rattle.cdx_models.specs.Trees.{service, Tree, fields, Trees, ◌⧺◌}
use Rattle.cdx_service.specs.declared.service.Service.{Service}
use Rattle.cdx_service.specs.declared.service.Service.TheViews.{out-Service}
use Rattle.cdx_service.specs.Trees.{service_tree, services_tree, service_naming, service_access, service_contents}
use Rattle.cdx_service.specs.Laws.{service_tree-out}

pub service_copied : (t : Tree) (x : Service) (a b d : Trees) → t ≡ fields service (a ⧺ (b ⧺ d))
    → a ≡ service_naming (out-Service x) → b ≡ service_access (out-Service x) → d ≡ service_contents services_tree (out-Service x) → t ≡ service_tree x
service_copied t x a b d is p q r = is ∙ rw (p, q, r) (sym (service_tree-out x))
