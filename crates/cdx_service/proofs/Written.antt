-- Services as elements.
use Rattle.std.proofs.Common.{◌≡◌, ℕ, true, false, List, [], ◌∷◌, ◌++◌, codes, refl, sym, ap, ◌∙◌}
use Rattle.std.specs.List.{flat_map}
use Rattle.std.proofs.lemmas.List.{append-nil}
use Rattle.cdx_events.specs.declared.name.OwnedAttribute.{OwnedAttribute}
use Rattle.cdx_models.specs.declared.bom.SpecVersion.{SpecVersion}
use Rattle.cdx_models.specs.Trees.{service, ◌⧺◌}
use Rattle.cdx_schema.specs.Kinds.{services, a_list, a_record}
use Rattle.cdx_schema.specs.Table.{rows, list}
use Rattle.cdx_schema.specs.Trips.{is_passed_over}
use Rattle.cdx_schema.specs.Groups.{group}
use Rattle.cdx_write.specs.Listed.{item_put}
use Rattle.cdx_write.specs.Spelling.{spelled_events, inner}
use Rattle.cdx_write.specs.WillWrite.{will_write}
use Rattle.cdx_write.specs.WrittenRows.{child_written, attributes_written, rows_written, are_rows_of}
use Rattle.cdx_write.specs.Writing.{opening, start_tag, end_tag}
use Rattle.cdx_write.proofs.Lists.{items_put, item_there, list_inner, list_is}
use Rattle.cdx_write.proofs.RowWords.{child_there}
use Rattle.cdx_write.proofs.RowsLaws.{record_is, rows_in_groups, attributes_in_groups}
use Rattle.cdx_service.specs.declared.service.Service.{Service}
use Rattle.cdx_service.specs.declared.service.Service.TheOpen.{Service-F}
use Rattle.cdx_service.specs.declared.service.Service.TheViews.{out-Service}
use Rattle.cdx_service.specs.declared.service.Services.{Services}
use Rattle.cdx_service.specs.Trees.{service_tree, services_tree, service_naming, service_access, service_contents, service_fields, service_items}
use Rattle.cdx_service.specs.Laws.{service_tree-out, services_tree-out, services_there}
use Rattle.cdx_service.proofs.Grouped.{service_rows}

-- ---- there is always something to write

pub service_will_write : (x : Service) → will_write (service_tree x) ≡ true
service_will_write x = ap will_write (service_tree-out x)

pub services_will_write : (xs : Services) → will_write (services_tree xs) ≡ true
services_will_write xs = ap will_write (services_tree-out xs)

pub service_counts : (x : Service) → is_passed_over (service_tree x) ≡ false
service_counts x = ap is_passed_over (service_tree-out x)

-- ---- the rows, group by group

naming_in_rows : (x : Service-F Service Services) → are_rows_of (service_naming x) (group 0 service) ≡ true
unfolding rows
naming_in_rows x = refl

access_in_rows : (x : Service-F Service Services) → are_rows_of (service_access x) (group 1 service) ≡ true
unfolding rows
access_in_rows x = refl

pub service_in_groups : (x : Service-F Service Services) (w : SpecVersion)
    → rows_written (service_naming x) w (group 0 service) ++ (rows_written (service_access x) w (group 1 service) ++ rows_written (service_contents services_tree x) w (group 2 service)) ≡ rows_written (service_fields services_tree x) w (rows service)
service_in_groups x w =
    let last = service_contents services_tree x in
    sym (ap (rows_written (service_fields services_tree x) w) service_rows
    ∙ rows_in_groups (service_naming x) (service_access x ⧺ last) w (group 0 service) (group 1 service ++ group 2 service) (naming_in_rows x)
    ∙ ap (λ s. rows_written (service_naming x) w (group 0 service) ++ s) (rows_in_groups (service_access x) last w (group 1 service) (group 2 service) (access_in_rows x)))

-- ---- the attributes, which stand in the first group alone

access_attributes : (x : Service-F Service Services) (w : SpecVersion) → attributes_written (service_access x) w (group 1 service) ≡ []
unfolding attributes_written rows
access_attributes x w = refl

contents_attributes : (x : Service-F Service Services) (w : SpecVersion) → attributes_written (service_contents services_tree x) w (group 2 service) ≡ []
unfolding attributes_written rows
contents_attributes x w = refl

naming_attributes : (x : Service-F Service Services) (w : SpecVersion) → attributes_written (service_fields services_tree x) w (rows service) ≡ attributes_written (service_naming x) w (group 0 service)
naming_attributes x w =
    let last = service_contents services_tree x in
    let first = attributes_written (service_naming x) w (group 0 service) in
    ap (attributes_written (service_fields services_tree x) w) service_rows
    ∙ attributes_in_groups (service_naming x) (service_access x ⧺ last) w (group 0 service) (group 1 service ++ group 2 service) (naming_in_rows x)
    ∙ ap (λ s. first ++ s) (attributes_in_groups (service_access x) last w (group 1 service) (group 2 service) (access_in_rows x))
    ∙ rw (access_attributes x w, contents_attributes x w) (append-nil first)

-- ---- a service under a name

pub service_made : (x : Service) (w : SpecVersion) (tag : List ℕ) (as' : List OwnedAttribute) → as' ≡ attributes_written (service_naming (out-Service x)) w (group 0 service)
    → opening tag as' ∷ rows_written (service_fields services_tree (out-Service x)) w (rows service) ++ end_tag tag ∷ [] ≡ spelled_events (service_tree x) w tag (a_record service)
service_made x w tag as' is =
    let ts = service_fields services_tree (out-Service x) in
    ap (λ s. opening tag s ∷ rows_written ts w (rows service) ++ end_tag tag ∷ []) (is ∙ sym (naming_attributes (out-Service x) w))
    ∙ sym (record_is service ts w tag (λ s. refl)) ∙ ap (λ u. spelled_events u w tag (a_record service)) (sym (service_tree-out x))

pub service_item : (tag : List ℕ) (w : SpecVersion) (x : Service) → spelled_events (service_tree x) w tag (a_record service) ≡ item_put tag (a_record service) (service_tree x) w
service_item tag w x = item_there tag (a_record service) (service_tree x) w false refl (sym (service_counts x)) refl

-- ---- a list of services

pub services_inner : (w : SpecVersion) (xs : Services) → flat_map (items_put service_tree (codes "service") (a_record service) w) (service_items xs) ≡ inner (services_tree xs) w (a_list services)
unfolding list
services_inner w xs =
    list_inner service_tree (codes "service") (a_record service) services w (service_items xs) (refl, refl) ∙ ap (λ u. inner u w (a_list services)) (sym (services_tree-out xs))

pub services_made : (tag : List ℕ) (w : SpecVersion) (xs : Services) → start_tag tag ∷ inner (services_tree xs) w (a_list services) ++ end_tag tag ∷ [] ≡ spelled_events (services_tree xs) w tag (a_list services)
services_made tag w xs =
    ap (λ u. start_tag tag ∷ inner u w (a_list services) ++ end_tag tag ∷ []) (services_tree-out xs)
    ∙ list_is service_tree tag services w (service_items xs) ∙ ap (λ u. spelled_events u w tag (a_list services)) (sym (services_tree-out xs))

pub services_child : (name : List ℕ) (w : SpecVersion) (xs : Services) → spelled_events (services_tree xs) w name (a_list services) ≡ child_written name (a_list services) (services_tree xs) w
services_child name w xs = child_there name (a_list services) (services_tree xs) w refl (services_there xs)
