-- Services, read, kept and written group by group.
use Rattle.std.proofs.Common.{◌≡◌, ◌++◌, length, Vec, Global, refl, sym, ap, ◌∙◌}
use Rattle.serde_json.specs.Data.{no_members}
use Rattle.cdx_models.specs.declared.bom.SpecVersion.{SpecVersion}
use Rattle.cdx_models.specs.Trees.{service, Tree, fields, Trees, ◌⧺◌}
use Rattle.cdx_models.proofs.Lists.{count}
use Rattle.cdx_schema.specs.Kinds.{a_record}
use Rattle.cdx_schema.specs.Table.{rows}
use Rattle.cdx_schema.specs.Depth.{Depth}
use Rattle.cdx_schema.specs.Keeping.{kept, keep}
use Rattle.cdx_schema.specs.JsonReading.{Object}
use Rattle.cdx_schema.specs.JsonSpelling.{jspell}
use Rattle.cdx_json.specs.ByRows.{rows_made, own_made, by_rows, as_record}
use Rattle.cdx_json.specs.KeptRows.{rows_held, rows_put}
use Rattle.cdx_json.specs.Spellings.{spelling_data, spelling_members}
use Rattle.cdx_json.specs.declared.spelling.Spelling.{Object as object_of}
use Rattle.cdx_json.proofs.ByRowsLaws.{rows_split, rows_then, then_same}
use Rattle.cdx_json.proofs.KeptRowsLaws.{record_held}
use Rattle.cdx_json.proofs.Setting.{Entry}
use Rattle.cdx_service.specs.declared.service.Service.{Service}
use Rattle.cdx_service.specs.declared.service.Service.TheOpen.{Service-F}
use Rattle.cdx_service.specs.declared.service.Service.TheViews.{out-Service}
use Rattle.cdx_service.specs.declared.service.Services.{Services}
use Rattle.cdx_service.specs.Trees.{service_tree, services_tree, service_naming, service_access, service_contents, service_fields}
use Rattle.cdx_service.specs.Laws.{service_tree-out}
use Rattle.cdx_schema.specs.Groups.{group}
use Rattle.cdx_json.specs.Groups.{group_read}
use Rattle.cdx_service.specs.Groups.{service_by_groups}
use Rattle.cdx_json.proofs.Groups.{held_three, three_equal, put_split, tree_spelled}

pub service_rows : rows service ≡ group 0 service ++ (group 1 service ++ group 2 service)
unfolding rows
service_rows = refl

pub service_in_groups : (o : Object) (v : SpecVersion) (d : Depth) → by_rows service o v d ≡ service_by_groups o v d
unfolding service_by_groups
service_in_groups o v d =
    let own = own_made o v d in
    ap (λ rs. rows_made o own rs v d (as_record service)) service_rows
    ∙ rows_split o own (group 0 service) (group 1 service ++ group 2 service) v d (as_record service)
    ∙ then_same (group_read 0 service o v d) _ _ (λ a. rows_split o own (group 1 service) (group 2 service) v d (λ us. as_record service (a ⧺ us))
    ∙ then_same (group_read 1 service o v d) _ _ (λ b. rows_then o own (group 2 service) v d (λ us. as_record service (a ⧺ (b ⧺ us)))))

service_naming_counts : (x : Service-F Service Services) → count (service_naming x) ≡ length (group 0 service)
unfolding rows
service_naming_counts x = refl

service_access_counts : (x : Service-F Service Services) → count (service_access x) ≡ length (group 1 service)
unfolding rows
service_access_counts x = refl

pub service_kept : (w l : SpecVersion) (t : Tree) (c : Service) (a b d : Trees) → t ≡ fields service (a ⧺ (b ⧺ d))
    → a ≡ rows_held w l (service_naming (out-Service c)) (group 0 service) → b ≡ rows_held w l (service_access (out-Service c)) (group 1 service)
    → d ≡ rows_held w l (service_contents services_tree (out-Service c)) (group 2 service)
    → t ≡ kept w l (service_tree c) (a_record service)
service_kept w l t c a b d is p q r =
    let x = out-Service c in
    is ∙ ap (fields service) (three_equal a b d _ _ _ p q r ∙ sym (held_three w l service (service_naming x) (service_access x) (service_contents services_tree x) (group 0 service) (group 1 service) (group 2 service) service_rows (service_naming_counts x) (service_access_counts x)))
    ∙ record_held w l service (fields service (service_fields services_tree x)) refl ∙ ap (λ u. kept w l u (a_record service)) (sym (service_tree-out c))

pub service_spelled : (m : Vec Entry Global) (c : Service) (w : SpecVersion)
    → spelling_members m.items ≡ rows_put (service_contents services_tree (out-Service c)) w (group 2 service) (rows_put (service_access (out-Service c)) w (group 1 service) (rows_put (service_naming (out-Service c)) w (group 0 service) no_members))
    → spelling_data (object_of m) ≡ jspell (keep w (service_tree c) (a_record service)) w (a_record service)
unfolding rows
service_spelled m c w e =
    let x = out-Service c in
    let last = service_contents services_tree x in
    tree_spelled m service w (service_tree c) (service_fields services_tree x) (service_tree-out c) refl
    (e ∙ sym (put_split w (service_naming x) (service_access x ⧺ last) (group 0 service) (group 1 service ++ group 2 service) no_members refl
    ∙ put_split w (service_access x) last (group 1 service) (group 2 service) _ refl))
