-- What is taken of values: each whole, or inside.
use Rattle.std.specs.Prelude.{◌≡◌, refl, ℕ, zero, suc, List, [], ◌∷◌, Bool, true, false, not, ◌&&◌, ◌||◌, if◌then◌else◌, Option, Some, None, is_some, codes}
use Rattle.std.proofs.Common.{true≢false}
use mathlib.Core.Path.{ap, sym, ◌∙◌}
use Rattle.cdx_models.specs.declared.bom.SpecVersion.{SpecVersion}
use Rattle.cdx_models.specs.declared.bom.SpecVersion.TheVariants.{V1_3, V1_4, V1_5}
use Rattle.cdx_models.specs.Versions.{knows}
use Rattle.cdx_models.specs.Trees.{license, contact, composition, issue, patch, tool, service_data, Tree, text, present, list_tree, each, trees, is_absent}
use Rattle.cdx_models.specs.Entries.{is_flow}
use Rattle.cdx_models.specs.Records.{contact_tree}
use Rattle.cdx_models.specs.declared.organization.OrganizationalContact.{OrganizationalContact}
use Rattle.cdx_license.specs.Records.{license_tree}
use Rattle.cdx_license.specs.declared.license.License.{License}
use Rattle.cdx_service_data.specs.Records.{classification_tree, service_data_tree, service_entry, data_tree}
use Rattle.cdx_service_data.specs.declared.service.Data.{Data}
use Rattle.cdx_service_data.specs.declared.service.Data.TheVariants as data_of
use Rattle.cdx_service_data.specs.declared.service.ServiceData.{ServiceData}
use Rattle.cdx_component.specs.declared.component.Components.{Components}
use Rattle.cdx_component.specs.Trees.{components_tree}
use Rattle.cdx_component.specs.Laws.{components_tree-out}
use Rattle.cdx_service.specs.declared.service.Services.{Services}
use Rattle.cdx_service.specs.Trees.{services_tree}
use Rattle.cdx_service.specs.Laws.{services_tree-out}
use Rattle.cdx_nest.specs.Trees.{tools_tree}
use Rattle.cdx_nest.specs.declared.tools.Tools.{Tools}
use Rattle.cdx_nest.specs.declared.tools.Tools.TheVariants as variant
use Rattle.cdx_bom.proofs.Names.{lacks}
use Rattle.cdx_bom.proofs.Leaves.{row_lacks}
use Rattle.cdx_schema.specs.Kinds.{contacts, authors, licenses, compositions, resolved, patches, a_list, a_record, a_license_choice, a_tools, an_entry, Kind}
use Rattle.cdx_schema.specs.Held.{held_kind}
use Rattle.cdx_schema.specs.Table.{rows, list}
use Rattle.cdx_schema.specs.Faults.{to_member}
use Rattle.cdx_schema.specs.JsonReading.{or_else}
use Rattle.cdx_schema.specs.Trips.{is_hollow, is_passed_over}
use Rattle.cdx_ways.specs.Ways.{At, behind_step}
use Rattle.cdx_losses.specs.declared.loss.Reason.{Reason}
use Rattle.cdx_losses.specs.declared.loss.Reason.TheVariants.{Xml}
use Rattle.cdx_losses.specs.declared.road.Road.{Road}
use Rattle.cdx_losses.specs.Losses.{is_skipped, if_so, item_reason, entry_or, lost, items_lost}
use Rattle.cdx_losses.specs.LeftOut.{after_a_trip}
use Rattle.cdx_losses.specs.Walks.{value_lost}
use Rattle.cdx_losses.proofs.Spared.{is_losing, not_skipped, no_item_reason, spared_unchanged, spared_written, nothing_lost, rows_spared}
use Rattle.cdx_losses.proofs.Levels.{classification_spared, line, contact_lost}
use Rattle.cdx_losses.proofs.Gone.{is_fixed, unchanged}

-- a field that may be there, of which no item is passed over
pub row_written : {A : Type 0} (f : A → Tree) → ((x : A) → is_passed_over (f x) ≡ false) → (o : Option A) → is_passed_over (present f o) ≡ false
row_written f h None = refl
row_written f h (Some x) = h x

pub value_inside : (road : Road) (t : Tree) (k : Kind) → is_fixed k ≡ true → is_passed_over t ≡ false → value_lost road t k ≡ lost road.version road.trips t k
value_inside road t k f h = ap (λ o. entry_or o (lost road.version road.trips t k)) (no_item_reason road.version road.trips k t (unchanged road.version k t f) h)

pub value_nothing : (road : Road) (t : Tree) (k : Kind) → lacks is_losing t ≡ true → value_lost road t k ≡ []
value_nothing road t k h =
    ap (λ o. entry_or o (lost road.version road.trips t k)) (no_item_reason road.version road.trips k t (spared_unchanged road.version k t h) (spared_written t h)) ∙ nothing_lost road.version road.trips t k h

-- ---- lists

list_value : {A : Type 0} (f : A → Tree) (road : Road) (k : Kind) (xs : List A) → value_lost road (list_tree f xs) k ≡ items_lost road.version road.trips (each f xs) (held_kind k) 0
unfolding lost
list_value f road k xs = ap (λ b. entry_or (if_so b Xml) (items_lost road.version road.trips (each f xs) (held_kind k) 0)) (not_skipped road.trips (list_tree f xs) refl)

pub list_is : {A : Type 0} (f : A → Tree) (road : Road) (k h : Kind) (xs ys : List A) → held_kind k ≡ h → ys ≡ xs → value_lost road (list_tree f xs) k ≡ items_lost road.version road.trips (each f ys) h 0
list_is f road k h xs ys held same =
    list_value f road k xs ∙ (ap (λ z. items_lost road.version road.trips (each f xs) z 0) held ∙ ap (λ z. items_lost road.version road.trips (each f z) h 0) (sym same))

pub licenses_held : held_kind (a_list licenses) ≡ a_license_choice
unfolding list
licenses_held = refl

pub authors_held : held_kind (a_list authors) ≡ a_record contact
unfolding list
authors_held = refl

pub compositions_held : held_kind (a_list compositions) ≡ a_record composition
unfolding list
compositions_held = refl

pub resolved_held : held_kind (a_list resolved) ≡ a_record issue
unfolding list
resolved_held = refl

pub patches_held : held_kind (a_list patches) ≡ a_record patch
unfolding list
patches_held = refl

pub tools_held : held_kind a_tools ≡ a_record tool
unfolding list
tools_held = refl

-- ---- entries

pub none_entry : (why : Option Reason) (xs : List (At Reason)) → why ≡ None → entry_or why xs ≡ xs
none_entry why xs is = ap (λ o. entry_or o xs) is

pub some_entry : (why : Option Reason) (reason : Reason) (xs : List (At Reason)) → why ≡ Some reason → entry_or why xs ≡ ([], reason) ∷ []
some_entry why reason xs is = ap (λ o. entry_or o xs) is

pub entry_there : (why : Option Reason) (xs : List (At Reason)) → is_some why ≡ true → entry_or why xs ≡ entry_or why []
entry_there (Some w) xs h = refl
entry_there None xs h = absurd (true≢false (sym h))

pub no_entry : (why : Option Reason) (xs : List (At Reason)) → is_some why ≡ false → entry_or why xs ≡ xs
no_entry (Some w) xs h = absurd (true≢false h)
no_entry None xs h = refl

-- ---- licenses and contacts

pub choice_value : (road : Road) (x : License) → value_lost road (license_tree x) a_license_choice ≡ behind_step (to_member (codes "license")) (lost road.version road.trips (license_tree x) (a_record license))
unfolding lost
choice_value road x = value_inside road (license_tree x) a_license_choice refl refl

skipped_contact : (n : ℕ) (x : OrganizationalContact) → is_skipped n (contact_tree x) ≡ after_a_trip n (is_hollow (contact_tree x))
skipped_contact zero x = refl
skipped_contact (suc n) x = refl

pub contact_value : (road : Road) (x : OrganizationalContact) → value_lost road (contact_tree x) (a_record contact) ≡ entry_or (if_so (after_a_trip road.trips (is_hollow (contact_tree x))) Xml) []
contact_value road x =
    ap (λ o. entry_or (or_else o (if_so (is_skipped road.trips (contact_tree x)) Xml)) (lost road.version road.trips (contact_tree x) (a_record contact))) (unchanged road.version (a_record contact) (contact_tree x) refl)
    ∙ (ap (λ b. entry_or (if_so b Xml) (lost road.version road.trips (contact_tree x) (a_record contact))) (skipped_contact road.trips x)
    ∙ ap (entry_or (if_so (after_a_trip road.trips (is_hollow (contact_tree x))) Xml)) (contact_lost road.version road.trips x))

contacts_as_authors : (u : SpecVersion) (n : ℕ) (o : Option (List OrganizationalContact)) → lost u n (present (list_tree contact_tree) o) (a_list contacts) ≡ lost u n (present (list_tree contact_tree) o) (a_list authors)
unfolding lost list
contacts_as_authors u n None = refl
contacts_as_authors u n (Some xs) = refl

pub contacts_value : (road : Road) (o : Option (List OrganizationalContact)) → lost road.version road.trips (present (list_tree contact_tree) o) (a_list contacts) ≡ value_lost road (present (list_tree contact_tree) o) (a_list authors)
contacts_value road o =
    contacts_as_authors road.version road.trips o ∙ sym (value_inside road (present (list_tree contact_tree) o) (a_list authors) refl (row_written (list_tree contact_tree) (λ x. refl) o))

-- ---- flows

flow_is : (x : ServiceData) → is_flow service_data (trees (present text x.name ∷ present text x.description ∷ classification_tree x.classification ∷ [])) ≡ (is_some x.name || is_some x.description)
flow_is x = by x.name x.description
  where
    by : (o p : Option (List ℕ)) → not (is_absent (present text o) && is_absent (present text p)) ≡ (is_some o || is_some p)
    by None None = refl
    by None (Some s) = refl
    by (Some s) p = refl

entry_is : (x : ServiceData) (b : Bool) → (is_some x.name || is_some x.description) ≡ b → service_entry x ≡ (if b then service_data_tree x else classification_tree x.classification)
entry_is x b e = ap (λ z. if z then service_data_tree x else classification_tree x.classification) (flow_is x ∙ e)

flow_inside : (u : SpecVersion) (n : ℕ) (x : ServiceData) → lost u n (service_data_tree x) an_entry ≡ []
unfolding lost lacks rows
flow_inside u n x = rows_spared u n (trees (present text x.name ∷ present text x.description ∷ classification_tree x.classification ∷ [])) (rows service_data) (rw (line x.name, line x.description, classification_spared x.classification) refl)

flow_kept : (u : SpecVersion) (n : ℕ) (x : ServiceData) → knows V1_5 u ≡ true → item_reason u n an_entry (service_data_tree x) ≡ None
flow_kept V1_3 n x h = absurd (true≢false (sym h))
flow_kept V1_4 n x h = absurd (true≢false (sym h))
flow_kept V1_5 n x h = no_item_reason V1_5 n an_entry (service_data_tree x) refl refl

pub known_flow_value : (road : Road) (x : ServiceData) → (is_some x.name || is_some x.description) ≡ true → knows V1_5 road.version ≡ true → value_lost road (service_entry x) an_entry ≡ []
known_flow_value road x h g =
    ap (λ t. value_lost road t an_entry) (entry_is x true h)
    ∙ (ap (λ o. entry_or o (lost road.version road.trips (service_data_tree x) an_entry)) (flow_kept road.version road.trips x g) ∙ flow_inside road.version road.trips x)

pub no_flow_value : (road : Road) (x : ServiceData) → (is_some x.name || is_some x.description) ≡ false → value_lost road (service_entry x) an_entry ≡ []
no_flow_value road x h =
    ap (λ t. value_lost road t an_entry) (entry_is x false h) ∙ value_nothing road (classification_tree x.classification) an_entry (classification_spared x.classification)

-- ---- what isn't passed over

pub components_written : (x : Components) → is_passed_over (components_tree x) ≡ false
components_written x = ap is_passed_over (components_tree-out x)

pub services_written : (x : Services) → is_passed_over (services_tree x) ≡ false
services_written x = ap is_passed_over (services_tree-out x)

pub tools_written : (x : Tools) → is_passed_over (tools_tree x) ≡ false
tools_written (variant.List ts) = refl
tools_written (variant.Object ss cs) = refl

pub data_written : (x : Data) → is_passed_over (data_tree x) ≡ false
data_written (data_of.Classification xs) = refl
data_written (data_of.ServiceData xs) = refl

-- ---- rows inside which nothing is taken

pub present_nothing : {A : Type 0} (f : A → Tree) → ((x : A) → lacks is_losing (f x) ≡ true) → (u : SpecVersion) (n : ℕ) (k : Kind) (o : Option A) → lost u n (present f o) k ≡ []
present_nothing f h u n k o = nothing_lost u n (present f o) k (row_lacks is_losing f h o)
