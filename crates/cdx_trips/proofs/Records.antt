-- Records one level at a time: where a trip may find something to take.
use Rattle.std.proofs.Common.{◌≡◌, ◌==◌, length, Bool, true, false, not, ◌&&◌, List, Option, Some, None, refl, sym, ap, ◌∙◌}
use mathlib.Core.Bool.{and-true}
use Rattle.cdx_models.specs.Trees.{contact, entity, issue, patch, Tree, text, present, list_tree, each}
use Rattle.cdx_models.specs.Records.{contact_tree, entity_tree}
use Rattle.cdx_models.specs.declared.organization.OrganizationalContact.{OrganizationalContact}
use Rattle.cdx_models.specs.declared.organization.OrganizationalEntity.{OrganizationalEntity}
use Rattle.cdx_patch.specs.Records.{diff_tree, source_tree, issue_tree, patch_tree}
use Rattle.cdx_patch.specs.declared.code.Issue.{Issue}
use Rattle.cdx_patch.specs.declared.code.Patch.{Patch}
use Rattle.cdx_schema.specs.Kinds.{contacts, resolved, a_list, a_record, optional}
use Rattle.cdx_schema.specs.Table.{rows, list}
use Rattle.cdx_schema.specs.Trips.{is_hollow}
use Rattle.cdx_trips.specs.Surviving.{is_nothing, survives, items_survive}
use Rattle.cdx_trips.proofs.Items.{item_survives, nothing}

-- ---- a field that is there or isn't

-- A record that is absent is no element without children.
pub filled : {A : Type 0} (f : A → Tree) (o : Option A) (x : A) (b c : Bool) → o ≡ Some x → b ≡ is_hollow (f x) → c ≡ not b → c ≡ not (is_hollow (present f o))
filled f o x b c is h e = e ∙ ap not (h ∙ ap (λ p. is_hollow (present f p)) (sym is))

pub unfilled : {A : Type 0} (f : A → Tree) (o : Option A) → o ≡ None → true ≡ not (is_hollow (present f o))
unfolding is_hollow
unfilled f o is = ap (λ p. not (is_hollow (present f p))) (sym is)

-- ---- organizations

pub contact_item : (x : OrganizationalContact) → item_survives (contact_tree x) (a_record contact) ≡ not (is_hollow (contact_tree x))
unfolding survives rows
contact_item x = and-true (not (is_hollow (contact_tree x)))

pub contacts_there : (o : Option (List OrganizationalContact)) (xs : List OrganizationalContact) (s : Bool) → o ≡ Some xs → (length xs == 0) ≡ false → s ≡ items_survive (each contact_tree xs) (a_record contact)
    → s ≡ (not (is_nothing optional (present (list_tree contact_tree) o)) && survives (present (list_tree contact_tree) o) (a_list contacts))
unfolding survives list
contacts_there o xs s is e h = rw (is, sym (nothing contact_tree xs), e) h

pub entity_rows : (x : OrganizationalEntity) → survives (entity_tree x) (a_record entity)
    ≡ (not (is_nothing optional (present (list_tree text) x.url)) && (not (is_nothing optional (present (list_tree contact_tree) x.contact)) && survives (present (list_tree contact_tree) x.contact) (a_list contacts)))
unfolding survives rows
entity_rows x = rw (and-true (survives (present (list_tree contact_tree) x.contact) (a_list contacts))) refl

-- ---- patches

pub issue_item : (x : Issue) → item_survives (issue_tree x) (a_record issue) ≡ not (is_hollow (present source_tree x.source))
unfolding survives rows
issue_item x = and-true (not (is_hollow (present source_tree x.source)))

pub patch_item : (x : Patch) → item_survives (patch_tree x) (a_record patch) ≡ survives (patch_tree x) (a_record patch)
patch_item x = refl

pub patch_rows : (x : Patch) → survives (patch_tree x) (a_record patch) ≡ (not (is_hollow (present diff_tree x.diff)) && survives (present (list_tree issue_tree) x.resolves) (a_list resolved))
unfolding survives rows
patch_rows x = rw (and-true (survives (present (list_tree issue_tree) x.resolves) (a_list resolved))) refl
