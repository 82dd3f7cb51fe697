-- Services and lists of services as frames.
use Rattle.std.proofs.Common.{◌≡◌, List, ◌++◌, ℕ, sym, ap, ◌∙◌}
use Rattle.cdx_models.specs.declared.bom.SpecVersion.{SpecVersion}
use Rattle.cdx_models.specs.Trees.{service, Trees}
use Rattle.cdx_schema.specs.Table.{rows}
use Rattle.cdx_schema.specs.XmlReading.{Child, children_from, record_plan}
use Rattle.cdx_schema.specs.Groups.{group}
use Rattle.cdx_machine.specs.Several.{found_from}
use Rattle.cdx_machine.specs.declared.frame.FoundChild.{FoundChild}
use Rattle.cdx_machine.specs.declared.frame.FoundChild.TheVariants.{Unknown}
use Rattle.cdx_service.proofs.Found.{or_found, found_in_two, taken_first}

-- ---- the child of a name, group by group

abbrev naming_children : List Child
naming_children = children_from 0 (group 0 service)

abbrev access_children : List Child
access_children = children_from 6 (group 1 service)

abbrev contents_children : List Child
contents_children = children_from 12 (group 2 service)

module _ (ts : Trees) (v : SpecVersion) (s : List ℕ) where
  abbrev in_naming : FoundChild
  in_naming = found_from 0 naming_children ts v s

  abbrev in_access : FoundChild
  in_access = found_from 5 access_children ts v s

  abbrev in_contents : FoundChild
  in_contents = found_from 11 contents_children ts v s

  abbrev in_service : FoundChild
  in_service = found_from 0 (record_plan service).children ts v s

  in_groups : in_service ≡ or_found in_naming (or_found in_access in_contents)
  unfolding rows
  in_groups =
      found_in_two ts v s 0 naming_children (access_children ++ contents_children)
      ∙ ap (or_found in_naming) (found_in_two ts v s 5 access_children contents_children)

  pub found_naming : (r : FoundChild) → r ≡ in_naming → (r ≡ Unknown → ⊥) → r ≡ in_service
  found_naming r e known = taken_first r (or_found in_access in_contents) known ∙ (ap (λ x. or_found x (or_found in_access in_contents)) e ∙ sym in_groups)

  -- the first group knows no child of the name
  in_later : (a : FoundChild) → a ≡ in_naming → a ≡ Unknown → or_found in_access in_contents ≡ in_service
  in_later a e is = ap (λ x. or_found x (or_found in_access in_contents)) (sym is ∙ e) ∙ sym in_groups

  pub found_access : (a r : FoundChild) → a ≡ in_naming → a ≡ Unknown → r ≡ in_access → (r ≡ Unknown → ⊥) → r ≡ in_service
  found_access a r e is f known = taken_first r in_contents known ∙ (ap (λ x. or_found x in_contents) f ∙ in_later a e is)

  pub found_contents : (a b r : FoundChild) → a ≡ in_naming → a ≡ Unknown → b ≡ in_access → b ≡ Unknown → r ≡ in_contents → r ≡ in_service
  found_contents a b r e is f too g = g ∙ (ap (λ x. or_found x in_contents) (sym too ∙ f) ∙ in_later a e is)
