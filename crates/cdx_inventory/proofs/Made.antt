-- The entry of a component, by the fields that it is made of.
use Rattle.std.specs.Prelude.{◌≡◌, refl, ℕ, ◌+◌, ◌<◌, List, [], ◌∷◌, map, drop, length, Bool, true, false, ◌||◌, Option, Some, None}
use Rattle.std.specs.List.{list_any}
use Rattle.std.proofs.Common.{get_or}
use Rattle.std.proofs.lemmas.List.{at_drop_more}
use mathlib.Core.Path.{ap, sym, ◌∙◌}
use Rattle.cdx_models.specs.declared.errors.Step.{Step}
use Rattle.cdx_models.specs.Trees.{component, Tree, text, fields, present, each}
use Rattle.cdx_license.specs.Records.{choice_tree, licenses_tree}
use Rattle.cdx_license.specs.declared.license.LicenseChoice.{LicenseChoice}
use Rattle.cdx_component.specs.declared.component.Component.{Component}
use Rattle.cdx_component.specs.declared.component.Component.TheOpen.{Component-F}
use Rattle.cdx_component.specs.declared.component.Component.TheViews.{out-Component}
use Rattle.cdx_component.specs.Trees.{component_tree, components_tree, pedigree_tree, component_fields}
use Rattle.cdx_component.specs.Laws.{component_tree-out}
use Rattle.cdx_inventory.specs.Listing.{text_if_there}
use Rattle.cdx_inventory.specs.Entries.{entry, license_text, license_texts, members_of}

there_is : (o : Option (List ℕ)) → text_if_there (present text o) ≡ o
there_is None = refl
there_is (Some s) = refl

-- what is the same as a tree is the same text, or none
pub same_line : (r o : Option (List ℕ)) → present text r ≡ present text o → r ≡ o
same_line r o h = sym (there_is r) ∙ (ap text_if_there h ∙ there_is o)

level_told : {C L P : Type 0} (l : L → Tree) (q : P → Tree) (p : List Step) (x : Component-F C L P)
    → entry (p, fields component (component_fields l q x)) ≡ record { path = p; name = x.name; version = x.version; licenses = license_texts (members_of (present licenses_tree x.licenses)) }
level_told l q p x = ap (λ v. record { path = p; name = x.name; version = v; licenses = license_texts (members_of (present licenses_tree x.licenses)) }) (there_is x.version)

pub told_of : (p : List Step) (c : Component) (steps : List Step) (name : List ℕ) (version : Option (List ℕ)) (licenses : List (List ℕ)) → steps ≡ p → name ≡ (out-Component c).name → version ≡ (out-Component c).version
    → licenses ≡ license_texts (members_of (present licenses_tree (out-Component c).licenses)) → record { path = steps; name = name; version = version; licenses = licenses } ≡ entry (p, component_tree c)
told_of p c steps name version licenses h i j k = rw (h, i, j, k) (sym (ap (λ t. entry (p, t)) (component_tree-out c) ∙ level_told components_tree pedigree_tree p (out-Component c)))

pub texts_mapped : (xs : List LicenseChoice) → license_texts (each choice_tree xs) ≡ map (λ x. license_text (choice_tree x)) xs
texts_mapped [] = refl
texts_mapped (x ∷ xs) = ap (λ ss. license_text (choice_tree x) ∷ ss) (texts_mapped xs)

-- ---- a search for a text

any_step : (f : List ℕ → Bool) (xs : List (List ℕ)) (i : ℕ) (x : List ℕ) → i < length xs → x ≡ get_or xs i x → list_any f (drop i xs) ≡ (f x || list_any f (drop (i + 1) xs))
any_step f xs i x h is = at_drop_more (list_any f) xs i x h ∙ ap (λ z. f z || list_any f (drop (i + 1) xs)) (sym is)

pub any_found : (f : List ℕ → Bool) (xs : List (List ℕ)) (i : ℕ) (x : List ℕ) (whole : Bool) → i < length xs → x ≡ get_or xs i x → f x ≡ true → list_any f (drop i xs) ≡ whole → true ≡ whole
any_found f xs i x whole h is e inv = sym (any_step f xs i x h is ∙ ap (λ b. b || list_any f (drop (i + 1) xs)) e) ∙ inv

pub any_next : (f : List ℕ → Bool) (xs : List (List ℕ)) (i : ℕ) (x : List ℕ) (whole : Bool) → i < length xs → x ≡ get_or xs i x → f x ≡ false → list_any f (drop i xs) ≡ whole → list_any f (drop (i + 1) xs) ≡ whole
any_next f xs i x whole h is e inv = sym (any_step f xs i x h is ∙ ap (λ b. b || list_any f (drop (i + 1) xs)) e) ∙ inv
