-- Frames of components and of services among all frames.
use Rattle.std.proofs.Common.{◌≡◌, ℕ, Option, Some, None, Result, Ok, Err, refl, sym, ap, ◌∙◌, subst}
use Rattle.std.specs.Prelude.{OnOk}
use Rattle.std.specs.Option.{option_map}
use Rattle.std.specs.declared.alloc.AllocError.{AllocError}
use Rattle.cdx_models.specs.Trees.{Tree, Trees}
use Rattle.cdx_schema.specs.Kinds.{Kind}
use Rattle.cdx_machine.specs.Several.{Puts}
use Rattle.cdx_nest_machine.specs.declared.nested.ChildReader.{ChildReader}
use Rattle.cdx_nest_machine.specs.declared.nested.ChildReader.TheVariants.{Leaf, Nested}
use Rattle.cdx_nest_machine.specs.Children.{HasReader}
use Rattle.cdx_nest_machine.specs.Forms.{plan_of}
use Rattle.cdx_push.specs.declared.kinds.LeafKind.{LeafKind}
use Rattle.cdx_component.specs.Frames.{kind_of as component_kind, reader_of as component_reader}
use Rattle.cdx_component.specs.declared.frames.ComponentKind.{ComponentKind}
use Rattle.cdx_component.specs.declared.frames.ComponentKind.TheVariants as component_kinds
use Rattle.cdx_service.specs.Frames.{kind_of as service_kind, reader_of as service_reader}
use Rattle.cdx_service.specs.declared.frames.ServiceKind.{ServiceKind}
use Rattle.cdx_service.specs.declared.frames.ServiceKind.TheVariants as service_kinds
use Rattle.cdx_nest.specs.declared.frames.NestKind.{NestKind}
use Rattle.cdx_nest.specs.declared.frames.NestKind.TheVariants as nest_kinds
use Rattle.cdx_nest.specs.Frames.{nest_kind, among_components, among_services, Reader, reader_as, reader_of}
use Rattle.cdx_nest.specs.FrameLaws.{components_alike, services_alike}

-- ---- what reads a child, there and here

abbrev the_leaf : LeafKind → Option Reader → LeafKind
the_leaf d (Some (Leaf l)) = l
the_leaf d _ = d

abbrev the_nested : NestKind → Option Reader → NestKind
the_nested d (Some (Nested k)) = k
the_nested d _ = d

none_is_none : (r : Reader) → None ≡ Some r → ⊥
none_is_none r h = let wrong : None ≡ Some r = h in cc

different : (l : LeafKind) (k : NestKind) → Some (Leaf l) ≡ Some (Nested k) → ⊥
different l k h = let wrong : Some (Leaf l) ≡ Some (Nested k) = h in cc

module _ {K : Type 0} (of : K → NestKind) (back : NestKind → K) (is_back : (k : K) → back (of k) ≡ k) where
  own_reader : (o : Option (ChildReader LeafKind K)) (r : Reader) → option_map (reader_as of) o ≡ Some r → (q : ChildReader LeafKind K) × (o ≡ Some q)
  own_reader None r h = absurd (none_is_none r h)
  own_reader (Some q) r h = (q, refl)

  own_leaf : (o : Option (ChildReader LeafKind K)) (l : LeafKind) → option_map (reader_as of) o ≡ Some (Leaf l) → o ≡ Some (Leaf l)
  own_leaf None l h = absurd (none_is_none (Leaf l) h)
  own_leaf (Some (Leaf m)) l h = ap (λ x. Some (Leaf x)) (ap (the_leaf m) h)
  own_leaf (Some (Nested k)) l h = absurd (different l (of k) (sym h))

  own_nested : (o : Option (ChildReader LeafKind K)) (j : K) → option_map (reader_as of) o ≡ Some (Nested (of j)) → o ≡ Some (Nested j)
  own_nested None j h = absurd (none_is_none (Nested (of j)) h)
  own_nested (Some (Leaf m)) j h = absurd (different m (of j) h)
  own_nested (Some (Nested k)) j h = ap (λ x. Some (Nested x)) (sym (is_back k) ∙ ap back (ap (the_nested (of k)) h) ∙ is_back j)

  own_kind : (o : Option (ChildReader LeafKind K)) (s : NestKind) → option_map (reader_as of) o ≡ Some (Nested s) → (k : K) × (s ≡ of k)
  own_kind None s h = absurd (none_is_none (Nested s) h)
  own_kind (Some (Leaf m)) s h = absurd (different m s h)
  own_kind (Some (Nested k)) s h = (k, sym (ap (the_nested (of k)) h))

-- a value goes into the same field
moved : (a b : Kind) (i : ℕ) (t u : Tree) (before now : Trees) (r : Result (Unit {0}) AllocError) → b ≡ a → t ≡ u → OnOk r (Puts (plan_of a).children i t before now) → OnOk r (Puts (plan_of b).children i u before now)
moved a b i t u before now (Err e) kinds trees h = h
moved a b i t u before now (Ok x) kinds trees h = subst (λ k. Puts (plan_of k).children i u before now) (sym kinds) (subst (λ y. Puts (plan_of a).children i y before now) trees h)

-- ---- components

component_of : NestKind → ComponentKind
component_of nest_kinds.Components = component_kinds.Components
component_of nest_kinds.Pedigree = component_kinds.Pedigree
component_of _ = component_kinds.Component

component_back : (k : ComponentKind) → component_of (among_components k) ≡ k
unfolding component_of
component_back component_kinds.Component = refl
component_back component_kinds.Components = refl
component_back component_kinds.Pedigree = refl

component_reads : (k : ComponentKind) (i : ℕ) → reader_of (among_components k) i ≡ option_map (reader_as among_components) (component_reader k i)
component_reads component_kinds.Component i = refl
component_reads component_kinds.Components i = refl
component_reads component_kinds.Pedigree i = refl

pub component_has : (k : ComponentKind) (i : ℕ) → HasReader (reader_of (among_components k)) i → HasReader (component_reader k) i
component_has k i (r, at) = own_reader among_components component_of component_back (component_reader k i) r (sym (component_reads k i) ∙ at)

pub component_child : (k : ComponentKind) (i : ℕ) (q : ChildReader LeafKind ComponentKind) → component_reader k i ≡ Some q → reader_of (among_components k) i ≡ Some (reader_as among_components q)
component_child k i q at = component_reads k i ∙ ap (λ o. option_map (reader_as among_components) o) at

pub component_leaf : (k : ComponentKind) (i : ℕ) (l : LeafKind) → reader_of (among_components k) i ≡ Some (Leaf l) → component_reader k i ≡ Some (Leaf l)
component_leaf k i l at = own_leaf among_components component_of component_back (component_reader k i) l (sym (component_reads k i) ∙ at)

pub component_nested : (k : ComponentKind) (i : ℕ) (j : ComponentKind) (s : NestKind) → among_components j ≡ s → reader_of (among_components k) i ≡ Some (Nested s) → component_reader k i ≡ Some (Nested j)
component_nested k i j s same at = own_nested among_components component_of component_back (component_reader k i) j (sym (component_reads k i) ∙ (at ∙ ap (λ x. Some (Nested x)) (sym same)))

pub component_kinded : (k : ComponentKind) (i : ℕ) (s : NestKind) → reader_of (among_components k) i ≡ Some (Nested s) → (j : ComponentKind) × (s ≡ among_components j)
component_kinded k i s at = own_kind among_components component_of component_back (component_reader k i) s (sym (component_reads k i) ∙ at)

pub component_puts : (k : ComponentKind) (i : ℕ) (t u : Tree) (before now : Trees) (r : Result (Unit {0}) AllocError) → t ≡ u → OnOk r (Puts (plan_of (component_kind k)).children i t before now) → OnOk r (Puts (plan_of (nest_kind (among_components k))).children i u before now)
component_puts k i t u before now r trees h = moved (component_kind k) (nest_kind (among_components k)) i t u before now r (components_alike k) trees h

-- what is said of the kind there holds of the kind here
pub component_here : (P : Kind → Type 0) (k : ComponentKind) → P (component_kind k) → P (nest_kind (among_components k))
component_here P k h = subst P (sym (components_alike k)) h

-- ---- services

service_of : NestKind → ServiceKind
service_of nest_kinds.Services = service_kinds.Services
service_of _ = service_kinds.Service

service_back : (k : ServiceKind) → service_of (among_services k) ≡ k
unfolding service_of
service_back service_kinds.Service = refl
service_back service_kinds.Services = refl

service_reads : (k : ServiceKind) (i : ℕ) → reader_of (among_services k) i ≡ option_map (reader_as among_services) (service_reader k i)
service_reads service_kinds.Service i = refl
service_reads service_kinds.Services i = refl

pub service_has : (k : ServiceKind) (i : ℕ) → HasReader (reader_of (among_services k)) i → HasReader (service_reader k) i
service_has k i (r, at) = own_reader among_services service_of service_back (service_reader k i) r (sym (service_reads k i) ∙ at)

pub service_child : (k : ServiceKind) (i : ℕ) (q : ChildReader LeafKind ServiceKind) → service_reader k i ≡ Some q → reader_of (among_services k) i ≡ Some (reader_as among_services q)
service_child k i q at = service_reads k i ∙ ap (λ o. option_map (reader_as among_services) o) at

pub service_leaf : (k : ServiceKind) (i : ℕ) (l : LeafKind) → reader_of (among_services k) i ≡ Some (Leaf l) → service_reader k i ≡ Some (Leaf l)
service_leaf k i l at = own_leaf among_services service_of service_back (service_reader k i) l (sym (service_reads k i) ∙ at)

pub service_nested : (k : ServiceKind) (i : ℕ) (j : ServiceKind) (s : NestKind) → among_services j ≡ s → reader_of (among_services k) i ≡ Some (Nested s) → service_reader k i ≡ Some (Nested j)
service_nested k i j s same at = own_nested among_services service_of service_back (service_reader k i) j (sym (service_reads k i) ∙ (at ∙ ap (λ x. Some (Nested x)) (sym same)))

pub service_kinded : (k : ServiceKind) (i : ℕ) (s : NestKind) → reader_of (among_services k) i ≡ Some (Nested s) → (j : ServiceKind) × (s ≡ among_services j)
service_kinded k i s at = own_kind among_services service_of service_back (service_reader k i) s (sym (service_reads k i) ∙ at)

pub service_puts : (k : ServiceKind) (i : ℕ) (t u : Tree) (before now : Trees) (r : Result (Unit {0}) AllocError) → t ≡ u → OnOk r (Puts (plan_of (service_kind k)).children i t before now) → OnOk r (Puts (plan_of (nest_kind (among_services k))).children i u before now)
service_puts k i t u before now r trees h = moved (service_kind k) (nest_kind (among_services k)) i t u before now r (services_alike k) trees h

-- what is said of the kind there holds of the kind here
pub service_here : (P : Kind → Type 0) (k : ServiceKind) → P (service_kind k) → P (nest_kind (among_services k))
service_here P k h = subst P (sym (services_alike k)) h
