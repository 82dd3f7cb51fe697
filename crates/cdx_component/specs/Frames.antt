-- What is read of components, pedigrees and lists of components while their elements are open.
use Rattle.std.specs.Prelude.{ℕ, List, [], ◌∷◌, Option}
use Rattle.cdx_models.specs.Trees.{component, pedigree, Tree, Trees}
use Rattle.cdx_schema.specs.Kinds.{components, Kind, a_list, a_record}
use Rattle.cdx_leaf.specs.Listing.{listing_slots}
use Rattle.cdx_machine.specs.Several.{at_position}
use Rattle.cdx_nest_machine.specs.declared.nested.ChildReader.{ChildReader}
use Rattle.cdx_nest_machine.specs.declared.nested.ChildReader.TheVariants.{Leaf, Nested}
use Rattle.cdx_push.specs.declared.kinds.LeafKind.{LeafKind}
use Rattle.cdx_push.specs.declared.kinds.LeafKind.TheVariants.{Text, Flag, Entity, Hashes, Properties, Commits, Patches, ExternalReferences, Licenses, Signature, Swid, Evidence}
use Rattle.cdx_component.specs.Trees.{component_tree, components_tree, pedigree_tree, component_items}
use Rattle.cdx_component.specs.ReadingParts.{component_part, pedigree_part}
use Rattle.cdx_component.specs.declared.frames.ComponentKind.{ComponentKind}
use Rattle.cdx_component.specs.declared.frames.ComponentKind.TheVariants.{Component, Components, Pedigree}
use Rattle.cdx_component.specs.declared.frames.ComponentValue.{ComponentValue}
use Rattle.cdx_component.specs.declared.frames.ComponentValue.TheVariants as values
use Rattle.cdx_component.specs.declared.frames.ComponentFrame.{ComponentFrame}
use Rattle.cdx_component.specs.declared.frames.ComponentFrame.TheVariants as frames

-- the kind in the schema
abbrev pub kind_of : ComponentKind → Kind
kind_of Component = a_record component
kind_of Components = a_list components
kind_of Pedigree = a_record pedigree

-- what a value was read as, and its tree
abbrev pub value_kind : ComponentValue → ComponentKind
value_kind (values.Component x) = Component
value_kind (values.Components x) = Components
value_kind (values.Pedigree x) = Pedigree

abbrev pub value_tree : ComponentValue → Tree
value_tree (values.Component x) = component_tree x
value_tree (values.Components x) = components_tree x
value_tree (values.Pedigree x) = pedigree_tree x

-- what an open element is read as, and its fields so far
abbrev pub frame_kind : ComponentFrame → ComponentKind
frame_kind (frames.Component x) = Component
frame_kind (frames.Components x) = Components
frame_kind (frames.Pedigree x) = Pedigree

abbrev pub frame_fields : ComponentFrame → Trees
frame_fields (frames.Component x) = component_part x
frame_fields (frames.Components x) = listing_slots component_tree (component_items x)
frame_fields (frames.Pedigree x) = pedigree_part x

-- ---- what reads each child, in the order of the rows that are children

abbrev pub origin_readers : List (ChildReader LeafKind ComponentKind) → List (ChildReader LeafKind ComponentKind)
origin_readers others = Leaf Entity ∷ Leaf Text ∷ Leaf Text ∷ others

abbrev pub naming_readers : List (ChildReader LeafKind ComponentKind) → List (ChildReader LeafKind ComponentKind)
naming_readers others = Leaf Text ∷ Leaf Text ∷ Leaf Text ∷ Leaf Text ∷ Leaf Text ∷ Leaf Hashes ∷ others

abbrev pub marks_readers : List (ChildReader LeafKind ComponentKind) → List (ChildReader LeafKind ComponentKind)
marks_readers others = Leaf Licenses ∷ Leaf Text ∷ Leaf Text ∷ Leaf Text ∷ Leaf Swid ∷ Leaf Flag ∷ others

abbrev pub contents_readers : List (ChildReader LeafKind ComponentKind)
contents_readers = Nested Pedigree ∷ Leaf ExternalReferences ∷ Leaf Properties ∷ Nested Components ∷ Leaf Evidence ∷ Leaf Signature ∷ []

abbrev pub component_readers : List (ChildReader LeafKind ComponentKind)
component_readers = origin_readers (naming_readers (marks_readers contents_readers))

abbrev pub pedigree_readers : List (ChildReader LeafKind ComponentKind)
pedigree_readers = Nested Components ∷ Nested Components ∷ Nested Components ∷ Leaf Commits ∷ Leaf Patches ∷ Leaf Text ∷ []

abbrev pub readers_of : ComponentKind → List (ChildReader LeafKind ComponentKind)
readers_of Component = component_readers
readers_of Components = Nested Component ∷ []
readers_of Pedigree = pedigree_readers

abbrev pub reader_of : ComponentKind → ℕ → Option (ChildReader LeafKind ComponentKind)
reader_of k i = at_position (readers_of k) i
