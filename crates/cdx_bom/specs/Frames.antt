-- What is read of a bill, and of all that stands in it, while its elements are open.
use Rattle.std.specs.Prelude.{◌≡◌, ℕ, List, [], ◌∷◌, Option, option_map}
use Rattle.cdx_models.specs.Trees.{bill, Tree, Trees}
use Rattle.cdx_schema.specs.Kinds.{Kind, a_record}
use Rattle.cdx_machine.specs.Several.{at_position}
use Rattle.cdx_nest_machine.specs.declared.nested.ChildReader.{ChildReader}
use Rattle.cdx_nest_machine.specs.declared.nested.ChildReader.TheVariants.{Leaf, Nested}
use Rattle.cdx_push.specs.declared.kinds.LeafKind.{LeafKind}
use Rattle.cdx_push.specs.declared.kinds.LeafKind.TheVariants.{Properties, ExternalReferences, Dependencies, Compositions, Signature}
use Rattle.cdx_nest.specs.declared.frames.NestKind.{NestKind}
use Rattle.cdx_nest.specs.declared.frames.NestKind.TheVariants.{Metadata, Components, Services}
use Rattle.cdx_nest.specs.Frames as nests
use Rattle.cdx_bom.specs.Trees.{bom_tree}
use Rattle.cdx_bom.specs.Reading.{bill_slots}
use Rattle.cdx_bom.specs.declared.push.frame.BillKind.{BillKind}
use Rattle.cdx_bom.specs.declared.push.frame.BillKind.TheVariants as kinds
use Rattle.cdx_bom.specs.declared.push.frame.BillValue.{BillValue}
use Rattle.cdx_bom.specs.declared.push.frame.BillValue.TheVariants as values
use Rattle.cdx_bom.specs.declared.push.frame.BillFrame.{BillFrame}
use Rattle.cdx_bom.specs.declared.push.frame.BillFrame.TheVariants as frames

-- the kind in the schema
abbrev pub kind_of : BillKind → Kind
kind_of (kinds.Nest k) = nests.nest_kind k
kind_of kinds.Bill = a_record bill

-- what a value was read as, and its tree
abbrev pub value_kind : BillValue → BillKind
value_kind (values.Nest x) = kinds.Nest (nests.value_kind x)
value_kind (values.Bill b) = kinds.Bill

abbrev pub value_tree : BillValue → Tree
value_tree (values.Nest x) = nests.value_tree x
value_tree (values.Bill b) = bom_tree b

-- what an open element is read as, and its fields so far
abbrev pub frame_kind : BillFrame → BillKind
frame_kind (frames.Nest f) = kinds.Nest (nests.frame_kind f)
frame_kind (frames.Bill p) = kinds.Bill

abbrev pub frame_fields : BillFrame → Trees
frame_fields (frames.Nest f) = nests.frame_fields f
frame_fields (frames.Bill p) = bill_slots p

-- ---- what reads each child

-- what reads a child of what stands in a bill
abbrev pub nest_reader : ChildReader LeafKind NestKind → ChildReader LeafKind BillKind
nest_reader (Leaf l) = Leaf l
nest_reader (Nested k) = Nested (kinds.Nest k)

-- in the order of the rows that are children
abbrev pub bill_readers : List (ChildReader LeafKind BillKind)
bill_readers = Nested (kinds.Nest Metadata) ∷ Nested (kinds.Nest Components) ∷ Nested (kinds.Nest Services) ∷ Leaf ExternalReferences ∷ Leaf Dependencies ∷ Leaf Compositions ∷ Leaf Properties ∷ Leaf Signature ∷ []

abbrev pub reader_of : BillKind → ℕ → Option (ChildReader LeafKind BillKind)
reader_of (kinds.Nest k) i = option_map nest_reader (nests.reader_of k i)
reader_of kinds.Bill i = at_position bill_readers i

-- The value is of something that stands in a bill.
abbrev pub IsNest : BillKind → Type 0
IsNest k = (n : NestKind) × (k ≡ kinds.Nest n)
