-- A bill, and all that stands in it, is read child by child.
use Rattle.std.specs.Prelude.{◌≡◌, refl, option_map}
use Rattle.std.proofs.Common.{ap, ◌∙◌}
use Rattle.cdx_models.specs.Trees.{bill}
use Rattle.cdx_schema.specs.Table.{rows}
use Rattle.cdx_push.specs.Leaf.{kind_of as leaf_kind_of}
use Rattle.cdx_push.specs.declared.kinds.LeafKind.{LeafKind}
use Rattle.cdx_machine.specs.Feeding.{IsNoBill}
use Rattle.cdx_nest_machine.specs.Forms.{plan_of, IsNested, record_nested}
use Rattle.cdx_nest_machine.specs.Children.{ReadsEach, child_kind, readers_listed}
use Rattle.cdx_nest_machine.specs.declared.nested.ChildReader.{ChildReader}
use Rattle.cdx_nest_machine.specs.declared.nested.ChildReader.TheVariants.{Leaf, Nested}
use Rattle.cdx_nest.specs.Frames as nests
use Rattle.cdx_nest.specs.FrameLaws as nest_laws
use Rattle.cdx_nest.specs.declared.frames.NestKind.{NestKind}
use Rattle.cdx_bom.specs.Frames.{kind_of, nest_reader, bill_readers, reader_of}
use Rattle.cdx_bom.specs.declared.push.frame.BillKind.{BillKind}
use Rattle.cdx_bom.specs.declared.push.frame.BillKind.TheVariants.{Nest, Bill}

same_kind : (r : ChildReader LeafKind NestKind) → child_kind leaf_kind_of nests.nest_kind r ≡ child_kind leaf_kind_of kind_of (nest_reader r)
same_kind (Leaf l) = refl
same_kind (Nested k) = refl

nest_children_read : (k : NestKind) → ReadsEach leaf_kind_of kind_of (reader_of (Nest k)) (plan_of (kind_of (Nest k))).children
nest_children_read k i row h =
    let q = nest_laws.children_by_rows k i row h in
    (nest_reader q.0, ap (λ o. option_map nest_reader o) q.1, q.2 ∙ same_kind q.0)

-- The child of each position is read as the kind of its row.
pub children_by_rows : (s : BillKind) → ReadsEach leaf_kind_of kind_of (reader_of s) (plan_of (kind_of s)).children
unfolding rows
children_by_rows (Nest k) = nest_children_read k
children_by_rows Bill = readers_listed leaf_kind_of kind_of bill_readers (plan_of (kind_of Bill)).children refl

pub kinds_nested : (s : BillKind) → IsNested (kind_of s)
unfolding rows
kinds_nested (Nest k) = nest_laws.kinds_nested k
kinds_nested Bill = record_nested bill refl

pub kinds_no_bill : (s : BillKind) → IsNoBill (kind_of s)
kinds_no_bill (Nest k) = nest_laws.kinds_no_bill k
kinds_no_bill Bill = refl
