-- Components, pedigrees and lists of components are read child by child.
use Rattle.std.specs.Prelude.{refl}
use Rattle.cdx_models.specs.Trees.{component, pedigree}
use Rattle.cdx_schema.specs.Kinds.{components}
use Rattle.cdx_schema.specs.Table.{rows, list}
use Rattle.cdx_push.specs.Leaf.{kind_of as leaf_kind_of}
use Rattle.cdx_machine.specs.Feeding.{IsNoBill}
use Rattle.cdx_nest_machine.specs.Forms.{plan_of, IsNested, record_nested, list_nested}
use Rattle.cdx_nest_machine.specs.Children.{ReadsEach, readers_listed}
use Rattle.cdx_component.specs.Frames.{kind_of, readers_of, reader_of}
use Rattle.cdx_component.specs.declared.frames.ComponentKind.{ComponentKind}
use Rattle.cdx_component.specs.declared.frames.ComponentKind.TheVariants.{Component, Components, Pedigree}

-- The child of each position is read as the kind of its row.
pub children_by_rows : (s : ComponentKind) → ReadsEach leaf_kind_of kind_of (reader_of s) (plan_of (kind_of s)).children
unfolding rows list
children_by_rows Component = readers_listed leaf_kind_of kind_of (readers_of Component) (plan_of (kind_of Component)).children refl
children_by_rows Components = readers_listed leaf_kind_of kind_of (readers_of Components) (plan_of (kind_of Components)).children refl
children_by_rows Pedigree = readers_listed leaf_kind_of kind_of (readers_of Pedigree) (plan_of (kind_of Pedigree)).children refl

pub kinds_nested : (s : ComponentKind) → IsNested (kind_of s)
unfolding rows
kinds_nested Component = record_nested component refl
kinds_nested Components = list_nested components
kinds_nested Pedigree = record_nested pedigree refl

pub kinds_no_bill : (s : ComponentKind) → IsNoBill (kind_of s)
kinds_no_bill Component = refl
kinds_no_bill Components = refl
kinds_no_bill Pedigree = refl
