use Rattle.std.proofs.Common.{◌≡◌, Some, subst}
use Rattle.cdx_nest_machine.specs.declared.nested.ChildReader.TheVariants.{Leaf}
use Rattle.cdx_push.specs.Leaf.{value_kind}
use Rattle.cdx_nest.specs.Frames as nests
use Rattle.cdx_bom.specs.Frames.{frame_kind, reader_of}
use Rattle.cdx_bom.proofs.Readers.{leaf_there}
use Rattle.cdx_bom.proofs.push.frame.BillFrameNested.put_leaf.Goals as goal

pub put_leaf-requires : goal.put_leaf-requires
put_leaf-requires c =
    let i = c.args.position in
    leaf_there (nests.reader_of (nests.frame_kind c.in-Nest.frame) i) (value_kind c.args.value) (subst (λ s. reader_of (frame_kind s) i ≡ Some (Leaf (value_kind c.args.value))) c.in-Nest.is c.requires)

pub returns-in-Nest-clause-puts : goal.returns-in-Nest-clause-puts
returns-in-Nest-clause-puts c = rw c.in-Nest.is c.put_leaf.ensures.puts

pub put_relation-requires : goal.put_relation-requires
put_relation-requires c = subst (λ s. reader_of (frame_kind s) c.args.position ≡ Some (Leaf (value_kind c.args.value))) c.in-Bill.is c.requires

pub returns-in-Bill-clause-puts : goal.returns-in-Bill-clause-puts
returns-in-Bill-clause-puts c = rw c.in-Bill.is c.put_relation.ensures
