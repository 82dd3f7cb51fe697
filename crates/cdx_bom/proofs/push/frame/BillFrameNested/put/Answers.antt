use Rattle.std.proofs.Common.{◌≡◌, Some, subst}
use Rattle.cdx_nest_machine.specs.declared.nested.ChildReader.TheVariants.{Nested}
use Rattle.cdx_nest.specs.Frames as nests
use Rattle.cdx_bom.specs.Frames.{frame_kind, value_kind, reader_of}
use Rattle.cdx_bom.specs.declared.push.frame.BillKind.TheVariants.{Nest}
use Rattle.cdx_bom.proofs.Readers.{is_nest, nest_there}
use Rattle.cdx_bom.proofs.push.frame.BillFrameNested.put.Goals as goal

pub nest_of-nest-requires : goal.nest_of-nest-requires
nest_of-nest-requires c = is_nest (frame_kind c.args.self.now) c.args.position (value_kind c.args.value) c.requires

pub put-requires : goal.put-requires
put-requires c =
    let i = c.args.position in
    let h = subst (λ x. reader_of (frame_kind c.args.self.now) i ≡ Some (Nested (value_kind x))) c.nest_of-nest.ensures c.requires in
    nest_there (nests.reader_of (nests.frame_kind c.in-Nest.frame) i) (nests.value_kind c.nest_of-nest.result) (subst (λ s. reader_of (frame_kind s) i ≡ Some (Nested (Nest (nests.value_kind c.nest_of-nest.result)))) c.in-Nest.is h)

pub returns-in-Nest-clause-puts : goal.returns-in-Nest-clause-puts
returns-in-Nest-clause-puts c = rw (c.in-Nest.is, c.nest_of-nest.ensures) c.put.ensures.puts

pub put_nested-requires : goal.put_nested-requires
put_nested-requires c =
    let i = c.args.position in
    let h = subst (λ x. reader_of (frame_kind c.args.self.now) i ≡ Some (Nested (value_kind x))) c.nest_of-nest.ensures c.requires in
    subst (λ s. reader_of (frame_kind s) i ≡ Some (Nested (Nest (nests.value_kind c.nest_of-nest.result)))) c.in-Bill.is h

pub returns-in-Bill-clause-puts : goal.returns-in-Bill-clause-puts
returns-in-Bill-clause-puts c = rw (c.in-Bill.is, c.nest_of-nest.ensures) c.put_nested.ensures
