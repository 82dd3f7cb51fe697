use Rattle.std.proofs.Common.{Some, sym, ap, ◌∙◌, subst}
use Rattle.std.specs.Prelude.{option_map}
use Rattle.cdx_nest_machine.specs.Children.{HasReader}
use Rattle.cdx_nest.specs.Frames as nests
use Rattle.cdx_bom.specs.Frames.{frame_kind, nest_reader, reader_of}
use Rattle.cdx_bom.proofs.Readers.{has_nest}
use Rattle.cdx_bom.proofs.push.frame.BillFrameNested.child.Goals as goal

pub child-requires : goal.child-requires
child-requires c =
    let r = subst (λ s. HasReader (reader_of (frame_kind s)) c.args.position) c.in-Nest.is c.requires in
    has_nest (nests.reader_of (nests.frame_kind c.in-Nest.frame) c.args.position) r.0 r.1

pub returns-in-Nest : goal.returns-in-Nest
returns-in-Nest c = rw c.in-Nest.is (ap (λ o. option_map nest_reader o) c.child.ensures ∙ ap (λ r. Some r) (sym c.nest_reader.ensures))
