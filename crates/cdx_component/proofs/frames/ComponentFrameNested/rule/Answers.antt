use Rattle.cdx_component.specs.Frames.{frame_kind}
use Rattle.cdx_component.proofs.Readers.{frames_ruled}
use Rattle.cdx_component.proofs.frames.ComponentFrameNested.rule.Goals as goal

pub returns : goal.returns
returns c = frames_ruled (frame_kind c.args.self.now)
