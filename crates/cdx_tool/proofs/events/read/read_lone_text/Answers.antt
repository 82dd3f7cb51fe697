use Rattle.serde_json.specs.Data.{string}
use Rattle.cdx_tool.proofs.LoneMember.{no_event}
use Rattle.cdx_tool.proofs.events.read.read_lone_text.Goals as goal

pub returns-in_default : goal.returns-in_default
returns-in_default c = no_event c.args.name.now (string c.args.text.now) c.in_default.not-document c.in_default.not-element c.in_default.not-end c.in_default.not-text c.in_default.not-cdata
