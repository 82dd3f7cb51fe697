use Rattle.std.proofs.Common.{◌∙◌, ap, is_some}
use Rattle.serde_json.specs.View.{view}
use Rattle.cdx_json.specs.SeenOf.{seen_of}
use Rattle.cdx_json.proofs.Rows.{stands_is, some_of}
use Rattle.cdx_json.proofs.reading.has_member.Goals as goal

pub returns : goal.returns
returns c = c.is_some.ensures ∙ some_of (λ v. view v.now) c.member.result ∙ ap is_some c.member.ensures ∙ stands_is (seen_of c.args.map.now.members.items) c.args.name.now
