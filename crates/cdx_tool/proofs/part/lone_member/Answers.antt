use Rattle.std.proofs.Common.{sym, ◌∙◌}
use Rattle.serde_json.specs.View.{view}
use Rattle.cdx_tool.proofs.LoneMember.{not_one, the_lone}
use Rattle.cdx_tool.proofs.part.lone_member.Goals as goal

pub returns-then-len-ne1 : goal.returns-then-len-ne1
returns-then-len-ne1 c = not_one (view c.args.value.now) c.in_ok-map.map.now.entries c.in_ok-map.ensures (λ e. c.if-len-ne1.true (c.len.ensures.len ∙ e))

pub returns : goal.returns
returns c = the_lone (view c.args.value.now) c.in_ok-map.map.now.entries c.in_ok-map.ensures (sym c.len.ensures.len ∙ c.if-len-ne1.false) c.first_key_value.result c.first_key_value.ensures.variant c.first_key_value.ensures.first
