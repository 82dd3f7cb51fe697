use Rattle.std.proofs.Common.{refl}
use Rattle.cdx_license.proofs.Licensed.{lone_when, lone_unless}
use Rattle.cdx_license.proofs.json.is_lone_license.Goals as goal

pub returns-then-len-eq1 : goal.returns-then-len-eq1
returns-then-len-eq1 c = lone_when c.args.map.now.members.items c.len.result c.has_member.result c.len.ensures c.if-len-eq1.true c.has_member.ensures

pub returns-else-len-eq1 : goal.returns-else-len-eq1
returns-else-len-eq1 c = lone_unless c.args.map.now.members.items c.len.result _ c.len.ensures c.if-len-eq1.false refl
