use Rattle.std.proofs.Common.{◌≡◌}
use Rattle.cdx_json.specs.Spellings.{spelling_data}
use Rattle.cdx_json.proofs.Setting.{IsSetFrom}
use Rattle.cdx_json.proofs.spelling.members.put.Given as goal

abbrev pub invariant-loop-member : goal.invariant-loop-member
invariant-loop-member l = record { place : l.at ≡ l.member-index; set_from : IsSetFrom l.name (spelling_data l.value) l.fn.members.items l.member-index }
