use Rattle.std.proofs.Common.{◌≡◌, Some, sym, ap, ◌∙◌}
use Rattle.std.proofs.lemmas.Option.{same_Some}
use Rattle.serde_json.specs.Data.{Data, null, boolean, number, string, array, object, Members}
use Rattle.serde_json.specs.Find.{as_object}
use Rattle.serde_json.specs.Events.{members_len}
use Rattle.serde_json.specs.View.{members_view}
use Rattle.serde_json.proofs.Views.{members_len-members_view}
use Rattle.cdx_request.specs.Parts.{member_count}
use Rattle.cdx_tool.proofs.part.count_members.Goals as goal

counted : (ms : Members) (d : Data) → Some ms ≡ as_object d → member_count d ≡ members_len ms
counted ms null h = cc
counted ms (boolean b) h = cc
counted ms (number n) h = cc
counted ms (string s) h = cc
counted ms (array ds) h = cc
counted ms (object os) h = ap members_len (same_Some os ms (sym h))

pub returns-in-Some : goal.returns-in-Some
returns-in-Some c =
    let es = c.in-Some.map.now.entries in
    sym (counted (members_view es) _ c.in-Some.ensures ∙ members_len-members_view es ∙ sym c.len.ensures.len)
