use Rattle.std.proofs.Common.{Some, ap, sym, ◌∙◌, ◌∷◌, ◌+◌, drop, if◌then◌else◌}
use Rattle.std.proofs.lemmas.List.{at_drop_more}
use Rattle.serde_json.specs.Find.{get_member}
use Rattle.serde_json.specs.View.{view}
use Rattle.cdx_json.specs.declared.seen_member.SeenMember.{SeenMember}
use Rattle.cdx_json.specs.SeenOf.{seen_of}
use Rattle.cdx_json.proofs.Following.{looked_up}
use Rattle.cdx_json.proofs.seen.SeenMembers.get.Goals as goal

pub returns-then-is_same : goal.returns-then-is_same
returns-then-is_same c =
    let k = c.args.name.now in
    let all = c.as_slice-member-items.result.now in
    let i = c.loop-member.member-index in
    let rest = drop (i + 1) all in
    let here = c.loop-member.invariant ∙ at_drop_more (λ xs. get_member k (seen_of xs)) all i c.member-item.result c.loop-member-test.true ∙ ap (λ (x : SeenMember). get_member k (seen_of (x ∷ rest))) (sym c.member-item.is) in
    sym (here ∙ looked_up k c.member-item.result rest c.is_same.result c.is_same.ensures ∙ ap (λ b. if b then Some (view c.member-item.result.value.now) else get_member k (seen_of rest)) c.if-is_same.true)

pub loop-member-preserved : goal.loop-member-preserved
loop-member-preserved c =
    let k = c.args.name.now in
    let all = c.as_slice-member-items.result.now in
    let i = c.loop-member.member-index in
    let rest = drop (i + 1) all in
    let here = c.loop-member.invariant ∙ at_drop_more (λ xs. get_member k (seen_of xs)) all i c.member-item.result c.loop-member-test.true ∙ ap (λ (x : SeenMember). get_member k (seen_of (x ∷ rest))) (sym c.member-item.is) in
    here ∙ looked_up k c.member-item.result rest c.is_same.result c.is_same.ensures ∙ ap (λ b. if b then Some (view c.member-item.result.value.now) else get_member k (seen_of rest)) c.if-is_same.false
