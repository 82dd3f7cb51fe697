use Rattle.std.proofs.Common.{rules, [], ◌≡◌, ap, sym, ◌∙◌, string_bytes}
use Rattle.serde_json.specs.Data.{member}
use Rattle.serde_json.specs.View.{view, members_view}
use Rattle.cdx_json.specs.declared.seen_member.SeenMember.{SeenMember}
use Rattle.cdx_json.proofs.Following.{follow, follow_none, follow_one}
use Rattle.cdx_json.proofs.seen.SeenMembers.of.Goals as goal

pub returns : goal.returns
returns c =
    let none : c.loop-name.name-iterator ≡ [] = search rules in
    let held = c.loop-name.members.items in
    sym (follow_none held) ∙ sym (ap (λ es. follow held (members_view es)) none) ∙ c.loop-name.invariant

pub loop-name-preserved : goal.loop-name-preserved
loop-name-preserved c =
    let held = c.loop-name.members.items in
    let rest = members_view c.next.new.self in
    let x : SeenMember = record { name = c.as_str.result; value = c.in-Some.value } in
    let named : c.as_str.result.now ≡ string_bytes c.in-Some.name.now = search rules in
    ap (λ xs. follow xs rest) c.in_ok-push.ensures.items ∙ follow_one held x rest
    ∙ ap (λ n. follow held (member n (view c.in-Some.value.now) rest)) named
    ∙ sym (ap (λ es. follow held (members_view es)) c.in-Some.ensures.steps) ∙ c.loop-name.invariant
