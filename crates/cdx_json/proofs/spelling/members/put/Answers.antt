use Rattle.std.proofs.Common.{◌≡◌, length, get_or, slice_set, ap, sym, ◌∙◌, arith}
use Rattle.std.proofs.lemmas.List.{get_or_default}
use Rattle.std.specs.List.{insert}
use Rattle.serde_json.specs.Data.{put as with_member}
use Rattle.cdx_json.specs.Spellings.{spelling_data, spelling_members}
use Rattle.cdx_json.proofs.Setting.{Entry, set_from_more, set_at_end, set_before, set_over}
use Rattle.cdx_json.proofs.spelling.members.put.Goals.{else-loop-member-test, then-loop-member-test+in-Less}
use Rattle.cdx_json.proofs.spelling.members.put.Goals as goal

pub loop-member-preserved : goal.loop-member-preserved
loop-member-preserved c =
    let all = c.args.members.now.items in
    let i = c.loop-member.member-index in
    let e = c.member-item.result in
    let same = c.as_slice-member-items.ensures.value in
    let read = c.member-item.is ∙ ap (λ es. get_or es i e) same in
    let len = ap length same in
    let place = c.loop-member.invariant.place in
    record { place = omega arith; set_from = set_from_more c.args.name.now (spelling_data c.args.value) all i e c.cmp.result (omega arith) read c.cmp.ensures c.in-Greater.is c.loop-member.invariant.set_from }

pub returns-in-Equal : goal.returns-in-Equal
returns-in-Equal c =
    let all = c.args.members.now.items in
    let i = c.loop-member.member-index in
    let e = c.member-item.result in
    let same = c.as_slice-member-items.ensures.value in
    let read = c.member-item.is ∙ ap (λ es. get_or es i e) same in
    let len = ap length same in
    let place = c.loop-member.invariant.place in
    let old = c.index_mut.result.now in
    let held : old ≡ e = c.index_mut.ensures.value ∙ ap (λ n. get_or all n old) place ∙ get_or_default all i old e (omega arith) ∙ sym read in
    ap (λ n. spelling_members (slice_set all n (old.0, c.args.value))) place ∙ ap (λ (x : Entry). spelling_members (slice_set all i (x.0, c.args.value))) held
    ∙ set_over c.args.name.now c.args.value all i e c.cmp.result (omega arith) read c.cmp.ensures c.in-Equal.is c.loop-member.invariant.set_from

pub returns : goal.returns
returns c =
    let all = c.args.members.now.items in
    let i = c.loop-member.member-index in
    let same = c.as_slice-member-items.ensures.value in
    let len = ap length same in
    let from = c.loop-member.invariant.set_from in
    let set : spelling_members (insert all i (c.args.name, c.args.value)) ≡ with_member c.args.name.now (spelling_data c.args.value) (spelling_members all) = elim c.loop-member-test.branch [
      | else-loop-member-test w ↦ set_at_end c.args.name c.args.value all i (omega (arith, w.loop-member-test.false)) from
      | then-loop-member-test+in-Less w ↦ set_before c.args.name c.args.value all i w.member-item.result w.cmp.result (omega (arith, w.loop-member-test.true)) (w.member-item.is ∙ ap (λ es. get_or es i w.member-item.result) same) w.cmp.ensures w.in-Less.is from
    ] in
    ap spelling_members c.in_ok-insert.ensures.items ∙ ap (λ n. spelling_members (insert all n (c.args.name, c.args.value))) c.loop-member.invariant.place ∙ set
