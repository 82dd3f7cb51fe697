use Rattle.std.proofs.Common.{◌∷◌, [], ◌++◌, List, take, sym, subst, ap, ◌∙◌}
use Rattle.std.proofs.lemmas.List.{take_all}
use Rattle.cdx_events.specs.EmptyTexts.{without_empty}
use Rattle.cdx_events.specs.Nodes.{IsBalanced}
use Rattle.cdx_events.specs.declared.event.XmlEvent.{XmlEvent}
use Rattle.cdx_events.proofs.Broken.{take_event}
use Rattle.cdx_events.proofs.EmptyTexts.{one_event_more, one_empty_more, stays_balanced}
use Rattle.cdx_events.proofs.empty_texts.without_empty_texts.Goals as goal
use Rattle.cdx_events.proofs.empty_texts.without_empty_texts.Goals.{then-not-is_empty_text+in_ok-copy+in_ok-push, else-not-is_empty_text}

pub loop-event-preserved : goal.loop-event-preserved
loop-event-preserved c =
    let events = c.as_slice-event-items.result.now in
    let place = c.loop-event.event-index in
    let event = c.event-item.result in
    let through = ap without_empty (take_event events place event c.loop-event-test.true c.event-item.is) in
    elim c.if-not-is_empty_text.branch [
      | then-not-is_empty_text+in_ok-copy+in_ok-push w ↦
          w.kept-is ∙ w.in_ok-push.ensures.ok
          ∙ ap (λ x. c.loop-event.kept ++ x ∷ []) w.in_ok-copy.ensures
          ∙ ap (λ (kept : List XmlEvent). kept ++ event ∷ []) c.loop-event.invariant
          ∙ one_event_more (take place events) event w.if-not-is_empty_text.ensures ∙ through
      | else-not-is_empty_text w ↦
          w.kept-is ∙ c.loop-event.invariant
          ∙ one_empty_more (take place events) event w.if-not-is_empty_text.ensures ∙ through
    ]

pub from_balanced-requires : goal.from_balanced-requires
from_balanced-requires c =
    let events = c.as_slice-event-items.result.now in
    let all = ap without_empty (take_all c.loop-event.event-index events c.loop-event-test.false) in
    subst IsBalanced (sym (c.loop-event.invariant ∙ all)) (stays_balanced events c.as_slice-event-items.ensures.balanced)
