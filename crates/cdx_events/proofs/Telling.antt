-- Two lists of events in UTF-8 are equal where their events are: that texts are in UTF-8 has one proof.
use Rattle.std.specs.Prelude.{◌≡◌, List, true, IsTrue}
use Rattle.std.specs.List.{list_all}
use Rattle.std.proofs.Common.{ap, subst}
use Rattle.std.proofs.Math.Bool.{Bool-set}
use Rattle.cdx_events.specs.declared.event.XmlEvent.{XmlEvent}
use Rattle.cdx_events.specs.Utf8.{in_utf8, EventList}

-- every proof for a list gives the same value as xs
IsSame : EventList → List XmlEvent → Type 0
IsSame xs list = (utf8 : IsTrue (list_all in_utf8 list)) → ◌≡◌ {A = EventList} xs (record { list = list; utf8 = utf8 })

pub same_events : (xs ys : EventList) → xs.list ≡ ys.list → xs ≡ ys
unfolding IsSame
same_events xs ys e =
    subst (IsSame xs) e (λ utf8. ap (λ h. record { list = xs.list; utf8 = h }) (Bool-set (list_all in_utf8 xs.list) true xs.utf8 utf8)) ys.utf8
