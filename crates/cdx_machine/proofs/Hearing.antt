-- What a machine of one of several sorts answers to all events that it has heard.
use Rattle.std.proofs.Common.{◌≡◌, ℕ, ◌+◌, List, [], ◌∷◌, ◌++◌, length, Option, Some, None, Result, Ok, Err, ◌∙◌, subst}
use Rattle.cdx_events.specs.declared.event.XmlEvent.{XmlEvent}
use Rattle.cdx_models.specs.declared.bom.SpecVersion.{SpecVersion}
use Rattle.cdx_models.specs.declared.errors.XmlReadError.{XmlReadError}
use Rattle.cdx_models.specs.Trees.{Tree}
use Rattle.cdx_schema.specs.Depth.{Depth}
use Rattle.cdx_schema.specs.Kinds.{Kind}
use Rattle.cdx_schema.specs.Soon.{BeginsElement}
use Rattle.cdx_machine.specs.Heard.{Hears, Answers, heard_by}
use Rattle.cdx_machine.specs.Machines.{Holding, CanStep, StepsAs}
use Rattle.cdx_machine.proofs.Heard.{can_step, answers_step}

-- the machine after an answer
abbrev pub after : {M X : Type 0} → Result (Option X) XmlReadError → M → Option M
after (Ok None) m = Some m
after (Ok (Some x)) m = None
after (Err e) m = None

module _ {M S X : Type 0} (holds : Holding M) (sort_of : M → S) (as_kind : S → Kind) (view : X → Tree) (sort : S) (v : SpecVersion) (p : ℕ) (d : Depth) (machine : Option M) (old : M) (is : machine ≡ Some old) (place : ℕ) (event : XmlEvent) where
  was : (events : List XmlEvent) → heard_by holds sort_of sort v p d machine events → (sort_of old ≡ sort) × Hears (λ o. holds old v p d o) events
  was events h = subst (λ (x : Option M). heard_by holds sort_of sort v p d x events) is h

  pub listener_can : (events : List XmlEvent) → heard_by holds sort_of sort v p d machine events → place ≡ p + length events → BeginsElement (events ++ event ∷ []) → CanStep holds old place event
  listener_can events h at b = can_step holds old place event v p d events (was events h).1 at b

  module _ (new : M) (same : sort_of new ≡ sort_of old) (found r : Result (Option X) XmlReadError) (found_is : found ≡ r) (steps : StepsAs holds view (as_kind (sort_of old)) old new place event found) (events : List XmlEvent) (h : heard_by holds sort_of sort v p d machine events) (at : place ≡ p + length events) (b : BeginsElement (events ++ event ∷ [])) where
    told : Answers (Hears (λ o. holds new v p d o)) view v (as_kind sort) p d place (events ++ event ∷ []) r
    told = answers_step holds view (as_kind sort) old new place event r v p d events (subst (λ (k : S). StepsAs holds view (as_kind k) old new place event r) (was events h).0 (subst (λ (r : Result (Option X) XmlReadError). StepsAs holds view (as_kind (sort_of old)) old new place event r) found_is steps)) (was events h).1 at b

    is_sort : sort_of new ≡ sort
    is_sort = same ∙ (was events h).0

    pub listener_answers : Answers (heard_by holds sort_of sort v p d (after r new)) view v (as_kind sort) p d place (events ++ event ∷ []) r
    listener_answers = by r told
      where
        by : (r : Result (Option X) XmlReadError) → Answers (Hears (λ o. holds new v p d o)) view v (as_kind sort) p d place (events ++ event ∷ []) r → Answers (heard_by holds sort_of sort v p d (after r new)) view v (as_kind sort) p d place (events ++ event ∷ []) r
        by (Ok None) a = record { soon = a.soon; is_soon = a.is_soon; answers = (a.answers.0, a.answers.1, (is_sort, a.answers.2)) }
        by (Ok (Some x)) a = record { soon = a.soon; is_soon = a.is_soon; answers = a.answers }
        by (Err e) a = record { soon = a.soon; is_soon = a.is_soon; answers = a.answers }

    pub listener_heard : heard_by holds sort_of sort v p d (after r new) (events ++ event ∷ [])
    listener_heard = by r told
      where
        by : (r : Result (Option X) XmlReadError) → Answers (Hears (λ o. holds new v p d o)) view v (as_kind sort) p d place (events ++ event ∷ []) r → heard_by holds sort_of sort v p d (after r new) (events ++ event ∷ [])
        by (Ok None) a = (is_sort, a.answers.2)
        by (Ok (Some x)) a = b
        by (Err e) a = b
