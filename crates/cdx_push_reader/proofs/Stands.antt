-- Where a reader of documents stands, no fault is there; and what it tells at the end.
use Rattle.std.specs.Prelude.{None, Some}
use Rattle.std.proofs.Common.{◌≡◌, ℕ, ◌⊎◌, inl, inr, true, false, List, [], ◌∷◌, ◌++◌, length, refl, sym, subst, ap, ◌∙◌, append_assoc, arith}
use Rattle.cdx_events.specs.declared.name.OwnedName.{OwnedName}
use Rattle.cdx_events.specs.declared.event.XmlEvent.{XmlEvent}
use Rattle.cdx_events.specs.declared.event.XmlEvent.TheVariants.{StartDocument, EndDocument, StartElement, EndElement}
use Rattle.cdx_events.specs.declared.balance.Stage.TheVariants as stages
use Rattle.cdx_events.specs.Nodes.{events_of, document, IsBalanced, GoesOn}
use Rattle.cdx_events.specs.Root.{node_of}
use Rattle.cdx_events.proofs.Broken.{nothing_goes}
use Rattle.cdx_events.proofs.Hears.{alive_goes, balanced_whole}
use Rattle.cdx_models.specs.declared.bom.SpecVersion.{SpecVersion}
use Rattle.cdx_models.specs.Trees.{Tree}
use Rattle.cdx_schema.specs.XmlReading.{xml_denotes}
use Rattle.cdx_schema.specs.Soon.{ends, IsEnded}
use Rattle.cdx_schema.specs.Early.{IsEarly, unbalanced}
use Rattle.cdx_schema.proofs.EarlyFaults.{root_same}
use Rattle.cdx_schema.proofs.EarlyLaws.{early_short, early_breaks}
use Rattle.cdx_schema.proofs.EarlyEnds.{root_none, document_none, last_is, none_after}
use Rattle.cdx_schema.proofs.EarlySoon.{ended_closed}
use Rattle.cdx_machine.specs.Machines.{Holding}
use Rattle.cdx_push_reader.specs.declared.hearing.ReadingStage.{ReadingStage}
use Rattle.cdx_push_reader.specs.declared.hearing.ReadingStage.TheVariants.{Before, Within, After}
use Rattle.cdx_push_reader.specs.Pushed.{IsRootOpen, IsDone, StandsAtStage}
use Rattle.cdx_push_reader.specs.PushAnswers.{IsValueOf}
use Rattle.cdx_push_reader.proofs.Starts.{root_early}

begun_goes : GoesOn (StartDocument ∷ [])
begun_goes = alive_goes stages.Begun [] (StartDocument ∷ []) (refl, refl) refl

-- An element that can be ended isn't a whole document yet.
open_unbalanced : (es : List XmlEvent) → IsEnded es → IsBalanced (StartDocument ∷ es) → ⊥
open_unbalanced es s b = by s.still_open (ended_closed es s).balanced
  where
    no : (e : XmlEvent) (rest : List XmlEvent) → IsBalanced ((StartDocument ∷ es) ++ e ∷ rest) → ⊥
    no e rest c = none_after (StartDocument ∷ es) e b (record { rest = rest; balanced = subst IsBalanced (sym (append_assoc (StartDocument ∷ es) (e ∷ []) rest)) c })

    by : (ns : List OwnedName) → IsBalanced ((StartDocument ∷ es) ++ (ends ns ++ EndDocument ∷ [])) → ⊥
    by [] c = no EndDocument [] c
    by (n ∷ ns) c = no (EndElement n) (ends ns ++ EndDocument ∷ []) c

module _ {M X : Type 0} (holds : Holding M) (tree : X → Tree) (v : SpecVersion) where
  -- there is no early fault
  pub stands_none : (s : ReadingStage M X) (events : List XmlEvent) → StandsAtStage holds tree v s events → IsEarly v events None
  stands_none Before events (inl e) = subst (λ es. IsEarly v es None) (sym e) (early_short v [] nothing_goes (omega arith))
  stands_none Before events (inr e) = subst (λ es. IsEarly v es None) (sym e) (early_short v (StartDocument ∷ []) begun_goes (omega arith))
  stands_none (Within m) events w = subst (λ es. IsEarly v es None) (sym w.events_are) (root_early v w.name w.attributes w.namespace w.inside None w.begins w.quiet)
  stands_none (After x) events a =
      elim a.events_are [
        | inl e ↦ subst (λ es. IsEarly v es None) (sym e) (root_none v a.root (tree x) a.denotes)
        | inr e ↦ subst (λ es. IsEarly v es None) (sym e) (document_none v a.root (tree x) a.denotes)
      ]

  -- the next event is out of balance
  pub breaks_next : (s : ReadingStage M X) (events : List XmlEvent) (place : ℕ) (e : XmlEvent) → StandsAtStage holds tree v s events → place ≡ length events → (GoesOn (events ++ e ∷ []) → ⊥) → IsEarly v (events ++ e ∷ []) (Some (unbalanced place))
  breaks_next s events place e h p cannot = subst (λ q. IsEarly v (events ++ e ∷ []) (Some (unbalanced q))) (sym p) (early_breaks v events e (stands_none s events h) cannot)

  -- before the root's end no document is whole
  before_unbalanced : (events : List XmlEvent) → ((events ≡ []) ⊎ (events ≡ StartDocument ∷ [])) → IsBalanced events → ⊥
  before_unbalanced events (inl e) b = absurd (no (balanced_whole stages.Fresh [] events (refl, e) b))
    where
      no : false ≡ true → ⊥
      no h = absurd cc
  before_unbalanced events (inr e) b = absurd (no (balanced_whole stages.Begun [] events (refl, e) b))
    where
      no : false ≡ true → ⊥
      no h = absurd cc

  within_unbalanced : (m : M) (events : List XmlEvent) → IsRootOpen holds v m events → IsBalanced events → ⊥
  within_unbalanced m events w b = open_unbalanced (StartElement w.name w.attributes w.namespace ∷ w.inside) w.quiet.ended (subst IsBalanced w.events_are b)

  pub not_after : (s : ReadingStage M X) (events : List XmlEvent) → StandsAtStage holds tree v s events → ((x : X) → s ≡ After x → ⊥) → IsBalanced events → ⊥
  not_after Before events h f b = before_unbalanced events h b
  not_after (Within m) events h f b = within_unbalanced m events h b
  not_after (After x) events h f b = f x refl

  -- Balanced events are those of a whole document after whose root the reader stands.
  pub after_value : (x : X) (events : List XmlEvent) → IsDone tree v x events → IsBalanced events → IsValueOf tree v events x
  after_value x events a b =
      elim a.events_are [
        | inl e ↦ absurd (no (balanced_whole stages.Closing [] events (record { name = a.root.name; attributes = a.root.attributes; namespace = a.root.namespace; nodes = a.root.before; whole = e }) b))
        | inr e ↦ record { balanced = b; denotes = ap (λ y. xml_denotes y v) (root_same events (document (node_of a.root)) b (record { name = a.root.name; attributes = a.root.attributes; namespace = a.root.namespace; nodes = a.root.before; whole = refl }) e) ∙ a.denotes }
      ]
    where
      no : false ≡ true → ⊥
      no h = absurd cc

  -- after the root, only the document's end
  pub after_goes : (x : X) (events : List XmlEvent) (e : XmlEvent) → IsDone tree v x events → GoesOn (events ++ e ∷ []) → IsDone tree v x (events ++ e ∷ [])
  after_goes x events e a g =
      elim a.events_are [
        | inl i ↦ let last : e ≡ EndDocument = last_is a.root e (subst (λ es. GoesOn (es ++ e ∷ [])) i g) in
            record { root = a.root; denotes = a.denotes; events_are = inr (ap (λ es. es ++ e ∷ []) i ∙ ap (λ x. StartDocument ∷ events_of (node_of a.root) ++ x ∷ []) last) }
        | inr i ↦ absurd (none_after (document (node_of a.root)) e (record { name = a.root.name; attributes = a.root.attributes; namespace = a.root.namespace; nodes = a.root.before; whole = refl }) (subst (λ es. GoesOn (es ++ e ∷ [])) i g))
      ]
