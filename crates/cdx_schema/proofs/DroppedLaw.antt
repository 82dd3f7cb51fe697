-- Dropping empty texts from a spelling.
use Rattle.std.specs.Prelude.{◌≡◌, refl, true, false, Option, Some, None, Err}
use mathlib.Core.Path.{ap, sym, ◌∙◌}
use Rattle.cdx_models.specs.declared.bom.SpecVersion.{SpecVersion}
use Rattle.cdx_models.specs.Trees.{Tree}
use Rattle.cdx_schema.specs.Kinds.{a_bill}
use Rattle.cdx_schema.specs.Depth.{top}
use Rattle.cdx_models.specs.declared.errors.XmlReadError.{XmlReadError}
use Rattle.cdx_schema.specs.Membership.{HasShape}
use Rattle.cdx_schema.specs.Keeping.{keep, fits, is_shallow}
use Rattle.cdx_schema.specs.XmlReading.{xml_denotes}
use Rattle.cdx_schema.specs.XmlSpelling.{root, nodes_of}
use Rattle.cdx_events.specs.EmptyTexts.{lean}
use Rattle.cdx_events.proofs.EmptyTexts.{lean_document}
use Rattle.cdx_schema.specs.Dropped.{hole, unless, has_empty, DropsTexts}
use Rattle.cdx_schema.proofs.XmlLaw.{tripped}
use Rattle.cdx_schema.proofs.BillRead.{reads_xml}
use Rattle.cdx_schema.proofs.DroppedRead.{lean_denotes}

-- ---- the law, where it is read off the document without empty texts

pub lean_spelling : (b : Tree) (w : SpecVersion) → HasShape b a_bill → is_shallow b top ≡ true → fits w b a_bill ≡ true
    → xml_denotes (lean (root (keep w b a_bill) w)) w ≡ unless (hole (lean (root (keep w b a_bill) w)) w 1 a_bill) (tripped w (keep w b a_bill) a_bill)
lean_spelling b w h s f = lean_denotes (root (keep w b a_bill) w) w (tripped w (keep w b a_bill) a_bill) (reads_xml b w h f s)

-- ---- the law, from the two halves on trees

abbrev pub FullHasNone : Type 0
FullHasNone = (b : Tree) (w : SpecVersion) → HasShape b a_bill → is_shallow b top ≡ true → fits w b a_bill ≡ true
    → has_empty (keep w b a_bill) ≡ false → hole (lean (root (keep w b a_bill) w)) w 1 a_bill ≡ None

-- What is read without a hole is full; what a trip leaves of a tree with an empty text still has it.
abbrev pub EmptyHasOne : Type 0
EmptyHasOne = (b : Tree) (w : SpecVersion) → HasShape b a_bill → is_shallow b top ≡ true → fits w b a_bill ≡ true
    → has_empty (keep w b a_bill) ≡ true → hole (lean (root (keep w b a_bill) w)) w 1 a_bill ≡ None → ⊥

pub drops_texts : FullHasNone → EmptyHasOne → DropsTexts
drops_texts full empty b w h s f = (
  lean_document _ _ _ (nodes_of (keep w b a_bill) w a_bill),
  (λ e. lean_spelling b w h s f ∙ (ap (λ o. unless o (tripped w (keep w b a_bill) a_bill)) (full b w h s f e) ∙ sym (reads_xml b w h f s))),
  (λ e. by (hole (lean (root (keep w b a_bill) w)) w 1 a_bill) refl (empty b w h s f e)),
)
  where
    by : (o : Option XmlReadError) → hole (lean (root (keep w b a_bill) w)) w 1 a_bill ≡ o → (hole (lean (root (keep w b a_bill) w)) w 1 a_bill ≡ None → ⊥)
        → (g : XmlReadError) × (hole (lean (root (keep w b a_bill) w)) w 1 a_bill ≡ Some g) × (xml_denotes (lean (root (keep w b a_bill) w)) w ≡ Err g)
    by None i n = absurd (n i)
    by (Some g) i n = (g, i, (lean_spelling b w h s f ∙ ap (λ o. unless o (tripped w (keep w b a_bill) a_bill)) i))
