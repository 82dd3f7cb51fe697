-- The laws of roads, carried over to the documents that calls answer.
use Rattle.std.proofs.Common.{◌≡◌, refl, sym, ap, subst, ◌∙◌, List, [], ◌∷◌, ◌++◌, length, slice_get, ◌⊎◌, ◌↔◌, false, Some, Result, Ok, Err}
use mathlib.Core.Logic.{inl, inr}
use Rattle.serde_json.specs.Data.{Data}
use Rattle.cdx_events.specs.Nodes.{Node, document}
use Rattle.cdx_models.specs.declared.bom.SpecVersion.{SpecVersion}
use Rattle.cdx_models.specs.declared.bom.SpecVersion.TheVariants.{V1_5}
use Rattle.cdx_schema.specs.Kinds.{a_bill}
use Rattle.cdx_schema.specs.JsonSpelling.{jspell}
use Rattle.cdx_schema.specs.Laws as schema
use Rattle.cdx_schema.specs.Roads as roads
use Rattle.cdx_schema.specs.Roads.{Refusal, version_missing, road}
use Rattle.cdx_schema.proofs.Stated.{settle, join}
use Rattle.cdx_bom.specs.declared.doc.Doc.{Doc}
use Rattle.cdx_bom.specs.declared.doc.Doc.TheVariants as doc
use Rattle.cdx_bom.specs.declared.doc.Hop.{Hop}
use Rattle.cdx_bom.specs.declared.doc.RoadError.{RoadError}
use Rattle.cdx_bom.specs.declared.doc.RoadError.TheVariants as error
use Rattle.cdx_bom.specs.Docs.{IsDoc, AreDocs, hop_of, hops_of, form_of, Refuses, AnswersRoad}
use Rattle.cdx_bom.specs.Laws.{AreAlike, end_doc, end_version, unfit_error, Misses, is_memory, RoadsSettle}
use Rattle.cdx_bom.proofs.Documents.{same_doc}

hops_append : (g h : List Hop) → hops_of (g ++ h) ≡ hops_of g ++ hops_of h
hops_append [] h = refl
hops_append (a ∷ g) h = ap (hop_of a ∷◌) (hops_append g h)

-- ---- the documents of an answer

-- the answer's documents stand for those of the road
road_docs : (x : Doc) (y : roads.Doc) (v : SpecVersion) (g h : List Hop) (docs : List Doc) → IsDoc x y → AnswersRoad x v (g ++ h) (Ok docs) → (ys : List roads.Doc) × (road y v (hops_of g ++ hops_of h) ≡ Ok ys) × AreDocs docs ys
road_docs x y v g h docs is a =
    let p = a y is in
    (p.0, ap (λ hs. road y v hs) (sym (hops_append g h)) ∙ p.1, p.2)

-- and the one after g hops for the one after g hops
doc_there : (g : List Hop) (docs : List Doc) (ys : List roads.Doc) (y : roads.Doc) (d : Doc) → AreDocs docs ys → slice_get docs (length g) ≡ Some d → IsDoc d (schema.doc_after (hops_of g) ys y)
doc_there g [] ys y d a e = absurd cc
doc_there [] (c ∷ docs) [] y d a e = absurd a
doc_there [] (c ∷ docs) (z ∷ ys) y d a e = let same : c ≡ d = cc in subst (λ x. IsDoc x z) same a.0
doc_there (h ∷ g) (c ∷ docs) [] y d a e = absurd a
doc_there (h ∷ g) (c ∷ docs) (z ∷ ys) y d a e = doc_there g docs ys y d a.1 e

last_there : (x : Doc) (y : roads.Doc) (docs : List Doc) (ys : List roads.Doc) → IsDoc x y → AreDocs docs ys → IsDoc (end_doc x docs) (schema.end_doc y ys)
last_there x y [] [] is a = is
last_there x y [] (z ∷ ys) is a = absurd a
last_there x y (d ∷ docs) [] is a = absurd a
last_there x y (d ∷ docs) (z ∷ ys) is a = last_there d z docs ys a.0 a.1

both_there : (docs more : List Doc) (ys zs : List roads.Doc) → AreDocs docs ys → AreDocs more zs → AreDocs (docs ++ more) (ys ++ zs)
both_there [] more [] zs a b = b
both_there [] more (y ∷ ys) zs a b = absurd a
both_there (d ∷ docs) more [] zs a b = absurd a
both_there (d ∷ docs) more (y ∷ ys) zs a b = (a.0, both_there docs more ys zs a.1 b)

-- ---- settling

abbrev data_of : Data → roads.Doc → Data
data_of d (roads.json x) = x
data_of d (roads.xml n) = d

abbrev root_of : Node → roads.Doc → Node
root_of n (roads.json x) = n
root_of n (roads.xml m) = m

alike_docs : (w : SpecVersion) (d e : Doc) (y z : roads.Doc) → IsDoc d y → IsDoc e z → schema.IsAlike w y z → AreAlike w d e
alike_docs w (doc.Json u) (doc.Json v) (roads.json y) (roads.json z) p q (inl h) = inl (p ∙ ap (data_of y) h ∙ sym q)
alike_docs w (doc.Json u) (doc.Json v) (roads.json y) (roads.json z) p q (inr (five, h)) = inr (five, (h.0, h.1, p ∙ ap (data_of y) h.2, q ∙ ap (data_of z) h.3, h.4))
alike_docs w (doc.Json u) (doc.Json v) (roads.xml y) z p q h = absurd p
alike_docs w (doc.Json u) (doc.Json v) (roads.json y) (roads.xml z) p q h = absurd q
alike_docs w (doc.Json u) (doc.Xml f) (roads.json y) (roads.xml z) p q (inl h) = absurd cc
alike_docs w (doc.Json u) (doc.Xml f) (roads.json y) (roads.xml z) p q (inr (five, h)) = let wrong : roads.xml z ≡ roads.json (jspell h.1 V1_5 a_bill) = h.3 in absurd cc
alike_docs w (doc.Json u) (doc.Xml f) (roads.xml y) z p q h = absurd p
alike_docs w (doc.Json u) (doc.Xml f) (roads.json y) (roads.json z) p q h = absurd q
alike_docs w (doc.Xml f) (doc.Json v) (roads.xml y) (roads.json z) p q (inl h) = absurd cc
alike_docs w (doc.Xml f) (doc.Json v) (roads.xml y) (roads.json z) p q (inr (five, h)) = let wrong : roads.xml y ≡ roads.json (jspell h.0 V1_5 a_bill) = h.2 in absurd cc
alike_docs w (doc.Xml f) (doc.Json v) (roads.json y) z p q h = absurd p
alike_docs w (doc.Xml f) (doc.Json v) (roads.xml y) (roads.xml z) p q h = absurd q
alike_docs w (doc.Xml f) (doc.Xml g) (roads.xml y) (roads.xml z) p q (inl h) = p ∙ ap (λ r. document (root_of y r)) h ∙ sym q
alike_docs w (doc.Xml f) (doc.Xml g) (roads.xml y) (roads.xml z) p q (inr (five, h)) = let wrong : roads.xml y ≡ roads.json (jspell h.0 V1_5 a_bill) = h.2 in absurd cc
alike_docs w (doc.Xml f) (doc.Xml g) (roads.json y) z p q h = absurd p
alike_docs w (doc.Xml f) (doc.Xml g) (roads.xml y) (roads.json z) p q h = absurd q

pub settles : RoadsSettle
settles x y v g g' h h' a c docs others d e is first second there other form version low count =
    let p = road_docs x y v g (a ∷ g') docs is first in
    let q = road_docs x y v h (c ∷ h') others is second in
    let forms : (hop_of a).form ≡ (hop_of c).form = ap form_of form in
    let counts = ap (schema.xml_count 2) (sym (hops_append g (a ∷ []))) ∙ count ∙ ap (schema.xml_count 2) (hops_append h (c ∷ [])) in
    alike_docs c.version d e (schema.doc_after (hops_of g) p.0 y) (schema.doc_after (hops_of h) q.0 y) (doc_there g docs p.0 y d p.2 there) (doc_there h others q.0 y e q.2 other)
    (settle y v (hops_of g) (hops_of g') (hops_of h) (hops_of h') (hop_of a) (hop_of c) p.0 q.0 p.1 q.1 forms version low counts)

-- ---- roads in two parts

module _ (v : SpecVersion) (hops rest : List Hop) where
  owes_missing : (owed : Result (List roads.Doc) Refusal) → Refuses owed unfit_error → owed ≡ Err version_missing
  owes_missing owed m = let same : version_missing ≡ m.0 = cc in m.2 ∙ ap Err (sym same)

  is_whole : (z : roads.Doc) → road z v (hops_of (hops ++ rest)) ≡ road z v (hops_of hops ++ hops_of rest)
  is_whole z = ap (λ hs. road z v hs) (hops_append hops rest)

  abbrev part_refused : roads.Doc → Type 0
  part_refused z = (road z v (hops_of hops) ≡ Err version_missing) ⊎ ((ys : List roads.Doc) × (road z v (hops_of hops) ≡ Ok ys) × (road (schema.end_doc z ys) (end_version v hops) (hops_of rest) ≡ Err version_missing))

  -- the whole is refused for a missing version where a part is
  whole_missing : (z : roads.Doc) → part_refused z → Refuses (road z v (hops_of (hops ++ rest))) unfit_error
  whole_missing z h = (version_missing, refl, is_whole z ∙ (join z v (hops_of hops) (hops_of rest)).1.1 h)

  -- and a part is where the whole is
  part_missing : (z : roads.Doc) → Refuses (road z v (hops_of (hops ++ rest))) unfit_error → part_refused z
  part_missing z m = (join z v (hops_of hops) (hops_of rest)).1.0 (sym (is_whole z) ∙ owes_missing (road z v (hops_of (hops ++ rest))) m)

  module _ (x : Doc) (y : roads.Doc) (is : IsDoc x y) where
    pub parts_join : (docs more : List Doc) → AnswersRoad x v hops (Ok docs) → AnswersRoad (end_doc x docs) (end_version v hops) rest (Ok more) → AnswersRoad x v (hops ++ rest) (Ok (docs ++ more))
    parts_join docs more a b z i =
        let p = a z i in
        let q = b (schema.end_doc z p.0) (last_there x z docs p.0 i p.2) in
        (p.0 ++ q.0, is_whole z ∙ (join z v (hops_of hops) (hops_of rest)).0 p.0 q.0 p.1 q.1, both_there docs more p.0 q.0 p.2 q.2)

    pub first_misses : Misses x v hops → Misses x v (hops ++ rest)
    first_misses m z i = whole_missing z (inl (owes_missing (road z v (hops_of hops)) (m z i)))

    second_is : (docs : List Doc) → AnswersRoad x v hops (Ok docs) → Misses x v (hops ++ rest) → Misses (end_doc x docs) (end_version v hops) rest
    second_is docs a m w j =
        let p = a y is in
        let same : schema.end_doc y p.0 ≡ w = same_doc (end_doc x docs) (schema.end_doc y p.0) w (last_there x y docs p.0 is p.2) j in
        subst (λ u. Refuses (road u (end_version v hops) (hops_of rest)) unfit_error) same (by p.0 p.1 (part_missing y (m y is)))
      where
        by : (ys : List roads.Doc) → road y v (hops_of hops) ≡ Ok ys → part_refused y → Refuses (road (schema.end_doc y ys) (end_version v hops) (hops_of rest)) unfit_error
        by ys e (inl h) = absurd cc
        by ys e (inr h) = let same : h.0 ≡ ys = cc in (version_missing, refl, subst (λ us. road (schema.end_doc y us) (end_version v hops) (hops_of rest) ≡ Err version_missing) same h.2)

    whole_is : (docs : List Doc) → AnswersRoad x v hops (Ok docs) → Misses (end_doc x docs) (end_version v hops) rest → Misses x v (hops ++ rest)
    whole_is docs a m z i =
        let p = a z i in
        whole_missing z (inr (p.0, p.1, owes_missing (road (schema.end_doc z p.0) (end_version v hops) (hops_of rest)) (m (schema.end_doc z p.0) (last_there x z docs p.0 i p.2))))

    pub second_misses : (docs : List Doc) → AnswersRoad x v hops (Ok docs) → Misses x v (hops ++ rest) ↔ Misses (end_doc x docs) (end_version v hops) rest
    second_misses docs a = (second_is docs a, whole_is docs a)

    pub no_third : (e : RoadError) → Misses x v (hops ++ rest) → AnswersRoad x v hops (Err e) → is_memory e ≡ false → Misses x v hops
    no_third e m a h z i = (version_missing, refl, by (part_missing z (m z i)) (a z i))
      where
        refused : (f : RoadError) (owed : Result (List roads.Doc) Refusal) (ys : List roads.Doc) → is_memory f ≡ false → Refuses owed f → owed ≡ Ok ys → ⊥
        refused (error.Memory q) owed ys n r o = absurd cc
        refused (error.Json q) owed ys n r o = let wrong : owed ≡ Err r.0 = r.2 in absurd cc
        refused (error.Xml q) owed ys n r o = let wrong : owed ≡ Err r.0 = r.2 in absurd cc
        refused (error.Bom q) owed ys n r o = let wrong : owed ≡ Err r.0 = r.2 in absurd cc

        by : part_refused z → Refuses (road z v (hops_of hops)) e → road z v (hops_of hops) ≡ Err version_missing
        by (inl p) r = p
        by (inr p) r = absurd (refused e (road z v (hops_of hops)) p.0 h r p.1)
