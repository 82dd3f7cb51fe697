-- What is answered is the reply that is owed.
use Rattle.std.proofs.Common.{◌≡◌, List, [], ◌∷◌, length, map, codes, Some, Result, Err, refl, sym, ap}
use Rattle.std.specs.declared.alloc.AllocError.{AllocError}
use Rattle.cdx_models.specs.Trees.{Tree}
use Rattle.cdx_schema.specs.Kinds.{a_bill}
use Rattle.cdx_schema.specs.Keeping.{keep}
use Rattle.cdx_schema.specs.Roads as roads
use Rattle.cdx_schema.specs.Roads.{Refusal, document_of}
use Rattle.cdx_bom.specs.declared.doc.Doc.{Doc}
use Rattle.cdx_bom.specs.declared.doc.Doc.TheVariants.{Json, Xml}
use Rattle.cdx_bom.specs.declared.doc.Form.TheVariants as form
use Rattle.cdx_bom.specs.declared.doc.Hop.{Hop}
use Rattle.cdx_bom.specs.declared.doc.RoadError.{RoadError}
use Rattle.cdx_bom.specs.declared.doc.RoadError.TheVariants as error
use Rattle.cdx_bom.specs.Docs.{AreDocs, IsDoc, Refuses, form_of, hop_of, refusal_of}
use Rattle.cdx_bom.specs.Hops.{hop_document}
use Rattle.cdx_bom.specs.Outputs.{kept_json}
use Rattle.cdx_bom.specs.BillWriting.{document_in}
use Rattle.cdx_request.specs.EventValues.{events_value}
use Rattle.cdx_request.specs.Refusals.{only}
use Rattle.cdx_request.specs.Replies.{doc_value}
use Rattle.cdx_tool.specs.Shows.{doc_shown}

-- a document is written as its like in the schema
doc_is : (d : Doc) (x : roads.Doc) → IsDoc d x → doc_shown d ≡ doc_value x
doc_is (Json value) (roads.json x) is = rw is refl
doc_is (Json value) (roads.xml root) is = absurd is
doc_is (Xml events) (roads.json x) is = absurd is
doc_is (Xml events) (roads.xml root) is = rw is refl

pub docs_are : (ds : List Doc) (xs : List roads.Doc) → AreDocs ds xs → map doc_shown ds ≡ map doc_value xs
docs_are [] [] are = refl
docs_are [] (x ∷ xs) are = absurd are
docs_are (d ∷ ds) [] are = absurd are
docs_are (d ∷ ds) (x ∷ xs) are = rw (doc_is d x are.0, docs_are ds xs are.1) refl

-- an error other than want of memory is the refusal that is owed
pub refuses : (owed : Result (List roads.Doc) Refusal) (e : RoadError) → ((m : AllocError) → e ≡ error.Memory m → ⊥) → Refuses owed e → (r : Refusal) × (refusal_of e ≡ Some r) × (owed ≡ Err r)
refuses owed (error.Json f) other h = h
refuses owed (error.Xml f) other h = h
refuses owed (error.Bom f) other h = h
refuses owed (error.Memory m) other h = absurd (other m refl)

-- documents beside two are two
pub two_docs : (ds : List Doc) (x y : roads.Doc) → AreDocs ds (x ∷ y ∷ []) → length ds ≡ 2
two_docs [] x y are = absurd are
two_docs (d ∷ []) x y are = absurd are.1
two_docs (d ∷ e ∷ []) x y are = refl
two_docs (d ∷ e ∷ f ∷ ds) x y are = absurd are.1.1

-- ---- the document of a hop

module _ (b : Tree) (h : Hop) where
  pub in_json : h.form ≡ form.Json → only (codes "json") (kept_json h.version b) ≡ doc_value (hop_document b (hop_of h))
  in_json is = ap (λ f. doc_value (document_of (form_of f) h.version (keep h.version b a_bill))) (sym is)

  pub in_xml : h.form ≡ form.Xml → only (codes "xml") (events_value (document_in h.version b)) ≡ doc_value (hop_document b (hop_of h))
  in_xml is = ap (λ f. doc_value (document_of (form_of f) h.version (keep h.version b a_bill))) (sym is)
