-- Documents and requests that are written as JSON values are read back.
use Rattle.std.proofs.Common.{◌≡◌, List, [], ◌∷◌, true, Option, Some, None, option_map, Result, Ok, Err, refl, sym, ap, subst, ◌∙◌}
use Rattle.std.specs.List.{list_all}
use Rattle.cdx_events.specs.declared.event.XmlEvent.{XmlEvent}
use Rattle.cdx_events.specs.Balance.{OpenElement}
use Rattle.cdx_events.specs.Nodes.{characters, cdata, element, document}
use Rattle.cdx_events.specs.Root.{root_of}
use Rattle.cdx_events.proofs.RootLaws.{root_is}
use Rattle.cdx_models.specs.declared.bom.SpecVersion.{SpecVersion}
use Rattle.cdx_models.specs.declared.bom.SpecVersion.TheVariants.{V1_3, V1_4, V1_5}
use Rattle.cdx_models.specs.Versions.{label, version_of}
use Rattle.cdx_models.specs.Trees.{Tree}
use Rattle.cdx_schema.specs.Kinds.{a_bill}
use Rattle.cdx_schema.specs.Keeping.{keep}
use Rattle.cdx_schema.specs.Trips.{Form, in_json, in_xml, Hop}
use Rattle.cdx_schema.specs.Roads.{Doc, json, xml, denotes, document_of, fits_all, hops_from}
use Rattle.cdx_request.specs.Requests.{Misread, Sent, sent_value, sent_events, rooted, doc_of, doc_if, sent_of, hop_meant, Request, Asked, asking, request_if, asked_of}
use Rattle.cdx_request.specs.Replies.{doc_value}
use Rattle.cdx_request.specs.RequestValues.{has_root, hop_value, request_value, sent, asked}
use Rattle.cdx_request.specs.Served.{DocsBack, RequestsBack, AskedHaveRoots, AnsweredHaveRoots}
use Rattle.cdx_request.proofs.EventsBack.{all_back, events_back}
use Rattle.cdx_request.proofs.AnswerFloats.{bound, same_ok, chosen}

-- ---- documents

sent_back : (d : Doc) → sent_of (doc_value d) ≡ Some (sent d)
sent_back (json x) = refl
sent_back (xml root) = ap (option_map (λ (es : List XmlEvent). sent_events es)) (events_back (document root))

rooted_back : (d : Doc) → has_root d ≡ true → doc_of (sent d) ≡ Ok d
rooted_back (json x) h = refl
rooted_back (xml (element n a s nodes)) h = ap (rooted (document (element n a s nodes))) (root_is n a s nodes)
rooted_back (xml (characters t)) h = cc
rooted_back (xml (cdata t)) h = cc

pub docs_back : DocsBack
docs_back d h = ap doc_if (sent_back d) ∙ rooted_back d h

-- ---- requests

version_back : (v : SpecVersion) → version_of (label v) ≡ Some v
version_back V1_3 = refl
version_back V1_4 = refl
version_back V1_5 = refl

hop_back : (h : Hop) → hop_meant (hop_value h) ≡ Some h
hop_back h = by h.form h.version
  where
    by : (f : Form) (v : SpecVersion) → hop_meant (hop_value (record { form = f; version = v })) ≡ Some (record { form = f; version = v })
    by in_json v = rw (version_back v) refl
    by in_xml v = rw (version_back v) refl

asked_back : (r : Request) → asked_of (request_value r) ≡ Some (asked r)
asked_back r = rw (version_back r.from, sent_back r.doc, all_back hop_value hop_meant hop_back r.hops) refl

pub requests_back : RequestsBack
requests_back r h = ap request_if (asked_back r) ∙ ap (asking r.from r.hops) (rooted_back r.doc h)

-- ---- roots

rooted_has : (es : List XmlEvent) (o : Option OpenElement) (d : Doc) → rooted es o ≡ Ok d → has_root d ≡ true
rooted_has es None d h = cc
rooted_has es (Some root) d h = subst (λ (d : Doc). has_root d ≡ true) (same_ok _ d h) refl

doc_has : (s : Sent) (d : Doc) → doc_of s ≡ Ok d → has_root d ≡ true
doc_has (sent_value x) d h = subst (λ (d : Doc). has_root d ≡ true) (same_ok _ d h) refl
doc_has (sent_events es) d h = rooted_has es (root_of es) d h

asking_has : (v : SpecVersion) (hops : List Hop) (o : Result Doc Misread) (r : Request) → asking v hops o ≡ Ok r → o ≡ Ok r.doc
asking_has v hops (Err e) r h = cc
asking_has v hops (Ok d) r h = ap (λ (r : Request). Ok r.doc) (same_ok _ r h)

request_has : (o : Option Asked) (r : Request) → request_if o ≡ Ok r → has_root r.doc ≡ true
request_has None r h = cc
request_has (Some a) r h = doc_has a.sent r.doc (asking_has a.from a.hops (doc_of a.sent) r h)

pub asked_have_roots : AskedHaveRoots
asked_have_roots d r h = request_has (asked_of d) r h

written_has : (f : Form) (w : SpecVersion) (b : Tree) → has_root (document_of f w b) ≡ true
written_has in_json w b = refl
written_has in_xml w b = refl

docs_have : (hs : List Hop) (x : Doc) (v : SpecVersion) (docs : List Doc) → hops_from x v hs ≡ Ok docs → list_all has_root docs ≡ true
docs_have [] x v docs h = rw (sym (same_ok [] docs h)) refl
docs_have (g ∷ hs) x v docs h =
    let b = bound (denotes x v) _ docs h in
    let kept_bill = keep g.version b.0 a_bill in
    let doc = document_of g.form g.version kept_bill in
    let r = bound (hops_from doc g.version hs) (λ rest. Ok (doc ∷ rest)) docs b.2 in
    subst (λ (docs : List Doc). list_all has_root docs ≡ true) (same_ok (doc ∷ r.0) docs r.2)
    (rw (written_has g.form g.version kept_bill) (docs_have hs doc g.version r.0 r.1))

pub answered_have_roots : AnsweredHaveRoots
answered_have_roots x v hops docs h =
    let b = bound (denotes x v) _ docs h in
    docs_have hops x v docs (chosen (fits_all hops b.0) (hops_from x v hops) _ docs b.2)
