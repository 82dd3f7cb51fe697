-- What is read as a document, a hop or a request is the value that writes it.
use Rattle.std.proofs.Common.{◌≡◌, ℕ, ◌==◌, List, codes, Bool, true, false, if◌then◌else◌, Option, Some, None, Result, Ok, Err, Ordering, Less, Equal, Greater, nat_cmp, bytes_eq, refl, sym, ap, subst, ◌∙◌, arith}
use Rattle.std.specs.Ordering.{match_ordering}
use Rattle.std.specs.Cmp.Lexicographic.{slice_cmp}
use Rattle.std.proofs.lemmas.Slice.Eq.{bytes_eq-Decides}
use Rattle.serde_json.specs.Data.{Data, null, boolean, number, string, array, object, Members, no_members, member}
use Rattle.serde_json.specs.Find.{get, get_member, as_str, as_array}
use Rattle.serde_json.specs.Events.{members_len}
use Rattle.cdx_events.specs.declared.event.XmlEvent.{XmlEvent}
use Rattle.cdx_events.specs.Balance.{OpenElement}
use Rattle.cdx_events.specs.Root.{root_of, node_of}
use Rattle.cdx_events.proofs.RootLaws.{root_whole}
use Rattle.cdx_models.specs.declared.bom.SpecVersion.{SpecVersion}
use Rattle.cdx_models.specs.declared.bom.SpecVersion.TheVariants.{V1_3, V1_4, V1_5}
use Rattle.cdx_models.specs.Versions.{label, version_of}
use Rattle.cdx_schema.specs.Trips.{Form, in_json, in_xml, Hop}
use Rattle.cdx_schema.specs.Roads.{Doc, json, xml}
use Rattle.cdx_request.specs.Parts.{◌>>=◌, member_count, text_at, version_at, all_in}
use Rattle.cdx_request.specs.EventReading.{events_in}
use Rattle.cdx_request.specs.Refusals.{only}
use Rattle.cdx_request.specs.Requests.{Misread, Sent, sent_value, sent_events, sent_under, sent_of, rooted, doc_of, doc_if, form_named, hop_parts, hop_meant, hops_at, Request, Asked, asked_parts, asked_of, asking, request_if}
use Rattle.cdx_request.specs.RequestValues.{form_word, hop_value, sent, asked}
use Rattle.cdx_request.specs.SameValues.{HoldsTheSame}
use Rattle.cdx_request.specs.Alone.{WritesSent, WritesAsked, SentAlone, DocsAlone, HopsAlone, AskedAlone, RequestsAlone}
use Rattle.cdx_request.proofs.AnswerFloats.{same_ok}
use Rattle.cdx_request.proofs.Finding.{count, given, made, tested, same_some, Has, same_name, is_string, is_array, text_held, all_alone, same_items}
use Rattle.cdx_request.proofs.EventsAlone.{events_alone}

-- ---- documents

one_member : (d : Data) → (member_count d == 1) ≡ true → (k : List ℕ) × (v : Data) × (d ≡ only k v)
one_member (object (member k v no_members)) e = (k, v, refl)
one_member (object (member k v (member l w ms))) e = let many = count (member_count (object (member k v (member l w ms)))) 1 e in absurd (omega arith)
one_member (object no_members) e = absurd cc
one_member null e = absurd cc
one_member (boolean b) e = absurd cc
one_member (number n) e = absurd cc
one_member (string s) e = absurd cc
one_member (array ds) e = absurd cc

found_only : (q k : List ℕ) (v x : Data) → get_member q (member k v no_members) ≡ Some x → only k v ≡ only q x
found_only q k v x = by (slice_cmp nat_cmp q k) refl
  where
    by : (o : Ordering) → slice_cmp nat_cmp q k ≡ o → match_ordering o None (Some v) None ≡ Some x → only k v ≡ only q x
    by Less is e = absurd cc
    by Greater is e = absurd cc
    by Equal is e = ap (λ (k : List ℕ). only k v) (sym (same_name q k is)) ∙ ap (only q) (same_some v x e)

sent_held : (k : List ℕ) (v : Data) (s : Sent) → sent_under (get (codes "json") (only k v)) (get (codes "xml") (only k v)) ≡ Some s → WritesSent (only k v) s
sent_held k v s = by (get (codes "json") (only k v)) (get (codes "xml") (only k v)) refl refl
  where
    by : (a b : Option Data) → get (codes "json") (only k v) ≡ a → get (codes "xml") (only k v) ≡ b → sent_under a b ≡ Some s → WritesSent (only k v) s
    by (Some x) b p q e = subst (λ (s : Sent). WritesSent (only k v) s) (same_some (sent_value x) s e) (found_only (codes "json") k v x p)
    by None (Some x) p q e =
        let events = made (λ es. sent_events es) (events_in x) s e in
        subst (λ (s : Sent). WritesSent (only k v) s) events.2 (x, found_only (codes "xml") k v x q, events_alone x events.0 events.1)
    by None None p q e = absurd cc

pub sent_alone : SentAlone
sent_alone d s e =
    let t = tested (member_count d == 1) (sent_under (get (codes "json") d) (get (codes "xml") d)) s e in
    let m = one_member d t.0 in
    subst (λ (d : Data). WritesSent d s) (sym m.2) (sent_held m.0 m.1 s (subst (λ (d : Data). sent_under (get (codes "json") d) (get (codes "xml") d) ≡ Some s) m.2 t.1))

-- events with a root are those of its document
rooted_is : (es : List XmlEvent) (o : Option OpenElement) (x : Doc) → root_of es ≡ o → rooted es o ≡ Ok x → sent_events es ≡ sent x
rooted_is es None x is e = absurd cc
rooted_is es (Some root) x is e = ap (λ (es : List XmlEvent). sent_events es) (root_whole es root is) ∙ ap sent (same_ok (xml (node_of root)) x e)

doc_is : (s : Sent) (x : Doc) → doc_of s ≡ Ok x → s ≡ sent x
doc_is (sent_value v) x e = ap sent (same_ok (json v) x e)
doc_is (sent_events es) x e = rooted_is es (root_of es) x refl e

pub docs_alone : DocsAlone
docs_alone d x = by (sent_of d) refl
  where
    by : (o : Option Sent) → sent_of d ≡ o → doc_if o ≡ Ok x → WritesSent d (sent x)
    by None is e = absurd cc
    by (Some s) is e = subst (λ (s : Sent). WritesSent d s) (doc_is s x e) (sent_alone d s is)

-- ---- hops

form_is : (s : List ℕ) (f : Form) → form_named s ≡ Some f → s ≡ form_word f
form_is s f = by (bytes_eq s (codes "json")) (bytes_eq s (codes "xml")) refl refl
  where
    by : (b c : Bool) → bytes_eq s (codes "json") ≡ b → bytes_eq s (codes "xml") ≡ c → (if b then Some in_json else (if c then Some in_xml else None)) ≡ Some f → s ≡ form_word f
    by true c p q e = (bytes_eq-Decides s (codes "json")).0 p ∙ ap form_word (same_some in_json f e)
    by false true p q e = (bytes_eq-Decides s (codes "xml")).0 q ∙ ap form_word (same_some in_xml f e)
    by false false p q e = absurd cc

version_is : (s : List ℕ) (v : SpecVersion) → version_of s ≡ Some v → s ≡ label v
version_is s v = by (bytes_eq s (label V1_3)) (bytes_eq s (label V1_4)) (bytes_eq s (label V1_5)) refl refl refl
  where
    by : (a b c : Bool) → bytes_eq s (label V1_3) ≡ a → bytes_eq s (label V1_4) ≡ b → bytes_eq s (label V1_5) ≡ c → (if a then Some V1_3 else (if b then Some V1_4 else (if c then Some V1_5 else None))) ≡ Some v → s ≡ label v
    by true b c p q r e = (bytes_eq-Decides s (label V1_3)).0 p ∙ ap label (same_some V1_3 v e)
    by false true c p q r e = (bytes_eq-Decides s (label V1_4)).0 q ∙ ap label (same_some V1_4 v e)
    by false false true p q r e = (bytes_eq-Decides s (label V1_5)).0 r ∙ ap label (same_some V1_5 v e)
    by false false false p q r e = absurd cc

hop_held : (ds : Members) (h : Hop) → hop_meant (object ds) ≡ Some h → HoldsTheSame (object ds) (hop_value h)
hop_held ds h e =
    let t = tested (members_len ds == 2) (hop_parts (object ds)) h e in
    let form = given (text_at (codes "form") (object ds) >>= form_named) _ h t.1 in
    let word = given (text_at (codes "form") (object ds)) form_named form.0 form.1 in
    let version = given (version_at (codes "version") (object ds)) _ h form.2 in
    let name = given (text_at (codes "version") (object ds)) version_of version.0 version.1 in
    subst (λ (h : Hop). HoldsTheSame (object ds) (hop_value h)) (same_some (record { form = form.0; version = version.0 }) h version.2) (
      count (members_len ds) 2 t.0,
      (
        subst (λ (s : List ℕ). Has ds (codes "form") (string s)) (form_is word.0 form.0 word.2) (text_held (codes "form") ds word.0 word.1),
        (
          subst (λ (s : List ℕ). Has ds (codes "version") (string s)) (version_is name.0 version.0 name.2) (text_held (codes "version") ds name.0 name.1),
          tt,
        ),
      ),
    )

pub hops_alone : HopsAlone
hops_alone (object ds) h e = hop_held ds h e
hops_alone null h e = absurd cc
hops_alone (boolean b) h e = absurd cc
hops_alone (number n) h e = absurd cc
hops_alone (string s) h e = absurd cc
hops_alone (array ds) h e = absurd cc

-- ---- requests

labelled : (k : List ℕ) (d : Data) (v : SpecVersion) → version_at k d ≡ Some v → get k d ≡ Some (string (label v))
labelled k d v e =
    let name = given (text_at k d) version_of v e in
    let text = given (get k d) as_str name.0 name.1 in
    text.1 ∙ ap (λ (x : Data). Some x) (is_string text.0 name.0 text.2) ∙ ap (λ (s : List ℕ). Some (string s)) (version_is name.0 v name.2)

pub asked_alone : AskedAlone
asked_alone d a e =
    let t = tested (member_count d == 3) (asked_parts d) a e in
    let from = given (version_at (codes "from") d) _ a t.1 in
    let sent = given (get (codes "doc") d >>= sent_of) _ a from.2 in
    let doc = given (get (codes "doc") d) sent_of sent.0 sent.1 in
    let hops = given (hops_at d) _ a sent.2 in
    let items = given (get (codes "hops") d >>= as_array) (all_in hop_meant) hops.0 hops.1 in
    let list = given (get (codes "hops") d) as_array items.0 items.1 in
    subst (λ (a : Asked). WritesAsked d a) (same_some (record { from = from.0; sent = sent.0; hops = hops.0 }) a hops.2) (record {
      three = count (member_count d) 3 t.0;
      from = labelled (codes "from") d from.0 from.1;
      doc = (doc.0, doc.1, sent_alone doc.0 sent.0 doc.2);
      hops = (
        array items.0,
        list.1 ∙ ap (λ (x : Data). Some x) (is_array list.0 items.0 list.2),
        same_items hop_value items.0 hops.0 (all_alone (λ x h. HoldsTheSame x (hop_value h)) hop_meant hops_alone items.0 hops.0 items.2),
      );
    })

asked_is : (a : Asked) (r : Request) → request_if (Some a) ≡ Ok r → a ≡ asked r
asked_is a r = by (doc_of a.sent) refl
  where
    by : (o : Result Doc Misread) → doc_of a.sent ≡ o → asking a.from a.hops o ≡ Ok r → a ≡ asked r
    by (Err f) is e = absurd cc
    by (Ok x) is e =
        ap (λ (s : Sent). record { from = a.from; sent = s; hops = a.hops }) (doc_is a.sent x is) ∙ ap asked (same_ok (record { from = a.from; doc = x; hops = a.hops }) r e)

pub requests_alone : RequestsAlone
requests_alone d r = by (asked_of d) refl
  where
    by : (o : Option Asked) → asked_of d ≡ o → request_if o ≡ Ok r → WritesAsked d (asked r)
    by None is e = absurd cc
    by (Some a) is e = subst (λ (a : Asked). WritesAsked d a) (asked_is a r e) (asked_alone d a is)
