-- A value read part by part is the hop or the document that it stands for.
use Rattle.std.proofs.Common.{◌≡◌, ℕ, List, ◌∷◌, Bool, true, false, cond, eqb, codes, Option, Some, None, option_map, Result, Ok, Err, IfOk, refl, sym, ap, ◌∙◌}
use Rattle.std.specs.Option.{option_and_then}
use Rattle.std.specs.Str.{bytes_eq}
use Rattle.serde_json.specs.Data.{Data, Items, no_items, item}
use Rattle.serde_json.specs.Find.{get, as_array}
use Rattle.cdx_events.specs.declared.event.XmlEvent.{XmlEvent}
use Rattle.cdx_events.specs.Balance.{OpenElement}
use Rattle.cdx_events.specs.Nodes.{Node, element, document, IsBalanced, IsBroken}
use Rattle.cdx_events.specs.Root.{root_of}
use Rattle.cdx_events.proofs.RootLaws.{root_is, root_whole}
use Rattle.cdx_models.specs.declared.bom.SpecVersion.{SpecVersion}
use Rattle.cdx_schema.specs.Trips as trips
use Rattle.cdx_schema.specs.Roads as roads
use Rattle.cdx_bom.specs.declared.doc.Form.{Form}
use Rattle.cdx_bom.specs.declared.doc.Hop.{Hop}
use Rattle.cdx_bom.specs.Docs as shown
use Rattle.cdx_request.specs.Parts.{member_count, text_at, version_at, all_in}
use Rattle.cdx_request.specs.Breaks.{BreaksLaw}
use Rattle.cdx_request.specs.Requests.{Misread, unbalanced, rooted, form_named, hop_meant, hops_at}
use Rattle.cdx_tool.specs.Reads.{form_in, hop_in}

-- ---- hops

form_is : (s : List ℕ) → option_map shown.form_of (form_in s) ≡ form_named s
form_is s = by (bytes_eq s (codes "json")) (bytes_eq s (codes "xml"))
  where
    by : (a b : Bool) → option_map shown.form_of (cond a (Some Form.Json) (cond b (Some Form.Xml) None)) ≡ cond a (Some trips.in_json) (cond b (Some trips.in_xml) None)
    by true b = refl
    by false true = refl
    by false false = refl

parts_are : (f : Option Form) (g : Option trips.Form) (v : Option SpecVersion) → option_map shown.form_of f ≡ g
    → option_map shown.hop_of (option_and_then (λ (form : Form). option_and_then (λ version. let h : Hop = record { form = form; version = version } in Some h) v) f)
    ≡ option_and_then (λ (form : trips.Form). option_and_then (λ version. let h : trips.Hop = record { form = form; version = version } in Some h) v) g
parts_are None g v e = rw (sym e) refl
parts_are (Some f) g None e = rw (sym e) refl
parts_are (Some f) g (Some v) e = rw (sym e) refl

forms_are : (o : Option (List ℕ)) → option_map shown.form_of (option_and_then form_in o) ≡ option_and_then form_named o
forms_are None = refl
forms_are (Some s) = form_is s

hop_is : (d : Data) → option_map shown.hop_of (hop_in d) ≡ hop_meant d
hop_is d = by (eqb (member_count d) 2)
  where
    by : (b : Bool)
        → option_map shown.hop_of (cond b (option_and_then (λ (form : Form). option_and_then (λ version. let h : Hop = record { form = form; version = version } in Some h) (version_at (codes "version") d)) (option_and_then form_in (text_at (codes "form") d))) None)
        ≡ cond b (option_and_then (λ (form : trips.Form). option_and_then (λ version. let h : trips.Hop = record { form = form; version = version } in Some h) (version_at (codes "version") d)) (option_and_then form_named (text_at (codes "form") d))) None
    by true = parts_are (option_and_then form_in (text_at (codes "form") d)) (option_and_then form_named (text_at (codes "form") d)) (version_at (codes "version") d) (forms_are (text_at (codes "form") d))
    by false = refl

hops_are : (ds : Items) → option_map shown.hops_of (all_in hop_in ds) ≡ all_in hop_meant ds
hops_are no_items = refl
hops_are (item d ds) = more (hop_in d) (hop_meant d) (all_in hop_in ds) (all_in hop_meant ds) (hop_is d) (hops_are ds)
  where
    more : (h : Option Hop) (g : Option trips.Hop) (hs : Option (List Hop)) (gs : Option (List trips.Hop)) → option_map shown.hop_of h ≡ g → option_map shown.hops_of hs ≡ gs
        → option_map shown.hops_of (option_and_then (λ x. option_and_then (λ xs. Some (x ∷ xs)) hs) h) ≡ option_and_then (λ x. option_and_then (λ xs. Some (x ∷ xs)) gs) g
    more None g hs gs p q = rw (sym p) refl
    more (Some h) g None gs p q = rw (sym p, sym q) refl
    more (Some h) g (Some hs) gs p q = rw (sym p, sym q) refl

-- the hops of an array
pub hops_read : {E : Type 0} (r : Result (Option (List Hop)) E) (d : Data) (ds : Items) → Some ds ≡ option_and_then as_array (get (codes "hops") d) → IfOk r (λ o. o ≡ all_in hop_in ds) → IfOk r (λ o. option_map shown.hops_of o ≡ hops_at d)
hops_read (Ok o) d ds is h = ap (option_map shown.hops_of) h ∙ hops_are ds ∙ ap (option_and_then (all_in hop_meant)) is
hops_read (Err e) d ds is h = tt

-- ---- the document

-- events that are balanced are a document
pub balanced_is : (list events : List XmlEvent) → events ≡ list → IsBalanced list → (root : Node) × (rooted list (root_of list) ≡ Ok (roads.xml root)) × (events ≡ document root)
balanced_is list events same b =
    let root = element b.name b.attributes b.namespace b.nodes in
    (root, ap (rooted list) (ap root_of b.whole ∙ root_is b.name b.attributes b.namespace b.nodes), same ∙ b.whole)

-- and events that break aren't
pub broken_is : (list : List XmlEvent) (place : ℕ) → BreaksLaw → IsBroken list place → rooted list (root_of list) ≡ Err (unbalanced place)
broken_is list place law b = by (root_of list) refl
  where
    by : (o : Option OpenElement) → root_of list ≡ o → rooted list o ≡ Err (unbalanced place)
    by None is = ap (λ (n : ℕ). let r : Result roads.Doc Misread = Err (unbalanced n) in r) (sym ((law list).1 place b))
    by (Some r) is = absurd (b.unbalanced (record { name = r.name; attributes = r.attributes; namespace = r.namespace; nodes = r.before; whole = root_whole list r is }))
