-- Steps of a road.
use Rattle.std.proofs.Common.{◌≡◌, refl, sym, ap, subst, ◌∙◌, List, [], ◌∷◌, ◌++◌, Bool, true, false, true≢false, is_some, Some, None, Result, Ok, Err}
use Rattle.std.specs.Prelude.{not, ◌&&◌, ◌||◌, if◌then◌else◌}
use Rattle.serde_json.specs.View.{view}
use Rattle.serde_json.specs.declared.value.Value.{Value}
use Rattle.cdx_events.specs.declared.events.Events.{Events}
use Rattle.cdx_models.specs.declared.bom.SpecVersion.{SpecVersion}
use Rattle.cdx_models.specs.declared.errors.JsonReadError.{JsonReadError}
use Rattle.cdx_models.specs.declared.errors.JsonReadError.TheVariants as in_json
use Rattle.cdx_models.specs.declared.errors.XmlReadError.{XmlReadError}
use Rattle.cdx_models.specs.declared.errors.XmlReadError.TheVariants.{ElementReadError, UnexpectedElementReadError, RequiredDataMissing, RequiredAttributeMissing, InvalidParseError, InvalidNamespaceError, TooDeep, Memory}
use mathlib.Core.Bool.{and-true}
use Rattle.cdx_models.specs.Trees.{Tree, metadata, present}
use Rattle.cdx_models.specs.Versions.{is_first}
use Rattle.cdx_schema.specs.Faults.{JsonFault}
use Rattle.cdx_schema.specs.Kinds.{components, services, a_list, a_record, a_bill}
use Rattle.cdx_schema.specs.Table.{rows}
use Rattle.cdx_schema.specs.Keeping.{keep, fits, has_versions}
use Rattle.cdx_schema.specs.JsonReading.{json_denotes}
use Rattle.cdx_schema.specs.XmlReading.{xml_denotes}
use Rattle.cdx_schema.specs.Results.{◌>>=◌}
use Rattle.cdx_schema.specs.Trips as trips
use Rattle.cdx_schema.specs.Roads as roads
use Rattle.cdx_schema.specs.Roads.{Refusal, document_of, of_json, of_xml, version_missing, from_json, from_xml, denotes, fits_all, hops_from, road}
use Rattle.cdx_schema.proofs.Stated.{json_back, denotes_shapes}
use Rattle.cdx_schema.proofs.Basics.{some_same}
use Rattle.cdx_schema.proofs.JsonBack.{and_true}
use Rattle.cdx_trips.specs.Surviving.{survives}
use Rattle.cdx_trips.proofs.Untouched.{comes_back as trip_back}
use Rattle.cdx_nest.specs.Nested.{components_tree, services_tree}
use Rattle.cdx_nest.specs.Trees.{metadata_tree}
use Rattle.cdx_leaf.specs.Reading.{ReadsRoot}
use Rattle.cdx_json.specs.Gives.{Fails}
use Rattle.cdx_leaf.specs.Fault as leaf
use Rattle.cdx_bom.specs.declared.bom.Bom.{Bom}
use Rattle.cdx_bom.specs.declared.doc.Doc.{Doc}
use Rattle.cdx_bom.specs.declared.doc.Doc.TheVariants as doc
use Rattle.cdx_bom.specs.declared.doc.Hop.{Hop}
use Rattle.cdx_bom.specs.declared.doc.RoadError.{RoadError}
use Rattle.cdx_bom.specs.declared.doc.RoadError.TheVariants as error
use Rattle.cdx_bom.specs.Trees.{bom_tree}
use Rattle.cdx_bom.specs.Docs.{IsDoc, AreDocs, refusal_of, Refuses, AnswersDocs, alone, hop_of, hops_of}
use Rattle.cdx_bom.specs.Refused.{of_json_error, of_xml_error}
use Rattle.cdx_bom.specs.Hops.{any_first, DenotesBill, hop_document, IsDenoted, stands_in, comes_back, coming_back, next_of, AnswersStart}

-- ---- refusals

-- what is refused in a first step is refused in all
pub refused_on : {A B : Type 0} (e : RoadError) (r : Result A Refusal) (f : A → Result B Refusal) → Refuses r e → Refuses (r >>= f) e
refused_on (error.Memory m) r f h = tt
refused_on (error.Json e) r f h = (h.0, h.1, ap (λ q. q >>= f) h.2)
refused_on (error.Xml e) r f h = (h.0, h.1, ap (λ q. q >>= f) h.2)
refused_on (error.Bom e) r f h = (h.0, h.1, ap (λ q. q >>= f) h.2)

-- and what is equal to that is refused as well
pub refused_as : {A B : Type 0} (e : RoadError) (r : Result A Refusal) (q : Result B Refusal) → ((f : Refusal) → r ≡ Err f → q ≡ Err f) → Refuses r e → Refuses q e
refused_as (error.Memory m) r q g h = tt
refused_as (error.Json e) r q g h = (h.0, h.1, g h.0 h.2)
refused_as (error.Xml e) r q g h = (h.0, h.1, g h.0 h.2)
refused_as (error.Bom e) r q g h = (h.0, h.1, g h.0 h.2)

-- ---- readers

json_refuses : {A : Type 0} (e : JsonReadError) (owed : Result A JsonFault) → Fails e owed → Refuses (from_json owed) (of_json_error e)
json_refuses (in_json.Memory m) owed h = tt
json_refuses (in_json.BomError b) owed h = absurd h
json_refuses (in_json.JsonElementReadError path kind) owed h = (of_json (record { path = path.0; cause = kind }), refl, ap from_json h)

xml_refuses : (e : XmlReadError) (owed : Result Tree XmlReadError) → leaf.Denotes bom_tree owed (Err e) → Refuses (from_xml owed) (of_xml_error e)
xml_refuses (Memory m) owed h = tt
xml_refuses (ElementReadError k p) owed h = (of_xml (ElementReadError k p), refl, ap from_xml h)
xml_refuses (UnexpectedElementReadError p el k) owed h = (of_xml (UnexpectedElementReadError p el k), refl, ap from_xml h)
xml_refuses (RequiredDataMissing p el k) owed h = (of_xml (RequiredDataMissing p el k), refl, ap from_xml h)
xml_refuses (RequiredAttributeMissing p el k) owed h = (of_xml (RequiredAttributeMissing p el k), refl, ap from_xml h)
xml_refuses (InvalidParseError p el k t) owed h = (of_xml (InvalidParseError p el k t), refl, ap from_xml h)
xml_refuses (InvalidNamespaceError x y) owed h = (of_xml (InvalidNamespaceError x y), refl, ap from_xml h)
xml_refuses (TooDeep p) owed h = (of_xml (TooDeep p), refl, ap from_xml h)

-- The error that a reader has answered is the document's refusal.
pub json_fault : (d : Doc) (value : Value) (x : roads.Doc) (v : SpecVersion) (e : JsonReadError) → d ≡ doc.Json value → IsDoc d x → Fails e (json_denotes (view value) v) → Refuses (denotes x v) (of_json_error e)
json_fault d value x v e is p h = by x (subst (λ z. IsDoc z x) is p)
  where
    by : (y : roads.Doc) → IsDoc (doc.Json value) y → Refuses (denotes y v) (of_json_error e)
    by (roads.json y) q = subst (λ z. Refuses (from_json (json_denotes z v)) (of_json_error e)) q (json_refuses e (json_denotes (view value) v) h)
    by (roads.xml y) q = absurd q

pub xml_fault : (d : Doc) (events : Events) (x : roads.Doc) (v : SpecVersion) (e : XmlReadError) → d ≡ doc.Xml events → IsDoc d x → ReadsRoot bom_tree events.list v a_bill (Err e) → Refuses (denotes x v) (of_xml_error e)
xml_fault d events x v e is p h = by x (subst (λ z. IsDoc z x) is p)
  where
    by : (y : roads.Doc) → IsDoc (doc.Xml events) y → Refuses (denotes y v) (of_xml_error e)
    by (roads.json y) q = absurd q
    by (roads.xml y) q = xml_refuses e (xml_denotes y v) (h y q)

-- ---- documents that need not be read

pub bill_rows : (b : Bom) → survives (bom_tree b) a_bill
    ≡ (survives (present metadata_tree b.metadata) (a_record metadata) && (survives (present components_tree b.components) (a_list components) && survives (present services_tree b.services) (a_list services)))
unfolding survives rows
bill_rows b = rw (and-true (survives (present services_tree b.services) (a_list services))) refl

-- Where a document denotes the bill, what comes back is what this hop's document denotes.
back_denoted : (b : Tree) (f : trips.Form) (w : SpecVersion) → IsDenoted b → fits w b a_bill ≡ true → stands_in f (keep w b a_bill) ≡ true → denotes (document_of f w (keep w b a_bill)) w ≡ Ok (keep w b a_bill)
back_denoted b trips.in_json w known f e = let p = denotes_shapes known.0 known.1 b known.2 in ap from_json (json_back b w p.0 p.1 f)
back_denoted b trips.in_xml w known f e = let p = denotes_shapes known.0 known.1 b known.2 in ap from_xml (trip_back b w p.0 p.1 f e)

-- when the version can't hold the bill, when a trip takes something of what it keeps, and else
module _ (b : Tree) (h : trips.Hop) where
  pub unfit : fits h.version b a_bill ≡ false → None ≡ coming_back b h
  unfit f = sym (ap (λ (c : Bool). if c && stands_in h.form (keep h.version b a_bill) then Some (keep h.version b a_bill) else None) f)

  pub taken_of : (kept : Tree) → kept ≡ keep h.version b a_bill → fits h.version b a_bill ≡ true → stands_in h.form kept ≡ false → None ≡ coming_back b h
  taken_of kept is f e = sym (ap (λ (c : Bool). if c && stands_in h.form (keep h.version b a_bill) then Some (keep h.version b a_bill) else None) f ∙ ap (λ (c : Bool). if c then Some (keep h.version b a_bill) else None) (sym (ap (stands_in h.form) is) ∙ e))

  pub comes : (kept : Tree) → kept ≡ keep h.version b a_bill → fits h.version b a_bill ≡ true → stands_in h.form kept ≡ true → Some kept ≡ coming_back b h
  comes kept is f e = ap Some is ∙ sym (ap (λ (c : Bool). if c && stands_in h.form (keep h.version b a_bill) then Some (keep h.version b a_bill) else None) f ∙ ap (λ (c : Bool). if c then Some (keep h.version b a_bill) else None) (sym (ap (stands_in h.form) is) ∙ e))

-- the two ways of a choice
came : (c : Bool) (t k : Tree) → Some t ≡ (if c then Some k else None) → (c ≡ true) × (t ≡ k)
came true t k e = (refl, some_same e)
came false t k e = absurd (true≢false (ap is_some e))

stayed : (c : Bool) (k : Tree) → None ≡ (if c then Some k else None) → c ≡ false
stayed true k e = absurd (true≢false (ap is_some (sym e)))
stayed false k e = refl

module _ (b : Tree) (h : trips.Hop) (next : Bom) (is : Some (bom_tree next) ≡ coming_back b h) where
  both_ways : (comes_back b h ≡ true) × (bom_tree next ≡ keep h.version b a_bill)
  both_ways = came (comes_back b h) (bom_tree next) (keep h.version b a_bill) is

  -- what comes back is the next bill
  pub back_next : DenotesBill (next_of b h) (Ok next)
  back_next = ap (λ (c : Bool). if c then Ok (keep h.version b a_bill) else denotes (hop_document b h) h.version) both_ways.0 ∙ ap Ok (sym both_ways.1)

  pub back_read : IsDenoted b → DenotesBill (denotes (hop_document b h) h.version) (Ok next)
  back_read known =
      let p = and_true (fits h.version b a_bill) (stands_in h.form (keep h.version b a_bill)) both_ways.0 in
      back_denoted b h.form h.version known p.0 p.1 ∙ ap Ok (sym both_ways.1)

-- what is read is the next bill
pub read_next : (b : Tree) (h : trips.Hop) (r : Result Bom RoadError) → None ≡ coming_back b h → DenotesBill (denotes (hop_document b h) h.version) r → DenotesBill (next_of b h) r
read_next b h r e is =
    subst (λ (c : Bool). DenotesBill (if c then Ok (keep h.version b a_bill) else denotes (hop_document b h) h.version) r) (sym (stayed (comes_back b h) (keep h.version b a_bill) e)) is

-- ---- the documents of a road

-- what the hops make of a bill, the first of which writes it
abbrev from_bill : Tree → trips.Hop → List trips.Hop → Result (List roads.Doc) Refusal
from_bill b h hs = hops_from (hop_document b h) h.version hs >>= λ more. Ok (hop_document b h ∷ more)

-- These documents stand for the road so far; the hop and the rest of them go on from the bill, which a document denotes.
pub record IsAlong (start : Bom) (hops rest : List Hop) (docs : List Doc) (bill : Bom) (hop : Hop) : Type 0 where
  pub ys : List roads.Doc
  pub are : AreDocs docs ys
  pub known : IsDenoted (bom_tree start) → IsDenoted (bom_tree bill)
  pub whole : (x : roads.Doc) (v : SpecVersion) → denotes x v ≡ Ok (bom_tree start) → hops_from x v (hops_of hops) ≡ (from_bill (bom_tree bill) (hop_of hop) (hops_of rest) >>= λ more. Ok (ys ++ more))

append_again : {A : Type 0} (xs : List A) (y : A) (ys : List A) → xs ++ y ∷ ys ≡ (xs ++ y ∷ []) ++ ys
append_again [] y ys = refl
append_again (x ∷ xs) y ys = ap (x ∷◌) (append_again xs y ys)

pub one_more_doc : (ds : List Doc) (ys : List roads.Doc) (d : Doc) (y : roads.Doc) → AreDocs ds ys → IsDoc d y → AreDocs (ds ++ d ∷ []) (ys ++ y ∷ [])
one_more_doc [] [] d y a i = (i, tt)
one_more_doc [] (z ∷ ys) d y a i = absurd a
one_more_doc (e ∷ ds) [] d y a i = absurd a
one_more_doc (e ∷ ds) (z ∷ ys) d y a i = (a.0, one_more_doc ds ys d y a.1 i)

as_is : (r : Result (List roads.Doc) Refusal) → r ≡ (r >>= λ more. Ok ([] ++ more))
as_is (Ok ys) = refl
as_is (Err f) = refl

module _ (start : Bom) (hops : List Hop) where
  -- the first hop
  pub begins : (h : Hop) (rest : List Hop) → hops ≡ h ∷ rest → IsAlong start hops rest [] start h
  begins h rest is = record {
    ys = [];
    are = tt;
    known = λ k. k;
    whole = λ x v e. ap (λ hs. hops_from x v (hops_of hs)) is ∙ ap (λ r. r >>= λ b. from_bill b (hop_of h) (hops_of rest)) e ∙ as_is (from_bill (bom_tree start) (hop_of h) (hops_of rest));
  }

  -- one more
  pub goes_on : (next : Hop) (rest : List Hop) (docs : List Doc) (bill : Bom) (h : Hop) (a : IsAlong start hops (next ∷ rest) docs bill h) (d : Doc) (read : Bom) → IsDoc d (hop_document (bom_tree bill) (hop_of h)) → (IsDenoted (bom_tree bill) → denotes (hop_document (bom_tree bill) (hop_of h)) h.version ≡ Ok (bom_tree read)) → IsAlong start hops rest (docs ++ d ∷ []) read next
  goes_on next rest docs bill h a d read p e = record {
    ys = a.ys ++ y ∷ [];
    are = one_more_doc docs a.ys d y a.are p;
    known = λ k. (y, h.version, e (a.known k));
    whole = λ x w i. a.whole x w i ∙ ap (λ r. (r >>= λ b. from_bill b (hop_of next) (hops_of rest)) >>= (λ more. Ok (y ∷ more)) >>= λ more. Ok (a.ys ++ more)) (e (a.known (x, w, i))) ∙ joined (from_bill (bom_tree read) (hop_of next) (hops_of rest));
  }
    where
      y : roads.Doc
      y = hop_document (bom_tree bill) (hop_of h)

      joined : (r : Result (List roads.Doc) Refusal) → ((r >>= λ more. Ok (y ∷ more)) >>= λ more. Ok (a.ys ++ more)) ≡ (r >>= λ more. Ok ((a.ys ++ y ∷ []) ++ more))
      joined (Ok more) = ap Ok (append_again a.ys y more)
      joined (Err f) = refl

  -- what a hop has written is refused
  pub stops : (next : Hop) (rest : List Hop) (docs : List Doc) (bill : Bom) (h : Hop) (a : IsAlong start hops (next ∷ rest) docs bill h) (e : RoadError) → (IsDenoted (bom_tree bill) → Refuses (denotes (hop_document (bom_tree bill) (hop_of h)) h.version) e)
      → (x : roads.Doc) (w : SpecVersion) → denotes x w ≡ Ok (bom_tree start) → Refuses (hops_from x w (hops_of hops)) e
  stops next rest docs bill h a e r x w d =
      subst (λ q. Refuses q e) (sym (a.whole x w d))
      (refused_on e (from_bill (bom_tree bill) (hop_of h) (hops_of (next ∷ rest))) (λ more. Ok (a.ys ++ more))
      (refused_on e (hops_from y h.version (hops_of (next ∷ rest))) (λ more. Ok (y ∷ more))
      (refused_on e (denotes y h.version) (λ b. from_bill b (hop_of next) (hops_of rest)) (r (a.known (x, w, d))))))
    where
      y : roads.Doc
      y = hop_document (bom_tree bill) (hop_of h)

  -- no hop is left but the last
  pub ends : (docs : List Doc) (bill : Bom) (h : Hop) (a : IsAlong start hops [] docs bill h) (d : Doc) → IsDoc d (hop_document (bom_tree bill) (hop_of h)) → (x : roads.Doc) (w : SpecVersion) → denotes x w ≡ Ok (bom_tree start) → AnswersDocs (hops_from x w (hops_of hops)) (Ok (docs ++ d ∷ []))
  ends docs bill h a d p x w i = (a.ys ++ hop_document (bom_tree bill) (hop_of h) ∷ [], a.whole x w i, one_more_doc docs a.ys d (hop_document (bom_tree bill) (hop_of h)) a.are p)

-- ---- versions

pub asked : (hops : List trips.Hop) (b : Tree) → fits_all hops b ≡ (not (any_first hops) || has_versions b a_bill)
asked [] b = refl
asked (h ∷ hs) b = by (is_first h.version) (has_versions b a_bill) (any_first hs) (fits_all hs b) (asked hs b)
  where
    by : (f g r a : Bool) → a ≡ (not r || g) → ((not f || g) && a) ≡ (not (f || r) || g)
    by true true r a e = e ∙ all r
      where
        all : (s : Bool) → (not s || true) ≡ true
        all true = refl
        all false = refl
    by true false r a e = refl
    by false g r a e = e

-- ---- whole roads

this_refusal : {A : Type 0} (e : RoadError) (r : Refusal) (owed : Result A Refusal) → refusal_of e ≡ Some r → owed ≡ Err r → Refuses owed e
this_refusal (error.Memory m) r owed h i = tt
this_refusal (error.Json e) r owed h i = (r, h, i)
this_refusal (error.Xml e) r owed h i = (r, h, i)
this_refusal (error.Bom e) r owed h i = (r, h, i)

abbrev after_bill : roads.Doc → SpecVersion → List trips.Hop → Tree → Result (List roads.Doc) Refusal
after_bill x v hs b = if fits_all hs b then hops_from x v hs else Err version_missing

-- a version is missing
pub missing_then : (e : RoadError) (x : roads.Doc) (v : SpecVersion) (hs : List trips.Hop) (b : Tree) → denotes x v ≡ Ok b → fits_all hs b ≡ false → refusal_of e ≡ Some version_missing → Refuses (road x v hs) e
missing_then e x v hs b d f r = this_refusal e version_missing (road x v hs) r (ap (λ q. q >>= after_bill x v hs) d ∙ ap (λ (c : Bool). if c then hops_from x v hs else Err version_missing) f)

unless_missing : (x : roads.Doc) (v : SpecVersion) (hs : List trips.Hop) (b : Tree) → denotes x v ≡ Ok b → fits_all hs b ≡ true → road x v hs ≡ hops_from x v hs
unless_missing x v hs b d f = ap (λ q. q >>= after_bill x v hs) d ∙ ap (λ (c : Bool). if c then hops_from x v hs else Err version_missing) f

-- the road starts
pub starts : (bill : Bom) (x : roads.Doc) (v : SpecVersion) (hs : List trips.Hop) → denotes x v ≡ Ok (bom_tree bill) → fits_all hs (bom_tree bill) ≡ true → AnswersStart x v hs (Ok bill)
starts bill x v hs d f = (d, unless_missing x v hs (bom_tree bill) d f)

-- the hops make the documents of the road that has started
pub hops_then : (result : Result (List Doc) RoadError) (bill : Bom) (x : roads.Doc) (v : SpecVersion) (hs : List trips.Hop) → AnswersStart x v hs (Ok bill) → (denotes x v ≡ Ok (bom_tree bill) → AnswersDocs (hops_from x v hs) result) → AnswersDocs (road x v hs) result
hops_then result bill x v hs a f = subst (λ r. AnswersDocs r result) (sym a.1) (f a.0)

-- ---- roads of one hop

pub fits_one : (h : trips.Hop) (b : Tree) (c : Bool) → fits h.version b a_bill ≡ c → fits_all (h ∷ []) b ≡ c
fits_one h b c e = alone_and (fits h.version b a_bill) ∙ e
  where
    alone_and : (f : Bool) → (f && true) ≡ f
    alone_and true = refl
    alone_and false = refl

pub one_hop : (d : Doc) (x : roads.Doc) (v : SpecVersion) (h : trips.Hop) (b : Tree) → denotes x v ≡ Ok b → fits h.version b a_bill ≡ true → IsDoc d (hop_document b h) → AnswersDocs (road x v (h ∷ [])) (alone (Ok d))
one_hop d x v h b e f i =
    (hop_document b h ∷ [], unless_missing x v (h ∷ []) b e (fits_one h b true f) ∙ ap (λ r. r >>= λ c. from_bill c h []) e, (i, tt))
