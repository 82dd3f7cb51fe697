-- Roads through JSON 1.5 alone keep the canonical text.
use Rattle.std.proofs.Common.{◌≡◌, refl, sym, ap, ◌∙◌, ℕ, zero, suc, ◌<◌, List, [], ◌∷◌, length, get_or, Contains, Bool, true, false, if◌then◌else◌, Result, Ok, Err, arith}
use mathlib.Core.Path.{subst}
use Rattle.cdx_models.specs.declared.bom.SpecVersion.{SpecVersion}
use Rattle.cdx_models.specs.declared.bom.SpecVersion.TheVariants.{V1_5}
use Rattle.cdx_models.specs.Trees.{Tree}
use Rattle.cdx_schema.specs.Kinds.{a_bill}
use Rattle.cdx_schema.specs.Keeping.{keep}
use Rattle.cdx_schema.specs.JsonSpelling.{jspell}
use Rattle.cdx_schema.specs.Results.{◌>>=◌}
use Rattle.cdx_schema.specs.Trips.{Hop}
use Rattle.cdx_schema.specs.Roads.{Doc, json, Refusal, version_missing, document_of, denotes, fits_all, hops_from, road, from_json}
use Rattle.cdx_schema.specs.Laws.{HasBillShape, IsShallow}
use Rattle.cdx_schema.proofs.ReadOf.{ok_same}
use Rattle.cdx_schema.proofs.Stated.{json_back, denotes_shapes}
use Rattle.cdx_bom.specs.declared.doc.Doc.{Doc as Document}
use Rattle.cdx_bom.specs.declared.doc.Hop.{Hop as Step}
use Rattle.cdx_bom.specs.Docs.{IsDoc, AreDocs, hop_of, hops_of}
use Rattle.cdx_canon.specs.Canon.{canon, js, HasTextOf, RoadsKeepText, step, AnswersKeepText}
use Rattle.cdx_canon.proofs.KeptText.{keeps_text}

-- ---- what lists contain

has_first : {A : Type 0} (x : A) (xs : List A) → Contains (x ∷ xs) x
has_first x xs = (0, omega arith, refl)

has_later : {A : Type 0} (x y : A) (xs : List A) → Contains xs y → Contains (x ∷ xs) y
has_later x y xs h = (suc h.0, omega (arith, h.1), h.2)

by_place : {A : Type 0} (P : A → Type 0) (x y : A) (xs : List A) → Contains (x ∷ xs) y → P x → ((z : A) → Contains xs z → P z) → P y
by_place P x y xs h p f = by h.0 h.1 h.2
  where
    by : (k : ℕ) → k < length (x ∷ xs) → get_or (x ∷ xs) k y ≡ y → P y
    by zero l e = subst P e p
    by (suc k) l e = f y (k, omega (arith, l), e)

-- ---- hops

-- A hop writes a document that has the bill's text.
written_has : (b : Tree) → HasBillShape b → IsShallow b → denotes (document_of js.form js.version (keep V1_5 b a_bill)) V1_5 ≡ Ok (keep V1_5 b a_bill)
written_has b is s = ap from_json (json_back b V1_5 is s refl)

none_there : {A : Type 0} (ds : List A) (z : A) → [] ≡ ds → Contains ds z → ⊥
none_there [] z f h = omega (arith, h.1)
none_there (d ∷ ds) z f h = cc

-- the documents after the first
rest_of : (o : Result (List Doc) Refusal) (d : Doc) (docs : List Doc) → (o >>= λ ds. Ok (d ∷ ds)) ≡ Ok docs → (ds : List Doc) × (o ≡ Ok ds) × (docs ≡ d ∷ ds)
rest_of (Ok ds) d docs e = (ds, refl, sym (ok_same e))
rest_of (Err r) d docs e = absurd cc

fitting : (f : Bool) (o : Result (List Doc) Refusal) (docs : List Doc) → (if f then o else Err version_missing) ≡ Ok docs → o ≡ Ok docs
fitting true o docs e = e
fitting false o docs e = absurd cc

-- The hops' documents have the text of the bill that the one before them denotes.
through : (x : Doc) (v : SpecVersion) (b : Tree) → denotes x v ≡ Ok b → (hops : List Hop) → ((h : Hop) → Contains hops h → h ≡ js) → (docs : List Doc) → hops_from x v hops ≡ Ok docs
    → (y : Doc) → Contains docs y → HasTextOf b y
through x v b is [] only docs e y h = absurd (none_there docs y (ok_same e) h)
through x v b is (h ∷ hs) only docs e y there =
    let first : h ≡ js = only h (has_first h hs) in
    next (λ ds f z c. through now V1_5 (keep V1_5 b a_bill) kept_is hs later ds f z c) (subst (λ (g : Hop). hops_from x v (g ∷ hs) ≡ Ok docs) first e)
  where
    later : (g : Hop) → Contains hs g → g ≡ js
    later g c = only g (has_later h g hs c)

    now : Doc
    now = json (jspell (keep V1_5 b a_bill) V1_5 a_bill)

    shaped : HasBillShape b × IsShallow b
    shaped = denotes_shapes x v b is

    kept_is : denotes now V1_5 ≡ Ok (keep V1_5 b a_bill)
    kept_is = written_has b shaped.0 shaped.1

    keeps : canon (keep V1_5 b a_bill) ≡ canon b
    keeps = keeps_text b shaped.0

    next : ((ds : List Doc) → hops_from now V1_5 hs ≡ Ok ds → (z : Doc) → Contains ds z → HasTextOf (keep V1_5 b a_bill) z) → hops_from x v (js ∷ hs) ≡ Ok docs → HasTextOf b y
    next on f =
        let r = rest_of (hops_from now V1_5 hs) now docs (sym (ap (λ o. o >>= λ c. hops_from (json (jspell (keep V1_5 c a_bill) V1_5 a_bill)) V1_5 hs >>= λ ds. Ok (json (jspell (keep V1_5 c a_bill) V1_5 a_bill) ∷ ds)) is) ∙ f) in
        by_place (HasTextOf b) now y r.0 (subst (λ (ds : List Doc). Contains ds y) r.2 there) (keep V1_5 b a_bill, kept_is, keeps)
        (λ z c. let t = on r.0 r.1 z c in (t.0, t.1, t.2 ∙ keeps))

pub roads_keep : RoadsKeepText
roads_keep b x v hops docs is only e = through x v b is hops only docs (fitting (fits_all hops b) (hops_from x v hops) docs (sym (ap (λ o. o >>= λ c. if fits_all hops c then hops_from x v hops else Err version_missing) is) ∙ e))

-- ---- what `road` answers

there : (docs : List Document) (ys : List Doc) → AreDocs docs ys → (e : Document) → Contains docs e → (y : Doc) × IsDoc e y × Contains ys y
there [] ys a e h = absurd (omega (arith, h.1))
there (d ∷ docs) [] a e h = absurd a
there (d ∷ docs) (y ∷ ys) a e h =
    by_place (λ c. (z : Doc) × IsDoc c z × Contains (y ∷ ys) z) d e docs h (y, a.0, has_first y ys)
    (λ c g. let r = there docs ys a.1 c g in (r.0, r.1, has_later y r.0 ys r.2))

stepped : (hops : List Step) → ((h : Step) → Contains hops h → h ≡ step) → (g : Hop) → Contains (hops_of hops) g → g ≡ js
stepped [] only g h = absurd (omega (arith, h.1))
stepped (x ∷ xs) only g h = by_place (λ f. f ≡ js) (hop_of x) g (hops_of xs) h (ap hop_of (only x (has_first x xs))) (λ f c. stepped xs (λ z d. only z (has_later x z xs d)) f c)

pub answers_keep : AnswersKeepText
answers_keep b d x v hops docs is den only answers e there_is =
    let a = answers x is in
    let t = there docs a.0 a.2 e there_is in
    (t.0, t.1, roads_keep b x v (hops_of hops) a.0 den (stepped hops only) a.1 t.0 t.2)
